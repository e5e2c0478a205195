use Rattle.std.proofs.Common.{◌≡◌, ◌++◌, ◌∷◌, [], List, ap, subst, ◌∙◌, true, length, rules}
use Rattle.std.specs.List.{AllByRecursion}
use Rattle.orc_rules.specs.Nodes.{Listing, ArePartsFirst, source, definitions}
use Rattle.orc_graph.specs.declared.node.Node.{Node}
use Rattle.orc_graph.specs.declared.node.Node.TheVariants.{Call}
use Rattle.orc_graph.specs.Called.{HasBody}
use Rattle.orc_graph.proofs.Called.{is_called, parts_first, source_called, definitions_called}
use Rattle.orc_graph.proofs.graph.Graph.for_call.Goals as goal

pub invariant_of-result : goal.invariant_of-result
invariant_of-result c =
    let nodes = c.in_ok-put.ensures ∙ ap (λ (ns : List Node). ns ++ Call c.args.definition c.in_ok-list.list ∷ []) (c.in_ok-nodes.ensures ∙ c.deref.ensures.value) in
    let lists = c.in_ok-push.ensures ∙ (λ i. c.in_ok-lists.ensures i ++ (c.as_slice.ensures.value ∙ c.operands_of.ensures) i ∷ []) in
    let whole = is_called c.args.self.now c.self.inside.nodes.items c.put.new.items.items c.self.inside.lists c.push.new.self c.self.inside.definitions c.in_ok-definitions.definitions c.self.inside.root c.in_ok-root.root c.in_ok-list.list c.args.definition c.args.args.now
    c.self.view_is nodes lists c.in_ok-definitions.ensures (c.in_ok-list.ensures ∙ c.len.ensures) (c.in_ok-root.ensures ∙ c.len-len.ensures) in
    parts_first _ c.args.self.now c.args.definition c.args.args.now whole (subst (λ (l : Listing). ArePartsFirst l.nodes) c.self.view_is c.self.invariant)

pub returns-clause-whole : goal.returns-clause-whole
returns-clause-whole c =
    let nodes = c.in_ok-put.ensures ∙ ap (λ (ns : List Node). ns ++ Call c.args.definition c.in_ok-list.list ∷ []) (c.in_ok-nodes.ensures ∙ c.deref.ensures.value) in
    let lists = c.in_ok-push.ensures ∙ (λ i. c.in_ok-lists.ensures i ++ (c.as_slice.ensures.value ∙ c.operands_of.ensures) i ∷ []) in
    is_called c.args.self.now c.self.inside.nodes.items c.put.new.items.items c.self.inside.lists c.push.new.self c.self.inside.definitions c.in_ok-definitions.definitions c.self.inside.root c.in_ok-root.root c.in_ok-list.list c.args.definition c.args.args.now
    c.self.view_is nodes lists c.in_ok-definitions.ensures (c.in_ok-list.ensures ∙ c.len.ensures) (c.in_ok-root.ensures ∙ c.len-len.ensures)

pub returns-clause-calls : goal.returns-clause-calls
returns-clause-calls c =
    let lists : c.have_lists.result ≡ true = search rules in
    ap source (returns-clause-whole c) ∙ source_called c.args.self.now c.args.definition c.args.args.now (c.have_lists.ensures lists)

pub returns-clause-same : goal.returns-clause-same
returns-clause-same c =
    let lists : c.have_lists.result ≡ true = search rules in
    let bodies : AllByRecursion (HasBody (length c.args.self.now.nodes)) c.args.self.now.routines = search rules in
    ap definitions (returns-clause-whole c) ∙ definitions_called c.args.self.now c.args.definition c.args.args.now (c.have_lists.ensures lists) bodies
