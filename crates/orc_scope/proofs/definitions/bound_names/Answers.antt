use Rattle.std.proofs.Common.{rules, ◌≡◌, ◌≤◌, ◌++◌, List, length, map, ap, ◌∙◌}
use Rattle.std.proofs.lemmas.List.{take_all}
use Rattle.orc_syntax.specs.declared.tree.Node.{Node}
use Rattle.orc_syntax.specs.Ast.{item}
use Rattle.orc_scope.specs.Looking.{bind_of}
use Rattle.orc_scope.specs.Scope.{bound}
use Rattle.orc_scope.proofs.Bound.{items_names, items_step, bound_more, bound_post}
use Rattle.orc_scope.proofs.definitions.bound_names.Goals as goal
use Rattle.orc_scope.proofs.definitions.bound_names.Goals.{in-Some+in_ok-push, in_default}

pub loop-node-preserved : goal.loop-node-preserved
loop-node-preserved c =
    let more : c.match-bound_name.names ≡ bound (bind_of c.bound_name.result) c.loop-node.names =
    elim c.match-bound_name.branch [ in-Some+in_ok-push w ↦ search rules | in_default w ↦ search rules ] in
    items_step c.args.nodes.now c.loop-node.node-index _ c.args.names.now c.loop-node.names _ c.loop-node-test.true (more ∙ bound_more (bind_of c.bound_name.result) c.loop-node.names ∙ ap (λ (l : List (List _)). c.loop-node.names ++ l) c.bound_name.ensures) c.loop-node.invariant

pub returns : goal.returns
returns c = λ t e.
    let end : length c.args.nodes.now ≤ c.loop-node.node-index = search rules in
    c.loop-node.invariant ∙ ap (λ (l : List (List _)). c.args.names.now ++ l) (ap (λ (l : List Node). items_names (map item l)) (take_all c.loop-node.node-index c.args.nodes.now end) ∙ ap items_names e ∙ bound_post t)
