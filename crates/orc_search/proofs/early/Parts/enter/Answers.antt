use Rattle.std.proofs.Common.{◌≡◌, ℕ, List, sym, ap, ◌∙◌, subst}
use Rattle.orc_search.specs.declared.early.Part.{Part}
use Rattle.orc_search.specs.declared.node.Node.{Node}
use Rattle.orc_search.specs.declared.node.Node.TheVariants.{Pair}
use Rattle.orc_search.specs.Nodes.{small_at, small_of_node, smalls, HasParts}
use Rattle.orc_search.specs.Parts.{parts_of, IsPart}
use Rattle.orc_search.specs.Walks.{tasks_of}
use Rattle.orc_search.proofs.Parts.{parts_added, part_more, get_at}
use Rattle.orc_search.proofs.early.Parts.enter.Goals as goal

pub returns-in_ok-add_parts-clause-parts : goal.returns-in_ok-add_parts-clause-parts
returns-in_ok-add_parts-clause-parts c =
    let ts = smalls c.args.terms.now in
    let at : ℕ = c.args.part.spot.at in
    let node : Node = Pair c.in-Some-Pair.joint c.in-Some-Pair.f c.in-Some-Pair.g in
    let is : c.in-Some-Pair.field-0.now ≡ node = c.in-Some-Pair.field-0-is in
    let term : small_at ts at ≡ small_of_node ts node = get_at ts at (small_of_node ts c.in-Some-Pair.field-0.now) c.in-Some-Pair.ensures.term ∙ ap (small_of_node ts) is in
    let parts : HasParts at node = subst (λ (n : Node). HasParts at n) is c.in-Some-Pair.ensures.parts in
    parts_added ts c.args.self.now.root c.args.self.now.next c.args.self.now.list.items c.add_parts.new.self.list.items c.args.part node c.requires.parts c.requires.next term parts c.in_ok-add_parts.ensures.added

pub returns-in_ok-add_parts-clause-part : goal.returns-in_ok-add_parts-clause-part
returns-in_ok-add_parts-clause-part c =
    let ts = smalls c.args.terms.now in
    let old = c.args.self.now.list.items in
    let node : Node = Pair c.in-Some-Pair.joint c.in-Some-Pair.f c.in-Some-Pair.g in
    let is = c.requires.parts c.args.self.now.next c.args.part c.requires.next in
    subst (λ (ps : List Part). IsPart ts c.args.self.now.root ps c.args.part) (sym c.in_ok-add_parts.ensures.added)
    (part_more ts c.args.self.now.root old (parts_of c.args.self.now.next (tasks_of c.args.part.spot.depth node)) c.args.part is)
