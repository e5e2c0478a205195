use Rattle.std.proofs.Common.{◌≡◌, ◌++◌, ◌∷◌, [], ℕ, List, Some, length, arith, length-append, ap, sym, subst, ◌∙◌}
use Rattle.std.specs.Prelude.{slice_get}
use Rattle.orc_rules.specs.Nodes.{code}
use Rattle.orc_search.specs.declared.node.Node.{Node}
use Rattle.orc_search.specs.Nodes.{smalls, HasParts}
use Rattle.orc_search.specs.Programs.{small}
use Rattle.orc_search.specs.Sources.{AreNumbered, IsNodeOf}
use Rattle.orc_search.proofs.Nodes.{same_len}
use Rattle.orc_search.proofs.Changes.{extends_both}
use Rattle.orc_search.proofs.Sources.{numbered_last}
use Rattle.orc_search.proofs.source.numbered.Goals as goal

pub number_of-requires : goal.number_of-requires
number_of-requires c =
    let node : Node = c.in_ok-node.node in
    let is : IsNodeOf c.args.program.now c.loop-at.numbers.items c.node.result node = subst (λ (ns : List ℕ). IsNodeOf c.args.program.now ns c.node.result node) c.deref.ensures.value c.in_ok-node.ensures in
    subst (λ (n : ℕ). HasParts n node) (same_len c.loop-at.terms) ((is (smalls c.loop-at.terms) c.loop-at.invariant.1).0)

pub loop-at-preserved : goal.loop-at-preserved
loop-at-preserved c =
    let program = c.args.program.now in
    let node : Node = c.in_ok-node.node in
    let numbers = c.loop-at.numbers.items in
    let number : ℕ = c.in_ok-number.number in
    let old = smalls c.loop-at.terms in
    let new = smalls c.number_of.new.self in
    let is : IsNodeOf program numbers c.node.result node = subst (λ (ns : List ℕ). IsNodeOf program ns c.node.result node) c.deref.ensures.value c.in_ok-node.ensures in
    let term : slice_get new number ≡ Some (small (code program c.loop-at.at))
    = c.in_ok-number.ensures.number ∙ ap Some ((is old c.loop-at.invariant.1).1 ∙ ap small (sym c.node.ensures.term)) in
    let more : c.push.new.self.items ≡ numbers ++ number ∷ [] = c.in_ok-push.ensures.items in
    let all : AreNumbered new program (numbers ++ number ∷ []) = numbered_last program numbers old new c.loop-at.at number c.in_ok-number.ensures.kept c.loop-at.invariant.1 c.loop-at.invariant.2 term in
    let len = ap length more in (
      extends_both (smalls c.args.terms.now) old new c.loop-at.invariant.0 c.in_ok-number.ensures.kept,
      subst (λ (ns : List ℕ). AreNumbered new program ns) (sym more) all,
      omega (arith, len, length-append numbers (number ∷ []), c.loop-at.invariant.2),
    )
