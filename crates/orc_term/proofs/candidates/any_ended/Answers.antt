use Rattle.std.proofs.Common.{◌≤◌, ◌∙◌, ap, sym, arith, ⊎_elim}
use Rattle.orc_term.specs.Sides.{has_ended}
use Rattle.orc_term.proofs.Hints.{next_or}
use Rattle.orc_term.proofs.KeptSides.{beyond, less_or}
use Rattle.orc_term.proofs.candidates.any_ended.Goals as goal

pub loop-place-preserved : goal.loop-place-preserved
loop-place-preserved c p lt =
    ⊎_elim (λ a. c.loop-place.invariant p a) (λ same. ap (has_ended c.args.nodes.now.items c.args.flags.now.items) same ∙ sym c.has_ended.ensures ∙ c.if-has_ended.false) (next_or p c.loop-place.place lt)

pub returns : goal.returns
returns c p =
    ⊎_elim (λ a. c.loop-place.invariant p a) (λ (le : c.loop-place.place ≤ p). beyond c.args.nodes.now.items c.args.flags.now.items p (omega (arith, le, c.loop-place-test.false, c.len-place-end.ensures, c.args.flags.now.ok.0)))
    (less_or p c.loop-place.place)
