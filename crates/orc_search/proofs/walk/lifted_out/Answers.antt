use Rattle.std.proofs.Common.{◌≡◌, ◌≤◌, ◌-◌, ℕ, List, Some, reverse, take, length, get_or, arith, ap, sym, ◌∙◌}
use Rattle.std.proofs.Math.Seq.{take-length}
use Rattle.orc_search.specs.declared.successor.Frame.{Frame}
use Rattle.orc_search.specs.declared.successor.Frame.TheVariants.{Left}
use Rattle.orc_search.specs.Successors.{Successor}
use Rattle.orc_search.specs.Nodes.{smalls}
use Rattle.orc_search.specs.Moving.{successor_of}
use Rattle.orc_search.specs.Walks.{through, AreAround}
use Rattle.orc_search.proofs.Nodes.{extends_self, same_len, there, within}
use Rattle.orc_search.proofs.Changes.{extends_both, kept_len}
use Rattle.orc_search.proofs.Walks.{around_within, frame_around, frame_more, one_out}
use Rattle.orc_search.proofs.walk.lifted_out.Goals as goal

pub loop-i-init : goal.loop-i-init
loop-i-init c =
    let ts = smalls c.args.terms.now in (
      extends_self ts,
      omega (arith, same_len c.args.terms.now, c.requires.part),
      ap (λ (p : List Frame). through ts (reverse p) (successor_of ts c.args.successor)) (sym (take-length c.args.path.now)),
    )

pub lifted-requires-clause-other : goal.lifted-requires-clause-other
lifted-requires-clause-other c =
    let more = kept_len (smalls c.args.terms.now) (smalls c.loop-i.terms) c.loop-i.invariant.0 in
    let le : length c.args.terms.now ≤ length c.loop-i.terms = omega (arith, more, same_len c.args.terms.now, same_len c.loop-i.terms) in
    frame_more (length c.args.terms.now) (length c.loop-i.terms) (get_or c.args.path.now (c.loop-i.i - 1) (Left 0)) le
    (frame_around (length c.args.terms.now) c.args.path.now c.loop-i.i (Left 0) c.requires.around c.loop-i-test.true c.loop-i.auto.i)

pub lifted-requires-clause-part : goal.lifted-requires-clause-part
lifted-requires-clause-part c = let lt = c.loop-i.invariant.1 in omega (arith, lt, same_len c.loop-i.terms)

pub loop-i-preserved : goal.loop-i-preserved
loop-i-preserved c =
    let first = smalls c.args.terms.now in
    let old = smalls c.loop-i.terms in
    let new = smalls c.lifted.new.terms in
    let lifted = c.in_ok-successor.ensures.lifted in
    let around : AreAround (length first) (reverse c.args.path.now) = around_within (length c.args.terms.now) (length first) (reverse c.args.path.now) (omega (arith, same_len c.args.terms.now)) c.requires.around in (
      extends_both first old new c.loop-i.invariant.0 c.in_ok-successor.ensures.kept,
      within new c.in_ok-successor.successor.to _ lifted.1,
      c.loop-i.invariant.2 ∙ one_out first old new c.args.path.now c.loop-i.i (Left 0) c.loop-i.successor c.in_ok-successor.successor around c.loop-i-test.true c.loop-i.auto.i c.loop-i.invariant.0 lifted,
    )

pub returns-clause-lifted : goal.returns-clause-lifted
returns-clause-lifted c =
    let first = smalls c.args.terms.now in
    let ts = smalls c.loop-i.terms in
    let none : c.loop-i.i ≡ 0 = omega arith in
    let is : through first (reverse c.args.path.now) (successor_of first c.args.successor) ≡ successor_of ts c.loop-i.successor
    = c.loop-i.invariant.2 ∙ ap (λ (k : ℕ). through first (reverse (take k c.args.path.now)) (successor_of ts c.loop-i.successor)) none in
    (ap (λ (m : Successor). m.0) (sym is), there ts c.loop-i.successor.to c.loop-i.invariant.1 ∙ ap (λ (m : Successor). Some m.1) (sym is))
