use Rattle.std.proofs.Common.{◌≡◌, ◌≤◌, Option, Some, length, arith, sym, subst, ◌∙◌}
use Rattle.std.specs.Prelude.{slice_get}
use Rattle.orc_search.specs.declared.early.Inside.{Inside}
use Rattle.orc_search.specs.declared.early.Part.{Part}
use Rattle.orc_search.specs.Nodes.{smalls}
use Rattle.orc_search.specs.Parts.{Fits, IsInside}
use Rattle.orc_search.proofs.Changes.{extends_both, kept_len}
use Rattle.orc_search.proofs.Nodes.{same_len}
use Rattle.orc_search.proofs.Parts.{fits_there, lifts_on, same_part}
use Rattle.orc_search.proofs.Walks.{frame_more}
use Rattle.orc_search.proofs.early.Parts.lift.Goals as goal

pub lifted-requires-clause-other : goal.lifted-requires-clause-other
lifted-requires-clause-other c =
    let ts = smalls c.args.terms.now in
    let now = smalls c.loop-frame.terms in
    let list = c.args.self.now.list.items in
    let part = c.loop-frame.part in
    let frame = c.in-Some.inside.frame in
    let inside : IsInside ts c.args.self.now.root list part.spot (Some c.in-Some.inside) = subst (λ (o : Option Inside). IsInside ts c.args.self.now.root list part.spot o) c.in-Some.is c.loop-frame.invariant.1.1 in
    let at = (c.requires.parts c.in-Some.inside.outer inside.0 inside.1).0 in
    let more = kept_len ts now c.loop-frame.invariant.0 in
    let le : length ts ≤ length c.loop-frame.terms = omega (arith, more, same_len c.loop-frame.terms) in
    frame_more (length ts) (length c.loop-frame.terms) frame le (fits_there ts frame inside.0.spot part.spot inside.2 at).0

pub lifted-requires-clause-part : goal.lifted-requires-clause-part
lifted-requires-clause-part c = let lt = c.loop-frame.invariant.2.there in omega (arith, lt, same_len c.loop-frame.terms)

pub loop-frame-preserved : goal.loop-frame-preserved
loop-frame-preserved c =
    let ts = smalls c.args.terms.now in
    let now = smalls c.loop-frame.terms in
    let new = smalls c.lifted.new.terms in
    let list = c.args.self.now.list.items in
    let part = c.loop-frame.part in
    let outer = c.in-Some-part_at.outer in
    let frame = c.in-Some.inside.frame in
    let inside : IsInside ts c.args.self.now.root list part.spot (Some c.in-Some.inside) = subst (λ (o : Option Inside). IsInside ts c.args.self.now.root list part.spot o) c.in-Some.is c.loop-frame.invariant.1.1 in
    let there : slice_get list c.in-Some.inside.outer ≡ Some outer = sym c.in-Some-part_at.ensures in
    let same : inside.0 ≡ outer = same_part inside.0 outer (sym inside.1 ∙ there) in
    let fits : Fits ts frame outer.spot part.spot = subst (λ (q : Part). Fits ts frame q.spot part.spot) same inside.2 in
    let is = c.requires.parts c.in-Some.inside.outer outer there in (
      extends_both ts now new c.loop-frame.invariant.0 c.in_ok-step.ensures.kept,
      is,
      lifts_on ts now new c.args.part.spot part.spot outer.spot c.args.step c.loop-frame.step c.in_ok-step.step frame c.loop-frame.invariant.0 fits is.0 c.requires.passed c.loop-frame.invariant.2 c.in_ok-step.ensures.lifted,
    )
