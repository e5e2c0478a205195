-- One line more is the case's own or isn't.
use Rattle.std.proofs.Common.{sym, ap, ◌∙◌}
use Rattle.orc_cases.proofs.Places.{own_more, own_less}
use Rattle.orc_cases.proofs.lines.own_places.Goals as goal
use Rattle.orc_cases.proofs.lines.own_places.Goals.{then-is_own+in_ok-push, else-is_own}

pub loop-place-preserved : goal.loop-place-preserved
loop-place-preserved c =
    elim c.if-is_own.branch [
      | then-is_own+in_ok-push w ↦ own_more c.args.case c.args.services.now c.loop-place.places.items c.if-is_own.places.items c.loop-place.place c.index-services-place.result _ c.loop-place-test.true c.index-services-place.is (sym c.is_own.ensures ∙ w.if-is_own.true) (ap (λ v. v.items) w.places-is ∙ w.in_ok-push.ensures.items) c.loop-place.invariant
      | else-is_own w ↦ own_less c.args.case c.args.services.now c.loop-place.places.items c.if-is_own.places.items c.loop-place.place c.index-services-place.result _ c.loop-place-test.true c.index-services-place.is (sym c.is_own.ensures ∙ w.if-is_own.false) (ap (λ v. v.items) w.places-is) c.loop-place.invariant
    ]
