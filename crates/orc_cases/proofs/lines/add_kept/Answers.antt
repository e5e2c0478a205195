-- One line more of `given` is kept or isn't.
use Rattle.std.proofs.Common.{sym, ap, ◌∙◌}
use Rattle.orc_cases.specs.Values.{services_at}
use Rattle.orc_cases.proofs.Places.{kept_more, kept_less}
use Rattle.orc_cases.proofs.lines.add_kept.Goals as goal
use Rattle.orc_cases.proofs.lines.add_kept.Goals.{then-is_kept+in_ok-push, else-is_kept}

pub loop-place-preserved : goal.loop-place-preserved
loop-place-preserved c =
    elim c.if-is_kept.branch [
      | then-is_kept+in_ok-push w ↦ kept_more (services_at c.args.services.now c.args.own.now) c.args.services.now c.loop-place.places.items c.if-is_kept.places.items c.loop-place.place c.index-services-place.result _ c.loop-place-test.true c.index-services-place.is (sym c.is_kept.ensures ∙ w.if-is_kept.true) (ap (λ v. v.items) w.places-is ∙ w.in_ok-push.ensures.items) c.loop-place.invariant
      | else-is_kept w ↦ kept_less (services_at c.args.services.now c.args.own.now) c.args.services.now c.loop-place.places.items c.if-is_kept.places.items c.loop-place.place c.index-services-place.result _ c.loop-place-test.true c.index-services-place.is (sym c.is_kept.ensures ∙ w.if-is_kept.false) (ap (λ v. v.items) w.places-is) c.loop-place.invariant
    ]
