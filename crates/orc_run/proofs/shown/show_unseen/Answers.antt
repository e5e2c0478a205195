use Rattle.std.proofs.Common.{refl, subst}
use Rattle.std.specs.Prelude.{IfSome}
use Rattle.std.specs.declared.option.Option.{Option}
use Rattle.orc_rules.specs.Timed.{IsIn}
use Rattle.orc_outcome.specs.Outcome.{IsPlayed}
use Rattle.orc_outcome.specs.declared.played.Played.{Played}
use Rattle.orc_run.proofs.Showing.{real_of, unseen_left, unseen_written, unwritten_unshown}
use Rattle.orc_run.proofs.shown.show_unseen.Goals as goal

pub returns-in-Ok-Some-clause-ok : goal.returns-in-Ok-Some-clause-ok
returns-in-Ok-Some-clause-ok g c =
    unseen_written c.args.loaded.now.program c.args.loaded.now.answers _ c.in-Ok-Some.played c.args.seen.now c.in-Some.ended.now _ _ c.write_shown.result _ _ (subst (λ (o : Option Played). IfSome o (λ p. IsPlayed c.args.loaded.now.program c.args.loaded.now.answers 18446744073709551615 p.summary p.published.items p.journal)) c.in-Ok-Some.field-0-is c.in-Ok-Some.ensures.played) c.in-Some.ensures.unseen refl c.as_slice.ensures.value c.write_shown.ensures.ok

pub returns-in-Ok-Some-clause-err : goal.returns-in-Ok-Some-clause-err
returns-in-Ok-Some-clause-err g c =
    unseen_left c.args.loaded.now.program c.args.loaded.now.answers _ c.in-Ok-Some.played c.args.seen.now c.in-Some.ended.now _ _ c.write_shown.result _ _ (subst (λ (o : Option Played). IfSome o (λ p. IsPlayed c.args.loaded.now.program c.args.loaded.now.answers 18446744073709551615 p.summary p.published.items p.journal)) c.in-Ok-Some.field-0-is c.in-Ok-Some.ensures.played) c.in-Some.ensures.unseen refl c.as_slice.ensures.value c.write_shown.ensures.err

-- a run ends with the outcome, but what was found of it can't be written,
pub returns-in-Ok-Some-clause-cause : goal.returns-in-Ok-Some-clause-cause
returns-in-Ok-Some-clause-cause g c =
    let found = subst (IsIn c.in-Some.ended.now) c.found_of.ensures c.in-Some.ensures.found in
    let real = real_of c.args.loaded.now.program c.args.loaded.now.answers c.args.limit c.in-Ok.found c.in-Some.ended.now c.in-Ok.ensures.all found in
    unwritten_unshown c.args.loaded.now.program c.args.loaded.now.answers c.args.seen.now c.args.number c.in-Some.ended.now c.write_shown.result c.in-Some.ensures.unseen real c.write_shown.ensures.cause

-- or no run was found
pub returns-in-Ok-None-clause-cause : goal.returns-in-Ok-None-clause-cause
returns-in-Ok-None-clause-cause g c =
    let found = subst (IsIn c.in-Some.ended.now) c.found_of.ensures c.in-Some.ensures.found in
    (refl, (c.in-Some.ended.now, c.in-Some.ensures.unseen, real_of c.args.loaded.now.program c.args.loaded.now.answers c.args.limit c.in-Ok.found c.in-Some.ended.now c.in-Ok.ensures.all found))
