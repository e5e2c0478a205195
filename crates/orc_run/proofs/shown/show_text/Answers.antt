use Rattle.std.proofs.Common.{arith, Err, Ok, refl, rules, subst, sym}
use Rattle.std.specs.Prelude.{IfErr, Result}
use Rattle.orc_orders.specs.Survey.{IsSurvey}
use Rattle.orc_run.specs.Running.{IsOwnOf}
use Rattle.orc_run.specs.Shown.{IsUnshownBy, IsUnshownFor}
use Rattle.orc_run.specs.declared.shown.Unshown.{Unshown}
use Rattle.orc_run.proofs.Showing.{none_with, other_left, other_written, seen_left, seen_written, there_is, unshown_for, unwritten_for}
use Rattle.orc_run.proofs.Told.{taken}
use Rattle.orc_run.proofs.shown.show_text.Goals as goal

-- the run in the first order that came to the outcome
pub returns-in-Some-clause-shown : goal.returns-in-Some-clause-shown
returns-in-Some-clause-shown g c =
    let loaded = c.in_ok-loaded.loaded in
    let came = c.in_ok-loaded.ensures in
    let found = c.in-Some.ensures.lookup in
    let there = there_is c.as_slice-seen.result.now c.saturating_sub.result _ c.in-Some.one.now c.saturating_sub.ensures found.3.0 (found.3.1 c.in-Some.one.now) in
    seen_written c.args.source.now c.args.script.now c.args.options.now.survey.orders c.args.options.now.survey.limit c.args.options.now.number loaded.program loaded.answers c.as_slice-seen.result.now came.says came.spells (subst (IsSurvey loaded.program loaded.answers c.args.options.now.survey.limit c.args.options.now.survey.orders) (sym c.as_slice-seen.ensures.value) came.survey)
    c.args.options.now.survey.limit c.in_ok-played.played c.in-Some.one.now _ _ _ c.write_shown.result there c.as_slice.ensures.value c.in_ok-played.ensures.played c.write_shown.ensures.ok

pub returns-in-Some-clause-fault : goal.returns-in-Some-clause-fault
returns-in-Some-clause-fault g c =
    let loaded = c.in_ok-loaded.loaded in
    let came = c.in_ok-loaded.ensures in
    let found = c.in-Some.ensures.lookup in
    let there = there_is c.as_slice-seen.result.now c.saturating_sub.result _ c.in-Some.one.now c.saturating_sub.ensures found.3.0 (found.3.1 c.in-Some.one.now) in
    seen_left c.args.source.now c.args.script.now c.args.options.now.survey.orders c.args.options.now.survey.limit c.args.options.now.number loaded.program loaded.answers c.as_slice-seen.result.now came.says came.spells (subst (IsSurvey loaded.program loaded.answers c.args.options.now.survey.limit c.args.options.now.survey.orders) (sym c.as_slice-seen.ensures.value) came.survey)
    c.args.options.now.survey.limit c.in_ok-played.played c.in-Some.one.now _ _ _ c.write_shown.result there c.as_slice.ensures.value c.in_ok-played.ensures.played c.write_shown.ensures.err

-- why it isn't written
pub returns-in-Some-clause-cause : goal.returns-in-Some-clause-cause
returns-in-Some-clause-cause g c =
    let loaded = c.in_ok-loaded.loaded in
    let came = c.in_ok-loaded.ensures in
    let found = c.in-Some.ensures.lookup in
    let there = there_is c.as_slice-seen.result.now c.saturating_sub.result _ c.in-Some.one.now c.saturating_sub.ensures found.3.0 (found.3.1 c.in-Some.one.now) in
    unwritten_for c.args.source.now c.args.script.now c.args.options.now.survey.orders c.args.options.now.survey.limit c.args.options.now.number loaded.program loaded.answers c.as_slice-seen.result.now came.says came.spells (subst (IsSurvey loaded.program loaded.answers c.args.options.now.survey.limit c.args.options.now.survey.orders) (sym c.as_slice-seen.ensures.value) came.survey)
    c.in-Some.one.now c.write_shown.result there c.write_shown.ensures.cause

-- and one that a search found
pub returns-clause-shown : goal.returns-clause-shown
returns-clause-shown g c =
    let loaded = c.in_ok-loaded.loaded in
    let came = c.in_ok-loaded.ensures in
    other_written c.args.source.now c.args.script.now c.args.options.now.survey.orders c.args.options.now.survey.limit c.args.options.now.number loaded.program loaded.answers c.as_slice-seen.result.now came.says came.spells (subst (IsSurvey loaded.program loaded.answers c.args.options.now.survey.limit c.args.options.now.survey.orders) (sym c.as_slice-seen.ensures.value) came.survey)
    _ _ c.show_unseen.result (omega (arith, c.in_default.ensures.lookup.3, c.saturating_sub.ensures)) c.show_unseen.ensures.ok

pub returns-clause-fault : goal.returns-clause-fault
returns-clause-fault g c =
    let loaded = c.in_ok-loaded.loaded in
    let came = c.in_ok-loaded.ensures in
    other_left c.args.source.now c.args.script.now c.args.options.now.survey.orders c.args.options.now.survey.limit c.args.options.now.number loaded.program loaded.answers c.as_slice-seen.result.now came.says came.spells (subst (IsSurvey loaded.program loaded.answers c.args.options.now.survey.limit c.args.options.now.survey.orders) (sym c.as_slice-seen.ensures.value) came.survey)
    _ _ c.show_unseen.result (omega (arith, c.in_default.ensures.lookup.3, c.saturating_sub.ensures)) c.show_unseen.ensures.err

-- fewer outcomes came up than the number says,
pub returns-in-None-clause-cause : goal.returns-in-None-clause-cause
returns-in-None-clause-cause g c =
    let loaded = c.in_ok-loaded.loaded in
    let came = c.in_ok-loaded.ensures in
    none_with c.args.source.now c.args.script.now c.args.options.now.survey.orders c.args.options.now.survey.limit c.args.options.now.number loaded.program loaded.answers c.as_slice-seen.result.now came.says came.spells (subst (IsSurvey loaded.program loaded.answers c.args.options.now.survey.limit c.args.options.now.survey.orders) (sym c.as_slice-seen.ensures.value) came.survey)
    c.args.options.now.number refl (omega (arith, c.in_default.ensures.lookup.3, c.saturating_sub.ensures))

-- or a search found none to which no order came, or no run that has it
pub returns-clause-cause : goal.returns-clause-cause
returns-clause-cause g c = go c.show_unseen.result c.show_unseen.ensures.cause
  where
    go : (r : Result Unit Unshown) → IfErr r (IsUnshownBy c.in_ok-loaded.loaded.program c.in_ok-loaded.loaded.answers c.as_slice-seen.result.now c.args.options.now.number) → IfErr r (IsUnshownFor c.args.source.now c.args.script.now c.args.options.now.survey.orders c.args.options.now.survey.limit c.args.options.now.number)
    go (Ok u) h = h
    go (Err f) h =
        let loaded = c.in_ok-loaded.loaded in
        let came = c.in_ok-loaded.ensures in
        unshown_for c.args.source.now c.args.script.now c.args.options.now.survey.orders c.args.options.now.survey.limit c.args.options.now.number loaded.program loaded.answers c.as_slice-seen.result.now came.says came.spells (subst (IsSurvey loaded.program loaded.answers c.args.options.now.survey.limit c.args.options.now.survey.orders) (sym c.as_slice-seen.ensures.value) came.survey)
        f (omega (arith, c.in_default.ensures.lookup.3, c.saturating_sub.ensures)) h

-- a fault of the engine's own comes of no program that was loaded
pub returns-in_err-played-clause-sound : goal.returns-in_err-played-clause-sound
returns-in_err-played-clause-sound g c =
    let loaded = c.in_ok-loaded.loaded in
    let good = taken c.args.source.now loaded.answers loaded.program c.in_ok-loaded.ensures.spells in
    let unowned : IsOwnOf c.in_err-played.field-0.0 → ⊥ = λ own. c.in_err-played.ensures.sound own good in
    search (rules, unowned)
