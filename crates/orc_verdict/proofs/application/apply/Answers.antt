use Rattle.std.proofs.Common.{arith}
use Rattle.std.proofs.lemmas.Result.{err_from_is_err_and}
use Rattle.orc_verdict.proofs.Judging.{stops_deep, stops_there}
use Rattle.orc_verdict.proofs.Labels.{applies, shown_within, shown_exactly, shows_same, stops_same}
use Rattle.orc_verdict.proofs.application.apply.Goals as goal

pub returns-in-Ok-clause-done : goal.returns-in-Ok-clause-done
returns-in-Ok-clause-done c are =
    let a = c.args in
    shown_within a.program.now a.answers.now a.entry.now a.marked.now c.apply_at_any_depth.new.marked c.in-Ok.label c.in-Ok.ensures.done a.heights.now (c.stays_shallow.ensures c.if-stays_shallow.true) are

pub returns-in_err-label-clause-why : goal.returns-in_err-label-clause-why
returns-in_err-label-clause-why c =
    let p = err_from_is_err_and c.from_residual.result c.from_residual.ensures.1 in
    let a = c.args in
    rw (p.1, p.2) (λ are. stops_same a.program.now a.answers.now a.entry.now c.in-Ok-copy.tried a.marked.now _ c.in-Ok-copy.ensures c.in_err-label.ensures.why)

pub returns-then-levels-gt-MOST_LEVELS-clause-why : goal.returns-then-levels-gt-MOST_LEVELS-clause-why
returns-then-levels-gt-MOST_LEVELS-clause-why c are =
    let a = c.args in
    let l = a.program.now in
    let new = c.apply_at_any_depth-2.new.marked in
    let shows = shows_same l a.answers.now a.entry.now c.in-Ok-copy.tried a.marked.now new c.in_ok-label.label c.in-Ok-copy.ensures c.in_ok-label.ensures.done in
    stops_deep l a.answers.now a.entry.now a.marked.now new (applies l a.answers.now a.entry.now a.marked.now new c.in_ok-label.label shows) c.in-Ok-depth_of.levels
    (λ x p sp. c.in-Ok-depth_of.ensures x l p are sp)
    (omega (arith, c.if-levels-gt-MOST_LEVELS.true))

pub returns-else-levels-gt-MOST_LEVELS-clause-done : goal.returns-else-levels-gt-MOST_LEVELS-clause-done
returns-else-levels-gt-MOST_LEVELS-clause-done c are =
    let a = c.args in
    let l = a.program.now in
    let new = c.apply_at_any_depth-2.new.marked in
    let shows = shows_same l a.answers.now a.entry.now c.in-Ok-copy.tried a.marked.now new c.in_ok-label.label c.in-Ok-copy.ensures c.in_ok-label.ensures.done in
    shown_exactly l a.answers.now a.entry.now a.marked.now new c.in_ok-label.label shows c.in-Ok-depth_of.levels
    (λ x p sp. c.in-Ok-depth_of.ensures x l p are sp)
    (omega (arith, c.if-levels-gt-MOST_LEVELS.false))

pub returns-in-Err-depth_of-clause-why : goal.returns-in-Err-depth_of-clause-why
returns-in-Err-depth_of-clause-why c are =
    let a = c.args in
    let l = a.program.now in
    let new = c.apply_at_any_depth-2.new.marked in
    let shows = shows_same l a.answers.now a.entry.now c.in-Ok-copy.tried a.marked.now new c.in_ok-label.label c.in-Ok-copy.ensures c.in_ok-label.ensures.done in
    stops_there l a.answers.now a.entry.now a.marked.now new (applies l a.answers.now a.entry.now a.marked.now new c.in_ok-label.label shows) c.meets_and_leads.ensures
