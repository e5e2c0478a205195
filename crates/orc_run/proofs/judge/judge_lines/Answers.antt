use Rattle.std.proofs.Common.{subst, ◌∙◌}
use Rattle.std.proofs.lemmas.Result.{err_from_is_err_and}
use Rattle.orc_journal_text.specs.Texts.{IsJournal}
use Rattle.orc_verdict.specs.Lines.{IsTextFault}
use Rattle.orc_verdict.specs.declared.lines.TextFault.TheVariants.{Check, Journal}
use Rattle.orc_run.proofs.LoadFaults.{beyond, of_pieces}
use Rattle.orc_run.proofs.Accepting.{told_of, text_beyond, check_beyond, verdict_so}
use Rattle.orc_run.proofs.KnownFiles.{known_text}
use Rattle.orc_run.proofs.judge.judge_lines.Goals as goal

pub returns-in_err-loaded-clause-cause : goal.returns-in_err-loaded-clause-cause
returns-in_err-loaded-clause-cause g c =
    let (y, was, from) = err_from_is_err_and c.from_residual.result c.from_residual.ensures.1 in
    rw (was, from) (of_pieces c.args.source.now c.args.script.now (g.R.Read.remaining c.args.journal) _ c.in_err-loaded.ensures.fault)

-- ---- the journal of a run

pub returns-in_err-loaded-clause-beyond : goal.returns-in_err-loaded-clause-beyond
returns-in_err-loaded-clause-beyond g c = λ text s is of.
    let (y, was, from) = err_from_is_err_and c.from_residual.result c.from_residual.ensures.1 in
    rw (was, from) (beyond c.args.source.now c.args.script.now text s _ of c.in_err-loaded.ensures.fault)

pub returns-in-Err-Journal-clause-beyond : goal.returns-in-Err-Journal-clause-beyond
returns-in-Err-Journal-clause-beyond g c = λ text s is of.
    let loaded = c.in_ok-loaded.loaded in
    let (whole, may, fault) = c.in-Err-Journal.ensures.fault in
    let (options, kept, told) = told_of c.args.source.now c.args.script.now text s loaded.program loaded.answers of c.in_ok-loaded.ensures.says c.in_ok-loaded.ensures.spells in
    text_beyond options s text loaded.program loaded.answers c.are_apart.ensures.0 kept told c.in-Err-Journal.fault
    (subst (λ t. IsTextFault loaded.program loaded.answers t (Journal c.in-Err-Journal.fault)) (known_text _ text whole is may) (subst (IsTextFault loaded.program loaded.answers whole) c.in-Err-Journal.field-0-is fault))

pub returns-in-Err-Check-clause-beyond : goal.returns-in-Err-Check-clause-beyond
returns-in-Err-Check-clause-beyond g c = λ text s is of.
    let loaded = c.in_ok-loaded.loaded in
    let (whole, may, fault) = c.in-Err-Check.ensures.fault in
    let (options, kept, told) = told_of c.args.source.now c.args.script.now text s loaded.program loaded.answers of c.in_ok-loaded.ensures.says c.in_ok-loaded.ensures.spells in
    let f = c.in-Err-Check.fault in
    let refused : IsTextFault loaded.program loaded.answers text (Check f) =
    subst (λ t. IsTextFault loaded.program loaded.answers t (Check f)) (known_text _ text whole is may) (subst (IsTextFault loaded.program loaded.answers whole) c.in-Err-Check.field-0-is fault) in
    check_beyond options s text loaded.program loaded.answers c.are_apart.ensures.0 kept told refused.0 refused.1 f.at f.why refused.2.0

-- it has this verdict
pub returns-in-Ok-clause-accepted : goal.returns-in-Ok-clause-accepted
returns-in-Ok-clause-accepted g c = λ text s is of.
    let loaded = c.in_ok-loaded.loaded in
    let (options, kept, told) = told_of c.args.source.now c.args.script.now text s loaded.program loaded.answers of c.in_ok-loaded.ensures.says c.in_ok-loaded.ensures.spells in
    let (whole, may, (j, journal, number, verdict)) = c.in-Ok.ensures.verdict in
    let this = subst (λ t. IsJournal loaded.answers.names t j) (known_text _ text whole is may) journal in
    let so = verdict_so options s text loaded.program loaded.answers c.are_apart.ensures.0 kept told j this c.in-Ok.checked.verdict.state c.in-Ok.checked.verdict.now verdict in
    (so.0, number ∙ so.1)
