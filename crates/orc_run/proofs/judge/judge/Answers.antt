use Rattle.std.proofs.Common.{subst, sym}
use Rattle.std.proofs.lemmas.Result.{err_from_is_err_and}
use Rattle.orc_run.specs.Checked.{IsJudgedAt}
use Rattle.orc_run.proofs.LoadFaults.{beyond}
use Rattle.orc_run.proofs.Accepting.{told_of, text_beyond, check_beyond, verdict_so}
use Rattle.orc_run.proofs.judge.judge.Goals as goal

-- ---- the journal of a run

pub returns-in_err-loaded-clause-beyond : goal.returns-in_err-loaded-clause-beyond
returns-in_err-loaded-clause-beyond c = λ s of.
    let (y, is, from) = err_from_is_err_and c.from_residual.result c.from_residual.ensures.1 in
    rw (is, from) (beyond c.args.source.now c.args.script.now c.args.journal.now s _ of c.in_err-loaded.ensures.fault)

pub returns-in-Err-clause-beyond : goal.returns-in-Err-clause-beyond
returns-in-Err-clause-beyond c = λ s of.
    let loaded = c.in_ok-loaded.loaded in
    let (options, kept, told) = told_of c.args.source.now c.args.script.now c.args.journal.now s loaded.program loaded.answers of c.in_ok-loaded.ensures.says c.in_ok-loaded.ensures.spells in
    text_beyond options s c.args.journal.now loaded.program loaded.answers c.are_apart.ensures.0 kept told c.in-Err.fault c.in-Err.ensures.fault

pub returns-in-Err-check_journal-clause-beyond : goal.returns-in-Err-check_journal-clause-beyond
returns-in-Err-check_journal-clause-beyond c = λ s of.
    let loaded = c.in_ok-loaded.loaded in
    let (options, kept, told) = told_of c.args.source.now c.args.script.now c.args.journal.now s loaded.program loaded.answers of c.in_ok-loaded.ensures.says c.in_ok-loaded.ensures.spells in
    let f = c.in-Err-check_journal.fault in
    check_beyond options s c.args.journal.now loaded.program loaded.answers c.are_apart.ensures.0 kept told c.in-Ok.journal c.in-Ok.ensures.read f.at f.why c.in-Err-check_journal.ensures.fault

-- it has this verdict
pub returns-in-Ok-check_journal-clause-accepted : goal.returns-in-Ok-check_journal-clause-accepted
returns-in-Ok-check_journal-clause-accepted c = λ s of.
    let loaded = c.in_ok-loaded.loaded in
    let (options, kept, told) = told_of c.args.source.now c.args.script.now c.args.journal.now s loaded.program loaded.answers of c.in_ok-loaded.ensures.says c.in_ok-loaded.ensures.spells in
    let verdict = c.in-Ok-check_journal.verdict in
    verdict_so options s c.args.journal.now loaded.program loaded.answers c.are_apart.ensures.0 kept told c.in-Ok.journal c.in-Ok.ensures.read verdict.state verdict.now c.in-Ok-check_journal.ensures.verdict

-- the sites that answered its calls are those that were read
pub returns-in-Ok-check_journal-clause-judged : goal.returns-in-Ok-check_journal-clause-judged
returns-in-Ok-check_journal-clause-judged c =
    let loaded = c.in_ok-loaded.loaded in
    let verdict = c.in-Ok-check_journal.verdict in
    subst (λ t. IsJudgedAt c.args.source.now c.args.script.now c.args.journal.now t c.in-Ok.journal verdict.state verdict.now) (sym c.into_answers.ensures) (loaded.program, c.in_ok-loaded.ensures.says, c.in_ok-loaded.ensures.spells, c.in-Ok.ensures.read, c.in-Ok-check_journal.ensures.verdict)
