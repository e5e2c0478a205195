-- What is told of a journal that was checked.
use Rattle.std.proofs.Common.{subst}
use Rattle.std.specs.Io.KnownBytes.{Appends}
use Rattle.orc_output.specs.Output.{AppendsPrefix}
use Rattle.orc_run.proofs.Claiming.{is_told, is_untold, refused_for}
use Rattle.orc_run.proofs.LoadFaults.{refused_beyond, unread_beyond}
use Rattle.orc_run.proofs.claims.claims_text.Goals as goal

-- memory was refused for what is told
pub returns-in_default-clause-fault : goal.returns-in_default-clause-fault
returns-in_default-clause-fault g c =
    let judged = c.in-Ok-judge.judged in
    is_untold _ c.args.test.now c.args.script.now _ _ _ c.in-Ok.known judged.answers judged.journal judged.state judged.time c.in-Ok.ensures.says c.in-Ok-judge.ensures.judged

pub returns-in_default-text_of-clause-fault : goal.returns-in_default-text_of-clause-fault
returns-in_default-text_of-clause-fault g c =
    let judged = c.in-Ok-judge.judged in
    is_untold _ c.args.test.now c.args.script.now _ _ _ c.in-Ok.known judged.answers judged.journal judged.state judged.time c.in-Ok.ensures.says c.in-Ok-judge.ensures.judged

-- it was written whole, or a prefix of it
pub returns-in-Ok-write_text-clause-claimed : goal.returns-in-Ok-write_text-clause-claimed
returns-in-Ok-write_text-clause-claimed g c =
    let judged = c.in-Ok-judge.judged in
    let findings = c.in-Ok-findings_of.findings in
    let text = c.in-Ok-text_of.text in (
      text.items,
      is_told _ c.args.test.now c.args.script.now _ findings.text.items text.items findings.failing c.in-Ok.known judged.answers judged.journal judged.state judged.time c.in-Ok.ensures.says c.in-Ok-judge.ensures.judged c.in-Ok-findings_of.ensures.text c.in-Ok-text_of.ensures c.in-Ok-findings_of.ensures.failing,
      subst (Appends (g.W.Write.contents c.args.out.now) (g.W.Write.contents c.write_text.new.out)) c.as_slice.ensures.value c.in-Ok-write_text.ensures.ok,
    )

pub returns-clause-fault : goal.returns-clause-fault
returns-clause-fault g c =
    let judged = c.in-Ok-judge.judged in
    let findings = c.in-Ok-findings_of.findings in
    let text = c.in-Ok-text_of.text in (
      text.items,
      findings.failing,
      is_told _ c.args.test.now c.args.script.now _ findings.text.items text.items findings.failing c.in-Ok.known judged.answers judged.journal judged.state judged.time c.in-Ok.ensures.says c.in-Ok-judge.ensures.judged c.in-Ok-findings_of.ensures.text c.in-Ok-text_of.ensures c.in-Ok-findings_of.ensures.failing,
      subst (AppendsPrefix (g.W.Write.contents c.args.out.now) (g.W.Write.contents c.write_text.new.out)) c.as_slice.ensures.value c.in-Err-write_text.ensures.err,
    )

-- the test is one, and the journal was refused
pub returns-in-Err-judge-clause-cause : goal.returns-in-Err-judge-clause-cause
returns-in-Err-judge-clause-cause g c = refused_for c.args.source.now c.args.test.now c.args.script.now c.args.journal.now c.in-Ok.known c.in-Err-judge.fault c.in-Ok.ensures.says c.in-Err-judge.ensures.cause

-- ---- the journal of a run

pub returns-in-Err-clause-beyond : goal.returns-in-Err-clause-beyond
returns-in-Err-clause-beyond g c = λ s of. unread_beyond c.args.source.now c.args.test.now c.args.script.now c.args.journal.now s c.in-Err.fault of c.in-Err.ensures.cause

pub returns-in-Err-judge-clause-beyond : goal.returns-in-Err-judge-clause-beyond
returns-in-Err-judge-clause-beyond g c = λ s of. refused_beyond c.in-Err-judge.fault (c.in-Err-judge.ensures.beyond s of)
