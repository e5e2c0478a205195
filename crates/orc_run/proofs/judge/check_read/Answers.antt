use Rattle.std.proofs.Common.{◌∙◌, [], length, refl}
use Rattle.std.proofs.KnownBytes.{Appends-nil}
use Rattle.std.proofs.lemmas.Result.{err_from_is_err_and}
use Rattle.orc_run.specs.Checked.{verdict_line, MayFail}
use Rattle.orc_run.proofs.Accepting.{same_line}
use Rattle.orc_run.proofs.judge.check_read.Goals as goal

-- memory for the line was refused, and nothing written
pub returns-in_default-clause-fault : goal.returns-in_default-clause-fault
returns-in_default-clause-fault g c =
    let (text, may, (j, judged, number)) = c.in_ok-brought.ensures.judged in
    let state = c.in_ok-brought.brought.state in
    (text, may, (j, state, judged, ([], verdict_line (length j.entries) state, refl, Appends-nil _)))

-- ---- the journal of a run

pub returns-in_err-brought-clause-beyond : goal.returns-in_err-brought-clause-beyond
returns-in_err-brought-clause-beyond g c = λ text s known of.
    let (y, is, from) = err_from_is_err_and c.from_residual.result c.from_residual.ensures.1 in
    let found : MayFail y = rw from (c.in_err-brought.ensures.beyond text s known of) in
    rw is found

-- it is accepted
pub returns-in-Ok-write_text-clause-accepted : goal.returns-in-Ok-write_text-clause-accepted
returns-in-Ok-write_text-clause-accepted g c = λ text s known of.
    let state = c.in_ok-brought.brought.state in
    let so = c.in_ok-brought.ensures.accepted text s known of in
    (state, so.0, same_line _ _ _ _ s.entries state (c.as_slice.ensures.value ∙ c.in-Ok.ensures) so.1 c.in-Ok-write_text.ensures.ok)
