use Rattle.std.proofs.Common.{◌∙◌, refl, subst}
use Rattle.std.specs.Io.KnownBytes.{Keeps}
use Rattle.orc_run.specs.Checked.{IsUnchecked, MayFail}
use Rattle.orc_run.proofs.KnownFiles.{all_before, all_left, held_before, held_opened, of_known, of_known_all, read_before}
use Rattle.orc_run.proofs.Sound.{of_check, of_unchecked, six_sound}
use Rattle.orc_run.proofs.commands.check_file.Goals as goal
use Rattle.orc_run.proofs.commands.check_file.Goals.{in-Ok-check_read, in-Err-Fault, in-Err-Unread}

-- the files that the words name were checked

pub returns-then-not-is_asked-clause-done : goal.returns-then-not-is_asked-clause-done
returns-then-not-is_asked-clause-done g c = elim c.match-check_read.branch [
  | in-Ok-check_read w ↦
      let (text, may, judges) = w.in-Ok-check_read.ensures.judged in
      rw w.result-is (
        c.as_slice.result.now,
        text,
        c.as_slice-then-not-is_asked.result.now,
        held_before _ _ _ _ refl c.as_slice.ensures.value c.in_ok-source.ensures.held,
        held_opened _ _ text (subst (λ o. Keeps o (g.F.Reader.Read.remaining c.in-Ok.reader)) (c.in_ok-source.ensures.same _) c.in-Ok.ensures.held) may,
        read_before _ _ _ _ _ (λ at. c.in-Ok.ensures.same at ∙ c.in_ok-source.ensures.same at) c.as_slice-then-not-is_asked.ensures.value c.in_ok-script_text.ensures.held,
        judges,
        refl,
      )
  | in-Err-Fault w ↦ rw w.result-is tt
  | in-Err-Unread w ↦ rw w.result-is tt
]

pub returns-in-Ok-check_text-clause-done : goal.returns-in-Ok-check_text-clause-done
returns-in-Ok-check_text-clause-done g c =
    let before = all_before _ _ _ _ _ _ _ _ _ _ _ _ c.in_ok-source.ensures.same c.in_ok-lines.ensures.same c.as_slice-2.ensures.value c.as_slice-4.ensures.value c.as_slice-3.ensures.value
    c.in_ok-source.ensures.held c.in_ok-lines.ensures.held c.in_ok-script_text-2.ensures.held in
    (c.as_slice-2.result.now, c.as_slice-4.result.now, c.as_slice-3.result.now, before.0, before.1, before.2, c.in-Ok-check_text.ensures.judged, refl)

pub returns-then-not-is_asked-clause-cause : goal.returns-then-not-is_asked-clause-cause
returns-then-not-is_asked-clause-cause g c = elim c.match-check_read.branch [
  | in-Ok-check_read w ↦ rw w.result-is tt
  | in-Err-Fault w ↦
      let (text, may, cause) = w.in-Err-Fault.ensures.cause in
      rw w.result-is (
        c.as_slice.result.now,
        text,
        c.as_slice-then-not-is_asked.result.now,
        held_before _ _ _ _ refl c.as_slice.ensures.value c.in_ok-source.ensures.held,
        held_opened _ _ text (subst (λ o. Keeps o (g.F.Reader.Read.remaining c.in-Ok.reader)) (c.in_ok-source.ensures.same _) c.in-Ok.ensures.held) may,
        read_before _ _ _ _ _ (λ at. c.in-Ok.ensures.same at ∙ c.in_ok-source.ensures.same at) c.as_slice-then-not-is_asked.ensures.value c.in_ok-script_text.ensures.held,
        subst (IsUnchecked c.as_slice.result.now c.as_slice-then-not-is_asked.result.now text) w.in-Err-Fault.field-0-is cause,
      )
  | in-Err-Unread w ↦ rw w.result-is tt
]

pub returns-clause-cause : goal.returns-clause-cause
returns-clause-cause g c =
    let before = all_before _ _ _ _ _ _ _ _ _ _ _ _ c.in_ok-source.ensures.same c.in_ok-lines.ensures.same c.as_slice-2.ensures.value c.as_slice-4.ensures.value c.as_slice-3.ensures.value
    c.in_ok-source.ensures.held c.in_ok-lines.ensures.held c.in_ok-script_text-2.ensures.held in
    (c.as_slice-2.result.now, c.as_slice-4.result.now, c.as_slice-3.result.now, before.0, before.1, before.2, c.in-Err-check_text.ensures.cause)

-- a failure isn't the engine's
pub returns-then-not-is_asked-clause-sound : goal.returns-then-not-is_asked-clause-sound
returns-then-not-is_asked-clause-sound g c = elim c.match-check_read.branch [
  | in-Ok-check_read w ↦ rw w.result-is tt
  | in-Err-Fault w ↦
      let (text, may, cause) = w.in-Err-Fault.ensures.cause in
      rw w.result-is (of_unchecked c.as_slice.result.now c.as_slice-then-not-is_asked.result.now text _ _ w.in-Err-Fault.field-0-is cause)
  | in-Err-Unread w ↦ rw w.result-is six_sound
]

pub returns-clause-sound : goal.returns-clause-sound
returns-clause-sound g c = of_check _ _ _ _ c.in-Err-check_text.ensures.cause

-- ---- the journal of a run

pub returns-then-not-is_asked-clause-accepted : goal.returns-then-not-is_asked-clause-accepted
returns-then-not-is_asked-clause-accepted g c = elim c.match-check_read.branch [
  | in-Ok-check_read w ↦ rw w.result-is (λ s known.
      let (source, text, read, is_file, is_journal, is_script, of) = known in
      w.in-Ok-check_read.ensures.accepted text s
      (all_left _ _ text (subst (λ o. Keeps o (g.F.Reader.Read.remaining c.in-Ok.reader)) (c.in_ok-source.ensures.same _) c.in-Ok.ensures.held) is_journal)
      (of_known _ _ _ s source read _ _ text is_file is_script of
      (held_before _ _ _ _ refl c.as_slice.ensures.value c.in_ok-source.ensures.held)
      (read_before _ _ _ _ _ (λ at. c.in-Ok.ensures.same at ∙ c.in_ok-source.ensures.same at) c.as_slice-then-not-is_asked.ensures.value c.in_ok-script_text.ensures.held)))
  | in-Err-Fault w ↦ rw w.result-is (λ s known. tt)
  | in-Err-Unread w ↦ rw w.result-is (λ s known. tt)
]

pub returns-then-not-is_asked-clause-beyond : goal.returns-then-not-is_asked-clause-beyond
returns-then-not-is_asked-clause-beyond g c = elim c.match-check_read.branch [
  | in-Ok-check_read w ↦ rw w.result-is (λ s known. tt)
  | in-Err-Fault w ↦ rw w.result-is (λ s known.
      let (source, text, read, is_file, is_journal, is_script, of) = known in
      subst MayFail w.in-Err-Fault.field-0-is (w.in-Err-Fault.ensures.beyond text s
      (all_left _ _ text (subst (λ o. Keeps o (g.F.Reader.Read.remaining c.in-Ok.reader)) (c.in_ok-source.ensures.same _) c.in-Ok.ensures.held) is_journal)
      (of_known _ _ _ s source read _ _ text is_file is_script of
      (held_before _ _ _ _ refl c.as_slice.ensures.value c.in_ok-source.ensures.held)
      (read_before _ _ _ _ _ (λ at. c.in-Ok.ensures.same at ∙ c.in_ok-source.ensures.same at) c.as_slice-then-not-is_asked.ensures.value c.in_ok-script_text.ensures.held))))
  | in-Err-Unread w ↦ rw w.result-is (λ s known. tt)
]

pub returns-in-Ok-check_text-clause-accepted : goal.returns-in-Ok-check_text-clause-accepted
returns-in-Ok-check_text-clause-accepted g c = λ s known.
    let (source, text, read, is_file, is_journal, is_script, of) = known in
    let before = all_before _ _ _ _ _ _ _ _ _ _ _ _ c.in_ok-source.ensures.same c.in_ok-lines.ensures.same c.as_slice-2.ensures.value c.as_slice-4.ensures.value c.as_slice-3.ensures.value
    c.in_ok-source.ensures.held c.in_ok-lines.ensures.held c.in_ok-script_text-2.ensures.held in
    c.in-Ok-check_text.ensures.accepted s (of_known_all _ _ _ _ s source text read _ _ _ is_file is_journal is_script of before.0 before.1 before.2)

pub returns-clause-beyond : goal.returns-clause-beyond
returns-clause-beyond g c = λ s known.
    let (source, text, read, is_file, is_journal, is_script, of) = known in
    let before = all_before _ _ _ _ _ _ _ _ _ _ _ _ c.in_ok-source.ensures.same c.in_ok-lines.ensures.same c.as_slice-2.ensures.value c.as_slice-4.ensures.value c.as_slice-3.ensures.value
    c.in_ok-source.ensures.held c.in_ok-lines.ensures.held c.in_ok-script_text-2.ensures.held in
    c.in-Err-check_text.ensures.beyond s (of_known_all _ _ _ _ s source text read _ _ _ is_file is_journal is_script of before.0 before.1 before.2)
