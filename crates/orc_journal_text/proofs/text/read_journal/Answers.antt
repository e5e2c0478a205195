use Rattle.std.proofs.Common.{◌≡◌, ◌++◌, ◌∷◌, [], List, ℕ, Some, refl, sym, ap, subst, ◌∙◌}
use Rattle.std.proofs.KnownBytes.{Consumes-trans}
use Rattle.orc_journal.specs.declared.journal.Version.{Version}
use Rattle.orc_journal_text.specs.Lines.{HasRead}
use Rattle.orc_journal.specs.Written.{Written}
use Rattle.orc_journal_text.specs.Texts.{IsFault, IsJournal}
use Rattle.orc_journal_text.proofs.Arriving.{fault_in_memory}
use Rattle.orc_journal_text.proofs.Coming.{may_come}
use Rattle.orc_journal_text.proofs.Stripping.{at_ok, no_fault, one_journal}
use Rattle.orc_journal_text.proofs.text.read_journal.Goals as goal

pub returns-in-Err-clause-fault : goal.returns-in-Err-clause-fault
returns-in-Err-clause-fault c =
    let names = c.args.answers.now.names in
    subst (IsFault names c.args.text.now) (sym c.fault_of.ensures) (fault_in_memory names (Some c.args.text.now) c.args.text.now [] c.in-Err.fault refl (c.in-Err.ensures.fault names))

pub returns-in-Err-clause-only : goal.returns-in-Err-clause-only
returns-in-Err-clause-only c = λ j is. no_fault c.args.answers.now.names c.are_apart.ensures.0 c.args.text.now j c.fault_of.result (returns-in-Err-clause-fault c) is

pub loop-journal-init : goal.loop-journal-init
loop-journal-init c =
    let (piece, p, reads) = c.in-Ok.ensures.begun in
    let version = sym (ap (λ (w : Written). w.version) c.new-journal.ensures ∙ c.version.ensures) in
    (version, (piece, p, subst (λ (w : Written). HasRead c.args.answers.now.names piece c.in-Ok.lines w.entries) (sym c.new-journal.ensures) (reads c.args.answers.now.names)))

pub returns-in-Ok-false-clause-read : goal.returns-in-Ok-false-clause-read
returns-in-Ok-false-clause-read c =
    let names = c.args.answers.now.names in
    let journal = c.loop-journal.journal in
    let (version, (piece, p, read)) = c.loop-journal.invariant in
    let (next, may, reads) = c.in-Ok-false.ensures.end c.in-Ok-false.field-0-test in
    let whole : piece ++ next ≡ c.args.text.now = may_come (Some c.args.text.now) c.loop-journal.lines.coming.left piece next p may in
    subst (λ (t : List ℕ). IsJournal names t journal) whole
    (subst (λ (v : Version). IsJournal names (piece ++ next) (record { version = v; entries = journal.entries })) version (reads piece journal.entries read))

pub returns-in-Ok-false-clause-only : goal.returns-in-Ok-false-clause-only
returns-in-Ok-false-clause-only c = λ j is. one_journal c.args.answers.now.names c.are_apart.ensures.0 c.args.text.now c.loop-journal.journal j (returns-in-Ok-false-clause-read c) is

pub returns-in-Err-next-clause-fault : goal.returns-in-Err-next-clause-fault
returns-in-Err-next-clause-fault c =
    let names = c.args.answers.now.names in
    let (version, (piece, p, read)) = c.loop-journal.invariant in
    subst (IsFault names c.args.text.now) (sym c.fault_of-in-Err-next.ensures)
    (fault_in_memory names c.loop-journal.lines.coming.left c.args.text.now piece c.in-Err-next.fault p (c.in-Err-next.ensures.fault piece c.loop-journal.journal.entries read))

pub returns-in-Err-next-clause-only : goal.returns-in-Err-next-clause-only
returns-in-Err-next-clause-only c = λ j is. no_fault c.args.answers.now.names c.are_apart.ensures.0 c.args.text.now j c.fault_of-in-Err-next.result (returns-in-Err-next-clause-fault c) is

pub loop-journal-preserved : goal.loop-journal-preserved
loop-journal-preserved c =
    let names = c.args.answers.now.names in
    let es = c.loop-journal.journal.entries in
    let (version, (piece, p, read)) = c.loop-journal.invariant in
    let (next, q, reads) = c.in-Ok-true.ensures.more c.in-Ok-true.field-0-test in
    let new : ◌≡◌ {A = Written} c.push.new.self (record { version = c.loop-journal.journal.version; entries = es ++ c.next.new.entry ∷ [] }) = at_ok c.push.result (sym c.if-is_err.ensures.value) c.push.ensures.added in (
      c.next.ensures.version ∙ version ∙ sym (ap (λ (w : Written). w.version) new),
      (
        piece ++ next,
        Consumes-trans (Some c.args.text.now) c.loop-journal.lines.coming.left c.next.new.self.coming.left piece next p q,
        subst (λ (w : Written). HasRead names (piece ++ next) c.next.new.self w.entries) (sym new) (reads piece es read),
      ),
    )
