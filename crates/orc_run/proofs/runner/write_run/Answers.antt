use Rattle.std.proofs.Common.{◌≡◌, sym, ap, subst, ◌∙◌}
use Rattle.std.specs.Prelude.{IfSome}
use Rattle.std.specs.Io.KnownBytes.{Appends}
use Rattle.orc_journal.specs.declared.journal.Version.TheVariants.{Two}
use Rattle.orc_journal.specs.Written.{Written}
use Rattle.orc_journal_text.specs.Texts.{journal_text}
use Rattle.orc_run.specs.Running.{written}
use Rattle.orc_output.proofs.Parted.{on_ok}
use Rattle.orc_run.proofs.runner.write_run.Goals as goal

-- the journal that is there is the run's, and its text was written
pub returns-in-Journal-clause-ok : goal.returns-in-Journal-clause-ok
returns-in-Journal-clause-ok g c =
    let names = c.args.answers.now.names in
    let old = g.W.Write.contents c.args.out.now in
    let new = g.W.Write.contents c.write_journal.new.out in
    on_ok c.write_journal.result (λ wrote es shows.
    let its : ◌≡◌ {A = Written} c.in-Some.journal (record { version = Two; entries = es }) = subst (λ j. IfSome j (λ (w : Written). w ≡ record { version = Two; entries = es })) c.in-Some.is shows.is_its in
    subst (λ text. Appends old new text) (ap (λ (w : Written). journal_text names w) its ∙ ap (λ w. written w names es) (sym c.in-Journal.is)) (wrote (ap Written.version its)))
    c.write_journal.ensures.ok
