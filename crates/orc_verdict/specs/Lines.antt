-- Why a text has no verdict.
use Rattle.std.specs.Prelude.{◌≡◌, ◌≢◌, ℕ, List, ⊤}
use Rattle.orc_rules.specs.declared.entry.RuleFault.TheVariants as reason
use Rattle.orc_rules.specs.declared.entry.Entry.{Entry}
use Rattle.orc_rules.specs.Nodes.{Listing, source}
use Rattle.orc_rules.specs.Sites.{Table}
use Rattle.orc_rules.specs.Verdict.{IsFault}
use Rattle.orc_journal.specs.declared.journal.Version.{Version}
use Rattle.orc_journal_text.specs.declared.lines.LinesFault.{LinesFault}
use Rattle.orc_journal_text.specs.declared.lines.LinesFault.TheVariants as lines_fault
use Rattle.orc_journal.specs.Written.{Written}
use Rattle.orc_journal_text.specs.Texts.{IsJournal, IsFault as IsBadText}
use Rattle.orc_checker.specs.Checker.{context}
use Rattle.orc_verdict.specs.declared.verdict.CheckFault.{CheckFault}
use Rattle.orc_verdict.specs.declared.lines.TextFault.{TextFault}
use Rattle.orc_verdict.specs.declared.lines.TextFault.TheVariants as text_fault
use Rattle.orc_verdict.specs.Verdicts.{records_cancels, IsCutShort}

-- the entries of a journal of that version are refused for this fault
abbrev pub IsRefusedAt : Listing → Table → Version → List Entry → CheckFault → Type 0
IsRefusedAt l t v es f = (f.why ≢ reason.Memory → IsFault (context l t (records_cancels v)) (source l) es f.at f.why)
    × (f.why ≡ reason.Memory → IsCutShort (context l t (records_cancels v)) (source l) es f.at)

-- the fault of the lines as one of the text
abbrev pub text_fault_of : LinesFault → TextFault
text_fault_of (lines_fault.Text f) = text_fault.Journal f
text_fault_of lines_fault.Unread = text_fault.Unread

-- the fault of a text, or of the journal whose text it is; of one that couldn't be read nothing is known
abbrev pub IsTextFault : Listing → Table → List ℕ → TextFault → Type 0
IsTextFault l t text (text_fault.Journal f) = IsBadText t.names text f
IsTextFault l t text (text_fault.Check f) = (j : Written) × IsJournal t.names text j × IsRefusedAt l t j.version j.entries f
IsTextFault l t text text_fault.Unread = ⊤
