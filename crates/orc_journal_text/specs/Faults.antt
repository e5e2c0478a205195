-- The code and the place of each fault of a journal's text, and its status.
use Rattle.std.specs.Prelude.{ℕ, List, ◌++◌, codes, decimal}
use Rattle.orc_journal_text.specs.declared.text.JournalFault.{JournalFault}
use Rattle.orc_journal_text.specs.declared.text.JournalFault.TheVariants as journal
use Rattle.orc_journal_text.specs.declared.lines.LinesFault.{LinesFault}
use Rattle.orc_journal_text.specs.declared.lines.LinesFault.TheVariants.{Text, Unread}

-- what is written of a fault
abbrev pub journal_line : JournalFault → List ℕ
journal_line journal.Header = codes "J1"
journal_line (journal.Line number) = codes "J2 at line " ++ decimal number
journal_line journal.Long = codes "J3"
journal_line journal.Memory = codes "J4"

-- 5 where memory was refused, else 1
abbrev pub journal_status : JournalFault → ℕ
journal_status journal.Memory = 5
journal_status f = 1

-- the fault of a text in memory, which can always be read
abbrev pub journal_fault_of : LinesFault → JournalFault
journal_fault_of (Text f) = f
journal_fault_of Unread = journal.Memory
