-- The text of a journal.
use Rattle.std.specs.Prelude.{◌≡◌, ◌⊎◌, ℕ, ◌+◌, ◌<◌, ◌≤◌, Bool, true, false, List, [], ◌∷◌, ◌++◌, length, codes}
use Rattle.std.specs.List.{flat_map}
use Rattle.orc_rules.specs.declared.entry.Entry.{Entry}
use Rattle.orc_rules.specs.declared.entry.Entry.TheVariants.{Cancel}
use Rattle.orc_rules.specs.declared.limits.TheConstants.{LONGEST_JOURNAL, MOST_ENTRIES}
use Rattle.orc_rules.specs.Text.{line, Fits}
use Rattle.orc_journal.specs.declared.journal.Version.{Version}
use Rattle.orc_journal.specs.declared.journal.Version.TheVariants.{One, Two}
use Rattle.orc_journal.specs.Written.{Written, count}
use Rattle.orc_journal_text.specs.declared.text.JournalFault.{JournalFault}
use Rattle.orc_journal_text.specs.declared.text.JournalFault.TheVariants.{Header, Line, Long, Memory}

-- the first line
abbrev pub header : Version → List ℕ
header One = codes "orc-journal 1\n"
header Two = codes "orc-journal 2\n"

-- the lines of entries, one behind the other
abbrev pub entry_lines : List (List ℕ) → List Entry → List ℕ
entry_lines names es = flat_map (line names) es

-- the text of a journal: its first line, and the lines of its entries
abbrev pub journal_text : List (List ℕ) → Written → List ℕ
journal_text names j = header j.version ++ entry_lines names j.entries

-- a cancel stands in version 2 alone
abbrev pub is_of : Version → Entry → Bool
is_of One (Cancel _) = false
is_of _ _ = true

-- entries that have a line in a journal of that version
abbrev pub AreOf : List (List ℕ) → Version → List Entry → Type 0
AreOf names v [] = Unit {0}
AreOf names v (e ∷ es) = Fits names e × (is_of v e ≡ true) × AreOf names v es

-- the text of a journal that is no longer than a journal may be, and of which no more entries count than a journal may have
pub record IsJournal (names : List (List ℕ)) (text : List ℕ) (j : Written) : Type 0 where
  pub whole : text ≡ journal_text names j
  pub each : AreOf names j.version j.entries
  pub size : length text ≤ LONGEST_JOURNAL
  pub limit : count j.entries ≤ MOST_ENTRIES

-- a text that begins with the lines of a journal
pub record Begins (names : List (List ℕ)) (text : List ℕ) (v : Version) (es : List Entry) (rest : List ℕ) : Type 0 where
  pub front : text ≡ header v ++ (entry_lines names es ++ rest)
  pub each : AreOf names v es
  pub size : length text ≤ LONGEST_JOURNAL

-- no line of an entry of that version stands first
abbrev pub NoLine : List (List ℕ) → Version → List ℕ → Type 0
NoLine names v rest = (e : Entry) (more : List ℕ) → Fits names e → is_of v e ≡ true → rest ≡ line names e ++ more → ⊥

-- why a text isn't read
abbrev pub IsFault : List (List ℕ) → List ℕ → JournalFault → Type 0
IsFault names text Header = (length text ≤ LONGEST_JOURNAL) × ((v : Version) (rest : List ℕ) → text ≡ header v ++ rest → ⊥)
IsFault names text (Line n) = (v : Version) × (es : List Entry) × (rest : List ℕ) × Begins names text v es rest × (count es ≤ MOST_ENTRIES) × (n ≡ length es + 2) × (0 < length rest) × NoLine names v rest
IsFault names text Long = (LONGEST_JOURNAL < length text) ⊎ ((v : Version) × (es : List Entry) × (rest : List ℕ) × Begins names text v es rest × (MOST_ENTRIES < count es))
IsFault names text Memory = Unit {0}
