-- A journal's text, as far as its entries were read.
use Rattle.std.specs.Prelude.{◌≡◌, ◌<◌, ◌≤◌, ◌-◌, ◌^◌, ℕ, List, [], ◌++◌, length, slice_index_or, ⊤}
use Rattle.std.specs.declared.option.Option.{Option}
use Rattle.orc_rules.specs.declared.entry.Entry.{Entry}
use Rattle.orc_rules.specs.declared.limits.TheConstants.{LONGEST_JOURNAL, MOST_ENTRIES}
use Rattle.orc_journal.specs.declared.journal.Version.{Version}
use Rattle.orc_journal_text.specs.declared.lines.LinesFault.{LinesFault}
use Rattle.orc_journal_text.specs.declared.lines.LinesFault.TheVariants.{Text, Unread}
use Rattle.orc_journal_text.specs.declared.text.JournalFault.TheVariants.{Long, Memory}
use Rattle.orc_journal_text.specs.Pieces.{Coming, comes_with, MayCome}
use Rattle.orc_journal.specs.Written.{count}
use Rattle.orc_journal_text.specs.Texts.{header, entry_lines, AreOf, IsFault}

-- the version, what has come of the text and what is still to come, how many entries were read, and how many of them count for the limit
pub record Left : Type 0 where
  pub version : Version
  pub coming : Coming
  pub read : ℕ
  pub counted : ℕ

-- `text` is what has come so far, and these are the entries that were read of it
pub record HasRead (names : List (List ℕ)) (text : List ℕ) (l : Left) (es : List Entry) : Type 0 where
  pub front : text ≡ header l.version ++ (entry_lines names es ++ l.coming.rest)
  pub each : AreOf names l.version es
  pub came : l.coming.came ≡ length text
  pub number : l.read ≡ length es
  pub counts : l.counted ≡ count es

-- 2^64 less the bytes that are used: each entry that is read makes it smaller, so a loop over the entries ends
abbrev pub to_read : Left → ℕ
to_read l = 2 ^ 64 - (l.coming.came - length l.coming.rest)

-- the fault is that of the whole text: what has come, and what may still come
abbrev pub IsLinesFault : List (List ℕ) → Option (List ℕ) → List ℕ → LinesFault → Type 0
IsLinesFault names left text (Text f) = (more : List ℕ) × MayCome left more × IsFault names (text ++ more) f
IsLinesFault names left text Unread = ⊤

-- why no more of a text comes
abbrev pub IsUnfilled : ℕ → LinesFault → Type 0
IsUnfilled came (Text Long) = LONGEST_JOURNAL < came
IsUnfilled came (Text Memory) = ⊤
IsUnfilled came Unread = ⊤
IsUnfilled came f = ⊥

-- the text that has come begins with a header and the lines of more entries than a journal may have
abbrev pub HasTooMany : List (List ℕ) → List ℕ → Version → Type 0
HasTooMany names text v = (es : List Entry) × (rest : List ℕ) × (text ≡ header v ++ (entry_lines names es ++ rest)) × AreOf names v es × (MOST_ENTRIES < count es)

-- a piece more of the text has come
abbrev pub with_piece : Left → List ℕ → Option (List ℕ) → Left
with_piece l piece left = record { version = l.version; coming = comes_with l.coming piece left; read = l.read; counted = l.counted }

-- no site has a longer name
abbrev pub AreNamesWithin : List (List ℕ) → ℕ → Type 0
AreNamesWithin names most = (m : ℕ) → m < length names → length (slice_index_or names m []) ≤ most
