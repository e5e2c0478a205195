-- A journal's version and entries, and how many of them count.
use Rattle.std.specs.Prelude.{ℕ, suc, Bool, true, false, List, [], ◌∷◌, ◌++◌, if◌then◌else◌}
use Rattle.orc_rules.specs.declared.entry.Entry.{Entry}
use Rattle.orc_rules.specs.declared.entry.Entry.TheVariants.{Cancel}
use Rattle.orc_journal.specs.declared.journal.Version.{Version}

-- a journal's version and its entries
pub record Written : Type 0 where
  pub version : Version
  pub entries : List Entry

-- a journal with more entries behind its own
abbrev pub journal_with : Written → List Entry → Written
journal_with j es = record { version = j.version; entries = j.entries ++ es }

-- whether an entry counts for the limit: all but the cancels do
abbrev pub counts : Entry → Bool
counts (Cancel _) = false
counts _ = true

-- how many entries count for the limit
abbrev pub count : List Entry → ℕ
count [] = 0
count (e ∷ es) = if counts e then suc (count es) else count es
