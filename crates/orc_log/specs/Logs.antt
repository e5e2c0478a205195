-- The journal of a run, of which all entries are held or none.
use Rattle.std.specs.Prelude.{◌≡◌, ◌≤◌, ◌++◌, ◌^◌, ℕ, Bool, true, false, List, [], length}
use Rattle.orc_rules.specs.declared.entry.Entry.{Entry}
use Rattle.orc_rules.specs.declared.value.Value.{Value}
use Rattle.orc_rules.specs.Sites.{Site}
use Rattle.orc_rules.specs.Trace.{published}
use Rattle.orc_subrun.specs.Moved.{AreLocal}
use Rattle.orc_journal.specs.declared.journal.Version.{Version}

-- what contracts know of a log: its version, and all entries, held or not
pub record Logged : Type 0 where
  pub version : Version
  pub entries : List Entry

-- the log with these entries behind its own
abbrev pub log_with : Logged → List Entry → Logged
log_with c es = record { version = c.version; entries = c.entries ++ es }

-- what a log knows of the entries that aren't held, the past: how many they are, what they publish, and whether they are known to be local; where the
-- journal is kept all of its entries are held, and else none is
pub record IsKnown (sites : List Site) (keeps : Bool) (past : List Entry) (passed : ℕ) (values : List Value) (is_local : Bool) (held : ℕ) : Type 0 where
  pub count : length past ≡ passed
  pub publishes : published past ≡ values
  pub local : is_local ≡ true → AreLocal sites past
  pub whole : keeps ≡ true → past ≡ []
  pub none : keeps ≡ false → held ≡ 0
  pub few : passed ≤ 2 ^ 62
  pub room : held ≤ 2 ^ 62
