-- What a search through all schedules answers.
use Rattle.std.specs.Prelude.{ℕ}
use Rattle.orc_rules.specs.Nodes.{Listing}
use Rattle.orc_rules.specs.Sites.{Table}
use Rattle.orc_schedules.specs.Ends.{AreOfRuns}
use Rattle.orc_schedules.specs.Reached.{AreAll}
use Rattle.orc_schedules.specs.declared.exploration.Schedules.{Schedules}
use Rattle.orc_schedules.specs.declared.exploration.Schedules.TheVariants.{All, TooMany, TooLong}

-- the outcomes of all runs, each that of one, or that the search came to a bound
abbrev pub IsSearched : Listing → Table → ℕ → Schedules → Type 0
IsSearched l t limit (All es states) = AreAll l t limit es.items × AreOfRuns l t es.items
IsSearched l t limit TooMany = Unit {0}
IsSearched l t limit TooLong = Unit {0}
