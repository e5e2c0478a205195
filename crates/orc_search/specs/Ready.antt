-- What a walk through numbered terms asks of a program.
use Rattle.std.specs.Prelude.{◌≡◌, List, length}
use Rattle.orc_search.specs.declared.moves.Source.{Source}
use Rattle.orc_search.specs.Small.{Small}
use Rattle.orc_search.specs.Sources.{AreNumbered}

-- each of the program's nodes has the number of its small term
abbrev pub IsReady : List Small → Source → Type 0
IsReady terms s = AreNumbered terms s.program.now s.numbers.items × (length s.numbers.items ≡ length s.program.now.nodes)
