-- What the laws of runs ask of a program holds of each.
use Rattle.std.specs.Prelude.{ℕ, List, [], Bool, map}
use Rattle.orc_rules.specs.declared.value.Found.TheVariants.{Never}
use Rattle.orc_rules.specs.Term.{Term, Definition}
use Rattle.orc_rules.specs.Sites.{Site}
use Rattle.orc_rules.specs.Nodes.{Listing, definitions, source}
use Rattle.orc_rules.specs.Timed.{start}
use Rattle.orc_search.specs.Small.{Out, Small}
use Rattle.orc_search.specs.Moves.{SmallDefinition}
use Rattle.orc_search.specs.Seen.{seen}
use Rattle.orc_search.specs.Runs.{IsWell}
use Rattle.orc_search.specs.States.{AreOf}

-- for terms without pending calls: every number is that of a call that is never answered
abbrev pub none_out : ℕ → Out
none_out k = record { site = 0; args = []; rest = Never }

-- a term of a source as a small one
abbrev pub small : Term → Small
small t = seen none_out [] t

-- a definition with its body as a small term
abbrev pub small_definition : Definition → SmallDefinition
small_definition d = record { params = d.params; body = small d.body }

-- those of a program
abbrev pub small_definitions : Listing → List SmallDefinition
small_definitions l = map small_definition (definitions l)

-- a program's definitions and its first moment are as the laws of runs ask
abbrev pub ProgramIsReady : Type 0
ProgramIsReady = (l : Listing) (sites : List Site) (cancels : Bool) → AreOf (small_definitions l) (record { definitions = definitions l; sites = sites; cancels = cancels }) × IsWell (start (source l))
