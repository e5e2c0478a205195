-- What the code's programs contain.
use Rattle.std.specs.Prelude.{ℕ, List, map}
use Rattle.orc_rules.specs.declared.program.Definition.{Definition}
use Rattle.orc_rules.specs.Nodes.{Terms, Routine, Listing}

-- a definition of the code, as contracts see it
abbrev pub routine_of : Definition → Routine
routine_of d = record { params = d.params.items; body = d.body }

-- a program of the code, as contracts see it: the node of its main term is `root`
abbrev pub listing : Terms → List Definition → ℕ → Listing
listing ts ds root = record { nodes = ts.nodes; lists = ts.lists; routines = map routine_of ds; root = root }
