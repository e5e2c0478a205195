-- What the check of a program answers.
use Rattle.std.specs.Prelude.{◌≡◌, ◌<◌, ◌≤◌, ◌⊎◌, ℕ, List, [], map, Some, Result, Ok, Err}
use Rattle.orc_rules.specs.declared.limits.TheConstants.{MOST_NODES}
use Rattle.orc_rules.specs.Nodes.{Listing, source, definitions}
use Rattle.orc_scope.specs.declared.fault.ScopeFault.{ScopeFault}
use Rattle.orc_scope.specs.declared.fault.FaultKind.TheVariants.{TooMany, Memory}
use Rattle.orc_syntax.specs.Tree.{Source, span_of}
use Rattle.orc_scope.specs.Deep.{StaysShallow}
use Rattle.orc_scope.specs.Lawful.{IsLawful}
use Rattle.orc_scope.specs.Scope.{Known, fault, IsLeast}
use Rattle.orc_scope.specs.Written.{written}
use Rattle.orc_scope.specs.Program.{known_in, program_faults, variables, written_define, sizes}

-- the numbered nodes are those of the written-out terms
pub record IsWrittenOut (known : Known) (names : List (List ℕ)) (s : Source) (l : Listing) : Type 0 where
  pub source : source l ≡ written known names s.main
  pub definitions : definitions l ≡ map (written_define known names) s.definitions

-- the number of the nodes of all written-out terms
abbrev pub nodes_of : List (List ℕ) → Source → ℕ
nodes_of sites s = sizes (known_in sites s) (variables s) s

-- a program without a fault
pub record IsSound (sites : List (List ℕ)) (s : Source) : Type 0 where
  pub faults : program_faults sites s ≡ []
  pub nodes : nodes_of sites s ≤ MOST_NODES

-- no fault but too many nodes
pub record IsTooLarge (sites : List (List ℕ)) (s : Source) (f : ScopeFault) : Type 0 where
  pub faults : program_faults sites s ≡ []
  pub nodes : MOST_NODES < nodes_of sites s
  pub fault : f ≡ fault TooMany (span_of s.main)

-- memory was refused, or this fault is the least, or there is none but too many nodes
abbrev pub Blames : List (List ℕ) → Source → ScopeFault → Type 0
Blames sites s f = (f.kind ≡ Memory) ⊎ (IsLeast (Some f) (program_faults sites s) ⊎ IsTooLarge sites s f)

-- the check answers a program only if it has no fault, as its written-out terms, which are lawful and no deeper than its source allows; any other
-- program gets a fault of its own
abbrev pub Checks : List (List ℕ) → Source → Result Listing ScopeFault → Type 0
Checks sites s (Ok l) = IsSound sites s × IsWrittenOut (known_in sites s) (variables s) s l × IsLawful sites l × StaysShallow s l
Checks sites s (Err f) = Blames sites s f
