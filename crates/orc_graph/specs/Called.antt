-- A program whose main term is a call of a definition with values.
use Rattle.std.specs.Prelude.{ℕ, ◌<◌, List, [], ◌∷◌, ◌++◌, length, map}
use Rattle.orc_rules.specs.declared.value.Value.{Value}
use Rattle.orc_rules.specs.declared.param.Operand.TheVariants.{Is}
use Rattle.orc_rules.specs.declared.program.TermNode.{TermNode}
use Rattle.orc_rules.specs.declared.program.TermNode.TheVariants.{Site, Call}
use Rattle.orc_rules.specs.Nodes.{Listing, Routine}

-- the same program with one node and one list more, and that node for its main term
abbrev pub with_call : Listing → ℕ → List Value → Listing
with_call l e args = record { nodes = l.nodes ++ Call e (length l.lists) ∷ []; lists = l.lists ++ map Is args ∷ []; routines = l.routines; root = length l.nodes }

-- a call's list of operands is one of the n lists; another node names no list
abbrev pub HasList : ℕ → TermNode → Type 0
HasList n (Site m l) = l < n
HasList n (Call e l) = l < n
HasList n _ = Unit {0}

-- the body of a definition is one of the n nodes
abbrev pub HasBody : ℕ → Routine → Type 0
HasBody n r = r.body < n
