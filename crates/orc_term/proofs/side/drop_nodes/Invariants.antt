use Rattle.std.proofs.Common.{◌≡◌, ℕ, length, take}
use Rattle.orc_term.specs.Dropping.{IsDropped}
use Rattle.orc_term.specs.Sides.{NoNewSides}
use Rattle.orc_term.proofs.side.drop_nodes.Given as goal

abbrev pub invariant-loop-next : goal.invariant-loop-next
invariant-loop-next l = IsDropped l.initial.nodes.items (take l.next l.found.items) l.nodes.items × (length l.nodes.items ≡ length l.initial.nodes.items) × ((n : ℕ) → NoNewSides n l.initial.nodes.items l.nodes.items) × (l.nodes.asked ≡ l.initial.nodes.asked)
