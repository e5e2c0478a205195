use Rattle.std.proofs.Common.{◌≡◌, ◌≤◌, ◌++◌, length, drop}
use Rattle.orc_syntax.specs.Backward.{said}
use Rattle.orc_syntax.proofs.printer.push_pieces.Given as goal

-- the pieces from count on are printed
abbrev pub invariant-loop-count : goal.invariant-loop-count
invariant-loop-count l = (l.out.items ≡ l.initial.out.items ++ said (drop l.count l.pieces)) × (l.count ≤ length l.pieces)

abbrev pub decreases-loop-count : goal.decreases-loop-count
decreases-loop-count l = l.count
