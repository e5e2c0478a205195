use Rattle.std.proofs.Common.{◌≡◌, ◌≤◌, ◌+◌, ◌-◌, ◌++◌, length, map, drop}
use Rattle.orc_rules.specs.Nodes.{param_of}
use Rattle.orc_scope.specs.Written.{params}
use Rattle.orc_scope.specs.Listed.{terms}
use Rattle.orc_scope.specs.Pieces.{piece_term}
use Rattle.orc_scope.proofs.writer.Writing.operands.Given as goal

abbrev pub invariant-loop-at : goal.invariant-loop-at
invariant-loop-at l = record {
  low : l.base ≤ l.at;
  high : l.at ≤ length l.self.pieces.items;
  count : length l.operands ≡ l.at - l.base;
  so_far : map param_of l.operands ++ params ((length l.numbers.names) + (l.at - l.base)) (map (piece_term (terms l.self.nodes)) (drop l.at l.self.pieces.items)) ≡ params (length l.numbers.names) (map (piece_term (terms l.self.nodes)) (drop l.base l.self.pieces.items));
}

abbrev pub decreases-loop-at : goal.decreases-loop-at
decreases-loop-at l = length l.self.pieces.items - l.at
