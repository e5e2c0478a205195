use Rattle.std.proofs.Common.{◌≡◌, ◌<◌, ◌≤◌, ◌+◌, ◌-◌, length, map, drop}
use Rattle.orc_scope.specs.Written.{prunings}
use Rattle.orc_scope.specs.Listed.{terms, term_at}
use Rattle.orc_scope.specs.Pieces.{piece_term, Keeps}
use Rattle.orc_scope.proofs.writer.Writing.prunings.Given as goal

abbrev pub invariant-loop-at : goal.invariant-loop-at
invariant-loop-at l = record {
  low : l.base ≤ l.at;
  high : l.at ≤ length l.self.pieces.items;
  same : l.self.pieces ≡ l.fn.self.pieces;
  within : l.root < length (terms l.self.nodes);
  keeps : Keeps (terms l.fn.self.nodes) (terms l.self.nodes);
  so_far : prunings ((length l.numbers.names) + (l.at - l.base)) (term_at (terms l.self.nodes) l.root) (map (piece_term (terms l.fn.self.nodes)) (drop l.at l.fn.self.pieces.items)) ≡ prunings (length l.numbers.names) (term_at (terms l.fn.self.nodes) l.fn.call) (map (piece_term (terms l.fn.self.nodes)) (drop l.base l.fn.self.pieces.items));
}

abbrev pub decreases-loop-at : goal.decreases-loop-at
decreases-loop-at l = length l.self.pieces.items - l.at
