use Rattle.std.proofs.Common.{length, ◌-◌, ◌≡◌, map, drop}
use Rattle.orc_syntax.specs.Ast.{text_of}
use Rattle.orc_scope.specs.Scope.{position, position_from}
use Rattle.orc_scope.proofs.names.place_among.Given as goal

abbrev pub invariant-loop-at : goal.invariant-loop-at
invariant-loop-at l = position (map text_of l.names) l.text ≡ position_from l.at (map text_of (drop l.at l.names)) l.text

abbrev pub decreases-loop-at : goal.decreases-loop-at
decreases-loop-at l = length l.names - l.at
