use Rattle.std.specs.Prelude.{◌≡◌, ◌≤◌, length, drop}
use Rattle.orc_env.specs.Parameters.{Adds}
use Rattle.orc_checker.proofs.routines.parameter_scopes.Given as goal

abbrev pub invariant-loop-left : goal.invariant-loop-left
invariant-loop-left l = record {
  within : l.left ≤ length l.params;
  same : length l.params ≡ length l.operands;
  adds : Adds l.cells l.scopes l.scope (drop l.left l.params) (drop l.left l.operands) l.added.items l.outer;
}

abbrev pub decreases-loop-left : goal.decreases-loop-left
decreases-loop-left l = l.left
