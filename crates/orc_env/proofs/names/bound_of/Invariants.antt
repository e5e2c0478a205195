use Rattle.orc_env.proofs.Scopes.{LooksFor}
use Rattle.orc_env.proofs.names.bound_of.Given as goal

abbrev pub invariant-loop-step : goal.invariant-loop-step
invariant-loop-step l = LooksFor l.cells l.scopes l.name l.scope l.at l._step
