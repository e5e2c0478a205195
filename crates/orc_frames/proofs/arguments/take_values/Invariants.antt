use Rattle.std.proofs.Common.{◌≡◌, take, Some}
use Rattle.orc_rules.specs.Term.{values_of}
use Rattle.orc_env.specs.Scopes.{env_of}
use Rattle.orc_frames.specs.Doing.{closed}
use Rattle.orc_frames.proofs.arguments.take_values.Given as goal

abbrev pub invariant-loop-operand : goal.invariant-loop-operand
invariant-loop-operand l = values_of (closed (env_of l.cells l.scopes l.scope) (take l.operand-index l.operands)) ≡ Some l.args
