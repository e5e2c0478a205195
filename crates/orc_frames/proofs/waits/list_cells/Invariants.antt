use Rattle.std.proofs.Common.{◌≡◌, take}
use Rattle.orc_env.specs.Scopes.{env_of}
use Rattle.orc_frames.specs.Awaiting.{cells_among}
use Rattle.orc_frames.specs.Doing.{closed}
use Rattle.orc_frames.proofs.waits.list_cells.Given as goal

abbrev pub invariant-loop-operand : goal.invariant-loop-operand
invariant-loop-operand l = l.listed.items ≡ cells_among (closed (env_of l.cells l.scopes l.scope) (take l.operand-index l.operands))
