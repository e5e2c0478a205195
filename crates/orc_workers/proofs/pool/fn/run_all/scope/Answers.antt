use denote.Param.Send.{param_send}
use Rattle.orc_workers.proofs.pool.fn.run_all.scope.Goals as goal

-- what is sent to a worker's thread is what may be sent by the bounds of the call
pub start-requires-send-P : goal.start-requires-send-P
start-requires-send-P g c κs within = param_send 1 _ c.requires.1.1.1.1.1.0

pub start-requires-send-S-Call : goal.start-requires-send-S-Call
start-requires-send-S-Call g c κs within = param_send 5 _ c.requires.1.1.1.1.1.1
