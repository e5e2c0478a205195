use Rattle.orc_rules.proofs.Tests.{halted_by_test, can_move_by_test, idle_by, tick_by_test, quiet_by_test, state_by_test}
use Rattle.orc_rules.proofs.Counts.{moves_by_count}
use Rattle.orc_rules.proofs.laws.tests_are_right.Goals as goal

pub returns-clause-halted : goal.returns-clause-halted
returns-clause-halted c = halted_by_test

pub returns-clause-moves : goal.returns-clause-moves
returns-clause-moves c = can_move_by_test

pub returns-clause-count : goal.returns-clause-count
returns-clause-count c = moves_by_count

pub returns-clause-idle : goal.returns-clause-idle
returns-clause-idle c = idle_by

pub returns-clause-tick : goal.returns-clause-tick
returns-clause-tick c = tick_by_test

pub returns-clause-quiet : goal.returns-clause-quiet
returns-clause-quiet c = quiet_by_test

pub returns-clause-state : goal.returns-clause-state
returns-clause-state c = state_by_test
