-- The scripts of each case.
use Rattle.orc_run.proofs.Scripting.{all_written}
use Rattle.orc_run.proofs.scripts.all_scripts.Goals as goal

pub returns-in-empty-clause-scripts : goal.returns-in-empty-clause-scripts
returns-in-empty-clause-scripts c = all_written c.args.most c.args.behind.now _ _ _ c.in-empty.len_below c.loop-rest.invariant
