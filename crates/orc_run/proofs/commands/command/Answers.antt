-- What a job comes to is what the status says.
use Rattle.orc_run.proofs.Coming.{below_seven, ended_cut, failed_or_kept}
use Rattle.orc_run.proofs.commands.command.Goals as goal

pub returns-clause-status : goal.returns-clause-status
returns-clause-status g c = below_seven _ _ _ _ _ c.perform.ensures.done (c.perform.ensures.sound c.in-Ok-read_words.ensures.ranges)

pub returns-clause-fault : goal.returns-clause-fault
returns-clause-fault g c = failed_or_kept _ _ _ _ _ c.perform.ensures.done

pub returns-clause-cut : goal.returns-clause-cut
returns-clause-cut g c = ended_cut _ _ _ _ _ c.perform.ensures.done
