use Rattle.orc_rules.proofs.Unique.{refused_for_one, taken_not_refused, verdict_is_one, fault_is_one, verdict_no_fault}
use Rattle.orc_rules.proofs.laws.one_answer.Goals as goal

pub returns-clause-reason : goal.returns-clause-reason
returns-clause-reason c = refused_for_one

pub returns-clause-taken : goal.returns-clause-taken
returns-clause-taken c = taken_not_refused

pub returns-clause-verdict : goal.returns-clause-verdict
returns-clause-verdict c = verdict_is_one

pub returns-clause-fault : goal.returns-clause-fault
returns-clause-fault c = fault_is_one

pub returns-clause-either : goal.returns-clause-either
returns-clause-either c = verdict_no_fault
