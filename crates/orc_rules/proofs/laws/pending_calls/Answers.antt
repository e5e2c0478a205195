use Rattle.orc_rules.proofs.Counts.{pending_by_marks}
use Rattle.orc_rules.proofs.Pending.{pending_by_names, pending_by_entry}
use Rattle.orc_rules.proofs.DueTimes.{due_by_entry, next_by_list}
use Rattle.orc_rules.proofs.laws.pending_calls.Goals as goal

pub returns-clause-marks : goal.returns-clause-marks
returns-clause-marks c = pending_by_marks

pub returns-clause-names : goal.returns-clause-names
returns-clause-names c = pending_by_names

pub returns-clause-entries : goal.returns-clause-entries
returns-clause-entries c = pending_by_entry

pub returns-clause-due : goal.returns-clause-due
returns-clause-due c = due_by_entry

pub returns-clause-next : goal.returns-clause-next
returns-clause-next c = next_by_list
