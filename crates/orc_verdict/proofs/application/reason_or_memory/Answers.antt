use Rattle.orc_verdict.proofs.Judging.{stops_refused}
use Rattle.orc_verdict.proofs.application.reason_or_memory.Goals as goal

pub returns-in-Some-clause-why : goal.returns-in-Some-clause-why
returns-in-Some-clause-why c = stops_refused c.args.program.now c.args.answers.now c.args.entry.now c.args.marked.now c.in-Some.reason c.meets_and_leads.ensures c.in-Some.ensures.refused
