use Rattle.orc_tables.proofs.Ripe.{notes-less, least-beyond, none-beyond}
use Rattle.orc_tables.proofs.pending.due_beyond.Goals as goal

pub returns-then-is_due-clause-due : goal.returns-then-is_due-clause-due
returns-then-is_due-clause-due c = least-beyond c.args.items.now.items c.loop-number.dues c.args.time c.args.beyond c.in-Some.number c.loop-number.invariant c.in-Some.ensures (c.is_due.ensures.due c.if-is_due.true)

pub loop-number-preserved : goal.loop-number-preserved
loop-number-preserved c = notes-less c.args.items.now.items c.loop-number.dues c.forget.new.self c.args.time c.in-Some.number c.loop-number.invariant c.forget.ensures.kept (c.is_due.ensures.other c.if-is_due.false)

pub returns-clause-due : goal.returns-clause-due
returns-clause-due c = none-beyond c.args.items.now.items c.loop-number.dues c.args.time c.args.beyond c.loop-number.invariant c.in_default.ensures
