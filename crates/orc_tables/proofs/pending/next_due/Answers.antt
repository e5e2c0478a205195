use Rattle.orc_tables.proofs.Ripe.{notes-less, next-first, next-nothing}
use Rattle.orc_tables.proofs.pending.next_due.Goals as goal

pub returns-then-is_due-clause-due : goal.returns-then-is_due-clause-due
returns-then-is_due-clause-due c = next-first c.args.items.now.items c.loop-time.dues c.in-Some.time c.in-Some.number c.loop-time.invariant c.in-Some.ensures (c.is_due.ensures.due c.if-is_due.true)

pub loop-time-preserved : goal.loop-time-preserved
loop-time-preserved c = notes-less c.args.items.now.items c.loop-time.dues c.forget.new.self c.in-Some.time c.in-Some.number c.loop-time.invariant c.forget.ensures.kept (c.is_due.ensures.other c.if-is_due.false)

pub returns-clause-due : goal.returns-clause-due
returns-clause-due c = next-nothing c.args.items.now.items c.loop-time.dues c.loop-time.invariant c.in_default.ensures
