use Rattle.orc_rules.specs.Nodes.{code}
use Rattle.orc_checker.proofs.KeptCalls.{due_found, due_none}
use Rattle.orc_verdict.proofs.due.is_due.Goals as goal

pub returns-in-Some : goal.returns-in-Some
returns-in-Some c x l p nu sp = due_found x (code l) c.args.marked.now p sp c.args.k c.args.answer c.in-Some.called c.in-Some.ensures.call c.is_due_at.result c.now.result (c.now.ensures x l p sp) c.is_due_at.ensures

pub returns-in-None : goal.returns-in-None
returns-in-None c x l p nu sp = due_none x (code l) c.args.marked.now p sp c.args.k c.args.answer c.in-None.ensures.none
