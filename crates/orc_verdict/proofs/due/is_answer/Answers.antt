use Rattle.orc_rules.specs.Nodes.{code}
use Rattle.orc_checker.proofs.KeptCalls.{answer_found, answer_none}
use Rattle.orc_verdict.proofs.due.is_answer.Goals as goal

pub returns-in-Some : goal.returns-in-Some
returns-in-Some c x l p nu sp = answer_found x (code l) c.args.marked.now p sp c.args.k c.args.answer c.in-Some.called c.in-Some.ensures.call c.gives.result c.gives.ensures

pub returns-in-None : goal.returns-in-None
returns-in-None c x l p nu sp = answer_none x (code l) c.args.marked.now p sp c.args.k c.args.answer c.in-None.ensures.none
