use Rattle.std.proofs.Common.{subst}
use Rattle.orc_rules.specs.Nodes.{code}
use Rattle.orc_checker.specs.Checker.{State}
use Rattle.orc_checker.specs.NextDue.{IsNext}
use Rattle.orc_checker.proofs.Ticking.{next_is}
use Rattle.orc_checker.proofs.marked.Marked.next_due.Goals as goal

pub returns-clause-next : goal.returns-clause-next
returns-clause-next c = λ x l p sp. next_is x (code l) c.args.self.now p sp (c.program_is_source.ensures l).0 c.next_due.result (subst (λ (z : State). IsNext z.nodes z.rest.calls c.next_due.result) c.self.view_is c.next_due.ensures.next)
