use Rattle.std.proofs.Common.{subst, sym, true}
use Rattle.std.specs.Prelude.{IfSome}
use Rattle.orc_checker.specs.DueTimes.{IsNoted}
use Rattle.orc_calls.proofs.Notes.{Sets, puts, keeps}
use Rattle.orc_checker.proofs.due.Due.put.Goals as goal

pub returns-in_ok-insert-clause-noted : goal.returns-in_ok-insert-clause-noted
returns-in_ok-insert-clause-noted c = subst (λ o. IfSome o (λ t. IsNoted c.insert.new.self.keys t c.args.node)) (sym c.in-Some.is) (puts c.in-Some.t c.args.node c.self.inside.nodes.keys c.insert.new.self.keys c.in_ok-insert.ensures.updates.0)

pub returns-in_ok-insert-clause-kept : goal.returns-in_ok-insert-clause-kept
returns-in_ok-insert-clause-kept c = keeps c.in-Some.t c.args.node c.args.self.now c.insert.new.self.keys (subst (λ z. Sets c.in-Some.t c.args.node true z c.insert.new.self.keys) c.self.view_is c.in_ok-insert.ensures.updates.0)
