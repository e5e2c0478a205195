use Rattle.std.proofs.Common.{sym, subst, ◌∙◌}
use Rattle.orc_checker.specs.Checker.{State}
use Rattle.orc_checker.specs.Refusing.{NoCall}
use Rattle.orc_checker.proofs.Lookups.{call_made, call_other, call_unfound, call_unmade, none_so}
use Rattle.orc_checker.proofs.marked.Marked.find_call.Goals as goal

pub returns-in_err-called-clause-missing : goal.returns-in_err-called-clause-missing
returns-in_err-called-clause-missing c = none_so _ (subst (λ (z : State). NoCall z.nodes c.args.k) c.self.view_is (call_unmade c.self.inside.nodes.items _ c.self.invariant.2 c.args.k c.in_err-called.ensures.missing))

pub returns-in_err-node-clause-missing : goal.returns-in_err-node-clause-missing
returns-in_err-node-clause-missing c =
    none_so _ (subst (λ (z : State). NoCall z.nodes c.args.k) c.self.view_is
    (call_unfound c.self.inside.nodes.items _ c.self.invariant.2 c.args.k c.in_ok-called.called.node (call_made c.self.inside.rest c.args.k c.in_ok-called.called c.in_ok-called.ensures.made) (sym c.in_err-node.was ∙ c.get.ensures)))

pub returns-then-not-waits_with-clause-missing : goal.returns-then-not-waits_with-clause-missing
returns-then-not-waits_with-clause-missing c =
    subst (λ (z : State). NoCall z.nodes c.args.k) c.self.view_is
    (call_other c.self.inside.nodes.items _ c.self.invariant.2 c.args.k c.in_ok-called.called.node c.in_ok-node.node (call_made c.self.inside.rest c.args.k c.in_ok-called.called c.in_ok-called.ensures.made) (sym c.in_ok-node.was ∙ c.get.ensures) (sym c.waits_with.ensures ∙ c.if-not-waits_with.true))
