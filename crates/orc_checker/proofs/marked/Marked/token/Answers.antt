use Rattle.std.proofs.Common.{sym, subst, ◌∙◌}
use Rattle.orc_checker.specs.Checker.{State}
use Rattle.orc_checker.specs.Refusing.{NoToken}
use Rattle.orc_checker.proofs.Lookups.{none_so, token_other, token_unfound}
use Rattle.orc_checker.proofs.marked.Marked.token.Goals as goal

pub returns-in_err-at-clause-missing : goal.returns-in_err-at-clause-missing
returns-in_err-at-clause-missing c = none_so _ (subst (λ (z : State). NoToken z.nodes c.args.s) c.self.view_is (token_unfound c.self.inside.nodes.items _ c.self.invariant.2 c.args.s (sym c.in_err-at.was ∙ c.node_by.ensures)))

pub returns-in_err-tip-clause-missing : goal.returns-in_err-tip-clause-missing
returns-in_err-tip-clause-missing c =
    none_so _ (subst (λ (z : State). NoToken z.nodes c.args.s) c.self.view_is
    (token_other c.self.inside.nodes.items _ c.self.invariant.2 c.args.s c.in_ok-at.at c.in_ok-at.node (sym c.in_ok-at.was ∙ c.node_by.ensures) (sym c.in_err-tip.was ∙ c.tip_with.ensures)))
