use Rattle.std.proofs.Common.{sym, subst, ◌∙◌}
use Rattle.orc_checker.specs.Checker.{State}
use Rattle.orc_checker.specs.Refusing.{NoOtherwise}
use Rattle.orc_checker.proofs.Lookups.{none_so, other_other, other_unfound}
use Rattle.orc_checker.proofs.marked.Marked.find_otherwise.Goals as goal

pub returns-in_err-at-clause-missing : goal.returns-in_err-at-clause-missing
returns-in_err-at-clause-missing c = none_so _ (subst (λ (z : State). NoOtherwise z.nodes c.args.s) c.self.view_is (other_unfound c.self.inside.nodes.items _ c.self.invariant.2 c.args.s (sym c.in_err-at.was ∙ c.node_by.ensures)))

pub returns-in_err-left-clause-missing : goal.returns-in_err-left-clause-missing
returns-in_err-left-clause-missing c =
    none_so _ (subst (λ (z : State). NoOtherwise z.nodes c.args.s) c.self.view_is
    (other_other c.self.inside.nodes.items _ c.self.invariant.2 c.args.s c.in_ok-at.at c.in_ok-at.entered (sym c.in_ok-at.was ∙ c.node_by.ensures) (sym c.in_err-left.was ∙ c.otherwise_with.ensures)))
