use Rattle.std.proofs.Common.{sym, subst, ◌∙◌}
use Rattle.orc_checker.specs.Checker.{State}
use Rattle.orc_checker.specs.Refusing.{NoPruning}
use Rattle.orc_checker.proofs.Lookups.{none_so, pruning_other, pruning_unfound}
use Rattle.orc_checker.proofs.marked.Marked.find_pruning.Goals as goal

pub returns-in_err-at-clause-missing : goal.returns-in_err-at-clause-missing
returns-in_err-at-clause-missing c = none_so _ (subst (λ (z : State). NoPruning z.nodes c.args.c) c.self.view_is (pruning_unfound c.self.inside.nodes.items _ c.self.invariant.2 c.args.c (sym c.in_err-at.was ∙ c.node_by.ensures)))

pub returns-in_err-left-clause-missing : goal.returns-in_err-left-clause-missing
returns-in_err-left-clause-missing c =
    none_so _ (subst (λ (z : State). NoPruning z.nodes c.args.c) c.self.view_is
    (pruning_other c.self.inside.nodes.items _ c.self.invariant.2 c.args.c c.in_ok-at.at c.in_ok-at.node (sym c.in_ok-at.was ∙ c.node_by.ensures) (sym c.in_err-left.was ∙ c.pruning_with.ensures)))
