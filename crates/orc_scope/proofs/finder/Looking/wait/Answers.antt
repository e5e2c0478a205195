use Rattle.std.proofs.Common.{List, reverse, sym, ap, subst, ◌∙◌}
use Rattle.orc_scope.specs.declared.finder.Task.{Task}
use Rattle.orc_scope.specs.Looking.{tasks_of, Fits}
use Rattle.orc_scope.proofs.Tasks.{tasks_push, fits_push}
use Rattle.orc_scope.proofs.finder.Looking.wait.Goals as goal

pub returns-clause-tasks : goal.returns-clause-tasks
returns-clause-tasks c =
    let s = c.args.self.now in
    ap (λ (ts : List Task). tasks_of s.scope (reverse ts)) c.in_ok-push.ensures.items ∙ tasks_push s.scope s.tasks.items _ c.len.ensures

pub returns-clause-fit : goal.returns-clause-fit
returns-clause-fit c =
    let s = c.args.self.now in
    subst (λ (ts : List Task). Fits s.scope (reverse ts)) (sym c.in_ok-push.ensures.items) (fits_push s.scope s.tasks.items _ c.len.ensures c.requires)
