use Rattle.std.proofs.Common.{rules, ◌≡◌, ◌++◌, ◌∷◌, [], List, ℕ, take, reverse, sym, ap, subst, ◌∙◌, Option}
use Rattle.std.specs.Borrow.{Bor}
use Rattle.orc_scope.specs.declared.finder.Task.{Task as CodeTask}
use Rattle.orc_scope.specs.Scope.{bound}
use Rattle.orc_scope.specs.Looking.{task, tasks_of, Fits, bind_of}
use Rattle.orc_scope.proofs.Tasks.{tasks_pop, fits_pop, tasks_bind, fits_more}
use Rattle.orc_scope.proofs.finder.Looking.next.Goals as goal

pub returns-in_default-clause-none : goal.returns-in_default-clause-none
unfolding tasks_of
returns-in_default-clause-none c = let e : c.args.self.now.tasks.items ≡ [] = search rules in ap (λ (ts : List CodeTask). tasks_of c.args.self.now.scope (reverse ts)) e

pub returns-in_ok-push-clause-some : goal.returns-in_ok-push-clause-some
returns-in_ok-push-clause-some c =
    let s = c.args.self.now in
    let t = c.in-Some.task in
    let e : c.push.new.self ≡ take t.depth s.scope ++ c.in-Some-bind.text.now ∷ [] = c.in_ok-push.ensures.added ∙ ap (λ (l : List (List ℕ)). l ++ c.in-Some-bind.text.now ∷ []) c.truncate.ensures in
    tasks_bind s.scope s.tasks.items c.pop.new.self.items t c.in-Some-bind.text.now c.in-Some.ensures.items (ap bind_of c.in-Some-bind.is) c.requires
    ∙ ap (λ (l : List (List ℕ)). task l t.number ∷ tasks_of l (reverse c.pop.new.self.items)) (sym e)

pub returns-in_ok-push-clause-fit : goal.returns-in_ok-push-clause-fit
returns-in_ok-push-clause-fit c =
    let s = c.args.self.now in
    let t = c.in-Some.task in
    let e : c.push.new.self ≡ take t.depth s.scope ++ c.in-Some-bind.text.now ∷ [] = c.in_ok-push.ensures.added ∙ ap (λ (l : List (List ℕ)). l ++ c.in-Some-bind.text.now ∷ []) c.truncate.ensures in
    subst (λ (l : List (List ℕ)). Fits l (reverse c.pop.new.self.items)) (sym e) (fits_more (take t.depth s.scope) (c.in-Some-bind.text.now ∷ []) (reverse c.pop.new.self.items) (fits_pop s.scope s.tasks.items c.pop.new.self.items t c.in-Some.ensures.items c.requires))

pub returns-in_default-bind-clause-some : goal.returns-in_default-bind-clause-some
returns-in_default-bind-clause-some c =
    let s = c.args.self.now in
    let t = c.in-Some.task in
    tasks_pop s.scope s.tasks.items c.pop.new.self.items t c.in-Some.ensures.items
    ∙ ap (λ (o : Option (Bor (List ℕ))). task (bound (bind_of o) (take t.depth s.scope)) t.number ∷ tasks_of (take t.depth s.scope) (reverse c.pop.new.self.items)) c.in_default-bind.is
    ∙ ap (λ (l : List (List ℕ)). task l t.number ∷ tasks_of l (reverse c.pop.new.self.items)) (sym c.truncate.ensures)

pub returns-in_default-bind-clause-fit : goal.returns-in_default-bind-clause-fit
returns-in_default-bind-clause-fit c =
    let s = c.args.self.now in
    let t = c.in-Some.task in
    subst (λ (l : List (List ℕ)). Fits l (reverse c.pop.new.self.items)) (sym c.truncate.ensures) (fits_pop s.scope s.tasks.items c.pop.new.self.items t c.in-Some.ensures.items c.requires)
