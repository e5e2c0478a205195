-- The tasks that wait.
use Rattle.std.proofs.Common.{◌≡◌, ℕ, List, [], ◌∷◌, ◌++◌, length, take, reverse, Option, Some, refl, sym, ap, subst, ◌∙◌, arith}
use Rattle.std.proofs.lemmas.List.{reverse-append, length-append, take-append-le}
use Rattle.std.proofs.Math.Seq.{take-length}
use Rattle.orc_scope.specs.declared.finder.Task.{Task as CodeTask}
use Rattle.orc_scope.specs.Scope.{bound}
use Rattle.orc_scope.specs.Looking.{Task, task, tasks_of, Fits, bind_of}

-- names that come into scope change no task that waits
pub tasks_more : (scope more : List (List ℕ)) (ts : List CodeTask) → Fits scope ts → tasks_of (scope ++ more) ts ≡ tasks_of scope ts
unfolding tasks_of Fits
tasks_more scope more [] fit = refl
tasks_more scope more (t ∷ ts) fit = rw (take-append-le t.depth scope more fit.0) refl

pub fits_more : (scope more : List (List ℕ)) (ts : List CodeTask) → Fits scope ts → Fits (scope ++ more) ts
unfolding Fits
fits_more scope more [] fit = tt
fits_more scope more (t ∷ ts) fit = (rw (length-append scope more) (omega (arith, fit.0)), rw (take-append-le t.depth scope more fit.0) fit.1)

-- a task more
pub tasks_push : (scope : List (List ℕ)) (ts : List CodeTask) (t : CodeTask) → t.depth ≡ length scope → tasks_of scope (reverse (ts ++ t ∷ [])) ≡ task (bound (bind_of t.bind) scope) t.number ∷ tasks_of scope (reverse ts)
unfolding tasks_of
tasks_push scope ts t e = rw (reverse-append ts (t ∷ []), e, take-length scope) refl

pub fits_push : (scope : List (List ℕ)) (ts : List CodeTask) (t : CodeTask) → t.depth ≡ length scope → Fits scope (reverse ts) → Fits scope (reverse (ts ++ t ∷ []))
unfolding Fits
fits_push scope ts t e fit = rw (reverse-append ts (t ∷ [])) (omega (arith, e), rw (e, take-length scope) fit)

-- the next task is taken
pub tasks_pop : (scope : List (List ℕ)) (old new : List CodeTask) (t : CodeTask) → old ≡ new ++ t ∷ [] → tasks_of scope (reverse old) ≡ task (bound (bind_of t.bind) (take t.depth scope)) t.number ∷ tasks_of (take t.depth scope) (reverse new)
unfolding tasks_of
tasks_pop scope old new t e = rw (e, reverse-append new (t ∷ [])) refl

pub fits_pop : (scope : List (List ℕ)) (old new : List CodeTask) (t : CodeTask) → old ≡ new ++ t ∷ [] → Fits scope (reverse old) → Fits (take t.depth scope) (reverse new)
unfolding Fits
fits_pop scope old new t e fit = (subst (λ (l : List CodeTask). Fits scope l) (ap (λ (l : List CodeTask). reverse l) e ∙ reverse-append new (t ∷ [])) fit).1

-- and its name comes into scope
pub tasks_bind : (scope : List (List ℕ)) (old new : List CodeTask) (t : CodeTask) (x : List ℕ) → old ≡ new ++ t ∷ [] → bind_of t.bind ≡ Some x → Fits scope (reverse old)
    → tasks_of scope (reverse old) ≡ task (take t.depth scope ++ x ∷ []) t.number ∷ tasks_of (take t.depth scope ++ x ∷ []) (reverse new)
tasks_bind scope old new t x e b fit =
    tasks_pop scope old new t e
    ∙ ap (λ (o : Option (List ℕ)). task (bound o (take t.depth scope)) t.number ∷ tasks_of (take t.depth scope) (reverse new)) b
    ∙ ap (λ (l : List Task). task (take t.depth scope ++ x ∷ []) t.number ∷ l) (sym (tasks_more (take t.depth scope) (x ∷ []) (reverse new) (fits_pop scope old new t e fit)))
