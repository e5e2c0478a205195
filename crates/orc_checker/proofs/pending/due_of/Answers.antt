use Rattle.std.proofs.Common.{◌≡◌, ◌-◌, ℕ, List, Option, Some, None, get_or, arith, ap, sym, ◌∙◌, subst}
use Rattle.std.specs.Prelude.{IfNone}
use Rattle.orc_checker.specs.declared.rest.Called.{Called}
use Rattle.orc_checker.specs.NextDue.{IsTime, IsDueOf}
use Rattle.orc_calls.specs.Due.{due_by}
use Rattle.orc_calls.proofs.Times.{is_due}
use Rattle.orc_term.proofs.Hints.{some_or}
use Rattle.orc_checker.proofs.pending.due_of.Goals as goal

time_never : (c : Called) (o : Option ℕ) → o ≡ due_by c.at c.found → IfNone o ((t : ℕ) → IsTime c t → ⊥)
time_never c (Some u) e = tt
time_never c None e = λ t d. cc (e ∙ is_due c.at c.found d.0 t d.1)

-- a call that is never due
never_of : (calls : List Called) (k : ℕ) (made : Called) (o : Option ℕ) → made ≡ get_or calls (k - 1) made → IfNone o ((t : ℕ) → IsTime made t → ⊥) → IfNone o ((t : ℕ) → IsDueOf calls k t → ⊥)
never_of calls k made (Some u) there never = tt
never_of calls k made None there never = λ t d.
    let i : d.index ≡ k - 1 = omega (arith, d.is_k) in
    never t (subst (λ z. IsTime z t) (sym (some_or calls d.index made d.by d.there) ∙ ap (λ z. get_or calls z made) i ∙ sym there) d.time)

pub returns-in-Some-clause-never : goal.returns-in-Some-clause-never
returns-in-Some-clause-never c =
    never_of c.args.calls.now.items c.args.call _ c.due_time.result (subst (λ z. c.in-Some.made.now ≡ get_or z (c.args.call - 1) c.in-Some.made.now) c.deref.ensures.value c.in-Some.ensures.lookup.1)
    (time_never c.in-Some.made.now c.due_time.result (c.due_time.ensures ∙ ap (λ (z : Called). due_by z.at z.found) c.called-known.ensures))
