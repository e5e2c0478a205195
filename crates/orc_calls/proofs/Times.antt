-- Due times.
use Rattle.std.proofs.Common.{◌≡◌, ◌<◌, ◌+◌, ◌^◌, ℕ, Some, None, refl, sym, ap, ◌∙◌, subst, arith, Bool, true, false, cond}
use Rattle.std.specs.Prelude.{nat_lt}
use Rattle.std.proofs.lemmas.Bool.{ltb-true, ltb-false}
use Rattle.orc_rules.specs.declared.value.Answer.{Answer}
use Rattle.orc_rules.specs.declared.value.Found.{Found}
use Rattle.orc_rules.specs.declared.value.Found.TheVariants.{After, Never}
use Rattle.orc_calls.specs.Due.{due_by, DueNow}

-- a call with a due time is due then, with some answer
pub due_is : (made_at : ℕ) (f : Found) (t : ℕ) → due_by made_at f ≡ Some t → (b : Answer) × DueNow made_at f b t
due_is made_at Never t h = cc h
due_is made_at (After a d) t h = go (nat_lt (made_at + d) (2 ^ 64)) refl h
  where
    go : (b : Bool) → nat_lt (made_at + d) (2 ^ 64) ≡ b → cond b (Some (made_at + d)) None ≡ Some t → (e : Answer) × DueNow made_at (After a d) e t
    go true e h = let s : t ≡ made_at + d = cc h in (a, record { delay = d; says = refl; sum = s; fits = subst (λ z. z < 2 ^ 64) (sym s) (ltb-true (made_at + d) (2 ^ 64) e) })
    go false e h = cc h

-- and a call that is due at a time has that due time
pub is_due : (made_at : ℕ) (f : Found) (a : Answer) (t : ℕ) → DueNow made_at f a t → due_by made_at f ≡ Some t
is_due made_at f a t d = ap (due_by made_at) d.says ∙ go (nat_lt (made_at + d.delay) (2 ^ 64)) refl
  where
    go : (b : Bool) → nat_lt (made_at + d.delay) (2 ^ 64) ≡ b → cond b (Some (made_at + d.delay)) None ≡ Some t
    go true e = ap Some (sym d.sum)
    go false e = absurd (omega (arith, ltb-false (made_at + d.delay) (2 ^ 64) e, d.sum, d.fits))
