-- The test that a call's record has the table's word decides it; and the due times of the records are those of the place.
use Rattle.std.proofs.Common.{◌≡◌, ◌<◌, ℕ, ◌+◌, ◌^◌, List, [], ◌∷◌, refl, sym, ap, ◌∙◌, subst, arith, inl, inr, Bool, true, false, cond, nat_eq, not, map, Some, None}
use Rattle.std.proofs.lemmas.Bool.{eqb-true, ltb-true, ltb-false}
use Rattle.std.proofs.lemmas.Bool.Decides.{Decides-int_eq}
use Rattle.std.specs.Prelude.{◌&&◌, ◌||◌, nat_lt}
use Rattle.orc_rules.specs.declared.value.Value.{Value}
use Rattle.orc_rules.specs.declared.value.Value.TheVariants.{Number, Truth, Signal}
use Rattle.orc_rules.specs.declared.value.Answer.{Answer}
use Rattle.orc_rules.specs.declared.value.Answer.TheVariants.{Value as Gives, Halt}
use Rattle.orc_rules.specs.declared.value.Found.{Found}
use Rattle.orc_rules.specs.declared.value.Found.TheVariants.{After, Never}
use Rattle.orc_rules.specs.Sites.{Site, value_eq, is_scripted}
use Rattle.orc_rules.specs.Timed.{CallMade, IsIn, says_of, number_of}
use Rattle.orc_rules.specs.Numbered.{AreCounted}
use Rattle.orc_rules.proofs.Numbered.{next_not}
use Rattle.orc_ledger_spec.specs.Told.{found_eq, is_nth, is_told, IsTold, AreTold}
use Rattle.orc_calls.specs.Due.{due_by}
use Rattle.orc_tables.specs.declared.records.Call.{Call}
use Rattle.orc_indexes.proofs.Weight.{none-in}

both_true : (a b : Bool) → (a && b) ≡ true → (a ≡ true) × (b ≡ true)
both_true true b h = (refl, h)
both_true false b h = cc h

or_true : (a b : Bool) → a ≡ true → (not a || b) ≡ true → b ≡ true
or_true true b e h = h
or_true false b e h = cc e

value_same : (v w : Value) → value_eq v w ≡ true → v ≡ w
value_same (Number a) (Number b) h = ap Number ((Decides-int_eq a b).0 h)
value_same (Truth true) (Truth true) h = refl
value_same (Truth false) (Truth false) h = refl
value_same (Truth true) (Truth false) h = cc h
value_same (Truth false) (Truth true) h = cc h
value_same Signal Signal h = refl
value_same (Number a) (Truth b) h = cc h
value_same (Number a) Signal h = cc h
value_same (Truth a) (Number b) h = cc h
value_same (Truth a) Signal h = cc h
value_same Signal (Number b) h = cc h
value_same Signal (Truth b) h = cc h

pub found_same : (a b : Found) → found_eq a b ≡ true → a ≡ b
found_same (After (Gives v) d) (After (Gives w) e) h = let k = both_true (value_eq v w) (nat_eq d e) h in λ i. After (Gives (value_same v w k.0 i)) (eqb-true d e k.1 i)
found_same (After Halt d) (After Halt e) h = ap (After Halt) (eqb-true d e h)
found_same Never Never h = refl
found_same (After (Gives v) d) (After Halt e) h = cc h
found_same (After Halt d) (After (Gives w) e) h = cc h
found_same (After (Gives v) d) Never h = cc h
found_same (After Halt d) Never h = cc h
found_same Never (After b e) h = cc h

-- the test says so
pub told_is : (sites : List Site) (made : List CallMade) (c : Call) → is_told sites made c ≡ true → IsTold sites made c
told_is sites [] c h = cc h
told_is sites (m ∷ ms) c h = go (nat_eq c.number m.number) refl h (λ k. told_is sites ms c k)
  where
    go : (b : Bool) → nat_eq c.number (CallMade.number m) ≡ b → cond b (found_eq (says_of sites m) c.found && nat_eq (CallMade.at m) c.made_at && is_nth sites m c.nth) (is_told sites ms c) ≡ true → (is_told sites ms c ≡ true → IsTold sites ms c) → IsTold sites (m ∷ ms) c
    go true e h ih =
        let w = both_true (found_eq (says_of sites m) c.found && nat_eq (CallMade.at m) c.made_at) (is_nth sites m c.nth) h in
        let k = both_true (found_eq (says_of sites m) c.found) (nat_eq (CallMade.at m) c.made_at) w.0 in
        record { by = m; is_made = inl refl; is_k = sym (eqb-true c.number (CallMade.number m) e); says = found_same (says_of sites m) c.found k.0; at = eqb-true (CallMade.at m) c.made_at k.1; nth = λ s. eqb-true (CallMade.nth m) c.nth (or_true (is_scripted sites (CallMade.site m)) (nat_eq (CallMade.nth m) c.nth) s w.1) }
    go false e h ih = let d = ih h in record { by = d.by; is_made = inr d.is_made; is_k = d.is_k; says = d.says; at = d.at; nth = d.nth }

pub told_in : (sites : List Site) (made : List CallMade) (calls : List Call) → AreTold sites made calls → (c : Call) → IsIn c calls → IsTold sites made c
told_in sites made calls h c i = told_is sites made c (yes_not (is_told sites made c) (none-in (λ c. not (is_told sites made c)) calls c h i))
  where
    yes_not : (b : Bool) → not b ≡ false → b ≡ true
    yes_not true h = refl
    yes_not false h = cc h

pub in_numbers : (by : CallMade) (made : List CallMade) → IsIn by made → IsIn (number_of by) (map number_of made)
in_numbers by [] h = elim h [ ]
in_numbers by (c ∷ cs) (inl e) = inl (ap number_of e)
in_numbers by (c ∷ cs) (inr h) = inr (in_numbers by cs h)

-- a number is one call's
pub one_call : (made : List CallMade) → AreCounted (map number_of made) → (a b : CallMade) → IsIn a made → IsIn b made → number_of a ≡ number_of b → a ≡ b
one_call [] num a b i j e = elim i [ ]
one_call (m ∷ ms) num a b (inl h) (inl k) e = h ∙ sym k
one_call (m ∷ ms) num a b (inr h) (inr k) e = one_call ms num.1 a b h k e
one_call (m ∷ ms) num a b (inl h) (inr k) e = absurd (next_not (map number_of ms) (map number_of ms) (number_of m) num.0 num.1 (subst (λ z. IsIn z (map number_of ms)) (sym e ∙ ap number_of h) (in_numbers b ms k)))
one_call (m ∷ ms) num a b (inr h) (inl k) e = absurd (next_not (map number_of ms) (map number_of ms) (number_of m) num.0 num.1 (subst (λ z. IsIn z (map number_of ms)) (e ∙ ap number_of k) (in_numbers a ms h)))

-- ---- due times

pub record IsBy (at : ℕ) (f : Found) (t : ℕ) : Type 0 where
  pub answer : Answer
  pub delay : ℕ
  pub says : f ≡ After answer delay
  pub sum : t ≡ at + delay
  pub fits : t < 2 ^ 64

pub due_is : (at : ℕ) (f : Found) (t : ℕ) → due_by at f ≡ Some t → IsBy at f t
due_is at Never t h = cc h
due_is at (After a d) t h = go (nat_lt (at + d) (2 ^ 64)) refl h
  where
    go : (b : Bool) → nat_lt (at + d) (2 ^ 64) ≡ b → cond b (Some (at + d)) None ≡ Some t → IsBy at (After a d) t
    go true e h = let s : t ≡ at + d = cc h in record { answer = a; delay = d; says = refl; sum = s; fits = subst (λ z. z < 2 ^ 64) (sym s) (ltb-true (at + d) (2 ^ 64) e) }
    go false e h = cc h

pub is_due : (at : ℕ) (f : Found) (t : ℕ) → IsBy at f t → due_by at f ≡ Some t
is_due at f t d = ap (due_by at) d.says ∙ go (nat_lt (at + d.delay) (2 ^ 64)) refl
  where
    go : (b : Bool) → nat_lt (at + d.delay) (2 ^ 64) ≡ b → cond b (Some (at + d.delay)) None ≡ Some t
    go true e = ap Some (sym d.sum)
    go false e = absurd (omega (arith, ltb-false (at + d.delay) (2 ^ 64) e, d.sum, d.fits))
