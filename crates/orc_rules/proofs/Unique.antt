-- One reason, one verdict, one fault.
use Rattle.std.proofs.Common.{◌≡◌, ◌≢◌, ◌<◌, ℕ, suc, List, [], ◌∷◌, refl, sym, ap, ◌∙◌, subst, inl, inr, ◌⊎◌, ⊎_elim, arith}
use Rattle.std.specs.Prelude.{cond, nat_eq, nat_lt}
use Rattle.std.proofs.lemmas.Bool.{ltb-true, ltb-false}
use Rattle.orc_rules.specs.declared.entry.Entry.{Entry}
use Rattle.orc_rules.specs.declared.entry.RuleFault.{RuleFault}
use Rattle.orc_rules.specs.declared.entry.RuleFault.TheVariants.{Mark, Form, Number, Time, Deep, Memory}
use Rattle.orc_rules.specs.declared.entry.RuleFault.TheVariants as reason
use Rattle.orc_rules.specs.Timed.{Context}
use Rattle.orc_rules.specs.Journal.{Place, begin}
use Rattle.orc_rules.specs.Numbered.{IsNumbered}
use Rattle.orc_rules.specs.Refusal.{Meets, IsTaken, IsRefused, depth}
use Rattle.orc_rules.specs.Marked.{erase}
use Rattle.orc_rules.specs.Verdict.{AreTaken, IsAt, FaultFrom}
use Rattle.orc_rules.specs.Unique.{RefusedForOne, TakenNotRefused, VerdictIsOne, FaultIsOne, VerdictNoFault}
use Rattle.orc_rules.proofs.Numbered.{entered_numbered, begin_numbered}
use Rattle.orc_rules.proofs.Determined.{leads_one}
use Rattle.orc_rules.proofs.Refusal.{meets_and_leads}
use Rattle.orc_rules.proofs.Tests.{at_one}
use Rattle.orc_rules.proofs.Late.{from_cond}

-- the place of a reason in the order of the tests
abbrev rank : RuleFault → ℕ
rank reason.Cancel = 0
rank Mark = 1
rank Form = 2
rank Number = 3
rank reason.Answer = 4
rank Time = 5
rank reason.Halted = 6
rank Deep = 7
rank Memory = 8

abbrev reason_at : ℕ → RuleFault
reason_at n = cond (nat_eq n 0) reason.Cancel (cond (nat_eq n 1) Mark (cond (nat_eq n 2) Form (cond (nat_eq n 3) Number (cond (nat_eq n 4) reason.Answer (cond (nat_eq n 5) Time (cond (nat_eq n 6) reason.Halted (cond (nat_eq n 7) Deep Memory)))))))

at_rank : (r : RuleFault) → reason_at (rank r) ≡ r
at_rank reason.Cancel = refl
at_rank Mark = refl
at_rank Form = refl
at_rank Number = refl
at_rank reason.Answer = refl
at_rank Time = refl
at_rank reason.Halted = refl
at_rank Deep = refl
at_rank Memory = refl

rank_same : (r r' : RuleFault) → rank r ≡ rank r' → r ≡ r'
rank_same r r' e = sym (at_rank r) ∙ (ap reason_at e ∙ at_rank r')

rank_firm : (r : RuleFault) → r ≢ Memory → rank r < 8
rank_firm reason.Cancel n = omega arith
rank_firm Mark n = omega arith
rank_firm Form n = omega arith
rank_firm Number n = omega arith
rank_firm reason.Answer n = omega arith
rank_firm Time n = omega arith
rank_firm reason.Halted n = omega arith
rank_firm Deep n = omega arith
rank_firm Memory n = absurd (n refl)

either : (m n : ℕ) → (m < n) ⊎ ((m ≡ n) ⊎ (n < m))
either m n =
    from_cond (nat_lt m n) ((m < n) ⊎ ((m ≡ n) ⊎ (n < m))) (λ h. inl (ltb-true m n h))
    (λ h. inr (from_cond (nat_lt n m) ((m ≡ n) ⊎ (n < m)) (λ k. inr (ltb-true n m k)) (λ k. inl (omega (arith, ltb-false m n h, ltb-false n m k)))))

module _ (x : Context) (p : Place) (e : Entry) where
  -- the conditions of the first n reasons are met
  abbrev AreMet : ℕ → Type 0
  AreMet n = (r : RuleFault) → rank r < n → Meets x p e r

  none : AreMet 0
  none r lt = absurd (omega (arith, lt))

  more : (n : ℕ) → AreMet n → (r : RuleFault) → rank r ≡ n → Meets x p e r → AreMet (suc n)
  more n h r is m r' lt = ⊎_elim (λ y. h r' y) (λ y. ⊎_elim (λ z. subst (Meets x p e) (rank_same r r' (is ∙ sym z)) m) (λ z. absurd (omega (arith, z, lt))) y) (either (rank r') n)

  met_before : (r : RuleFault) → IsRefused x p e r → r ≢ Memory → AreMet (rank r)
  met_before reason.Cancel h n = none
  met_before Mark h n = more 0 none reason.Cancel refl h.0
  met_before Form h n = more 1 (more 0 none reason.Cancel refl h.0.0) Mark refl h.0.1
  met_before Number h n = more 2 (more 1 (more 0 none reason.Cancel refl h.0.0) Mark refl h.0.1) Form refl h.0.2
  met_before reason.Answer h n = more 3 (more 2 (more 1 (more 0 none reason.Cancel refl h.0.0) Mark refl h.0.1) Form refl h.0.2) Number refl h.0.3
  met_before Time h n = more 4 (more 3 (more 2 (more 1 (more 0 none reason.Cancel refl h.0.0) Mark refl h.0.1) Form refl h.0.2) Number refl h.0.3) reason.Answer refl h.0.4
  met_before reason.Halted h n = more 5 (more 4 (more 3 (more 2 (more 1 (more 0 none reason.Cancel refl h.0.0) Mark refl h.0.1) Form refl h.0.2) Number refl h.0.3) reason.Answer refl h.0.4) Time refl h.0.5
  met_before Deep h n = λ r lt. (meets_and_leads x p e).1 h.0 h.1 r
  met_before Memory h n = absurd (n refl)

  -- the reason's own condition is broken
  broken : (r : RuleFault) → IsRefused x p e r → rank r < 7 → Meets x p e r → ⊥
  broken reason.Cancel h lt = h.1
  broken Mark h lt = h.1
  broken Form h lt = h.1
  broken Number h lt = h.1
  broken reason.Answer h lt = h.1
  broken Time h lt = h.1
  broken reason.Halted h lt = h.1
  broken Deep h lt = λ m. omega (arith, lt)
  broken Memory h lt = λ m. omega (arith, lt)

  not_before : (r r' : RuleFault) → r' ≢ Memory → IsRefused x p e r → IsRefused x p e r' → rank r < rank r' → ⊥
  not_before r r' n h h' lt = broken r h (omega (arith, lt, rank_firm r' n)) (met_before r' h' n r lt)

pub refused_for_one : RefusedForOne
refused_for_one x p e r r' n n' h h' =
    ⊎_elim (λ y. absurd (not_before x p e r r' n' h h' y)) (λ y. ⊎_elim (λ z. rank_same r r' z) (λ z. absurd (not_before x p e r' r n h' h z)) y) (either (rank r) (rank r'))

deep_not : (x : Context) (p : Place) (e : Entry) (q : Place) (r : RuleFault) → IsNumbered p → IsTaken x p e q → IsRefused x p e r → r ≢ Memory → (rank r < 7) ⊎ (rank r ≡ 7) → ⊥
deep_not x p e q r num t h n (inl lt) = broken x p e r h lt ((meets_and_leads x p e).1 q t.0 r)
deep_not x p e q r num t h n (inr is) = too_deep (subst (IsRefused x p e) (rank_same r Deep is) h)
  where
    too_deep : IsRefused x p e Deep → ⊥
    too_deep (q', lead, deep) = omega (arith, t.1, deep, ap (λ (w : Place). depth (erase w.marked)) (leads_one x p e q' q num lead t.0))

pub taken_not_refused : TakenNotRefused
taken_not_refused x p e q r num n t h = deep_not x p e q r num t h n (firm (rank_firm r n))
  where
    firm : rank r < 8 → (rank r < 7) ⊎ (rank r ≡ 7)
    firm lt = ⊎_elim (λ y. inl y) (λ y. ⊎_elim (λ z. inr z) (λ z. absurd (omega (arith, lt, z))) y) (either (rank r) 7)

-- entries that are taken lead to one place
taken_one : (x : Context) (p : Place) (es : List Entry) (q r : Place) → IsNumbered p → AreTaken x p es q → AreTaken x p es r → q ≡ r
taken_one x p [] q r num h k = sym h ∙ k
taken_one x p (e ∷ es) q r num (mid, t, h) (mid', t', h') =
    taken_one x mid es q r (entered_numbered x p e mid t.0.1 num) h (subst (λ w. AreTaken x w es r) (leads_one x p e mid' mid num t'.0 t.0) h')

pub verdict_is_one : VerdictIsOne
verdict_is_one x t es state state' now now' v w =
    let e = taken_one x (begin t) es v.end w.end (begin_numbered t) v.taken w.taken in
    (at_one x w.end state state' (subst (λ p. IsAt x p state) e v.reached) w.reached, v.time ∙ (ap (λ (p : Place). p.now) e ∙ sym w.time))

pub verdict_no_fault : VerdictNoFault
verdict_no_fault x t es state now at why n v f = no_fault (begin t) 1 es (begin_numbered t) v.taken f
  where
    no_fault : (p : Place) (k : ℕ) (es : List Entry) → IsNumbered p → AreTaken x p es v.end → FaultFrom x p k es at why → ⊥
    no_fault p k [] num h (a, b, due) = due (ap (λ (w : Place). w.to_cancel) h ∙ v.paid)
    no_fault p k (e ∷ es) num (mid, h, rest) (inl (a, r)) = taken_not_refused x p e mid why num n h r
    no_fault p k (e ∷ es) num (mid, h, rest) (inr (mid', h', f)) =
        no_fault mid (suc k) es (entered_numbered x p e mid h.0.1 num) rest (subst (λ w. FaultFrom x w (suc k) es at why) (leads_one x p e mid' mid num h'.0 h.0) f)

pub fault_is_one : FaultIsOne
fault_is_one x t es at at' why why' n n' f g = one_fault (begin t) 1 es (begin_numbered t) f g
  where
    one_fault : (p : Place) (k : ℕ) (es : List Entry) → IsNumbered p → FaultFrom x p k es at why → FaultFrom x p k es at' why' → (at ≡ at') × (why ≡ why')
    one_fault p k [] num (a, b, due) (a', b', due') = (a ∙ sym a', b ∙ sym b')
    one_fault p k (e ∷ es) num (inl (a, r)) (inl (a', r')) = (a ∙ sym a', refused_for_one x p e why why' n n' r r')
    one_fault p k (e ∷ es) num (inl (a, r)) (inr (mid, h, g)) = absurd (taken_not_refused x p e mid why num n h r)
    one_fault p k (e ∷ es) num (inr (mid, h, f)) (inl (a, r)) = absurd (taken_not_refused x p e mid why' num n' h r)
    one_fault p k (e ∷ es) num (inr (mid, h, f)) (inr (mid', h', g)) =
        one_fault mid (suc k) es (entered_numbered x p e mid h.0.1 num) f (subst (λ w. FaultFrom x w (suc k) es at' why') (leads_one x p e mid' mid num h'.0 h.0) g)
