-- The journal keeps the entry of each pending call at its place.
use Rattle.std.proofs.Common.{◌≡◌, ◌≤◌, ◌+◌, ℕ, zero, suc, List, [], ◌∷◌, ◌++◌, length, Bool, true, false, not, Some, refl, sym, ap, ◌∙◌, subst, arith, eq-eqb}
use Rattle.std.specs.Prelude.{slice_get}
use Rattle.orc_rules.specs.declared.value.Value.{Value}
use Rattle.orc_rules.specs.declared.entry.Entry.{Entry}
use Rattle.orc_rules.specs.declared.entry.Entry.TheVariants as entry
use Rattle.orc_indexes.specs.Same.{weight, only, None}
use Rattle.orc_ledger_spec.specs.Records.{Records, is_call, is_written}
use Rattle.orc_tables.specs.declared.records.Call.{Call}
use Rattle.orc_indexes.proofs.Weight.{none-weaker}

-- what a journal has it has with more entries behind
call-before : (k : ℕ) (es fs : List Entry) (i : ℕ) → is_call k (slice_get es i) ≡ true → is_call k (slice_get (es ++ fs) i) ≡ true
call-before k [] fs i h = cc h
call-before k (e ∷ es) fs zero h = h
call-before k (e ∷ es) fs (suc i) h = call-before k es fs i h

more-written : (es fs : List Entry) (c : Call) → not (is_written es c) ≡ false → not (is_written (es ++ fs) c) ≡ false
more-written es fs c h = ap not (call-before c.number es fs c.row (yes_not (is_written es c) h))
  where
    yes_not : (b : Bool) → not b ≡ false → b ≡ true
    yes_not true e = refl
    yes_not false e = cc e

-- no calls come but these
pub written-more : (s s' : Records) (es : List Entry) (more : List Call) → s'.journal ≡ s.journal ++ es → ((w : Call → ℕ) → weight w s'.calls ≤ weight w s.calls + weight w more)
    → None (λ c. not (is_written s'.journal c)) more → None (λ c. not (is_written s.journal c)) s.calls → None (λ c. not (is_written s'.journal c)) s'.calls
written-more s s' es more journal calls in_more old =
    let kept : None (λ c. not (is_written s'.journal c)) s.calls = none-weaker (λ c. not (is_written s.journal c)) (λ c. not (is_written s'.journal c)) s.calls old (λ c h. subst (λ j. not (is_written j c) ≡ false) (sym journal) (more-written s.journal es c h)) in
    omega (arith, calls (only (λ c. not (is_written s'.journal c)) (λ c. 1)), in_more, kept)

-- no calls come
pub written-kept : (s s' : Records) (es : List Entry) → s'.journal ≡ s.journal ++ es → ((w : Call → ℕ) → weight w s'.calls ≤ weight w s.calls) → None (λ c. not (is_written s.journal c)) s.calls → None (λ c. not (is_written s'.journal c)) s'.calls
written-kept s s' es journal calls old = written-more s s' es [] journal (λ w. omega (arith, calls w)) refl old

last-call : (k : ℕ) (es : List Entry) (e : Entry) → is_call k (slice_get (es ++ e ∷ []) (length es)) ≡ is_call k (Some e)
last-call k [] e = refl
last-call k (f ∷ es) e = last-call k es e

-- a call whose entry comes last
pub written-last : (s s' : Records) (t m : ℕ) (args : List Value) (c : Call) → s'.journal ≡ s.journal ++ entry.Call t c.number m args ∷ [] → c.row ≡ length s.journal → not (is_written s'.journal c) ≡ false
written-last s s' t m args c journal row =
    ap not (ap (λ j. is_written j c) journal ∙ ap (λ i. is_call c.number (slice_get (s.journal ++ entry.Call t c.number m args ∷ []) i)) row ∙ last-call c.number s.journal (entry.Call t c.number m args) ∙ eq-eqb c.number c.number refl)
