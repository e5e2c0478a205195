-- Flags by slot, and notes by cell.
use Rattle.std.proofs.Common.{◌≡◌, ◌≤◌, ◌<◌, ◌+◌, ◌⊎◌, ℕ, zero, suc, List, [], ◌∷◌, ◌++◌, refl, sym, ap, ◌∙◌, arith, inl, inr, Bool, true, false, map, length, Option, Some, None}
use Rattle.std.specs.Prelude.{slice_get, slice_set, slice_index_or, Vec, vec_items, MatchOption}
use Rattle.std.specs.Option.{option_to_list}
use Rattle.orc_rules.specs.Timed.{IsIn}
use Rattle.orc_indexes.specs.Same.{weight}
use Rattle.orc_indexes.specs.Parking.{is_set, notes_at, one}
use Rattle.orc_indexes.specs.declared.wait_index.Note.{Note}
use Rattle.orc_indexes.proofs.Lists.{weight-set}

-- ---- flags

got_set : (bs : List Bool) (k : ℕ) → is_set bs k ≡ true → slice_get bs k ≡ Some true
got_set [] k h = cc h
got_set (b ∷ bs) zero h = ap Some h
got_set (b ∷ bs) (suc k) h = got_set bs k h

got_unset : (bs : List Bool) (k : ℕ) → k < length bs → is_set bs k ≡ false → slice_get bs k ≡ Some false
got_unset [] k lt h = absurd (omega (arith, lt))
got_unset (b ∷ bs) zero lt h = ap Some h
got_unset (b ∷ bs) (suc k) lt h = got_unset bs k (omega (arith, lt)) h

pub count-clear : (bs : List Bool) (k : ℕ) → is_set bs k ≡ true → weight one (slice_set bs k false) + 1 ≡ weight one bs
count-clear bs k h = omega (arith, weight-set one bs k true false (got_set bs k h))

pub count-set : (bs : List Bool) (k : ℕ) → k < length bs → is_set bs k ≡ false → weight one (slice_set bs k true) ≡ weight one bs + 1
count-set bs k lt h = omega (arith, weight-set one bs k false true (got_unset bs k lt h))

pub count-few : (bs : List Bool) → weight one bs ≤ length bs
count-few [] = omega arith
count-few (true ∷ bs) = omega (arith, count-few bs)
count-few (false ∷ bs) = omega (arith, count-few bs)

-- a flag less than there are, where one isn't set
pub count-less : (bs : List Bool) (k : ℕ) → k < length bs → is_set bs k ≡ false → weight one bs + 1 ≤ length bs
count-less [] k lt h = absurd (omega (arith, lt))
count-less (true ∷ bs) zero lt h = cc h
count-less (false ∷ bs) zero lt h = omega (arith, count-few bs)
count-less (true ∷ bs) (suc k) lt h = omega (arith, count-less bs k (omega (arith, lt)) h)
count-less (false ∷ bs) (suc k) lt h = omega (arith, count-less bs k (omega (arith, lt)) h)

pub more-flags : (bs : List Bool) (k : ℕ) → is_set (bs ++ false ∷ []) k ≡ is_set bs k
more-flags [] zero = refl
more-flags [] (suc k) = refl
more-flags (b ∷ bs) zero = refl
more-flags (b ∷ bs) (suc k) = more-flags bs k

pub more-count : (bs : List Bool) → weight one (bs ++ false ∷ []) ≡ weight one bs
more-count [] = refl
more-count (b ∷ bs) = omega (arith, more-count bs)

pub was-set : (bs : List Bool) (k j : ℕ) → is_set (slice_set bs k false) j ≡ true → (j ≡ k → ⊥) × (is_set bs j ≡ true)
was-set [] k j h = cc h
was-set (b ∷ bs) zero zero h = cc h
was-set (b ∷ bs) zero (suc j) h = (λ e. absurd (omega (arith, e)), h)
was-set (b ∷ bs) (suc k) zero h = (λ e. absurd (omega (arith, e)), h)
was-set (b ∷ bs) (suc k) (suc j) h = let r = was-set bs k j h in (λ e. r.0 (omega (arith, e)), r.1)

pub now-set : (bs : List Bool) (k j : ℕ) → is_set (slice_set bs k true) j ≡ true → (j ≡ k) ⊎ (is_set bs j ≡ true)
now-set [] k j h = cc h
now-set (b ∷ bs) zero zero h = inl refl
now-set (b ∷ bs) zero (suc j) h = inr h
now-set (b ∷ bs) (suc k) zero h = inr h
now-set (b ∷ bs) (suc k) (suc j) h = elim (now-set bs k j h) [
  | inl e ↦ inl (ap suc e)
  | inr e ↦ inr e
]

-- ---- notes

module _ {Z : Type 0} where
  pub notes-set : (xs : List (Vec Note Z)) (k : ℕ) (v : Vec Note Z) → k < length xs → notes_at (map vec_items (slice_set xs k v)) k ≡ vec_items v
  notes-set [] k v lt = absurd (omega (arith, lt))
  notes-set (x ∷ xs) zero v lt = refl
  notes-set (x ∷ xs) (suc k) v lt = notes-set xs k v (omega (arith, lt))

  pub notes-elsewhere : (xs : List (Vec Note Z)) (k j : ℕ) (v : Vec Note Z) → (j ≡ k → ⊥) → notes_at (map vec_items (slice_set xs k v)) j ≡ notes_at (map vec_items xs) j
  notes-elsewhere [] k j v off = refl
  notes-elsewhere (x ∷ xs) zero zero v off = absurd (off refl)
  notes-elsewhere (x ∷ xs) zero (suc j) v off = refl
  notes-elsewhere (x ∷ xs) (suc k) zero v off = refl
  notes-elsewhere (x ∷ xs) (suc k) (suc j) v off = notes-elsewhere xs k j v (λ e. off (ap suc e))

  pub notes-got : (xs : List (Vec Note Z)) (k : ℕ) (v : Vec Note Z) → k < length xs → v ≡ slice_index_or xs k v → notes_at (map vec_items xs) k ≡ vec_items v
  notes-got [] k v lt h = absurd (omega (arith, lt))
  notes-got (x ∷ xs) zero v lt h = ap vec_items (sym h)
  notes-got (x ∷ xs) (suc k) v lt h = notes-got xs k v (omega (arith, lt)) h

none_there : (xs : List Note) → length xs ≡ 0 → xs ≡ []
none_there [] h = refl
none_there (x ∷ xs) h = absurd (omega (arith, h))

-- the last note of a list is taken out, where there is one
pub popped : (o : Option Note) (old rest at at' : List Note) (n : ℕ) (B : Type 0) (Q : Note → Type 0) → n ≡ length old → old ≡ rest ++ option_to_list o → MatchOption o ((n ≡ 0) × B) Q → at ≡ old → at' ≡ rest → MatchOption o (at ≡ []) (λ k. at ≡ at' ++ k ∷ [])
popped None old rest at at' n B Q len is h e e' = e ∙ none_there old (omega (arith, len, h.0))
popped (Some k) old rest at at' n B Q len is h e e' = e ∙ is ∙ ap (λ z. z ++ k ∷ []) (sym e')

module _ {Z : Type 0} where
  -- one list grows
  pub notes-grown : (xs : List (Vec Note Z)) (k : ℕ) (v : Vec Note Z) → k < length xs → ((n : Note) → IsIn n (notes_at (map vec_items xs) k) → IsIn n (vec_items v)) → (c : ℕ) (n : Note) → IsIn n (notes_at (map vec_items xs) c) → IsIn n (notes_at (map vec_items (slice_set xs k v)) c)
  notes-grown [] k v lt keeps c n i = absurd (omega (arith, lt))
  notes-grown (x ∷ xs) zero v lt keeps zero n i = keeps n i
  notes-grown (x ∷ xs) zero v lt keeps (suc c) n i = i
  notes-grown (x ∷ xs) (suc k) v lt keeps zero n i = i
  notes-grown (x ∷ xs) (suc k) v lt keeps (suc c) n i = notes-grown xs k v (omega (arith, lt)) keeps c n i

pub in-front : {X : Type 0} (xs ys : List X) (x : X) → IsIn x xs → IsIn x (xs ++ ys)
in-front [] ys x h = elim h [ ]
in-front (z ∷ xs) ys x (inl e) = inl e
in-front (z ∷ xs) ys x (inr h) = inr (in-front xs ys x h)

pub in-end : {X : Type 0} (xs : List X) (x : X) → IsIn x (xs ++ x ∷ [])
in-end [] x = inl refl
in-end (z ∷ xs) x = inr (in-end xs x)

pub in-either : {X : Type 0} (xs : List X) (y x : X) → IsIn x (xs ++ y ∷ []) → IsIn x xs ⊎ (x ≡ y)
in-either [] y x (inl e) = inr e
in-either [] y x (inr h) = elim h [ ]
in-either (z ∷ xs) y x (inl e) = inl (inl e)
in-either (z ∷ xs) y x (inr h) = elim (in-either xs y x h) [
  | inl i ↦ inl (inr i)
  | inr e ↦ inr e
]
