-- Where a number stands in a list that grows, and how often.
use Rattle.std.proofs.Common.{◌≡◌, ◌<◌, ◌+◌, ◌++◌, ◌∷◌, ◌∙◌, ℕ, List, [], Bool, true, cond, false, None, Some, suc, All, arith, count_by, length, length-append, nat_eq, nat_lt, position, slice_index_or, lt-ltb, eq-eqb, ne_eqb, ap, refl}
use Rattle.std.specs.List.{position_or_len}
use Rattle.std.proofs.lemmas.List.{get_or_append_left, get_or_push}
use Rattle.std.proofs.lemmas.List.Quantifiers.{position-Some}
use Rattle.std.proofs.lemmas.List.Sums.{position_or_len_is, sum_by-cons, sum_by_push}

position_is : {X : Type 0} (p : X → Bool) (xs : List X) (at : ℕ) (d : X) → at < length xs → p (slice_index_or xs at d) ≡ true → ((k : ℕ) → k < at → p (slice_index_or xs k d) ≡ false) → position p xs ≡ Some at
position_is p xs at d within passes fails =
    let e = position_or_len_is p xs at d (omega (arith, within)) fails (λ _. passes) in
    let inside : nat_lt (position_or_len p xs) (length xs) ≡ true = lt-ltb (position_or_len p xs) (length xs) (omega (arith, e, within)) in
    ap (λ b. cond b (Some (position_or_len p xs)) None) inside ∙ ap Some e

-- the first place stays the first
pub position_stays : {X : Type 0} (p : X → Bool) (xs : List X) (y : X) (at : ℕ) → position p xs ≡ Some at → position p (xs ++ y ∷ []) ≡ Some at
position_stays p xs y at e =
    let (within, passes, fails) = position-Some p xs at y e in
    let long = length-append xs (y ∷ []) in
    position_is p (xs ++ y ∷ []) at y (omega (arith, long, within)) (ap p (get_or_append_left xs (y ∷ []) y at within) ∙ passes) (λ k lt. ap p (get_or_append_left xs (y ∷ []) y k (omega (arith, lt, within))) ∙ fails k lt)

module _ (n : ℕ) (ns : List ℕ) where
  pub counted_once_more : count_by (nat_eq n) (ns ++ n ∷ []) ≡ count_by (nat_eq n) ns + 1
  counted_once_more = sum_by_push (λ k. cond (nat_eq n k) 1 0) ns n ∙ ap (λ b. count_by (nat_eq n) ns + cond b 1 0) (eq-eqb n n refl)

  pub not_counted : (other : ℕ) → (n ≡ other → ⊥) → count_by (nat_eq n) (ns ++ other ∷ []) ≡ count_by (nat_eq n) ns
  not_counted other ne = sum_by_push (λ k. cond (nat_eq n k) 1 0) ns other ∙ ap (λ b. count_by (nat_eq n) ns + cond b 1 0) (ne_eqb n other ne) ∙ omega arith

  -- above all that stand in the list it stands there for the first time
  pub first_there : All (λ k. k < n) ns → position (nat_eq n) (ns ++ n ∷ []) ≡ Some (length ns)
  first_there below =
      let long = length-append ns (n ∷ []) in
      position_is (nat_eq n) (ns ++ n ∷ []) (length ns) 0 (omega (arith, long)) (ap (nat_eq n) (get_or_push ns n 0 (length ns) refl) ∙ eq-eqb n n refl)
      (λ k lt. ap (nat_eq n) (get_or_append_left ns (n ∷ []) 0 k lt) ∙ ne_eqb n (slice_index_or ns k 0) (λ e. omega (arith, e, below k 0 lt)))

pub not_there : (n : ℕ) (ns : List ℕ) → All (λ k. k < n) ns → count_by (nat_eq n) ns ≡ 0
not_there n [] below = refl
not_there n (m ∷ ms) below =
    sum_by-cons (λ k. cond (nat_eq n k) 1 0) m ms ∙ ap (λ b. cond b 1 0 + count_by (nat_eq n) ms) (ne_eqb n m (λ e. omega (arith, e, below 0 m (omega arith)))) ∙ omega arith
    ∙ not_there n ms (λ k d lt. below (suc k) d (omega (arith, lt)))
