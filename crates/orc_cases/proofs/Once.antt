-- Each combination is a way once.
use Rattle.std.proofs.Common.{◌≡◌, ◌≢◌, ℕ, zero, suc, ◌+◌, ◌<◌, ◌≤◌, Bool, true, false, cond, List, [], ◌∷◌, ◌++◌, refl, sym, ap, ◌∙◌, subst, inl, inr, arith}
use Rattle.std.specs.Prelude.{filter, not, ◌&&◌, nat_eq, max}
use Rattle.std.specs.List.{flat_map, range_with_len}
use Rattle.std.specs.List.Sorted.{IsPermutation}
use Rattle.std.proofs.lemmas.Bool.Decides.{eqb_tells}
use Rattle.std.proofs.lemmas.List.Sorted.{IsPermutation-refl, IsPermutation-trans, IsPermutation-append, IsPermutation-append_right, IsPermutation-filter_both}
use Rattle.std.proofs.Math.Nat.{le-max_left, le-max_right}
use Rattle.orc_cases.specs.Ways.{Way, lines_off, calls_off, is_off_by, most, up_to, in_order}
use Rattle.orc_cases.proofs.Lists.{same_flat_map}

same_permuted : {X : Type 0} (xs ys zs : List X) → ys ≡ zs → IsPermutation xs ys → IsPermutation xs zs
same_permuted {X} xs ys zs e p = let P : List X → Type 0 = λ us. IsPermutation xs us in subst P e p

each_permuted : {X Y : Type 0} (f g : X → List Y) → ((x : X) → IsPermutation (f x) (g x)) → (xs : List X) → IsPermutation (flat_map f xs) (flat_map g xs)
each_permuted f g h [] = IsPermutation-refl []
each_permuted f g h (x ∷ xs) = IsPermutation-append (f x) (g x) (flat_map f xs) (flat_map g xs) (h x) (each_permuted f g h xs)

-- ---- in turn by a key

module _ {X : Type 0} (k : X → ℕ) where
  -- keys are from one number on, of so many
  AreFrom : ℕ → ℕ → List X → Type 0
  AreFrom a n [] = Unit {0}
  AreFrom a n (x ∷ xs) = (a ≤ k x) × (k x < a + n) × AreFrom a n xs

  no_others : (a : ℕ) (xs : List X) → AreFrom a 0 xs → xs ≡ []
  unfolding AreFrom
  no_others a [] h = refl
  no_others a (x ∷ xs) h = absurd (let le = h.0 in let lt = h.1 in omega arith)

  abbrev has : ℕ → X → Bool
  has a x = nat_eq (k x) a

  abbrev has_other : ℕ → X → Bool
  has_other a x = not (nat_eq (k x) a)

  keep_if : (b : Bool) (a n : ℕ) (x : X) (ys : List X) → (b ≡ true → (a ≤ k x) × (k x < a + n)) → AreFrom a n ys → AreFrom a n (cond b (x ∷ ys) ys)
  unfolding AreFrom
  keep_if true a n x ys here h = let p = here refl in (p.0, p.1, h)
  keep_if false a n x ys here h = h

  raise : (a n : ℕ) (x : X) → a ≤ k x → k x < a + suc n → has_other a x ≡ true → (a + 1 ≤ k x) × (k x < a + 1 + n)
  raise a n x le lt e =
      elim (eqb_tells (k x) a) [
        | inl same ↦ absurd (let d : not true ≡ true = ap not (sym same.0) ∙ e in cc)
        | inr other ↦ (let ne : k x ≢ a = other.1 in (omega arith, omega arith))
      ]

  later : (a n : ℕ) (xs : List X) → AreFrom a (suc n) xs → AreFrom (a + 1) n (filter (has_other a) xs)
  unfolding AreFrom
  later a n [] h = tt
  later a n (x ∷ xs) h = keep_if (has_other a x) (a + 1) n x (filter (has_other a) xs) (raise a n x h.0 h.1) (later a n xs h.2)

  both_if : (b c : Bool) (x : X) (ys zs : List X) (p : X → Bool) → p x ≡ b → (b ≡ true → c ≡ true) → filter p ys ≡ zs → filter p (cond c (x ∷ ys) ys) ≡ cond b (x ∷ zs) zs
  both_if true true x ys zs p e h so = ap (λ (v : Bool). cond v (x ∷ filter p ys) (filter p ys)) e ∙ ap (λ (us : List X). x ∷ us) so
  both_if true false x ys zs p e h so = let d : false ≡ true = h refl in cc
  both_if false true x ys zs p e h so = ap (λ (v : Bool). cond v (x ∷ filter p ys) (filter p ys)) e ∙ so
  both_if false false x ys zs p e h so = so

  is_other : (a i : ℕ) (x : X) → i ≢ a → has i x ≡ true → has_other a x ≡ true
  is_other a i x ne e =
      elim (eqb_tells (k x) a) [
        | inl same ↦ elim (eqb_tells (k x) i) [
          | inl here ↦ absurd (ne (sym here.1 ∙ same.1))
          | inr not_here ↦ (let d : false ≡ true = sym not_here.0 ∙ e in cc)
        ]
        | inr other ↦ ap not other.0
      ]

  still_there : (a i : ℕ) → i ≢ a → (xs : List X) → filter (has i) (filter (has_other a) xs) ≡ filter (has i) xs
  still_there a i ne [] = refl
  still_there a i ne (x ∷ xs) = both_if (has i x) (has_other a x) x (filter (has_other a) xs) (filter (has i) xs) (has i) refl (is_other a i x ne) (still_there a i ne xs)

  all_there : (a b n : ℕ) → a < b → (xs : List X) → flat_map (λ i. filter (has i) (filter (has_other a) xs)) (range_with_len b n) ≡ flat_map (λ i. filter (has i) xs) (range_with_len b n)
  all_there a b zero lt xs = refl
  all_there a b (suc n) lt xs =
      ap (λ (us : List X). us ++ flat_map (λ (i : ℕ). filter (has i) (filter (has_other a) xs)) (range_with_len (b + 1) n)) (still_there a b (let ne : b ≢ a = omega arith in ne) xs)
      ∙ ap (λ (us : List X). filter (has b) xs ++ us) (all_there a (b + 1) n (omega arith) xs)

  in_turn_from : (n a : ℕ) (xs : List X) → AreFrom a n xs → IsPermutation xs (flat_map (λ i. filter (has i) xs) (range_with_len a n))
  in_turn_from zero a xs h = same_permuted xs xs [] (no_others a xs h) (IsPermutation-refl xs)
  in_turn_from (suc n) a xs h =
      IsPermutation-trans xs (filter (has a) xs ++ filter (has_other a) xs) (filter (has a) xs ++ flat_map (λ (i : ℕ). filter (has i) xs) (range_with_len (a + 1) n))
      (IsPermutation-filter_both (has a) (has_other a) (λ (x : X). refl) xs)
      (IsPermutation-append_right (filter (has a) xs) (filter (has_other a) xs) (flat_map (λ (i : ℕ). filter (has i) xs) (range_with_len (a + 1) n))
      (same_permuted (filter (has_other a) xs) _ _ (all_there a (a + 1) n (omega arith) xs) (in_turn_from n (a + 1) (filter (has_other a) xs) (later a n xs h))))

  all_from : (m : ℕ) (xs : List X) → most k xs ≤ m → AreFrom 0 (suc m) xs
  unfolding AreFrom
  all_from m [] le = tt
  all_from m (x ∷ xs) le =
      let one : k x ≤ max (k x) (most k xs) = le-max_left (k x) (most k xs) in
      let two : most k xs ≤ max (k x) (most k xs) = le-max_right (k x) (most k xs) in
      (omega arith, omega arith, all_from m xs (omega arith))

  filtered_if : (b : Bool) (a n : ℕ) (x : X) (ys : List X) → a ≤ k x → k x < a + n → AreFrom a n ys → AreFrom a n (cond b (x ∷ ys) ys)
  unfolding AreFrom
  filtered_if true a n x ys le lt h = (le, lt, h)
  filtered_if false a n x ys le lt h = h

  filtered_from : (p : X → Bool) (a n : ℕ) (xs : List X) → AreFrom a n xs → AreFrom a n (filter p xs)
  unfolding AreFrom
  filtered_from p a n [] h = tt
  filtered_from p a n (x ∷ xs) h = filtered_if (p x) a n x (filter p xs) h.0 h.1 (filtered_from p a n xs h.2)

  in_turn : (xs : List X) → IsPermutation xs (flat_map (λ i. filter (has i) xs) (up_to (most k xs)))
  in_turn xs = in_turn_from (suc (most k xs)) 0 xs (all_from (most k xs) xs (let le : most k xs ≤ most k xs = omega arith in le))

  -- also of those of them that pass
  some_in_turn : (p : X → Bool) (xs : List X) → IsPermutation (filter p xs) (flat_map (λ i. filter (has i) (filter p xs)) (up_to (most k xs)))
  some_in_turn p xs = in_turn_from (suc (most k xs)) 0 (filter p xs) (filtered_from p 0 (suc (most k xs)) xs (all_from (most k xs) xs (let le : most k xs ≤ most k xs = omega arith in le)))

-- ---- by both

and_if : {X : Type 0} (b c : Bool) (x : X) (ys zs : List X) (q : X → Bool) → q x ≡ c → filter q ys ≡ zs → filter q (cond b (x ∷ ys) ys) ≡ cond (b && c) (x ∷ zs) zs
and_if {X} true true x ys zs q e so = ap (λ (v : Bool). cond v (x ∷ filter q ys) (filter q ys)) e ∙ ap (λ (us : List X). x ∷ us) so
and_if {X} true false x ys zs q e so = ap (λ (v : Bool). cond v (x ∷ filter q ys) (filter q ys)) e ∙ so
and_if false c x ys zs q e so = so

filter_both : {X : Type 0} (p q : X → Bool) (xs : List X) → filter q (filter p xs) ≡ filter (λ x. p x && q x) xs
filter_both p q [] = refl
filter_both p q (x ∷ xs) = and_if (p x) (q x) x (filter p xs) (filter (λ y. p y && q y) xs) q refl (filter_both p q xs)

pub once : (ws : List Way) → IsPermutation ws (in_order ws)
unfolding in_order
once ws =
    IsPermutation-trans ws (flat_map (λ (lines : ℕ). filter (λ (w : Way). nat_eq (lines_off w) lines) ws) (up_to (most lines_off ws))) _
    (in_turn lines_off ws)
    (each_permuted (λ (lines : ℕ). filter (λ (w : Way). nat_eq (lines_off w) lines) ws) (λ (lines : ℕ). flat_map (λ (calls : ℕ). filter (is_off_by lines calls) ws) (up_to (most calls_off ws)))
    (λ (lines : ℕ). same_permuted (filter (λ (w : Way). nat_eq (lines_off w) lines) ws) _ _
    (same_flat_map (λ (calls : ℕ). filter (λ (w : Way). nat_eq (calls_off w) calls) (filter (λ (w : Way). nat_eq (lines_off w) lines) ws)) (λ (calls : ℕ). filter (is_off_by lines calls) ws)
    (λ (calls : ℕ). filter_both (λ (w : Way). nat_eq (lines_off w) lines) (λ (w : Way). nat_eq (calls_off w) calls) ws) (up_to (most calls_off ws)))
    (some_in_turn calls_off (λ (w : Way). nat_eq (lines_off w) lines) ws))
    (up_to (most lines_off ws)))
