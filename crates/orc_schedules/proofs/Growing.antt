-- Tables to which more is added.
use Rattle.std.proofs.Common.{◌≡◌, ◌<◌, ◌≤◌, ℕ, zero, suc, List, [], ◌∷◌, ◌++◌, length, map, Option, Some, None, ◌⊎◌, get_or, refl, sym, ap, ◌∙◌, subst, inl, inr, arith, length-append}
use Rattle.std.proofs.lemmas.List.{get_or_append_left, append-nil, append_assoc}
use Rattle.std.specs.Prelude.{slice_get}
use Rattle.orc_rules.specs.Timed.{IsIn}
use Rattle.orc_schedules.specs.Growing.{Grows}

abbrev pub or_else : {X : Type 0} → X → Option X → X
or_else d (Some z) = z
or_else d None = d

module _ {X : Type 0} where
  pub grows_self : (xs : List X) → Grows xs xs
  grows_self xs = ([], sym (append-nil xs))

  pub grows_both : (xs ys zs : List X) → Grows xs ys → Grows ys zs → Grows xs zs
  grows_both xs ys zs a b = (a.0 ++ b.0, b.1 ∙ ap (λ (l : List X). l ++ b.0) a.1 ∙ append_assoc xs a.0 b.0)

  get_front : (xs more : List X) (i : ℕ) (x : X) → slice_get xs i ≡ Some x → slice_get (xs ++ more) i ≡ Some x
  get_front [] more i x h = cc h
  get_front (y ∷ xs) more zero x h = h
  get_front (y ∷ xs) more (suc i) x h = get_front xs more i x h

  pub grows_get : (xs ys : List X) (i : ℕ) (x : X) → Grows xs ys → slice_get xs i ≡ Some x → slice_get ys i ≡ Some x
  grows_get xs ys i x g h = ap (λ (l : List X). slice_get l i) g.1 ∙ get_front xs g.0 i x h

  pub grows_len : (xs ys : List X) → Grows xs ys → length xs ≤ length ys
  grows_len xs ys g = let e = ap length g.1 in omega (arith, e, length-append xs g.0)

  pub grows_or : (xs ys : List X) (i : ℕ) (d : X) → Grows xs ys → i < length xs → get_or ys i d ≡ get_or xs i d
  grows_or xs ys i d g lt = ap (λ (l : List X). get_or l i d) g.1 ∙ get_or_append_left xs g.0 d i lt

  pub get_there : (xs : List X) (i : ℕ) (d : X) → i < length xs → slice_get xs i ≡ Some (get_or xs i d)
  get_there [] i d lt = absurd (omega (arith, lt))
  get_there (x ∷ xs) zero d lt = refl
  get_there (x ∷ xs) (suc i) d lt = get_there xs i d (omega (arith, lt))

  -- what stands before the end of the shorter list stood there
  pub get_back : (xs ys : List X) (i : ℕ) (y : X) → Grows xs ys → i < length xs → slice_get ys i ≡ Some y → slice_get xs i ≡ Some y
  get_back xs ys i y g lt h = get_there xs i y lt ∙ sym (grows_get xs ys i _ g (get_there xs i y lt)) ∙ h

  pub get_or_is : (xs : List X) (i : ℕ) (x d : X) → slice_get xs i ≡ Some x → get_or xs i d ≡ x
  get_or_is [] i x d h = cc h
  get_or_is (y ∷ xs) zero x d h = ap (or_else y) h
  get_or_is (y ∷ xs) (suc i) x d h = get_or_is xs i x d h

  pub none_get : (xs : List X) (i : ℕ) (x : X) → xs ≡ [] → slice_get xs i ≡ Some x → ⊥
  none_get xs i x none h = let e : slice_get [] i ≡ Some x = ap (λ (l : List X). slice_get l i) (sym none) ∙ h in cc e

  pub none_of_len : (xs : List X) → length xs ≡ 0 → xs ≡ []
  none_of_len [] e = refl
  none_of_len (x ∷ xs) e = cc e

  pub in_last : (xs : List X) (x : X) → IsIn x (xs ++ x ∷ [])
  in_last [] x = inl refl
  in_last (y ∷ xs) x = inr (in_last xs x)

  in_front : (x : X) (xs ys : List X) → IsIn x xs → IsIn x (xs ++ ys)
  in_front x [] ys is = elim is [ ]
  in_front x (y ∷ xs) ys (inl same) = inl same
  in_front x (y ∷ xs) ys (inr later) = inr (in_front x xs ys later)

  pub in_grows : (x : X) (xs ys : List X) → Grows xs ys → IsIn x xs → IsIn x ys
  in_grows x xs ys g is = subst (λ (l : List X). IsIn x l) (sym g.1) (in_front x xs g.0 is)

  pub get_in : (xs : List X) (i : ℕ) (x : X) → slice_get xs i ≡ Some x → IsIn x xs
  get_in [] i x h = cc h
  get_in (y ∷ xs) zero x h = inl (sym (ap (or_else y) h))
  get_in (y ∷ xs) (suc i) x h = inr (get_in xs i x h)

  pub in_get : (x : X) (xs : List X) → IsIn x xs → (i : ℕ) × (slice_get xs i ≡ Some x)
  in_get x [] is = elim is [ ]
  in_get x (y ∷ xs) (inl same) = (0, ap Some (sym same))
  in_get x (y ∷ xs) (inr later) = let at = in_get x xs later in (suc at.0, at.1)

  pub in_map : {Y : Type 0} (f : X → Y) (x : X) (xs : List X) → IsIn x xs → IsIn (f x) (map f xs)
  in_map f x [] is = elim is [ ]
  in_map f x (y ∷ xs) (inl same) = inl (ap f same)
  in_map f x (y ∷ xs) (inr later) = inr (in_map f x xs later)

  pub of_map : {Y : Type 0} (f : X → Y) (y : Y) (xs : List X) → IsIn y (map f xs) → (x : X) × IsIn x xs × (y ≡ f x)
  of_map f y [] is = elim is [ ]
  of_map f y (x ∷ xs) (inl same) = (x, inl refl, same)
  of_map f y (x ∷ xs) (inr later) = let o = of_map f y xs later in (o.0, inr o.1, o.2)

  -- one that is added, or is there
  pub grows_added : (xs ys : List X) (x : X) → (ys ≡ xs) ⊎ (ys ≡ xs ++ x ∷ []) → Grows xs ys
  grows_added xs ys x (inl same) = ([], same ∙ sym (append-nil xs))
  grows_added xs ys x (inr more) = (x ∷ [], more)

  -- what holds of each holds with one more
  pub each_added : (P : X → Type 0) (xs ys : List X) (x : X) → (ys ≡ xs) ⊎ (ys ≡ xs ++ x ∷ []) → ((i : ℕ) (y : X) → slice_get xs i ≡ Some y → P y) → P x → (i : ℕ) (y : X) → slice_get ys i ≡ Some y → P y
  each_added P xs ys x (inl same) all here i y h = all i y (ap (λ (l : List X). slice_get l i) (sym same) ∙ h)
  each_added P xs ys x (inr more) all here i y h = last xs i (λ j. all j) (ap (λ (l : List X). slice_get l i) (sym more) ∙ h)
    where
      last : (zs : List X) (i : ℕ) → ((j : ℕ) (z : X) → slice_get zs j ≡ Some z → P z) → slice_get (zs ++ x ∷ []) i ≡ Some y → P y
      last [] zero each e = subst P (ap (or_else x) e) here
      last [] (suc i) each e = cc e
      last (z ∷ zs) zero each e = each 0 y e
      last (z ∷ zs) (suc i) each e = last zs i (λ j w q. each (suc j) w q) e
