-- A list of lanes, read and changed at one place.
use Rattle.std.proofs.Common.{◌≡◌, ℕ, zero, suc, ◌+◌, ◌<◌, Bool, true, false, true≢false, List, [], ◌∷◌, ◌++◌, map, length, take, replicate, set, get_or, Option, Some, None, is_some, MatchOption, slice_get, sym, refl, ap, subst, ◌∙◌, arith}
use Rattle.std.proofs.lemmas.List.{map-set, map-append}
use Rattle.std.proofs.lemmas.Grind.{replicate_next}
use Rattle.crossbeam_deque.specs.Handles.{stealer_deque}
use Rattle.orc_pool.specs.declared.own.Own.{Own}
use Rattle.orc_pool.specs.declared.queues.Lane.{Lane}
use Rattle.orc_pool.specs.History.{view_of}
use Rattle.orc_pool.specs.Words.{own_name, own_view}

some_eq : {A : Type 0} (x y : A) → Some x ≡ Some y → x ≡ y
some_eq x y e = grind arith

module _ {A B : Type 0} where
  pub map_at : (f : A → B) (l : List A) (i : ℕ) (x : A) → slice_get l i ≡ Some x → slice_get (map f l) i ≡ Some (f x)
  map_at f [] i x e = grind arith
  map_at f (y ∷ ys) zero x e = ap (λ (z : A). Some (f z)) (some_eq y x e)
  map_at f (y ∷ ys) (suc i) x e = map_at f ys i x e

  pub map_set_same : (f : A → B) (l : List A) (i : ℕ) (x y : A) → slice_get l i ≡ Some x → f y ≡ f x → map f (set l i y) ≡ map f l
  map_set_same f [] i x y e s = refl
  map_set_same f (z ∷ zs) zero x y e s = λ k. (s ∙ ap f (sym (some_eq z x e))) k ∷ map f zs
  map_set_same f (z ∷ zs) (suc i) x y e s = ap (λ (l : List B). f z ∷ l) (map_set_same f zs i x y e s)

pub get_set_other : {A : Type 0} (l : List A) (i k : ℕ) (y : A) → i < k → slice_get (set l i y) k ≡ slice_get l k
get_set_other [] i k y h = refl
get_set_other (z ∷ zs) i zero y h = absurd (omega (arith, h))
get_set_other (z ∷ zs) zero (suc k) y h = refl
get_set_other (z ∷ zs) (suc i) (suc k) y h = get_set_other zs i k y (omega (arith, h))

take_more : {A : Type 0} (l : List A) (i : ℕ) (x : A) → slice_get l i ≡ Some x → take (suc i) l ≡ take i l ++ x ∷ []
take_more [] i x e = grind arith
take_more (y ∷ ys) zero x e = ap (λ z. z ∷ []) (some_eq y x e)
take_more (y ∷ ys) (suc i) x e = ap (λ zs. y ∷ zs) (take_more ys i x e)

each_at : {A : Type 0} (P : A → Type 0) (l : List A) (x : A) → ((i : ℕ) (y : A) → slice_get l i ≡ Some y → P y) → P x → (i : ℕ) (y : A) → slice_get (l ++ x ∷ []) i ≡ Some y → P y
each_at P [] x each its zero y at = subst P (some_eq x y at) its
each_at P [] x each its (suc i) y at = grind arith
each_at P (z ∷ zs) x each its zero y at = each zero y at
each_at P (z ∷ zs) x each its (suc i) y at = each_at P zs x (λ k. each (suc k)) its i y at

-- one more at the end
module _ {A B : Type 0} (f : A → B) (l m : List A) (x : A) (more : m ≡ l ++ x ∷ []) where
  pub map_more : map f m ≡ map f l ++ f x ∷ []
  map_more = ap (map f) more ∙ map-append f l (x ∷ [])

  pub replicate_more : (n : ℕ) (y : B) → map f l ≡ replicate n y → f x ≡ y → map f m ≡ replicate (n + 1) y
  replicate_more n y are is = map_more ∙ (λ i. are i ++ is i ∷ []) ∙ sym (replicate_next n y)

  pub taken_more : (ys : List B) (n : ℕ) → map f l ≡ take n ys → slice_get ys n ≡ Some (f x) → map f m ≡ take (n + 1) ys
  taken_more ys n are is =
      let next : suc n ≡ n + 1 = omega arith in
      map_more ∙ ap (λ zs. zs ++ f x ∷ []) are ∙ sym (take_more ys n (f x) is) ∙ ap (λ k. take k ys) next

-- what holds of each item holds of each with one more
pub each_more : {A : Type 0} (P : A → Type 0) (l m : List A) (x : A) → m ≡ l ++ x ∷ [] → ((i : ℕ) (y : A) → slice_get l i ≡ Some y → P y) → P x → (i : ℕ) (y : A) → slice_get m i ≡ Some y → P y
each_more P l m x more each its i y at = each_at P l x each its i y (ap (λ zs. slice_get zs i) (sym more) ∙ at)

pub get_at : {A : Type 0} (l : List A) (i : ℕ) (x : A) → i < length l → x ≡ get_or l i x → slice_get l i ≡ Some x
get_at [] i x h e = absurd (omega arith)
get_at (y ∷ ys) zero x h e = ap Some (sym e)
get_at (y ∷ ys) (suc i) x h e = get_at ys i x (omega arith) e

module _ {T : Type 0} where
  pub own_taken : (l : List (Lane T)) (i : ℕ) (x y : Lane T) (r : Option (Own T)) → slice_get l i ≡ Some x → r ≡ x.own → y.own ≡ None
      → MatchOption r
      ((map (λ (z : Lane T). is_some z.own) (set l i y) ≡ map (λ (z : Lane T). is_some z.own) l) × ¬ (slice_get (map (λ (z : Lane T). is_some z.own) l) i ≡ Some true))
      (λ own. (slice_get (map (λ (z : Lane T). is_some z.own) l) i ≡ Some true) × (map (λ (z : Lane T). is_some z.own) (set l i y) ≡ set (map (λ (z : Lane T). is_some z.own) l) i false)
      × (slice_get (map (λ (z : Lane T). stealer_deque z.stealing_end) l) i ≡ Some (own_name own)) × (own_view own ≡ view_of true [] []))
  own_taken l i x y None at is gone =
      let f : Lane T → Bool = λ z. is_some z.own in
      let was : is_some x.own ≡ false = ap (λ (o : Option (Own T)). is_some o) (sym is) in
      let now : is_some y.own ≡ false = ap (λ (o : Option (Own T)). is_some o) gone in
      (map_set_same f l i x y at (now ∙ sym was), λ e. true≢false (some_eq true false (sym e ∙ map_at f l i x at ∙ ap Some was)))
  own_taken l i x y (Some own) at is gone =
      let f : Lane T → Bool = λ z. is_some z.own in
      let was : is_some x.own ≡ true = ap (λ (o : Option (Own T)). is_some o) (sym is) in
      let now : is_some y.own ≡ false = ap (λ (o : Option (Own T)). is_some o) gone in
      let p = x.paired own (sym is) in
      (map_at f l i x at ∙ ap Some was, map-set f l i y ∙ ap (λ (b : Bool). set (map f l) i b) now, map_at (λ (z : Lane T). stealer_deque z.stealing_end) l i x at ∙ ap Some (sym p.0), p.1)
