-- The table of calls: each number leads to its call's place.
use Rattle.std.proofs.Common.{◌≡◌, ◌≤◌, ◌<◌, ◌-◌, ℕ, zero, suc, List, [], ◌∷◌, refl, ap, ◌∙◌, arith, length, get_or, Bool, true, false, cond, Some, ◌+◌, ◌++◌, sym, subst, inl, inr, ◌⊎◌, ⊎_elim, nat_eq, eq-eqb, Option, None, take}
use Rattle.std.specs.Prelude.{slice_get, slice_set, slice_index_or, replicate, if◌then◌else◌}
use Rattle.std.specs.List.{swap_remove}
use Rattle.std.proofs.lemmas.List.{take_all}
use Rattle.std.proofs.lemmas.Bool.{eqb-true}
use Rattle.std.proofs.Math.Decide.{ℕ_discrete}
use Rattle.orc_rules.specs.Timed.{IsIn}
use Rattle.orc_indexes.specs.Same.{weight, but, None as Nobody}
use Rattle.orc_tables.specs.PendingCalls.{has_number, ArePlaced, HasNote, HaveNotes, is_numbered}
use Rattle.orc_indexes.specs.Dues.{IsNoted}
use Rattle.orc_tables.specs.declared.records.Call.{Call}
use Rattle.orc_indexes.proofs.Weight.{none-alike}

some_or : {X : Type 0} → X → Option X → X
some_or d (Some x) = x
some_or d None = d

pub same_some : {X : Type 0} (x y : X) → Some x ≡ Some y → x ≡ y
unfolding some_or
same_some x y e = ap (some_or x) e

-- what stands at a place is in the list, and the other way round
pub got-in : {X : Type 0} (xs : List X) (k : ℕ) (x : X) → slice_get xs k ≡ Some x → IsIn x xs
got-in [] k x h = cc h
got-in (y ∷ xs) zero x h = inl (sym (same_some y x h))
got-in (y ∷ xs) (suc k) x h = inr (got-in xs k x h)

pub in-got_at : {X : Type 0} (xs : List X) (x : X) → IsIn x xs → (k : ℕ) × (slice_get xs k ≡ Some x)
in-got_at [] x h = elim h [ ]
in-got_at (y ∷ xs) x (inl e) = (zero, ap Some (sym e))
in-got_at (y ∷ xs) x (inr h) = let d = in-got_at xs x h in (suc d.0, d.1)

pub got-within : {X : Type 0} (xs : List X) (k : ℕ) (x : X) → slice_get xs k ≡ Some x → k < length xs
got-within [] k x h = cc h
got-within (y ∷ xs) zero x h = omega arith
got-within (y ∷ xs) (suc k) x h = omega (arith, got-within xs k x h)

pub or-got : {X : Type 0} (xs : List X) (k : ℕ) (d : X) → k < length xs → slice_get xs k ≡ Some (get_or xs k d)
or-got [] k d h = absurd (omega (arith, h))
or-got (y ∷ xs) zero d h = refl
or-got (y ∷ xs) (suc k) d h = or-got xs k d (omega (arith, h))

-- one more at the end
pub got-more : {X : Type 0} (xs : List X) (x : X) (k : ℕ) (y : X) → slice_get (xs ++ x ∷ []) k ≡ Some y → (slice_get xs k ≡ Some y) ⊎ ((k ≡ length xs) × (y ≡ x))
got-more [] x zero y h = inr (refl, sym (same_some x y h))
got-more [] x (suc k) y h = cc h
got-more (z ∷ xs) x zero y h = inl h
got-more (z ∷ xs) x (suc k) y h = ⊎_elim (λ a. inl a) (λ b. inr (ap suc b.0, b.1)) (got-more xs x k y h)

pub more-got : {X : Type 0} (xs : List X) (x : X) (k : ℕ) (y : X) → slice_get xs k ≡ Some y → slice_get (xs ++ x ∷ []) k ≡ Some y
more-got [] x k y h = cc h
more-got (z ∷ xs) x zero y h = h
more-got (z ∷ xs) x (suc k) y h = more-got xs x k y h

pub kept-got : {X : Type 0} (xs ys : List X) (k : ℕ) (y : X) → slice_get xs k ≡ Some y → slice_get (xs ++ ys) k ≡ Some y
kept-got [] ys k y h = cc h
kept-got (z ∷ xs) ys zero y h = h
kept-got (z ∷ xs) ys (suc k) y h = kept-got xs ys k y h

-- what was there is there in a list that grew, or stayed as it was
pub resized-got : (b : Bool) (xs ys : List ℕ) (n m x : ℕ) → ys ≡ (if b then take n xs ++ replicate m x else xs) → length xs ≤ n → (k y : ℕ) → slice_get xs k ≡ Some y → slice_get ys k ≡ Some y
resized-got true xs ys n m x is le k y h = ap (λ z. slice_get z k) (is ∙ ap (λ z. z ++ replicate m x) (take_all n xs le)) ∙ kept-got xs (replicate m x) k y h
resized-got false xs ys n m x is le k y h = ap (λ z. slice_get z k) is ∙ h

pub end-got : {X : Type 0} (xs : List X) (x : X) → slice_get (xs ++ x ∷ []) (length xs) ≡ Some x
end-got [] x = refl
end-got (z ∷ xs) x = end-got xs x

pub placed-push : (items : List Call) (places : List ℕ) (c : Call) → c.number ≡ length places + 1 → ArePlaced items places → ArePlaced (items ++ c ∷ []) (places ++ length items ∷ [])
placed-push items places c number a k d h =
    ⊎_elim
    (λ old. let w = a k d old in (w.0, more-got places (length items) (d.number - 1) k w.1))
    (λ new.
    let n : d.number ≡ length places + 1 = ap (λ (z : Call). z.number) new.1 ∙ number in
    let at : d.number - 1 ≡ length places = omega (arith, n) in
    (omega (arith, n), ap (slice_get (places ++ length items ∷ [])) at ∙ end-got places (length items) ∙ ap Some (sym new.0)))
    (got-more items c k d h)

-- no place has a call with this number
pub none-there : (number : ℕ) (items : List Call) → ((k : ℕ) (c : Call) → slice_get items k ≡ Some c → c.number ≡ number → ⊥) → weight (has_number number) items ≡ 0
none-there number [] h = refl
none-there number (d ∷ items) h = go (nat_eq number d.number) refl (none-there number items (λ k c g e. h (suc k) c g e))
  where
    go : (b : Bool) → nat_eq number d.number ≡ b → weight (has_number number) items ≡ 0 → cond b 1 0 + weight (has_number number) items ≡ 0
    go true e ih = absurd (h 0 d refl (sym (eqb-true number d.number e)))
    go false e ih = omega (arith, ih)

-- two places have two numbers
pub one-place : (items : List Call) (places : List ℕ) (j k : ℕ) (c d : Call) → ArePlaced items places → slice_get items j ≡ Some c → slice_get items k ≡ Some d → c.number ≡ d.number → j ≡ k
one-place items places j k c d a g h e = same_some j k (sym (a j c g).1 ∙ ap (λ z. slice_get places (z - 1)) e ∙ (a k d h).1)

pub one-call : (items : List Call) (places : List ℕ) (k : ℕ) (c d : Call) → ArePlaced items places → IsIn c items → slice_get items k ≡ Some d → c.number ≡ d.number → c ≡ d
one-call items places k c d a i h e =
    let at = in-got_at items c i in
    same_some c d (sym at.1 ∙ ap (slice_get items) (one-place items places at.0 k c d a at.1 h e) ∙ h)

-- the same in lists that are equal, with more notes
pub carried : (items items' : List Call) (places places' : List ℕ) (notes notes' : List (ℕ × ℕ)) → items' ≡ items → places' ≡ places → ((t k : ℕ) → IsNoted notes t k → IsNoted notes' t k)
    → ArePlaced items places × HaveNotes notes items → ArePlaced items' places' × HaveNotes notes' items'
carried items items' places places' notes notes' e f kept h =
    (subst (λ z. ArePlaced z places') (sym e) (subst (λ z. ArePlaced items z) (sym f) h.0), λ c i t d. kept t c.number (h.1 c (subst (λ z. IsIn c z) e i) t d))

pub noted-push : (items : List Call) (notes : List (ℕ × ℕ)) (c : Call) → HaveNotes notes items → HasNote notes c → HaveNotes notes (items ++ c ∷ [])
noted-push [] notes c have mine d (inl e) = subst (HasNote notes) (sym e) mine
noted-push [] notes c have mine d (inr i) = elim i [ ]
noted-push (x ∷ items) notes c have mine d (inl e) = have d (inl e)
noted-push (x ∷ items) notes c have mine d (inr i) = noted-push items notes c (λ y j. have y (inr j)) mine d i

pub set-at : {X : Type 0} (xs : List X) (i : ℕ) (v : X) → i < length xs → slice_get (slice_set xs i v) i ≡ Some v
set-at [] i v h = absurd (omega (arith, h))
set-at (x ∷ xs) zero v h = refl
set-at (x ∷ xs) (suc i) v h = set-at xs i v (omega (arith, h))

pub set-off : {X : Type 0} (xs : List X) (i k : ℕ) (v : X) → (k ≡ i → ⊥) → slice_get (slice_set xs i v) k ≡ slice_get xs k
set-off [] i k v off = refl
set-off (x ∷ xs) zero zero v off = absurd (off refl)
set-off (x ∷ xs) zero (suc k) v off = refl
set-off (x ∷ xs) (suc i) zero v off = refl
set-off (x ∷ xs) (suc i) (suc k) v off = set-off xs i k v (λ e. off (ap suc e))

get-take : {X : Type 0} (n : ℕ) (xs : List X) (k : ℕ) (y : X) → slice_get (take n xs) k ≡ Some y → (k < n) × (slice_get xs k ≡ Some y)
get-take zero [] k y h = cc h
get-take zero (x ∷ xs) k y h = cc h
get-take (suc n) [] k y h = cc h
get-take (suc n) (x ∷ xs) zero y h = (omega arith, h)
get-take (suc n) (x ∷ xs) (suc k) y h = let d = get-take n xs k y h in (omega (arith, d.0), d.1)

-- what stands somewhere afterwards
pub removed-at : {X : Type 0} (xs : List X) (i : ℕ) (d : X) (k : ℕ) (y : X) → i < length xs → slice_get (swap_remove xs i d) k ≡ Some y → (k < length xs - 1) × (((k ≡ i) × (slice_get xs (length xs - 1) ≡ Some y)) ⊎ ((k ≡ i → ⊥) × (slice_get xs k ≡ Some y)))
removed-at xs i d k y lt h =
    let w = get-take (length xs - 1) (slice_set xs i (slice_index_or xs (length xs - 1) d)) k y h in
    (w.0, go (nat_eq k i) refl w.1)
  where
    go : (b : Bool) → nat_eq k i ≡ b → slice_get (slice_set xs i (slice_index_or xs (length xs - 1) d)) k ≡ Some y → ((k ≡ i) × (slice_get xs (length xs - 1) ≡ Some y)) ⊎ ((k ≡ i → ⊥) × (slice_get xs k ≡ Some y))
    go true e h =
        let same : k ≡ i = eqb-true k i e in
        let is : Some (slice_index_or xs (length xs - 1) d) ≡ Some y = sym (set-at xs i (slice_index_or xs (length xs - 1) d) lt) ∙ ap (slice_get (slice_set xs i (slice_index_or xs (length xs - 1) d))) (sym same) ∙ h in
        inl (same, or-got xs (length xs - 1) d (omega (arith, lt)) ∙ is)
    go false e h =
        let off : k ≡ i → ⊥ = λ s. cc (sym e ∙ eq-eqb k i s) in
        inr (off, sym (set-off xs i k (slice_index_or xs (length xs - 1) d) off) ∙ h)

-- before the place all stay
pub removed-before : (items : List Call) (i : ℕ) (d : Call) (k : ℕ) (c : Call) → i < length items → k < i → slice_get (swap_remove items i d) k ≡ Some c → slice_get items k ≡ Some c
removed-before items i d k c there lt h = ⊎_elim (λ w. absurd (omega (arith, w.0, lt))) (λ w. w.1) (removed-at items i d k c there h).1

-- those at the first places pass no test, and one more
pub none-before : {X : Type 0} (P : X → Bool) (items : List X) (i : ℕ) (c : X) → ((k : ℕ) (d : X) → k < i → slice_get items k ≡ Some d → P d ≡ false) → slice_get items i ≡ Some c → P c ≡ false → (k : ℕ) (d : X) → k < i + 1 → slice_get items k ≡ Some d → P d ≡ false
none-before P items i c none is off k d lt h = go (nat_eq k i) refl
  where
    go : (b : Bool) → nat_eq k i ≡ b → P d ≡ false
    go true e = ap P (same_some d c (sym h ∙ ap (slice_get items) (eqb-true k i e) ∙ is)) ∙ off
    go false e = none k d (below (ℕ_discrete k i)) h
      where
        below : Dec (k ≡ i) → k < i
        below (yes s) = cc (sym (eq-eqb k i s) ∙ e)
        below (no s) = omega (arith, lt, s)

-- none of all passes it
pub none-of-all : {X : Type 0} (P : X → Bool) (items : List X) (i : ℕ) → length items ≤ i → ((k : ℕ) (d : X) → k < i → slice_get items k ≡ Some d → P d ≡ false) → (w : X → ℕ) → weight w items ≡ weight (but P w) items
none-of-all P [] i le none w = refl
none-of-all P (x ∷ items) i le none w =
    let mine : P x ≡ false = none 0 x (omega (arith, le)) refl in
    omega (arith, ap (λ b. cond {A = ℕ} b 0 (w x)) mine, none-of-all P items (i - 1) (omega (arith, le)) (λ k d lt h. none (suc k) d (omega (arith, lt)) h) w)

module _ (items : List Call) (places : List ℕ) (i : ℕ) (d : Call) (a : ArePlaced items places) (there : i < length items) where
  -- what comes to stand at a place was at a later one, or there already
  pub removed-in : (c : Call) → IsIn c (swap_remove items i d) → IsIn c items
  removed-in c h =
      let k = in-got_at (swap_remove items i d) c h in
      ⊎_elim (λ w. got-in items (length items - 1) c w.1) (λ w. got-in items k.0 c w.1) (removed-at items i d k.0 c there k.1).1

  pub removed-other : (e : Call) → slice_get items i ≡ Some e → (c : Call) → IsIn c (swap_remove items i d) → c.number ≡ e.number → ⊥
  removed-other e is c h same =
      let k = in-got_at (swap_remove items i d) c h in
      let r = removed-at items i d k.0 c there k.1 in
      ⊎_elim
      (λ w. let at : length items - 1 ≡ i = one-place items places (length items - 1) i c e a w.1 is same in absurd (omega (arith, at, w.0, r.0)))
      (λ w. w.0 (one-place items places k.0 i c e a w.1 is same)) r.1

  -- no call moves
  pub placed-last : slice_get (swap_remove items i d) i ≡ None → ArePlaced (swap_remove items i d) places
  placed-last none k c h =
      let r = removed-at items i d k c there h in
      ⊎_elim (λ w. cc (sym none ∙ ap (slice_get (swap_remove items i d)) (sym w.0) ∙ h)) (λ w. a k c w.1) r.1

  module _ (moved : Call) (is : slice_get (swap_remove items i d) i ≡ Some moved) where
    -- the call that moves was the last one
    was_last : (i < length items - 1) × (slice_get items (length items - 1) ≡ Some moved)
    was_last = let r = removed-at items i d i moved there is in (r.0, ⊎_elim (λ w. w.1) (λ w. absurd (w.0 refl)) r.1)

    pub moved-number : 1 ≤ moved.number
    moved-number = (a (length items - 1) moved was_last.1).0

    pub placed-moved : ArePlaced (swap_remove items i d) (slice_set places (moved.number - 1) i)
    placed-moved k c h =
        let r = removed-at items i d k c there h in
        ⊎_elim
        (λ w.
        let same : c ≡ moved = same_some c moved (sym h ∙ ap (slice_get (swap_remove items i d)) w.0 ∙ is) in
        let n : c.number ≡ moved.number = ap (λ (z : Call). z.number) same in (
          omega (arith, n, moved-number),
          ap (λ z. slice_get (slice_set places (moved.number - 1) i) (z - 1)) n
              ∙ set-at places (moved.number - 1) i (got-within places (moved.number - 1) (length items - 1) (a (length items - 1) moved was_last.1).1)
              ∙ ap Some (sym w.0),
        ))
        (λ w.
        let at = a k c w.1 in
        let off : c.number - 1 ≡ moved.number - 1 → ⊥ = λ e.
        let last : k ≡ length items - 1 = same_some k (length items - 1) (sym at.1 ∙ ap (slice_get places) e ∙ (a (length items - 1) moved was_last.1).1) in
        absurd (omega (arith, last, r.0)) in
        (at.0, set-off places (moved.number - 1) (c.number - 1) i off ∙ at.1))
        r.1

-- ---- weights of those without a number
but_none : (number : ℕ) (w : Call → ℕ) (xs : List Call) → Nobody (is_numbered number) xs → weight (but (is_numbered number) w) xs ≡ weight w xs
but_none number w xs h = none-alike (is_numbered number) (but (is_numbered number) w) w xs h (λ x e. ap (λ b. cond b 0 (w x)) e)

nobody : (number : ℕ) (xs : List Call) → ((c : Call) → IsIn c xs → c.number ≡ number → ⊥) → Nobody (is_numbered number) xs
nobody number [] h = refl
nobody number (d ∷ xs) h = go (nat_eq number d.number) refl (nobody number xs (λ c i e. h c (inr i) e))
  where
    go : (b : Bool) → nat_eq number d.number ≡ b → Nobody (is_numbered number) xs → cond {A = ℕ} b 1 0 + weight (λ c. cond {A = ℕ} (nat_eq number (Call.number c)) 1 0) xs ≡ 0
    go true e ih = absurd (h d (inl refl) (sym (eqb-true number d.number e)))
    go false e ih = omega (arith, ih)

-- nobody had the number: nothing goes
pub none-taken : (number : ℕ) (items : List Call) → weight (has_number number) items ≡ 0 → (w : Call → ℕ) → weight w items ≡ weight (but (is_numbered number) w) items
none-taken number items h w = sym (but_none number w items h)

-- the one goes that had it
pub one-taken : (number : ℕ) (items items' : List Call) (e : Call) → e.number ≡ number → ((c : Call) → IsIn c items' → c.number ≡ e.number → ⊥) → ((w : Call → ℕ) → weight w items' + w e ≡ weight w items) → (w : Call → ℕ) → weight w items' ≡ weight (but (is_numbered number) w) items
one-taken number items items' e is none rest w =
    let mine : but (is_numbered number) w e ≡ 0 = ap (λ b. cond b 0 (w e)) (eq-eqb number e.number (sym is)) in
    omega (arith, rest (but (is_numbered number) w), mine, but_none number w items' (nobody number items' (λ c i s. none c i (s ∙ sym is))))

pub there : {X : Type 0} (xs : List X) (k : ℕ) (d : X) → k < length xs → slice_get xs k ≡ Some (get_or xs k d)
there [] k d h = absurd (omega (arith, h))
there (x ∷ xs) zero d h = refl
there (x ∷ xs) (suc k) d h = there xs k d (omega (arith, h))
