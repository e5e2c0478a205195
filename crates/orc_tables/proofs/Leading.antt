-- The table of open groups: each number leads to its group's place, and is one group's or free.
use Rattle.std.proofs.Common.{◌≡◌, ◌≤◌, ◌<◌, ◌+◌, ◌-◌, ℕ, zero, suc, List, [], ◌∷◌, ◌++◌, refl, sym, ap, ◌∙◌, arith, inl, inr, ◌⊎◌, ⊎_elim, Bool, true, false, cond, nat_eq, eq-eqb, Some, None, length, get_or, length-append, length-set}
use Rattle.orc_rules.specs.declared.limits.TheConstants.{MOST_GROUPS}
use Rattle.std.specs.Prelude.{slice_get, slice_set, nat_lt}
use Rattle.std.specs.List.{swap_remove}
use Rattle.std.proofs.lemmas.Bool.{eqb-true, ltb-true, ltb-false}
use Rattle.std.proofs.Math.Decide.{ℕ_discrete}
use Rattle.orc_rules.specs.Timed.{IsIn}
use Rattle.orc_indexes.specs.Same.{weight, is_this}
use Rattle.orc_tables.specs.OpenGroups.{is_named, IsOpen, LeadTo, AreNumbered, size_of}
use Rattle.orc_tables.specs.declared.records.Group.{Group}
use Rattle.orc_indexes.proofs.Weight.{weight-append, weight-in, either_one, some-in, this_one, this_is}
use Rattle.orc_tables.proofs.Placed.{same_some, in-got_at, got-in, got-within, got-more, more-got, set-at, set-off, removed-at}

-- ---- no group has a number that leads nowhere, or to another group

pub none-leads : (gs : List Group) (places : List ℕ) (number : ℕ) → LeadTo gs places → slice_get places number ≡ None → (k : ℕ) (g : Group) → slice_get gs k ≡ Some g → g.number ≡ number → ⊥
none-leads gs places number lead none k g at is = cc (sym none ∙ ap (slice_get places) (sym is) ∙ lead k g at)

pub other-leads : (gs : List Group) (places : List ℕ) (number place : ℕ) → LeadTo gs places → slice_get places number ≡ Some place → ((g : Group) → slice_get gs place ≡ Some g → g.number ≡ number → ⊥) → (k : ℕ) (g : Group) → slice_get gs k ≡ Some g → g.number ≡ number → ⊥
other-leads gs places number place lead there none k g at is =
    let same : place ≡ k = same_some place k (sym there ∙ ap (slice_get places) (sym is) ∙ lead k g at) in
    none g (ap (slice_get gs) same ∙ at) is

-- a number past the table is no group's
pub past-leads : (gs : List Group) (places : List ℕ) (number : ℕ) → LeadTo gs places → length places ≤ number → weight (is_named number) gs ≡ 0
past-leads gs places number lead past = go (weight (is_named number) gs) refl
  where
    go : (n : ℕ) → weight (is_named number) gs ≡ n → n ≡ 0
    go zero e = refl
    go (suc n) e =
        let d = some-in (is_named number) gs (omega (arith, e)) in
        let k = in-got_at gs d.0 d.1 in
        absurd (omega (arith, past, got-within places (Group.number d.0) k.0 (lead k.0 d.0 k.1), this_one number (Group.number d.0) d.2))

-- ---- a group comes

pub lead-more : (gs : List Group) (places : List ℕ) (g : Group) → LeadTo gs places → g.number < length places → weight (is_named g.number) gs ≡ 0 → LeadTo (gs ++ g ∷ []) (slice_set places g.number (length gs))
lead-more gs places g lead there none k h at =
    ⊎_elim
    (λ old.
    let off : h.number ≡ g.number → ⊥ = λ e. omega (arith, none, weight-in (is_named g.number) gs h (got-in gs k h old), this_is g.number h.number (sym e)) in
    set-off places g.number h.number (length gs) off ∙ lead k h old)
    (λ new. ap (λ (z : Group). slice_get (slice_set places g.number (length gs)) z.number) new.1 ∙ set-at places g.number (length gs) there ∙ ap Some (sym new.0))
    (got-more gs g k h at)

pub opened-numbered : (gs : List Group) (places free free' : List ℕ) (g : Group) → AreNumbered gs places free → free ≡ free' ++ g.number ∷ [] → AreNumbered (gs ++ g ∷ []) (slice_set places g.number (length gs)) free'
opened-numbered gs places free free' g N popped =
    let i = g.number in
    let split : (j : ℕ) → weight (is_this j) free ≡ weight (is_this j) free' + is_this j i = λ j. ap (weight (is_this j)) popped ∙ weight-append (is_this j) free' (i ∷ []) ∙ (let e : weight (is_this j) free' + (is_this j i + 0) ≡ weight (is_this j) free' + is_this j i = omega arith in e) in
    let came : (j : ℕ) → weight (is_named j) (gs ++ g ∷ []) ≡ weight (is_named j) gs + is_this j i = λ j. weight-append (is_named j) gs (g ∷ []) ∙ (let e : weight (is_named j) gs + (is_named j g + 0) ≡ weight (is_named j) gs + is_this j i = omega arith in e) in
    let mine = this_is i i refl in
    let there : i < length places = N.within i (omega (arith, split i, mine)) in
    let len : length free ≡ length free' + 1 = ap length popped ∙ length-append free' (i ∷ []) in
    record {
      lead = lead-more gs places g N.lead there (omega (arith, N.once i, split i, mine));
      once = λ j. omega (arith, N.once j, split j, came j);
      root = omega (arith, N.root, split 0, came 0);
      within = λ j h. omega (arith, N.within j (omega (arith, h, split j)), length-set places i (length gs));
      all = omega (arith, N.all, len, length-append gs (g ∷ []), length-set places i (length gs));
      few = omega (arith, N.few, length-set places i (length gs));
    }

-- ---- one number more

pub grown-numbered : (gs : List Group) (places free : List ℕ) → AreNumbered gs places free → length free ≡ 0 → length places < MOST_GROUPS → AreNumbered gs (places ++ 0 ∷ []) (length places ∷ [])
grown-numbered gs places free N none few =
    let n = length places in
    let more : length (places ++ 0 ∷ []) ≡ n + 1 = length-append places (0 ∷ []) in
    record {
      lead = λ k g at. more-got places 0 g.number k (N.lead k g at);
      once = λ i. ⊎_elim (λ (e : i ≡ n). omega (arith, ap (λ z. weight (is_named z) gs) e, past-leads gs places n N.lead (omega arith), at_most i)) (λ (off : i ≡ n → ⊥). omega (arith, N.once i, isnt i off)) (either i);
      root = omega (arith, N.root, N.all, isnt 0 (λ e. omega (arith, e, N.all)));
      within = λ i h. omega (arith, more, this_one i n (omega (arith, h)));
      all = omega (arith, N.all, none, more);
      few = omega (arith, few, more);
    }
  where
    either : (i : ℕ) → (i ≡ length places) ⊎ (i ≡ length places → ⊥)
    either i = go (ℕ_discrete i (length places))
      where
        go : Dec (i ≡ length places) → (i ≡ length places) ⊎ (i ≡ length places → ⊥)
        go (yes e) = inl e
        go (no off) = inr off

    at_most : (i : ℕ) → is_this i (length places) ≤ 1
    at_most i = go (nat_eq i (length places))
      where
        go : (b : Bool) → cond {A = ℕ} b 1 0 ≤ 1
        go true = omega arith
        go false = omega arith

    isnt : (i : ℕ) → (i ≡ length places → ⊥) → is_this i (length places) ≡ 0
    isnt i off = go (nat_eq i (length places)) refl
      where
        go : (b : Bool) → nat_eq i (length places) ≡ b → cond {A = ℕ} b 1 0 ≡ 0
        go true e = absurd (off (eqb-true i (length places) e))
        go false e = refl

-- ---- a group goes, and the last one takes its place

module _ (gs : List Group) (places : List ℕ) (i : ℕ) (d : Group) (lead : LeadTo gs places) (there : i < length gs) where
  pub lead-last : slice_get (swap_remove gs i d) i ≡ None → LeadTo (swap_remove gs i d) places
  lead-last none k g at =
      let r = removed-at gs i d k g there at in
      ⊎_elim (λ w. cc (sym none ∙ ap (slice_get (swap_remove gs i d)) (sym w.0) ∙ at)) (λ w. lead k g w.1) r.1

  pub lead-moved : (moved : Group) → slice_get (swap_remove gs i d) i ≡ Some moved → LeadTo (swap_remove gs i d) (slice_set places moved.number i)
  lead-moved moved is k g at =
      let last = removed-at gs i d i moved there is in
      let was : slice_get gs (length gs - 1) ≡ Some moved = ⊎_elim (λ w. w.1) (λ w. absurd (w.0 refl)) last.1 in
      let r = removed-at gs i d k g there at in
      ⊎_elim
      (λ w.
      let same : g ≡ moved = same_some g moved (sym at ∙ ap (slice_get (swap_remove gs i d)) w.0 ∙ is) in
      ap (λ (z : Group). slice_get (slice_set places moved.number i) z.number) same ∙ set-at places moved.number i (got-within places moved.number (length gs - 1) (lead (length gs - 1) moved was)) ∙ ap Some (sym w.0))
      (λ w.
      let before = lead k g w.1 in
      let off : g.number ≡ moved.number → ⊥ = λ e.
      let same : k ≡ length gs - 1 = same_some k (length gs - 1) (sym before ∙ ap (slice_get places) e ∙ lead (length gs - 1) moved was) in
      absurd (omega (arith, same, r.0)) in
      set-off places moved.number g.number i off ∙ before)
      r.1

pub gone-numbered : (gs gs' : List Group) (places places' free : List ℕ) (g : Group) → AreNumbered gs places free → LeadTo gs' places' → length places' ≡ length places → length gs' + 1 ≡ length gs → ((w : Group → ℕ) → weight w gs' + w g ≡ weight w gs) → AreNumbered gs' places' (free ++ g.number ∷ [])
gone-numbered gs gs' places places' free g N lead size fewer rest =
    let i = g.number in
    let came : (j : ℕ) → weight (is_this j) (free ++ i ∷ []) ≡ weight (is_this j) free + (is_this j i + 0) = λ j. weight-append (is_this j) free (i ∷ []) in
    record {
      lead = lead;
      once = λ j. omega (arith, N.once j, came j, rest (is_named j));
      root = omega (arith, N.root, came 0, rest (is_named 0));
      within = λ j h. within_one j (omega (arith, h, came j));
      all = omega (arith, N.all, size, fewer, length-append free (i ∷ []));
      few = omega (arith, N.few, size);
    }
  where
    within_one : (j : ℕ) → 1 ≤ weight (is_this j) free + (is_this j g.number + 0) → j < length places'
    within_one j h =
        ⊎_elim
        (λ (a : 1 ≤ weight (is_this j) free). omega (arith, N.within j a, size))
        (λ (a : 1 ≤ is_this j g.number + 0).
        let same = this_one j g.number (omega (arith, a)) in
        let at = some-in (is_named g.number) gs (omega (arith, rest (is_named g.number), this_is g.number g.number refl)) in
        let k = in-got_at gs at.0 at.1 in
        omega (arith, same, size, this_one g.number (Group.number at.0) at.2, got-within places (Group.number at.0) k.0 (N.lead k.0 at.0 k.1)))
        (either_one (weight (is_this j) free) (is_this j g.number + 0) h)

-- ---- sizes

or-at : (xs : List ℕ) (n v : ℕ) → n < length xs → get_or (slice_set xs n v) n 0 ≡ v
or-at [] n v h = absurd (omega (arith, h))
or-at (x ∷ xs) zero v h = refl
or-at (x ∷ xs) (suc n) v h = or-at xs n v (omega (arith, h))

or-off : (xs : List ℕ) (n k v : ℕ) → (k ≡ n → ⊥) → get_or (slice_set xs n v) k 0 ≡ get_or xs k 0
or-off [] n k v off = refl
or-off (x ∷ xs) zero zero v off = absurd (off refl)
or-off (x ∷ xs) zero (suc k) v off = refl
or-off (x ∷ xs) (suc n) zero v off = refl
or-off (x ∷ xs) (suc n) (suc k) v off = or-off xs n k v (λ e. off (ap suc e))

or-past : (xs : List ℕ) (n : ℕ) → length xs ≤ n → get_or xs n 0 ≡ 0
or-past [] n h = refl
or-past (x ∷ xs) zero h = absurd (omega (arith, h))
or-past (x ∷ xs) (suc n) h = or-past xs n (omega (arith, h))

set-past : (xs : List ℕ) (n v : ℕ) → length xs ≤ n → slice_set xs n v ≡ xs
set-past [] n v h = refl
set-past (x ∷ xs) zero v h = absurd (omega (arith, h))
set-past (x ∷ xs) (suc n) v h = ap (λ z. x ∷ z) (set-past xs n v (omega (arith, h)))

pub size-joined : (xs : List ℕ) (n i : ℕ) → n < length xs → size_of (slice_set xs n (size_of xs n + 1)) i ≡ size_of xs i + is_this i n
size-joined xs n i there = go (nat_eq i n) refl
  where
    go : (b : Bool) → nat_eq i n ≡ b → size_of (slice_set xs n (size_of xs n + 1)) i ≡ size_of xs i + cond b 1 0
    go true e = let same = eqb-true i n e in ap (λ z. size_of (slice_set xs n (size_of xs n + 1)) z) same ∙ or-at xs n (size_of xs n + 1) there ∙ ap (λ z. size_of xs z + 1) (sym same)
    go false e = or-off xs n i (size_of xs n + 1) (λ s. cc (sym e ∙ eq-eqb i n s)) ∙ (let f : size_of xs i ≡ size_of xs i + 0 = omega arith in f)

pub size-left : (xs : List ℕ) (n i : ℕ) → size_of (slice_set xs n (size_of xs n - 1)) i ≡ size_of xs i - is_this i n
size-left xs n i = go (nat_eq i n) refl (within (nat_lt n (length xs)) refl)
  where
    within : (b : Bool) → nat_lt n (length xs) ≡ b → (n < length xs) ⊎ (length xs ≤ n)
    within true e = inl (ltb-true n (length xs) e)
    within false e = inr (ltb-false n (length xs) e)

    go : (b : Bool) → nat_eq i n ≡ b → (n < length xs) ⊎ (length xs ≤ n) → size_of (slice_set xs n (size_of xs n - 1)) i ≡ size_of xs i - cond b 1 0
    go true e (inl there) = let same = eqb-true i n e in ap (λ z. size_of (slice_set xs n (size_of xs n - 1)) z) same ∙ or-at xs n (size_of xs n - 1) there ∙ ap (λ z. size_of xs z - 1) (sym same)
    go true e (inr past) =
        let same = eqb-true i n e in
        let none : size_of xs i ≡ 0 = ap (size_of xs) same ∙ or-past xs n past in
        ap (λ z. size_of z i) (set-past xs n (size_of xs n - 1) past) ∙ none ∙ (let f : 0 ≡ size_of xs i - 1 = omega (arith, none) in f)
    go false e h = or-off xs n i (size_of xs n - 1) (λ s. cc (sym e ∙ eq-eqb i n s)) ∙ (let f : size_of xs i ≡ size_of xs i - 0 = omega arith in f)

-- before the place all stay
pub before-gone : (gs : List Group) (i : ℕ) (d : Group) (k : ℕ) (g : Group) → i < length gs → k < i → slice_get (swap_remove gs i d) k ≡ Some g → slice_get gs k ≡ Some g
before-gone gs i d k g there lt at = ⊎_elim (λ w. absurd (omega (arith, w.0, lt))) (λ w. w.1) (removed-at gs i d k g there at).1

-- no two groups have one number
pub one-named : (gs : List Group) (places : List ℕ) (k : ℕ) (g h : Group) → LeadTo gs places → IsIn g gs → slice_get gs k ≡ Some h → g.number ≡ h.number → g ≡ h
one-named gs places k g h lead i at same =
    let j = in-got_at gs g i in
    same_some g h (sym j.1 ∙ ap (slice_get gs) (same_some j.0 k (sym (lead j.0 g j.1) ∙ ap (slice_get places) same ∙ lead k h at)) ∙ at)

-- an open number is one of the table
pub open-within : (gs : List Group) (places free : List ℕ) (i : ℕ) → AreNumbered gs places free → IsOpen gs i → i < length places
open-within gs places free i N (inl e) = omega (arith, e, N.all)
open-within gs places free i N (inr some) =
    let d = some-in (is_named i) gs some in
    let k = in-got_at gs d.0 d.1 in
    omega (arith, this_one i (Group.number d.0) d.2, got-within places (Group.number d.0) k.0 (N.lead k.0 d.0 k.1))

-- a free number is no group's, and not the program's own
pub free-number : (gs : List Group) (places free free' : List ℕ) (i : ℕ) → AreNumbered gs places free → free ≡ free' ++ i ∷ [] → (1 ≤ i) × (weight (is_named i) gs ≡ 0)
free-number gs places free free' i N popped = (from_one (ℕ_discrete i 0), omega (arith, N.once i, split i, this_is i i refl))
  where
    split : (j : ℕ) → weight (is_this j) free ≡ weight (is_this j) free' + (is_this j i + 0)
    split j = ap (weight (is_this j)) popped ∙ weight-append (is_this j) free' (i ∷ [])

    from_one : Dec (i ≡ 0) → 1 ≤ i
    from_one (yes e) = absurd (omega (arith, N.root, split 0, this_is 0 i (sym e)))
    from_one (no off) = omega (arith, off)
