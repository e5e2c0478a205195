-- Those whose places or numbers are listed go, and nobody else.
use Rattle.std.proofs.Common.{◌≡◌, ◌≤◌, ◌<◌, ◌+◌, ◌++◌, ◌⊎◌, inl, inr, ⊎_elim, ℕ, zero, suc, List, [], ◌∷◌, refl, sym, ap, ◌∙◌, subst, arith, length, take, get_or, Bool, true, false, cond, nat_eq, eq-eqb, Some}
use Rattle.std.proofs.lemmas.Bool.{ltb-true, eqb-true}
use Rattle.std.proofs.Math.Decide.{ℕ_discrete}
use Rattle.std.proofs.Math.Numerals.{add-one}
use Rattle.std.proofs.Math.Seq.{take-suc}
use Rattle.std.specs.Prelude.{slice_get, slice_set, ◌||◌, ◌&&◌}
use Rattle.orc_rules.specs.Timed.{IsIn, IsRising}
use Rattle.orc_indexes.specs.Same.{weight, only, but, None, is_this}
use Rattle.orc_tables.specs.PendingCalls.{has_number, is_numbered}
use Rattle.orc_tables.specs.Crowd.{is_listed}
use Rattle.orc_tables.specs.Inside.{stands_inside, held_inside, StayOutside}
use Rattle.orc_tables.specs.Tokens.{live, is_live, IsHeld}
use Rattle.orc_tables.specs.declared.records.Token.{Token}
use Rattle.orc_tables.specs.declared.records.Call.{Call}
use Rattle.orc_tables.specs.declared.records.Step.{Step}
use Rattle.orc_tables.specs.declared.records.Group.{Group}
use Rattle.orc_indexes.proofs.Weight.{weight-same, weight-parts, weight-none, weight-in, none-alike, in-got}
use Rattle.orc_indexes.proofs.Lists.{set-elsewhere, set-there}
use Rattle.orc_tables.proofs.Slots.{removed}
use Rattle.orc_tables.proofs.Drained.{live-outside, outside-set}
use Rattle.orc_tables.proofs.Crowded.{in-append, listed-in}

pub they-rise : (xs : List ℕ) → ((k : ℕ) → suc k < length xs → get_or xs k 0 < get_or xs (suc k) 0) → IsRising xs
they-rise [] h = tt
they-rise (x ∷ []) h = tt
they-rise (x ∷ y ∷ xs) h = (h 0 (omega arith), they-rise (y ∷ xs) (λ k lt. h (suc k) (omega (arith, lt))))

-- one more is gone through
pub one-further : (cs xs : List ℕ) (i d : ℕ) → cs ≡ xs → i < length cs → take (i + 1) xs ≡ take i xs ++ get_or cs i d ∷ []
one-further cs xs i d same lt = ap (λ n. take n xs) (add-one i) ∙ take-suc xs i d (subst (λ z. i < length z) same lt) ∙ ap (λ z. take i xs ++ get_or z i d ∷ []) (sym same)

pub all-through : (cs xs : List ℕ) (i : ℕ) → cs ≡ xs → length cs ≤ i → take i xs ≡ xs
all-through cs xs i same le = go xs i (subst (λ z. length z ≤ i) same le)
  where
    go : (xs : List ℕ) (i : ℕ) → length xs ≤ i → take i xs ≡ xs
    go [] zero le = refl
    go [] (suc i) le = refl
    go (x ∷ xs) zero le = absurd (omega (arith, le))
    go (x ∷ xs) (suc i) le = ap (λ z. x ∷ z) (go xs i (omega (arith, le)))

pub through-in : (cs xs : List ℕ) (i d : ℕ) → cs ≡ xs → i < length cs → IsIn (get_or cs i d) xs
through-in cs xs i d same lt = subst (λ z. IsIn (get_or cs i d) z) same (in-got cs i d lt)

-- ---- calls by their numbers

listed-end : (xs : List ℕ) (n m : ℕ) → is_listed (xs ++ n ∷ []) m ≡ (is_listed xs m || nat_eq n m)
listed-end [] n m = or_none (nat_eq n m)
  where
    or_none : (b : Bool) → (b || false) ≡ b
    or_none true = refl
    or_none false = refl
listed-end (x ∷ xs) n m = ap (λ b. nat_eq x m || b) (listed-end xs n m) ∙ or_or (nat_eq x m) (is_listed xs m) (nat_eq n m)
  where
    or_or : (a b e : Bool) → (a || (b || e)) ≡ ((a || b) || e)
    or_or true b e = refl
    or_or false b e = refl

pub listed-further : (xs xs' : List ℕ) (n : ℕ) → xs' ≡ xs ++ n ∷ [] → (w : Call → ℕ) (ks : List Call) → weight (but (λ (k : Call). is_listed xs k.number) (but (is_numbered n) w)) ks ≡ weight (but (λ (k : Call). is_listed xs' k.number) w) ks
listed-further xs xs' n is w ks = weight-same (but (λ (k : Call). is_listed xs k.number) (but (is_numbered n) w)) (but (λ (k : Call). is_listed xs' k.number) w) ks (λ k. by_both (is_listed xs k.number) (nat_eq n k.number) (w k) ∙ ap (λ b. cond b 0 (w k)) (sym (listed-end xs n k.number) ∙ ap (λ z. is_listed z k.number) (sym is)))
  where
    by_both : (a b : Bool) (n : ℕ) → cond a 0 (cond b 0 n) ≡ cond (a || b) 0 n
    by_both true b n = refl
    by_both false b n = refl

pub none-numbered : (n : ℕ) (w : Call → ℕ) (ks : List Call) → weight (has_number n) ks ≡ 0 → weight (but (is_numbered n) w) ks ≡ weight w ks
none-numbered n w ks h = none-alike (is_numbered n) (but (is_numbered n) w) w ks h (λ k f. ap (λ b. cond b 0 (w k)) f)

pub weight-same-in : {X : Type 0} (v w : X → ℕ) (xs : List X) → ((x : X) → IsIn x xs → v x ≡ w x) → weight v xs ≡ weight w xs
weight-same-in v w [] h = refl
weight-same-in v w (x ∷ xs) h = omega (arith, h x (inl refl), weight-same-in v w xs (λ y i. h y (inr i)))

-- ---- groups by their numbers

pub named-further : (xs xs' : List ℕ) (n : ℕ) → xs' ≡ xs ++ n ∷ [] → (w : Group → ℕ) (gs : List Group) → weight (but (λ (g : Group). is_listed xs g.number) (but (λ (g : Group). nat_eq n g.number) w)) gs ≡ weight (but (λ (g : Group). is_listed xs' g.number) w) gs
named-further xs xs' n is w gs = weight-same (but (λ (g : Group). is_listed xs g.number) (but (λ (g : Group). nat_eq n g.number) w)) (but (λ (g : Group). is_listed xs' g.number) w) gs (λ g. by_both (is_listed xs g.number) (nat_eq n g.number) (w g) ∙ ap (λ b. cond b 0 (w g)) (sym (listed-end xs n g.number) ∙ ap (λ z. is_listed z g.number) (sym is)))
  where
    by_both : (a b : Bool) (n : ℕ) → cond a 0 (cond b 0 n) ≡ cond (a || b) 0 n
    by_both true b n = refl
    by_both false b n = refl

pub none-named : (n : ℕ) (w : Group → ℕ) (gs : List Group) → ((g : Group) → IsIn g gs → g.number ≡ n → ⊥) → weight (but (λ (g : Group). nat_eq n g.number) w) gs ≡ weight w gs
none-named n w gs none = weight-same-in (but (λ (g : Group). nat_eq n g.number) w) w gs (λ g i. by g i (nat_eq n g.number) refl)
  where
    by : (g : Group) → IsIn g gs → (b : Bool) → nat_eq n g.number ≡ b → cond b 0 (w g) ≡ w g
    by g i true e = absurd (none g i (sym (eqb-true n g.number e)))
    by g i false e = refl

only-none : {X : Type 0} (P : X → Bool) (w : X → ℕ) (xs : List X) → weight (only P (λ x. 1)) xs ≡ 0 → weight (only P w) xs ≡ 0
only-none P w xs h = none-alike P (only P w) (λ x. 0) xs h (λ x f. ap (λ b. cond b (w x) 0) f) ∙ weight-none (λ x. 0) xs (λ x. refl)

-- the only one that passes a test
only-one : {X : Type 0} (P : X → Bool) (w : X → ℕ) (xs : List X) (x : X) → IsIn x xs → P x ≡ true → weight (only P (λ y. 1)) xs ≤ 1 → weight (only P w) xs ≡ w x
only-one P w [] x i yes_ few = elim i [ ]
only-one P w (y ∷ xs) x (inl e) yes_ few =
    let mine : P y ≡ true = ap P (sym e) ∙ yes_ in
    let none : weight (only P (λ z. 1)) xs ≡ 0 = omega (arith, few, ap {B = ℕ} (λ b. cond b 1 0) mine) in
    omega (arith, ap {B = ℕ} (λ b. cond b (w y) 0) mine, only-none P w xs none, ap w e)
only-one P w (y ∷ xs) x (inr i) yes_ few =
    let some : 1 ≤ weight (only P (λ z. 1)) xs = omega (arith, weight-in (only P (λ z. 1)) xs x i, ap {B = ℕ} (λ b. cond b 1 0) yes_) in
    go (P y) refl (only-one P w xs x i yes_ (omega (arith, few))) some
  where
    go : (b : Bool) → P y ≡ b → weight (only P w) xs ≡ w x → 1 ≤ weight (only P (λ z. 1)) xs → cond (P y) (w y) 0 + weight (only P w) xs ≡ w x
    go true e ih some = absurd (omega (arith, few, some, ap {B = ℕ} (λ b. cond b 1 0) e))
    go false e ih some = omega (arith, ih, ap {B = ℕ} (λ b. cond b (w y) 0) e)

pub named-gone : (n : ℕ) (now next : List Group) (g : Group) → IsIn g now → g.number ≡ n → weight (λ (h : Group). is_this n h.number) now ≤ 1 → ((w : Group → ℕ) → weight w next + w g ≡ weight w now) → (w : Group → ℕ) → weight w next ≡ weight (but (λ (h : Group). nat_eq n h.number) w) now
named-gone n now next g i is few left w = omega (arith, left w, weight-parts (λ (h : Group). nat_eq n h.number) w now, only-one (λ (h : Group). nat_eq n h.number) w now g i (eq-eqb n g.number (sym is)) few)

-- ---- tokens by their slots

-- of the tokens inside those in these slots are gone, and all others are there, in their slots those outside
pub record IsThinned (c : ℕ) (ss : List Step) (old now : List Token) (slots : List ℕ) : Type 0 where
  pub rest : (w : Token → ℕ) → weight (but (λ (t : Token). stands_inside c ss t.step) w) (live now) ≡ weight (but (λ (t : Token). stands_inside c ss t.step) w) (live old)
  pub kept : (k : ℕ) (t : Token) → IsHeld now k t → IsHeld old k t
  pub gone : (k : ℕ) (t : Token) → IsIn k slots → IsHeld now k t → ⊥
  pub others : StayOutside c ss old now

pub thinned-none : (c : ℕ) (ss : List Step) (ts : List Token) (slots : List ℕ) → IsThinned c ss ts ts (take 0 slots)
thinned-none c ss ts slots = record { rest = λ w. refl; kept = λ k t h. h; gone = λ k t i h. none slots k i; others = λ k t h out. h }
  where
    none : (xs : List ℕ) (k : ℕ) → IsIn k (take 0 xs) → ⊥
    none [] k i = i
    none (x ∷ xs) k i = i

in-end : (xs : List ℕ) (n m : ℕ) → IsIn m (xs ++ n ∷ []) → IsIn m xs ⊎ (m ≡ n)
in-end xs n m i = ⊎_elim (λ a. inl a) (λ b. inr (last b)) (in-append xs (n ∷ []) m i)
  where
    last : IsIn m (n ∷ []) → m ≡ n
    last (inl e) = e
    last (inr e) = elim e [ ]

some_token : (t u : Token) → Some t ≡ Some u → t ≡ u
some_token t u e = cc e

module _ (c : ℕ) (ss : List Step) (old now : List Token) (slots slots' : List ℕ) (k : ℕ) (is : slots' ≡ slots ++ k ∷ []) (T : IsThinned c ss old now slots) where
  pub thinned-kept : ((t : Token) → IsHeld now k t → ⊥) → IsThinned c ss old now slots'
  thinned-kept none = record { rest = T.rest; kept = T.kept; gone = λ j t i h. ⊎_elim (λ a. T.gone j t a h) (λ e. none t (subst (λ z. IsHeld now z t) e h)) (in-end slots k j (subst (λ z. IsIn j z) is i)); others = T.others }

  pub thinned-gone : (next : List Token) (t free : Token) → IsHeld now k t → free.serial ≡ 0 → next ≡ slice_set now k free → stands_inside c ss t.step ≡ true → IsThinned c ss old next slots'
  thinned-gone next t free held zero_ new inn =
      record {
        rest = λ w. omega (arith, ap (λ z. weight (but (λ (u : Token). stands_inside c ss u.step) w) (live z)) new, removed (but (λ (u : Token). stands_inside c ss u.step) w) now k t free held zero_, ap {B = ℕ} (λ b. cond b 0 (w t)) inn, T.rest w);
        kept = λ j u h. T.kept j u (before j u h (ℕ_discrete j k));
        gone = λ j u i h. ⊎_elim (λ a. T.gone j u a (before j u h (ℕ_discrete j k))) (λ e. at_k u (subst (λ z. IsHeld next z u) e h)) (in-end slots k j (subst (λ z. IsIn j z) is i));
        others = subst (StayOutside c ss old) (sym new) (outside-set c ss old now k t free T.others held.0 inn);
      }
    where
      at_k : (u : Token) → IsHeld next k u → ⊥
      at_k u h = let e : free ≡ u = some_token free u (sym (set-there now k t free held.0) ∙ ap (λ z. slice_get z k) (sym new) ∙ h.0) in omega (arith, h.1, zero_, ap (λ (z : Token). z.serial) e)

      before : (j : ℕ) (u : Token) → IsHeld next j u → Dec (j ≡ k) → IsHeld now j u
      before j u h (yes e) = absurd (at_k u (subst (λ z. IsHeld next z u) e h))
      before j u h (no off) = (sym (set-elsewhere now k j free off) ∙ ap (λ z. slice_get z j) (sym new) ∙ h.0, h.1)

none-by-place : {X : Type 0} (bad : X → Bool) (xs : List X) → ((k : ℕ) (x : X) → slice_get xs k ≡ Some x → bad x ≡ false) → None bad xs
none-by-place bad [] h = refl
none-by-place bad (x ∷ xs) h = omega (arith, ap {B = ℕ} (λ b. cond b 1 0) (h 0 x refl), none-by-place bad xs (λ k y got. h (suc k) y got))

take-length : {X : Type 0} (xs : List X) → take (length xs) xs ≡ xs
take-length [] = refl
take-length (x ∷ xs) = ap (λ z. x ∷ z) (take-length xs)

both_so : (a b : Bool) → (a && b) ≡ true → (a ≡ true) × (b ≡ true)
both_so true b h = (refl, h)
both_so false b h = cc h

pub thinned-all : (c : ℕ) (ss : List Step) (old now : List Token) (slots : List ℕ) → IsThinned c ss old now slots → ((k : ℕ) (t : Token) → IsHeld old k t → is_listed slots k ≡ stands_inside c ss t.step)
    → (w : Token → ℕ) → weight w (live now) ≡ weight (but (λ (t : Token). stands_inside c ss t.step) w) (live old)
thinned-all c ss old now slots T listed w =
    live-outside c ss now (length now) (omega arith) (subst (None (held_inside c ss)) (sym (take-length now)) (none-by-place (held_inside c ss) now outside)) w ∙ T.rest w
  where
    outside : (k : ℕ) (t : Token) → slice_get now k ≡ Some t → held_inside c ss t ≡ false
    outside k t got = at (held_inside c ss t) refl
      where
        at : (b : Bool) → held_inside c ss t ≡ b → held_inside c ss t ≡ false
        at false f = f
        at true f =
            let both = both_so (is_live t) (stands_inside c ss t.step) f in
            let held : IsHeld now k t = (got, ltb-true 0 t.serial both.0) in
            absurd (T.gone k t (listed-in slots k (listed k t (T.kept k t held) ∙ both.1)) held)
