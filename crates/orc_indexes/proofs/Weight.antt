-- What lists weigh.
use Rattle.std.proofs.Common.{◌≡◌, ◌≤◌, ◌<◌, ℕ, zero, suc, ◌+◌, List, [], ◌∷◌, refl, ap, ◌∙◌, arith, inl, inr, ◌⊎◌, ⊎_elim, Bool, true, false, cond, nat_eq, eq-eqb, ◌++◌, length, get_or, sum_by, map, filter}
use Rattle.std.proofs.lemmas.Bool.{eqb-true}
use Rattle.orc_rules.specs.Timed.{IsIn}
use Rattle.orc_indexes.specs.Same.{weight, only, but, None, is_this}
use Rattle.std.proofs.lemmas.List.Recursion.{is_sum_by}
use Rattle.std.proofs.lemmas.List.Sums.{sum_by-swap_remove}
use Rattle.std.specs.List.{swap_remove}

pub weight-append : {X : Type 0} (w : X → ℕ) (xs ys : List X) → weight w (xs ++ ys) ≡ weight w xs + weight w ys
weight-append w [] ys = omega arith
weight-append w (x ∷ xs) ys = omega (arith, weight-append w xs ys)

pub weight-sum_by : {X : Type 0} (w : X → ℕ) (xs : List X) → weight w xs ≡ sum_by w xs
weight-sum_by w xs = is_sum_by (weight w) w refl (λ x xs. refl) xs

pub weight-map : {X Y : Type 0} (w : Y → ℕ) (f : X → Y) (xs : List X) → weight w (map f xs) ≡ weight (λ x. w (f x)) xs
weight-map w f [] = refl
weight-map w f (x ∷ xs) = omega (arith, weight-map w f xs)

pub weight-swap_remove : {X : Type 0} (w : X → ℕ) (xs : List X) (i : ℕ) (d : X) → i < length xs → weight w (swap_remove xs i d) + w (get_or xs i d) ≡ weight w xs
weight-swap_remove w xs i d h = omega (arith, weight-sum_by w xs, weight-sum_by w (swap_remove xs i d), sum_by-swap_remove w xs i d h)

pub weight-filter : {X Y : Type 0} (w : Y → ℕ) (f : X → Y) (p : X → Bool) (xs : List X) → weight w (map f (filter p xs)) ≡ weight (only p (λ x. w (f x))) xs
weight-filter w f p [] = refl
weight-filter w f p (x ∷ xs) = go (p x) (weight-filter w f p xs)
  where
    go : (b : Bool) → weight w (map f (filter p xs)) ≡ weight (only p (λ x. w (f x))) xs → weight w (map f (cond b (x ∷ filter p xs) (filter p xs))) ≡ cond b (w (f x)) 0 + weight (only p (λ x. w (f x))) xs
    go true ih = omega (arith, ih)
    go false ih = omega (arith, ih)

pub weight-parts : {X : Type 0} (p : X → Bool) (w : X → ℕ) (xs : List X) → weight w xs ≡ weight (only p w) xs + weight (but p w) xs
weight-parts p w [] = refl
weight-parts p w (x ∷ xs) = go (p x) (weight-parts p w xs)
  where
    go : (b : Bool) → weight w xs ≡ weight (only p w) xs + weight (but p w) xs → w x + weight w xs ≡ (cond b (w x) 0 + weight (only p w) xs) + (cond b 0 (w x) + weight (but p w) xs)
    go true ih = omega (arith, ih)
    go false ih = omega (arith, ih)

pub weight-same : {X : Type 0} (v w : X → ℕ) (xs : List X) → ((x : X) → v x ≡ w x) → weight v xs ≡ weight w xs
weight-same v w [] h = refl
weight-same v w (x ∷ xs) h = omega (arith, h x, weight-same v w xs h)

pub weight-length : {X : Type 0} (xs : List X) → weight (λ x. 1) xs ≡ length xs
weight-length [] = refl
weight-length (x ∷ xs) = omega (arith, weight-length xs)

pub weight-least : {X : Type 0} (v w : X → ℕ) (xs : List X) → ((x : X) → v x ≤ w x) → weight v xs ≤ weight w xs
weight-least v w [] h = omega arith
weight-least v w (x ∷ xs) h = omega (arith, h x, weight-least v w xs h)

-- what is left of it
pub weight-but : {X : Type 0} (gone : X → Bool) (w : X → ℕ) (xs : List X) → weight (but gone w) xs ≤ weight w xs
weight-but gone w xs = weight-least (but gone w) w xs (λ x. less (gone x) (w x))
  where
    less : (b : Bool) (n : ℕ) → cond b 0 n ≤ n
    less true n = omega arith
    less false n = omega arith

pub weight-none : {X : Type 0} (w : X → ℕ) (xs : List X) → ((x : X) → w x ≡ 0) → weight w xs ≡ 0
weight-none w [] h = refl
weight-none w (x ∷ xs) h = omega (arith, h x, weight-none w xs h)

-- where none passes a test, what is so of those that don't is so of all
pub none-alike : {X : Type 0} (bad : X → Bool) (v w : X → ℕ) (xs : List X) → None bad xs → ((x : X) → bad x ≡ false → v x ≡ w x) → weight v xs ≡ weight w xs
none-alike bad v w [] h e = refl
none-alike bad v w (x ∷ xs) h e = go (bad x) refl h (λ h'. none-alike bad v w xs h' e)
  where
    go : (b : Bool) → bad x ≡ b → cond b 1 0 + weight (only bad (λ y. 1)) xs ≡ 0 → (None bad xs → weight v xs ≡ weight w xs) → v x + weight v xs ≡ w x + weight w xs
    go true f h ih = absurd (omega (arith, h))
    go false f h ih = omega (arith, e x f, ih (omega (arith, h)))

pub none-weaker : {X : Type 0} (bad worse : X → Bool) (xs : List X) → None bad xs → ((x : X) → bad x ≡ false → worse x ≡ false) → None worse xs
none-weaker bad worse xs h e = none-alike bad (only worse (λ y. 1)) (λ y. 0) xs h (λ x f. ap (λ b. cond b 1 0) (e x f)) ∙ weight-none (λ y. 0) xs (λ x. refl)

pub none-in : {X : Type 0} (bad : X → Bool) (xs : List X) (x : X) → None bad xs → IsIn x xs → bad x ≡ false
none-in bad [] x h i = elim i [ ]
none-in bad (y ∷ xs) x h (inl e) = ap bad e ∙ go (bad y) h
  where
    go : (b : Bool) → cond b 1 0 + weight (only bad (λ y. 1)) xs ≡ 0 → b ≡ false
    go true h = absurd (omega (arith, h))
    go false h = refl
none-in bad (y ∷ xs) x h (inr i) = none-in bad xs x (omega (arith, h)) i

-- what one that is in the list weighs
pub weight-in : {X : Type 0} (w : X → ℕ) (xs : List X) (x : X) → IsIn x xs → w x ≤ weight w xs
weight-in w [] x i = elim i [ ]
weight-in w (y ∷ xs) x (inl e) = omega (arith, ap w e)
weight-in w (y ∷ xs) x (inr i) = omega (arith, weight-in w xs x i)

pub in-got : {X : Type 0} (xs : List X) (i : ℕ) (d : X) → i < length xs → IsIn (get_or xs i d) xs
in-got [] i d h = absurd (omega (arith, h))
in-got (x ∷ xs) zero d h = inl refl
in-got (x ∷ xs) (suc i) d h = inr (in-got xs i d (omega (arith, h)))

pub either_one : (a b : ℕ) → 1 ≤ a + b → (1 ≤ a) ⊎ (1 ≤ b)
either_one zero b h = inr (omega (arith, h))
either_one (suc a) b h = inl (omega arith)

pub this_is : (i j : ℕ) → i ≡ j → is_this i j ≡ 1
this_is i j e = ap (λ b. cond {A = ℕ} b 1 0) (eq-eqb i j e)

pub this_not : (i j : ℕ) → (i ≡ j → ⊥) → is_this i j ≡ 0
this_not i j off = go (nat_eq i j) refl
  where
    go : (b : Bool) → nat_eq i j ≡ b → cond {A = ℕ} b 1 0 ≡ 0
    go true e = absurd (off (eqb-true i j e))
    go false e = refl

pub one-most : (i j : ℕ) → is_this i j ≤ 1
one-most i j = go (nat_eq i j)
  where
    go : (b : Bool) → cond {A = ℕ} b 1 0 ≤ 1
    go true = omega arith
    go false = omega arith

-- where a list weighs something, something in it does
pub some-in : {X : Type 0} (w : X → ℕ) (xs : List X) → 1 ≤ weight w xs → (x : X) × IsIn x xs × (1 ≤ w x)
some-in w [] h = absurd (omega (arith, h))
some-in w (x ∷ xs) h = ⊎_elim (λ a. (x, inl refl, a)) (λ b. let d = some-in w xs b in (d.0, inr d.1, d.2)) (either_one (w x) (weight w xs) h)

pub this_one : (i j : ℕ) → 1 ≤ is_this i j → i ≡ j
this_one i j h = go (nat_eq i j) refl h
  where
    go : (b : Bool) → nat_eq i j ≡ b → 1 ≤ cond {A = ℕ} b 1 0 → i ≡ j
    go true e h = eqb-true i j e
    go false e h = absurd (omega (arith, h))
