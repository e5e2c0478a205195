-- Which numbers intervals have.
use Rattle.std.proofs.Common.{◌≡◌, ◌≤◌, ◌<◌, ℕ, suc, ◌+◌, List, [], ◌∷◌, Bool, true, false, cond, refl, ap, ◌∙◌, arith}
use Rattle.std.specs.Prelude.{◌||◌, ◌&&◌, ◌-◌, leb, nat_eq, nat_lt}
use Rattle.std.specs.List.{list_any}
use Rattle.std.specs.List.Sorted.{IsNonDecreasing}
use Rattle.std.proofs.lemmas.Bool.Decides.{nat_tests}
use Rattle.std.proofs.lemmas.List.Sorted.{IsNonDecreasingBy-drop}
use Rattle.orc_cases.specs.Intervals.{alone, is_within, runs}
use Rattle.orc_cases.specs.declared.intervals.Interval.{Interval}

-- each is at least the one before it
abbrev pub Rises : ℕ → List ℕ → Type 0
Rises m [] = Unit {0}
Rises m (n ∷ ns) = (m ≤ n) × Rises n ns

pub rises : (m : ℕ) (ns : List ℕ) → IsNonDecreasing (m ∷ ns) → Rises m ns
rises m [] h = tt
rises m (n ∷ ns) h = (h 0 1 0 (omega arith) (omega arith), rises n ns (IsNonDecreasingBy-drop (λ x. x) 1 (m ∷ n ∷ ns) h))

pub rises_from : (a m : ℕ) (ns : List ℕ) → a ≤ m → Rises m ns → Rises a ns
rises_from a m [] le up = tt
rises_from a m (n ∷ ns) le up = let first = up.0 in (omega arith, up.1)

-- what tells nothing new
absorb : (a c b : Bool) → (c ≡ true → a ≡ true) → (a || b) ≡ (a || (c || b))
absorb true c b f = refl
absorb false true b f = absurd (cc (f refl))
absorb false false b f = refl

assoc : (a c b : Bool) → ((a || c) || b) ≡ (a || (c || b))
assoc true c b = refl
assoc false c b = refl

in_it : (n m : ℕ) (i : Interval) → i.first ≤ i.last → i.last ≤ m → m ≤ i.last → nat_eq n m ≡ true → is_within n i ≡ true
in_it n m i le one other e = grind (arith, nat_tests)

one_longer : (n m : ℕ) (i : Interval) → i.first ≤ i.last → i.last < m → m ≤ i.last + 1 → is_within n (record { first = i.first; last = m }) ≡ (is_within n i || nat_eq n m)
one_longer n m i le one other = grind (arith, nat_tests)

pub alone_is : (n m : ℕ) → is_within n (alone m) ≡ nat_eq n m
alone_is n m = grind (arith, nat_tests)

pub not_over : (a b : ℕ) → nat_lt a b ≡ false → b ≤ a
not_over a b e = grind (arith, nat_tests)

pub is_over : (a b : ℕ) → nat_lt a b ≡ true → a < b
is_over a b e = grind (arith, nat_tests)

is_next : (a b : ℕ) → nat_eq (b - 1) a ≡ true → b ≤ a + 1
is_next a b e = grind (arith, nat_tests)

-- with a number more
turn : (n m : ℕ) (i : Interval) (more : Bool) (longer others same : List Interval) → i.first ≤ i.last → i.last ≤ m →
    list_any (is_within n) longer ≡ (is_within n (record { first = i.first; last = m }) || more) →
    list_any (is_within n) others ≡ (is_within n (alone m) || more) →
    list_any (is_within n) same ≡ (is_within n i || more) →
    list_any (is_within n) (cond (nat_lt i.last m) (cond (nat_eq (m - 1) i.last) longer (i ∷ others)) same) ≡ (is_within n i || (nat_eq n m || more))
turn n m i more longer others same le up of_longer of_others of_same = by_over (nat_lt i.last m) refl
  where
    by_next : (t : Bool) → nat_eq (m - 1) i.last ≡ t → i.last < m → list_any (is_within n) (cond t longer (i ∷ others)) ≡ (is_within n i || (nat_eq n m || more))
    by_next true e over = of_longer ∙ ap (λ (b : Bool). b || more) (one_longer n m i le over (is_next i.last m e)) ∙ assoc (is_within n i) (nat_eq n m) more
    by_next false e over = ap (λ (b : Bool). is_within n i || b) (of_others ∙ ap (λ (b : Bool). b || more) (alone_is n m))

    by_over : (t : Bool) → nat_lt i.last m ≡ t → list_any (is_within n) (cond t (cond (nat_eq (m - 1) i.last) longer (i ∷ others)) same) ≡ (is_within n i || (nat_eq n m || more))
    by_over true e = by_next (nat_eq (m - 1) i.last) refl (is_over i.last m e)
    by_over false e = of_same ∙ absorb (is_within n i) (nat_eq n m) more (in_it n m i le up (not_over i.last m e))

-- intervals have the numbers of the first one, and those behind it
pub runs_have : (n : ℕ) (i : Interval) (ns : List ℕ) → i.first ≤ i.last → Rises i.last ns → list_any (is_within n) (runs i ns) ≡ (is_within n i || list_any (nat_eq n) ns)
runs_have n i [] le up = refl
runs_have n i (m ∷ ns) le up =
    let first = up.0 in
    let long : i.first ≤ m = omega arith in
    let one : m ≤ m = omega arith in
    turn n m i (list_any (nat_eq n) ns) (runs (record { first = i.first; last = m }) ns) (runs (alone m) ns) (runs i ns) le first
    (runs_have n (record { first = i.first; last = m }) ns long up.1) (runs_have n (alone m) ns one up.1) (runs_have n i ns le (rises_from i.last m ns first up.1))
