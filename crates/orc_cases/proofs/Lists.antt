-- Lists, place by place.
use Rattle.std.proofs.Common.{◌≡◌, ℕ, zero, suc, ◌+◌, ◌-◌, ◌<◌, ◌≤◌, List, [], ◌∷◌, ◌++◌, length, map, Some, refl, sym, ap, ◌∙◌, append_assoc, arith}
use Rattle.std.proofs.lemmas.List.Concat.{flat_map-append}
use Rattle.std.specs.Prelude.{slice_get, option_map}
use Rattle.std.specs.List.{flat_map, range_with_len}
use Rattle.std.specs.Option.{option_to_list}
use Rattle.orc_cases.specs.Places.{picked}

pub picked-append : {X : Type 0} (xs : List X) (ms ns : List ℕ) → picked xs (ms ++ ns) ≡ picked xs ms ++ picked xs ns
picked-append xs ms ns = flat_map-append (λ (k : ℕ). option_to_list (slice_get xs k)) ms ns

pub picked-flat_map : {X Y : Type 0} (xs : List X) (f : Y → List ℕ) (ys : List Y) → picked xs (flat_map f ys) ≡ flat_map (λ y. picked xs (f y)) ys
picked-flat_map xs f [] = refl
picked-flat_map {X} xs f (y ∷ ys) = picked-append xs (f y) (flat_map f ys) ∙ ap (λ (zs : List X). picked xs (f y) ++ zs) (picked-flat_map xs f ys)

-- two functions that give the same of each
pub same_flat_map : {X Y : Type 0} (f g : X → List Y) → ((x : X) → f x ≡ g x) → (xs : List X) → flat_map f xs ≡ flat_map g xs
same_flat_map f g e [] = refl
same_flat_map {X} {Y} f g e (x ∷ xs) = ap (λ (ys : List Y). ys ++ flat_map f xs) (e x) ∙ ap (λ (ys : List Y). g x ++ ys) (same_flat_map f g e xs)

pub same_map : {X Y : Type 0} (f g : X → Y) → ((x : X) → f x ≡ g x) → (xs : List X) → map f xs ≡ map g xs
same_map f g e [] = refl
same_map {X} {Y} f g e (x ∷ xs) = ap (λ (y : Y). y ∷ map f xs) (e x) ∙ ap (λ (ys : List Y). g x ∷ ys) (same_map f g e xs)

pub map-map : {X Y Z : Type 0} (g : Y → Z) (f : X → Y) (xs : List X) → map g (map f xs) ≡ map (λ x. g (f x)) xs
map-map g f [] = refl
map-map {X} {Y} {Z} g f (x ∷ xs) = ap (λ (zs : List Z). g (f x) ∷ zs) (map-map g f xs)

-- the next number of a range
pub range_more : (k n : ℕ) → k ≤ n → range_with_len k (suc n - k) ≡ k ∷ range_with_len (k + 1) (suc n - (k + 1))
range_more k n le =
    let e : suc n - k ≡ suc (suc n - (k + 1)) = omega arith in
    rw e refl

pub range_end : (n : ℕ) → range_with_len (n + 1) (suc n - (n + 1)) ≡ []
range_end n =
    let e : suc n - (n + 1) ≡ 0 = omega arith in
    rw e refl

-- the element at a place of two lists joined
pub get_left : {X : Type 0} (xs ys : List X) (n : ℕ) → n < length xs → slice_get (xs ++ ys) n ≡ slice_get xs n
get_left [] ys n lt = absurd (omega arith)
get_left (x ∷ xs) ys zero lt = refl
get_left (x ∷ xs) ys (suc n) lt = get_left xs ys n (omega arith)

pub get_right : {X : Type 0} (xs ys : List X) (n : ℕ) → length xs ≤ n → slice_get (xs ++ ys) n ≡ slice_get ys (n - length xs)
get_right [] ys n le = let e : n - 0 ≡ n = omega arith in rw e refl
get_right (x ∷ xs) ys zero le = absurd (omega arith)
get_right (x ∷ xs) ys (suc n) le = let e : suc n - suc (length xs) ≡ n - length xs = omega arith in rw e (get_right xs ys n (omega arith))

pub get-map : {X Y : Type 0} (f : X → Y) (xs : List X) (n : ℕ) → slice_get (map f xs) n ≡ option_map f (slice_get xs n)
get-map f [] n = refl
get-map f (x ∷ xs) zero = refl
get-map f (x ∷ xs) (suc n) = get-map f xs n

pub get_at_end : {X : Type 0} (front : List X) (x : X) (rest : List X) → slice_get (front ++ x ∷ rest) (length front) ≡ Some x
get_at_end [] x rest = refl
get_at_end (y ∷ ys) x rest = get_at_end ys x rest

pub range_none : (low high : ℕ) → high < low → range_with_len low (suc high - low) ≡ []
range_none low high lt =
    let e : suc high - low ≡ 0 = omega arith in
    rw e refl

-- one number more of a range
pub range_step : {Y : Type 0} (f : ℕ → List Y) (k n : ℕ) (old new total : List Y) → k ≤ n → new ≡ old ++ f k → old ++ flat_map f (range_with_len k (suc n - k)) ≡ total → new ++ flat_map f (range_with_len (k + 1) (suc n - (k + 1))) ≡ total
range_step {Y} f k n old new total le added so_far =
    ap (λ (ys : List Y). ys ++ flat_map f (range_with_len (k + 1) (suc n - (k + 1)))) added
    ∙ append_assoc old (f k) (flat_map f (range_with_len (k + 1) (suc n - (k + 1))))
    ∙ ap (λ (ks : List ℕ). old ++ flat_map f ks) (sym (range_more k n le))
    ∙ so_far

pub range_step_one : {Y : Type 0} (f : ℕ → Y) (k n : ℕ) (old new total : List Y) → k ≤ n → new ≡ old ++ f k ∷ [] → old ++ map f (range_with_len k (suc n - k)) ≡ total → new ++ map f (range_with_len (k + 1) (suc n - (k + 1))) ≡ total
range_step_one {Y} f k n old new total le added so_far =
    ap (λ (ys : List Y). ys ++ map f (range_with_len (k + 1) (suc n - (k + 1)))) added
    ∙ append_assoc old (f k ∷ []) (map f (range_with_len (k + 1) (suc n - (k + 1))))
    ∙ ap (λ (ks : List ℕ). old ++ map f ks) (sym (range_more k n le))
    ∙ so_far
