-- The first ones of a list.
use Rattle.std.proofs.Common.{◌≡◌, ℕ, ◌≤◌, List, take, map, length, min, inl, inr, sym, ap, ◌∙◌, arith}
use Rattle.std.proofs.lemmas.Bool.Decides.{leb_tells}
use Rattle.std.proofs.lemmas.List.{take_all, take-map}

-- as many as there are, and no more than m
pub cut : {A : Type 0} → (n m : ℕ) (xs : List A) → n ≡ min (length xs) m → take n xs ≡ take m xs
cut n m xs e = elim (leb_tells (length xs) m) [
  | inl met ↦ let all : length xs ≤ n = omega (arith, e, met.1) in take_all n xs all ∙ sym (take_all m xs met.1)
  | inr unmet ↦ let is : n ≡ m = omega (arith, e, unmet.1) in ap (λ (k : ℕ). take k xs) is
]

pub cut_all : {A B : Type 0} → (f : A → B) (n m i : ℕ) (xs : List A) → n ≡ min (length xs) m → length (take n xs) ≤ i → map f (take i (take n xs)) ≡ take m (map f xs)
cut_all f n m i xs e le = ap (map f) (take_all i (take n xs) le ∙ cut n m xs e) ∙ sym (take-map f m xs)
