-- What stands at some places of a list.
use Rattle.std.specs.Prelude.{ℕ, ◌+◌, ◌<◌, List, [], ◌∷◌, slice_get, Bool, cond}
use Rattle.std.specs.List.{flat_map}
use Rattle.std.specs.Option.{option_to_list}

-- what stands at these places, in their order
abbrev pub picked : {X : Type 0} → List X → List ℕ → List X
picked xs ns = flat_map (λ n. option_to_list (slice_get xs n)) ns

-- the places of those that pass, where these stand from a place on
abbrev pub positions : {X : Type 0} → (X → Bool) → ℕ → List X → List ℕ
positions p n [] = []
positions p n (x ∷ xs) = cond (p x) (n ∷ positions p (n + 1) xs) (positions p (n + 1) xs)

-- each is below a number
abbrev pub AreBelow : ℕ → List ℕ → Type 0
AreBelow most [] = Unit {0}
AreBelow most (n ∷ ns) = (n < most) × AreBelow most ns
