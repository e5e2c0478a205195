-- A walk over a list that looks for one item of some weight.
use Rattle.std.proofs.Common.{◌≡◌, ◌≤◌, ◌<◌, ◌+◌, ℕ, List, [], ◌∷◌, length, take, get_or, ap, ◌∙◌, arith, true, Option, Some, None}
use Rattle.std.specs.Option.{MatchOption, is_some}
use Rattle.std.proofs.lemmas.List.{take_more, take_all}
use Rattle.orc_indexes.specs.Same.{weight}
use Rattle.orc_indexes.proofs.Weight.{weight-append}

pub none-so-far : {X : Type 0} (w : X → ℕ) (xs : List X) (i : ℕ) (d : X) → i < length xs → weight w (take i xs) ≡ 0 → w (get_or xs i d) ≡ 0 → weight w (take (i + 1) xs) ≡ 0
none-so-far w xs i d lt before this = ap (weight w) (take_more xs i d lt) ∙ (weight-append w (take i xs) (get_or xs i d ∷ []) ∙ omega (arith, before, this))

pub none-at-all : {X : Type 0} (w : X → ℕ) (xs : List X) (i : ℕ) → length xs ≤ i → weight w (take i xs) ≡ 0 → weight w xs ≡ 0
none-at-all w xs i past before = omega (arith, before, ap (weight w) (take_all i xs past))

-- what such a walk has found
pub the-found : {X : Type 0} (none : Type 0) (some : X → Type 0) (o : Option X) → MatchOption o none some → is_some o ≡ true → (x : X) × some x
the-found none some (Some x) h e = (x, h)
the-found none some None h e = cc e
