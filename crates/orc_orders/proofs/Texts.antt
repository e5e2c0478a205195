-- A text that grows by one item's at a time.
use Rattle.std.proofs.Common.{◌≡◌, ◌<◌, ◌+◌, ◌++◌, ℕ, List, length, take, slice_index_or, ap, sym, ◌∙◌}
use Rattle.std.specs.List.{flat_map}
use Rattle.std.proofs.lemmas.List.{flat_map_more, take_more}

pub one_more : {X : Type 0} (f : X → List ℕ) (front text new : List ℕ) (xs : List X) (i : ℕ) (d : X) → i < length xs → text ≡ front ++ flat_map f (take i xs) → new ≡ text ++ f (slice_index_or xs i d) → new ≡ front ++ flat_map f (take (i + 1) xs)
one_more f front text new xs i d within so_far grown =
    grown ∙ (ap (λ t. t ++ f (slice_index_or xs i d)) so_far ∙ (flat_map_more f front (take i xs) (slice_index_or xs i d) ∙ ap (λ t. front ++ flat_map f t) (sym (take_more xs i d within))))
