-- The first of the nodes with due times.
use Rattle.std.proofs.Common.{◌≡◌, List, [], ◌∷◌, ap}
use Rattle.std.specs.Prelude.{Some, slice_get}
use Rattle.orc_calls.proofs.Notes.{Timed}

pub head_of : (ks : List Timed) (a : Timed) → slice_get ks 0 ≡ Some a → (later : List Timed) × (ks ≡ a ∷ later)
head_of [] a h = absurd (cc h)
head_of (k ∷ ks) a h = let e : k ≡ a = cc h in (ks, ap (λ (z : Timed). z ∷ ks) e)
