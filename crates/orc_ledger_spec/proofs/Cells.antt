-- The table of cells after one has become something.
use Rattle.std.proofs.Common.{◌≡◌, ℕ, zero, suc, List, [], ◌∷◌, get_or, Option, Some, None, refl, sym, ap, ◌∙◌, subst, Bool, true, false, cond, nat_eq, eq-eqb, not}
use Rattle.std.proofs.lemmas.Bool.{ne_eqb, eqb-true}
use Rattle.std.specs.Prelude.{slice_get, slice_set}
use Rattle.orc_env.specs.declared.names.Bound.{Bound}
use Rattle.orc_env.specs.declared.names.Bound.TheVariants.{Is, Cell, Void}
use Rattle.orc_env.specs.Scopes.{current}
use Rattle.orc_env.proofs.Filling.{filled}
use Rattle.orc_ledger_spec.specs.Records.{is_own}

pub set_same : (xs : List Bound) (i : ℕ) (w x : Bound) → slice_get xs i ≡ Some x → slice_get (slice_set xs i w) i ≡ Some w
set_same [] i w x h = cc h
set_same (y ∷ xs) zero w x h = refl
set_same (y ∷ xs) (suc i) w x h = set_same xs i w x h

pub set_other : (xs : List Bound) (i j : ℕ) (w : Bound) → (j ≡ i → ⊥) → slice_get (slice_set xs i w) j ≡ slice_get xs j
set_other [] i j w h = refl
set_other (y ∷ xs) zero zero w h = absurd (h refl)
set_other (y ∷ xs) zero (suc j) w h = refl
set_other (y ∷ xs) (suc i) zero w h = refl
set_other (y ∷ xs) (suc i) (suc j) w h = set_other xs i j w (λ e. h (ap suc e))

value_or : Bound → Option Bound → Bound
value_or d (Some z) = z
value_or d None = d

some_same : (a b : Bound) → Some a ≡ Some b → a ≡ b
unfolding value_or
some_same a b h = ap (value_or a) h

from_get : (xs : List Bound) (i : ℕ) (d : Bound) → get_or xs i d ≡ value_or d (slice_get xs i)
unfolding value_or
from_get [] i d = refl
from_get (y ∷ xs) zero d = refl
from_get (y ∷ xs) (suc i) d = from_get xs i d

module _ (cells : List Bound) (own : (c d : ℕ) → slice_get cells c ≡ Some (Cell d) → c ≡ d) (c : ℕ) (w : Bound) (unbound : slice_get cells c ≡ Some (Cell c)) where
  stays_as : (d : ℕ) → (c ≡ d → ⊥) → (o : Option Bound) → slice_get cells d ≡ o → filled c w (value_or (Cell d) o) ≡ value_or (Cell d) o
  unfolding value_or
  stays_as d off (Some (Is v)) h = refl
  stays_as d off (Some Void) h = refl
  stays_as d off (Some (Cell e)) h = ap (λ b. cond b w (Cell e)) (ne_eqb c e (λ z. off (z ∙ sym (own d e h))))
  stays_as d off None h = ap (λ b. cond b w (Cell d)) (ne_eqb c d off)

  pub becomes : (b : Bound) → filled c w (current cells b) ≡ current (slice_set cells c w) b
  unfolding value_or
  becomes (Is v) = refl
  becomes Void = refl
  becomes (Cell d) = go (nat_eq c d) refl
    where
      go : (t : Bool) → nat_eq c d ≡ t → filled c w (get_or cells d (Cell d)) ≡ get_or (slice_set cells c w) d (Cell d)
      go true h =
          let e : c ≡ d = eqb-true c d h in
          subst (λ z. filled c w (get_or cells z (Cell z)) ≡ get_or (slice_set cells c w) z (Cell z)) e
          (ap (filled c w) (from_get cells c (Cell c) ∙ ap (value_or (Cell c)) unbound) ∙ ap (λ b. cond b w (Cell c)) (eq-eqb c c refl) ∙ sym (from_get (slice_set cells c w) c (Cell c) ∙ ap (value_or (Cell c)) (set_same cells c w (Cell c) unbound)))
      go false h =
          let off : c ≡ d → ⊥ = λ e. cc (eq-eqb c d e, h) in
          ap (filled c w) (from_get cells d (Cell d))
          ∙ stays_as d off (slice_get cells d) refl
          ∙ sym (from_get (slice_set cells c w) d (Cell d) ∙ ap (value_or (Cell d)) (set_other cells c d w (λ e. off (sym e))))

  pub own_filled : ((d : ℕ) → w ≡ Cell d → ⊥) → (d e : ℕ) → slice_get (slice_set cells c w) d ≡ Some (Cell e) → d ≡ e
  own_filled plain d e h = go (nat_eq d c) refl
    where
      go : (t : Bool) → nat_eq d c ≡ t → d ≡ e
      go true k =
          let same : d ≡ c = eqb-true d c k in
          absurd (plain e (some_same w (Cell e) (sym (set_same cells c w (Cell c) unbound) ∙ ap (slice_get (slice_set cells c w)) (sym same) ∙ h)))
      go false k = own d e (sym (set_other cells c d w (λ z. cc (eq-eqb d c z, k))) ∙ h)

-- a cell that stands for itself
pub own_cell : (c : ℕ) (o : Option Bound) → not (is_own c o) ≡ false → o ≡ Some (Cell c)
own_cell c None h = cc h
own_cell c (Some (Is v)) h = cc h
own_cell c (Some Void) h = cc h
own_cell c (Some (Cell d)) h = go (nat_eq c d) refl h
  where
    go : (t : Bool) → nat_eq c d ≡ t → not t ≡ false → Some (Cell d) ≡ Some (Cell c)
    go true e h = ap (λ z. Some (Cell z)) (sym (eqb-true c d e))
    go false e h = cc h
