-- What a term does by itself.
use Rattle.std.proofs.Common.{◌≡◌, ◌≤◌, ℕ, zero, suc, List, [], ◌∷◌, length, map, drop, Bool, true, false, Option, Some, None, refl, sym, ap, ◌∙◌, arith}
use Rattle.std.specs.Prelude.{slice_get, option_map}
use Rattle.orc_rules.specs.declared.value.Value.{Value}
use Rattle.orc_rules.specs.declared.param.Param.{Param}
use Rattle.orc_rules.specs.declared.param.Param.TheVariants.{Name, Is, Cell, Void}
use Rattle.orc_rules.specs.Term.{values_of}
use Rattle.orc_rules.specs.Idle.{has_void}
use Rattle.orc_rules.specs.declared.program.Definition.{Definition as Routine}
use Rattle.orc_rules.specs.Nodes.{Listing, Routine as Listed, definition_of, definitions}
use Rattle.orc_rules.specs.Programs.{routine_of}
use Rattle.orc_search.specs.Small.{Small, set_all}
use Rattle.orc_search.specs.Programs.{small_definition, small_definitions}
use Rattle.orc_search.proofs.Nodes.{mapped_get}

-- values have no void among them
void_none : (ps : List Param) → has_void ps ≡ true → values_of ps ≡ None
void_none [] e = cc e
void_none (Void ∷ ps) e = refl
void_none (Name y ∷ ps) e = refl
void_none (Cell c ∷ ps) e = refl
void_none (Is v ∷ ps) e = rw (void_none ps e) refl

pub none_void : (ps : List Param) (vs : List Value) → values_of ps ≡ Some vs → has_void ps ≡ false
none_void ps vs e = go (has_void ps) refl
  where
    go : (b : Bool) → has_void ps ≡ b → b ≡ false
    go true h = cc (void_none ps h, e)
    go false h = refl

-- the parameters that are left where names or parameters end
pub past : {X : Type 0} (xs : List X) (i : ℕ) → length xs ≤ i → drop i xs ≡ []
past [] zero le = refl
past [] (suc i) le = refl
past (x ∷ xs) zero le = absurd (omega (arith, le))
past (x ∷ xs) (suc i) le = past xs i (omega (arith, le))

pub all_set : (xs : List ℕ) (f : Small) → set_all xs [] f ≡ f
all_set [] f = refl
all_set (x ∷ xs) f = refl

-- a definition of a program, as a small one
module _ (l : Listing) (ds : List Routine) (k : ℕ) (same : map routine_of ds ≡ l.routines) where
  pub small_at_number : slice_get (small_definitions l) k ≡ option_map small_definition (option_map (definition_of l) (option_map routine_of (slice_get ds k)))
  small_at_number =
      mapped_get small_definition (definitions l) k
      ∙ ap (option_map small_definition) (mapped_get (definition_of l) l.routines k)
      ∙ ap (λ (rs : List Listed). option_map small_definition (option_map (definition_of l) (slice_get rs k))) (sym same)
      ∙ ap (λ (o : Option Listed). option_map small_definition (option_map (definition_of l) o)) (mapped_get routine_of ds k)

  pub is_defined : (d : Routine) → slice_get ds k ≡ Some d → slice_get (small_definitions l) k ≡ Some (small_definition (definition_of l (routine_of d)))
  is_defined d e = small_at_number ∙ ap (λ (o : Option Routine). option_map small_definition (option_map (definition_of l) (option_map routine_of o))) e

  pub is_undefined : slice_get ds k ≡ None → slice_get (small_definitions l) k ≡ None
  is_undefined e = small_at_number ∙ ap (λ (o : Option Routine). option_map small_definition (option_map (definition_of l) (option_map routine_of o))) e
