-- The sides that may have halted: the left side of an entered otherwise, and the right side of an opened pruning.
use Rattle.std.specs.Prelude.{◌≡◌, ◌<◌, ◌⊎◌, ◌&&◌, ℕ, List, Bool, true, false, Option, Some, None, nat_eq, length, slice_index_or}
use Rattle.orc_rules.specs.Timed.{IsIn}
use Rattle.orc_term.specs.declared.arena.Node.{Node}
use Rattle.orc_term.specs.declared.arena.Kind.{Kind}
use Rattle.orc_term.specs.declared.arena.Kind.TheVariants.{One, Two}
use Rattle.orc_term.specs.declared.arena.Single.TheVariants.{Entered}
use Rattle.orc_term.specs.declared.arena.Double.TheVariants.{Side}
use Rattle.orc_term.specs.Settling.{kind_at, parent_at}

-- places, or all places
pub record Places : Type 0 where
  pub all : Bool
  pub listed : List ℕ

-- node p is a candidate
abbrev pub MayBe : Places → ℕ → Type 0
MayBe c p = (c.all ≡ true) ⊎ IsIn p c.listed

-- whether a node's part is a side, which ends it once it has halted
abbrev pub is_side : Kind → ℕ → Bool
is_side (One (Entered m g e) i) p = nat_eq i p
is_side (Two (Side c) i j) p = nat_eq j p
is_side _ p = false

-- whether the part at a place is a side
abbrev pub is_side_at : List Node → ℕ → Bool
is_side_at nodes p = is_side (kind_at nodes (parent_at nodes p)) p

-- whether a place has a flag that is set
abbrev pub is_set : List Bool → ℕ → Bool
is_set flags p = slice_index_or flags p false

-- whether the part at a place is a side and has halted
abbrev pub has_ended : List Node → List Bool → ℕ → Bool
has_ended nodes flags p = is_set flags p && is_side_at nodes p

-- the place of a side that has halted; none where none has
abbrev pub HasEnded : List Node → List Bool → Option ℕ → Type 0
HasEnded nodes flags (Some p) = has_ended nodes flags p ≡ true
HasEnded nodes flags None = (p : ℕ) → has_ended nodes flags p ≡ false

-- all sides that have halted are among the places
pub record AreKnown (nodes : List Node) (flags : List Bool) (c : Places) : Type 0 where
  pub len : length flags ≡ length nodes
  pub known : (p : ℕ) → is_set flags p ≡ true → is_side_at nodes p ≡ true → MayBe c p

-- none of the first n parts becomes a side
pub record NoNewSides (n : ℕ) (nodes nodes' : List Node) : Type 0 where
  pub before : (p : ℕ) → p < n → is_side_at nodes' p ≡ true → is_side_at nodes p ≡ true

-- a side whose flag has been set since is among the candidates
pub record AreFlagged (nodes : List Node) (flags flags' : List Bool) (c : Places) : Type 0 where
  pub before : (p : ℕ) → is_set flags' p ≡ true → is_side_at nodes p ≡ true → (is_set flags p ≡ true) ⊎ MayBe c p
