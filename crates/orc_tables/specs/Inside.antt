-- What stands inside the right side of a cell, by the steps alone.
use Rattle.std.specs.Prelude.{◌≡◌, ℕ, zero, suc, List, Bool, false, nat_eq, ◌||◌, Option, Some, [], ◌∷◌, cond, ◌&&◌, None}
use Rattle.orc_tables.specs.declared.records.Frame.{Frame}
use Rattle.orc_tables.specs.declared.records.Frame.TheVariants.{SeqLeft, PruneRight, OtherwiseLeft}
use Rattle.orc_tables.specs.declared.records.Step.{Step}
use Rattle.orc_tables.specs.Tokens.{is_live, IsHeld}
use Rattle.orc_tables.specs.declared.records.Token.{Token}
use Rattle.orc_tables.specs.declared.records.Call.{Call}
use Rattle.orc_tables.specs.declared.records.Side.{Side}
use Rattle.orc_tables.specs.declared.records.Side.TheVariants.{Right, Left}
use Rattle.orc_tables.specs.Steps.{step_at}

-- this is the right side of cell c
abbrev pub aids : ℕ → Frame → Bool
aids c (SeqLeft x g scope) = false
aids c (PruneRight d) = nat_eq c d
aids c (OtherwiseLeft n) = false

module _ (c : ℕ) (ss : List Step) where
  -- a step enters the right side of cell c, or one further outwards does
  abbrev pub is_on : (ℕ → Bool) → Option Step → Bool
  is_on outwards None = false
  is_on outwards (Some p) = aids c p.entered || outwards p.outer

  -- among the n steps from step i outwards one enters the right side of cell c
  abbrev pub is_among : ℕ → ℕ → Bool
  is_among zero i = false
  is_among (suc n) i = is_on (λ j. is_among n j) (step_at ss i)

  -- what has step i for its innermost one is inside the right side of cell c; from i outwards there are at most i steps
  abbrev pub stands_inside : ℕ → Bool
  stands_inside i = is_among i i

  -- a side, with the step around it, is inside, or is that right side itself
  abbrev pub side_inside : ℕ → Side → Bool
  side_inside i (Right d) = nat_eq c d || stands_inside i
  side_inside i (Left n g scope) = stands_inside i

  -- a token in its slot that stands inside
  abbrev pub held_inside : Token → Bool
  held_inside t = is_live t && stands_inside t.step

  -- each token that stands outside is still in its slot
  abbrev pub StayOutside : List Token → List Token → Type 0
  StayOutside slots slots' = (k : ℕ) (t : Token) → IsHeld slots k t → stands_inside t.step ≡ false → IsHeld slots' k t

  -- the numbers of the calls that pend inside
  abbrev pub numbers_inside : List Call → List ℕ
  numbers_inside [] = []
  numbers_inside (k ∷ ks) = cond (stands_inside k.step) (k.number ∷ numbers_inside ks) (numbers_inside ks)
