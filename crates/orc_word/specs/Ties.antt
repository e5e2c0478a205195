-- How the words and views of a table are read as a state of the machine (`Machine`), and which of its events each step on the table is.
use Rattle.std.specs.Prelude.{◌≡◌, ℕ, ◌+◌, ◌-◌, ◌%◌, ◌<◌, Bool, false, cond, List, [], ◌∷◌, ◌++◌, None, Some, map, replicate, slice_index, slice_set, ◌==◌, bit_or}
use mathlib.Core.Option.{some}
use lib.ListN.{get_elem?}
use Rattle.orc_word.specs.declared.view.Stance.{Stance}
use Rattle.orc_word.specs.declared.view.Stance.TheVariants.{Supplies, Parting, Idle, Names, Spent}
use Rattle.orc_word.specs.declared.view.Plan.{Plan}
use Rattle.orc_word.specs.declared.bits.Bits.{Bits}
use Rattle.orc_word.specs.declared.bits.Bit.{Bit}
use Rattle.orc_word.specs.declared.bits.Bit.TheVariants.{Published, Killed}
use Rattle.orc_word.specs.Words as w
use Rattle.orc_word.specs.Machine as machine

-- a bit, a word's number and a stance as the machine's bit, word and pass: a supply is no pass, so it is `gone`
abbrev pub core_bit : Bit → machine.Bit
core_bit Published = machine.published
core_bit Killed = machine.killed

abbrev pub word_at : ℕ → machine.Word
word_at n = record { count = w.count_of n; is_published = w.bit_of Published n == 1; is_killed = w.bit_of Killed n == 1 }

abbrev pub as_pass : Stance → machine.Pass
as_pass (Supplies k) = machine.gone
as_pass (Parting k j) = machine.gone
as_pass Idle = machine.idle
as_pass (Names g seen won) = machine.names g
as_pass Spent = machine.gone

-- the machine's state with the words and passes of a table; `rest` has the other parts
abbrev pub core_of : machine.State → List ℕ → List Stance → machine.State
core_of rest words views = record rest { words = λ g. word_at (slice_index words g); passes = map as_pass views }

-- the rest after an opening
abbrev pub with_opening : machine.State → ℕ → ℕ → machine.State
with_opening rest p g = record rest { opening = Some (p, g) }

-- the rest after a leave, where it was the last
abbrev pub left_last : machine.State → ℕ → Bool → machine.State
left_last rest g last = record rest { lasts = cond last (g ∷ rest.lasts) rest.lasts }

-- the number that a mark adds to a word
abbrev pub mask_of : Bit → ℕ
mask_of Published = 4294967296
mask_of Killed = 8589934592

-- Each step on the words is an event of the machine. Two kinds are none, and leave the state as it is: a load that tells nothing of a group (`Peek`,
-- `Bound`), and a supply that sets passes aside
pub record Steps : Type 0 where
  -- the words are made: nothing but the place of the first supply
  pub made : (n k : ℕ) → machine.Step machine.start machine.sits (core_of machine.start (replicate n 0) (Supplies k ∷ []))
  pub take : (rest : machine.State) (words : List ℕ) (views : List Stance) (p k : ℕ) → get_elem? views p ≡ some (Supplies k)
      → machine.Step (core_of rest words views) machine.make (core_of rest words (slice_set views p (Supplies (k - 1)) ++ Idle ∷ []))
  pub set_aside : (rest : machine.State) (words : List ℕ) (views : List Stance) (p k j : ℕ) → get_elem? views p ≡ some (Supplies k)
      → core_of rest words (slice_set views p (Parting (k - j) j)) ≡ core_of rest words views
  pub part : (rest : machine.State) (words : List ℕ) (views : List Stance) (p k j : ℕ) → get_elem? views p ≡ some (Parting k j)
      → machine.Step (core_of rest words views) machine.sits (core_of rest words (slice_set views p (Supplies k) ++ Supplies j ∷ []))
  pub give : (rest : machine.State) (words : List ℕ) (views : List Stance) (p q k : ℕ) (v : Stance) → get_elem? views p ≡ some (Supplies k) → get_elem? views q ≡ some v → w.IsIdle v
      → machine.Step (core_of rest words views) (machine.join q) (core_of rest words (slice_set (slice_set views p (Supplies (k + 1))) q Spent))
  pub opens : (plan : Plan) (rest : machine.State) (words : List ℕ) (views : List Stance) (p g : ℕ) (v : Stance) → w.Rule plan words views → g < plan.groups
      → get_elem? views p ≡ some v → w.IsIdle v → w.count_of (slice_index words g) ≡ 0 → rest.taken g ≡ false → rest.opening ≡ None
      → machine.Step (core_of rest words views) (machine.opens p g) (core_of (with_opening rest p g) (slice_set words g 1) (slice_set views p (Names g w.no_bits w.no_bits)))
  pub enter : (plan : Plan) (rest : machine.State) (words : List ℕ) (views : List Stance) (p q g : ℕ) (seen won : Bits) (v : Stance) → w.Rule plan words views → g < plan.groups
      → get_elem? views p ≡ some (Names g seen won) → get_elem? views q ≡ some v → w.IsIdle v
      → machine.Step (core_of rest words views) (machine.enters p q g) (core_of rest (slice_set words g ((slice_index words g + 1) % 18446744073709551616)) (slice_set views q (Names g w.no_bits w.no_bits)))
  pub leave : (plan : Plan) (rest : machine.State) (words : List ℕ) (views : List Stance) (p g : ℕ) (seen won : Bits) → w.Rule plan words views → g < plan.groups
      → get_elem? views p ≡ some (Names g seen won) → machine.IsFree rest p
      → machine.Step (core_of rest words views) (machine.leaves p g (w.count_of (slice_index words g) == 1)) (core_of (left_last rest g (w.count_of (slice_index words g) == 1)) (slice_set words g ((slice_index words g + 18446744073709551615) % 18446744073709551616)) (slice_set views p Idle))
  pub mark : (plan : Plan) (rest : machine.State) (words : List ℕ) (views : List Stance) (p g : ℕ) (b : Bit) (seen won after : Bits) → w.Rule plan words views → g < plan.groups
      → get_elem? views p ≡ some (Names g seen won)
      → machine.Step (core_of rest words views) (machine.marks p g (core_bit b) (w.bit_of b (slice_index words g) == 0)) (core_of rest (slice_set words g (bit_or (slice_index words g) (mask_of b))) (slice_set views p (Names g (w.with_bit b seen) after)))
  pub look : (rest : machine.State) (words : List ℕ) (views : List Stance) (p g : ℕ) (seen won after : Bits) → get_elem? views p ≡ some (Names g seen won)
      → machine.Step (core_of rest words views) (machine.looks p g (w.bit_of Published (slice_index words g) == 1) (w.bit_of Killed (slice_index words g) == 1)) (core_of rest words (slice_set views p (Names g after won)))
