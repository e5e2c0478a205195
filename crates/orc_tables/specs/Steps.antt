-- Steps inwards: the group and the depth of a token that took one last, what takes its publications, and which otherwises these leave.
use Rattle.std.specs.Prelude.{◌≡◌, ◌≤◌, ◌<◌, ℕ, zero, suc, List, Bool, true, false, cond, Option, Some, None, slice_get, slice_set, length}
use Rattle.orc_tables.specs.declared.records.Frame.{Frame}
use Rattle.orc_tables.specs.declared.records.Frame.TheVariants.{SeqLeft, PruneRight, OtherwiseLeft}
use Rattle.orc_tables.specs.declared.records.Step.{Step}

-- what callers see of a table of steps: the steps, and room for so many more
pub record StepTable : Type 0 where
  pub items : List Step
  pub room : ℕ
  pub taker_room : ℕ

-- there is room for one more
abbrev pub HasRoom : StepTable → Type 0
HasRoom s = (1 ≤ s.room) × (1 ≤ s.taker_room)

-- step i; there is no step 0
abbrev pub step_at : List Step → ℕ → Option Step
step_at ss zero = None
step_at ss (suc k) = slice_get ss k

-- the group of a token that took this step last, and how many left sides of a `>x>` are round it; step 0 is the program
abbrev pub group_of : Option Step → ℕ
group_of (Some p) = p.group
group_of None = 0

abbrev pub depth_of : Option Step → ℕ
depth_of (Some p) = p.depth
depth_of None = 0

abbrev pub group_at : List Step → ℕ → ℕ
group_at ss zero = 0
group_at ss (suc k) = group_of (slice_get ss k)

abbrev pub depth_at : List Step → ℕ → ℕ
depth_at ss zero = 0
depth_at ss (suc k) = depth_of (slice_get ss k)

-- each step comes after the one round it
abbrev pub AreOutwards : List Step → Type 0
AreOutwards steps = (k : ℕ) (p : Step) → slice_get steps k ≡ Some p → p.outer ≤ k

-- ---- what takes a publication
abbrev pub is_try : Frame → Bool
is_try (SeqLeft x g scope) = false
is_try (PruneRight c) = false
is_try (OtherwiseLeft n) = true

-- what takes a publication, looked for from step i: past a step into an otherwise the search goes on outwards; any other step takes it
abbrev pub past_try : (ℕ → ℕ) → ℕ → Option Step → ℕ
past_try outwards i None = i
past_try outwards i (Some p) = cond (is_try p.entered) (outwards p.outer) i

-- the nearest step from i outwards that enters no otherwise, if at most n steps are passed
abbrev pub taker_among : ℕ → List Step → ℕ → ℕ
taker_among zero ss i = i
taker_among (suc n) ss i = past_try (λ j. taker_among n ss j) i (step_at ss i)

-- the nearest step from i outwards that enters no otherwise: at most i steps are passed
abbrev pub taker_at : List Step → ℕ → ℕ
taker_at ss i = taker_among i ss i

-- ---- which otherwises a publication leaves
abbrev pub marked : Step → Step
marked p = record { entered = p.entered; outer = p.outer; group = p.group; depth = p.depth; published = true }

-- step i gets its mark
abbrev pub mark_at : List Step → ℕ → Step → List Step
mark_at ss zero p = ss
mark_at ss (suc k) p = slice_set ss k (marked p)

-- an otherwise gets its mark, and the walk goes on outwards; any other step ends it
abbrev pub past_left : (List Step → ℕ → List Step) → List Step → ℕ → Option Step → List Step
past_left outwards ss i None = ss
past_left outwards ss i (Some p) = cond (is_try p.entered) (outwards (mark_at ss i p) p.outer) ss

-- the otherwises from step i outwards get their marks, if at most n steps are passed
abbrev pub left_among : ℕ → List Step → ℕ → List Step
left_among zero ss i = ss
left_among (suc n) ss i = past_left (λ rest j. left_among n rest j) ss i (step_at ss i)

-- the steps once a publication has gone from step i to what takes it
abbrev pub left_from : List Step → ℕ → List Step
left_from ss i = left_among i ss i

-- ---- what a table of steps keeps
-- if step i enters an otherwise, that has its mark
abbrev pub IsMarked : List Step → ℕ → Type 0
IsMarked ss i = (p : Step) → step_at ss i ≡ Some p → is_try p.entered ≡ true → p.published ≡ true

-- an otherwise directly around one that has its mark has it, too
abbrev pub AreMarked : List Step → Type 0
AreMarked ss = (k : ℕ) (p : Step) → slice_get ss k ≡ Some p → is_try p.entered ≡ true → p.published ≡ true → IsMarked ss p.outer

-- the taker of each step is noted
pub record AreLinked (ss : List Step) (takers : List ℕ) : Type 0 where
  pub outwards : AreOutwards ss
  pub count : length takers ≡ length ss
  pub noted : (k : ℕ) → k < length ss → slice_get takers k ≡ Some (taker_at ss (suc k))
  pub marks : AreMarked ss
