-- Which groups stand inside the right side of a cell, by the groups' parents.
use Rattle.std.specs.Prelude.{◌≡◌, ℕ, zero, suc, List, Bool, false, ◌||◌, Option, Some, slice_get, slice_index_or}
use Rattle.orc_tables.specs.declared.records.Frame.{Frame}
use Rattle.orc_tables.specs.declared.records.Frame.TheVariants.{SeqLeft, PruneRight, OtherwiseLeft}
use Rattle.orc_tables.specs.declared.records.Step.{Step}
use Rattle.orc_tables.specs.Inside.{aids}

-- the home of each step, from step 1 on: the innermost side that it is in; 0 where it is in none
abbrev pub home : List ℕ → ℕ → ℕ
home hs zero = 0
home hs (suc k) = slice_index_or hs k 0

-- a step into a side is its own home; one into the left side of a `>x>` has that of the step around it
abbrev pub home_by : List ℕ → ℕ → Step → Frame → ℕ
home_by hs i p (SeqLeft x g scope) = home hs p.outer
home_by hs i p (PruneRight c) = i
home_by hs i p (OtherwiseLeft n) = i

-- these are the homes of the steps
abbrev pub AreHomes : List ℕ → List Step → Type 0
AreHomes hs ss = (k : ℕ) (p : Step) → slice_get ss k ≡ Some p → home hs (suc k) ≡ home_by hs (suc k) p p.entered

-- a group: the step of its side, and its parent's number
pub record Nest : Type 0 where
  pub step : ℕ
  pub parent : ℕ

-- each open group has the step into its side, and its parent is the group of the side around that step; the root's step is 0
pub record AreNests (hs : List ℕ) (ss : List Step) (groups : ℕ → Option Nest) : Type 0 where
  pub root : (g : ℕ) (n : Nest) → groups g ≡ Some n → n.step ≡ 0 → g ≡ 0
  pub above : (g : ℕ) (n : Nest) (k : ℕ) (p : Step) → groups g ≡ Some n → n.step ≡ suc k → slice_get ss k ≡ Some p → (m : Nest) × (groups n.parent ≡ Some m) × (m.step ≡ home hs p.outer)
  pub there : (g : ℕ) (n : Nest) (k : ℕ) → groups g ≡ Some n → n.step ≡ suc k → (p : Step) × (slice_get ss k ≡ Some p)

-- a set of groups: that of cell c's side, and those whose parent is in it
pub record IsSubtree (c : ℕ) (ss : List Step) (groups : ℕ → Option Nest) (set : ℕ → Bool) : Type 0 where
  pub root : (g : ℕ) (n : Nest) → groups g ≡ Some n → n.step ≡ 0 → set g ≡ false
  pub others : (g : ℕ) (n : Nest) (k : ℕ) (p : Step) → groups g ≡ Some n → n.step ≡ suc k → slice_get ss k ≡ Some p → set g ≡ (aids c p.entered || set n.parent)
