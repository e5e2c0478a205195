-- How deep a marked term nests, by its nodes.
use Rattle.std.specs.Prelude.{◌≤◌, ℕ, List, map}
use Rattle.orc_rules.specs.declared.limits.TheConstants.{MOST_LEVELS}
use Rattle.orc_rules.specs.Marked.{erase}
use Rattle.orc_rules.specs.Nodes.{Listing, code}
use Rattle.orc_rules.specs.Refusal.{depth}
use Rattle.orc_rules.specs.Timed.{Context}
use Rattle.orc_rules.specs.Journal.{Place}
use Rattle.orc_checker.specs.Checker.{State, Spells}
use Rattle.orc_term.specs.declared.arena.Kind.{Kind}
use Rattle.orc_term.specs.declared.arena.Kind.TheVariants.{Leaf, One, Two}
use Rattle.orc_term.specs.declared.arena.Tip.TheVariants.{Token}
use Rattle.orc_term.specs.declared.arena.Single.TheVariants.{Feeds, Entered, Passed}
use Rattle.orc_verdict.specs.Heights.{height, AreHeights, AreAtMost}

-- the levels of the program's term in a node; without one, 1 for a leaf, otherwise 0
abbrev pub own_levels : List ℕ → Kind → ℕ
own_levels levels (Leaf (Token s f e)) = height levels f
own_levels levels (Leaf k) = 1
own_levels levels (One (Feeds x g e) i) = height levels g
own_levels levels (One (Entered n g e) i) = height levels g
own_levels levels (One Passed i) = 0
own_levels levels (Two d i j) = 0

-- by how many levels that term, and the parts, are deeper than the node
abbrev pub step_down : Kind → ℕ
step_down (Leaf k) = 0
step_down (One Passed i) = 0
step_down (One s i) = 1
step_down (Two d i j) = 1

-- nodes to be looked at, each with the levels above it
abbrev pub with_levels : ℕ → List ℕ → List (ℕ × ℕ)
with_levels above is = map (λ i. (i, above)) is

-- if no term of the program has more than `most` levels, no place that s spells has more than d; and a checked term may have d levels
abbrev pub IsAllowed : State → ℕ → ℕ → Type 0
IsAllowed s most d = ((x : Context) (l : Listing) (p : Place) (heights : List ℕ) → AreHeights (code l) heights → AreAtMost heights most → Spells x (code l) s p → depth (erase p.marked) ≤ d) × (d ≤ MOST_LEVELS)
