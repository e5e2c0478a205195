-- What callers see of the nodes, and the hints that are kept with them: by these a walk upward leaves out the nodes that let publications through.
use Rattle.std.specs.Prelude.{◌≡◌, ◌<◌, ◌⊎◌, ◌+◌, ℕ, zero, suc, List, Bool, true, false, nat_eq, length, Some, slice_get, slice_set, slice_index_or}
use Rattle.orc_term.specs.declared.arena.Node.{Node}
use Rattle.orc_term.specs.declared.arena.Kind.{Kind}
use Rattle.orc_term.specs.declared.arena.Kind.TheVariants.{Leaf, One, Two}
use Rattle.orc_term.specs.declared.arena.Tip.TheVariants.{Gone, Token, Bears}
use Rattle.orc_term.specs.declared.arena.Single.TheVariants.{Passed}
use Rattle.orc_term.specs.declared.arena.Double.TheVariants.{Both, Side}
use Rattle.orc_term.specs.Rising.{nowhere}
use Rattle.orc_term.specs.Grafting.{relink}

-- what callers see of the nodes: themselves, how many more there is room for, how many more of them can get a token by `wake`, and the kinds of
-- those that needn't be asked again whether they can move
pub record Stock : Type 0 where
  pub items : List Node
  pub room : ℕ
  pub wakes : ℕ
  pub asked : List Kind

-- whether what part i of a node publishes goes through the node and leaves it as it is; true of a node that is gone, which has no parts
abbrev pub lets : Kind → ℕ → Bool
lets (Leaf Gone) i = true
lets (Leaf k) i = false
lets (One Passed p) i = true
lets (One s p) i = false
lets (Two Both p q) i = true
lets (Two (Side c) p q) i = nat_eq p i

-- node j is m steps above node i, and each node on the way, with j, lets through what comes from below
abbrev pub Skips : List Node → ℕ → ℕ → ℕ → Type 0
Skips nodes zero i j = i ≡ j
Skips nodes (suc m) i j = (x : Node) × (y : Node) × (slice_get nodes i ≡ Some x) × (slice_get nodes x.parent ≡ Some y) × (lets y.kind i ≡ true) × Skips nodes m x.parent j

-- node j is node i, or a node above it to which what node i publishes goes through unchanged
abbrev pub IsAbove : List Node → ℕ → ℕ → Type 0
IsAbove nodes i j = (m : ℕ) × Skips nodes m i j

-- each node has a hint: itself, or a node above it to which its publications go through unchanged
pub record AreHints (nodes : List Node) (hints : List ℕ) : Type 0 where
  pub len : length hints ≡ length nodes
  pub each : (i j : ℕ) → slice_get hints i ≡ Some j → IsAbove nodes i j

-- whether a node has a token, which can move now or later
abbrev pub restless : Kind → Bool
restless (Leaf (Token s f e)) = true
restless (Leaf (Bears s v)) = true
restless _ = false

-- a hint for a new node: the node itself, or the hint of the node above, if that lets through what the new node publishes
abbrev pub IsHintBelow : List Node → List ℕ → ℕ → ℕ → ℕ → Type 0
IsHintBelow nodes hints i parent hint = (hint ≡ i) ⊎ ((y : Node) × (slice_get nodes parent ≡ Some y) × (lets y.kind i ≡ true) × (hint ≡ slice_index_or hints parent parent))

-- node x may become y: y has the same parent, and lets through all that x let through
pub record Follows (x y : Node) : Type 0 where
  pub parent : y.parent ≡ x.parent
  pub passes : (i : ℕ) → lets x.kind i ≡ true → lets y.kind i ≡ true

-- node i can become y, which may have a token
abbrev pub CanWake : List Node → ℕ → Node → Type 0
CanWake nodes i y = (x : Node) → slice_get nodes i ≡ Some x → Follows x y

-- node i can become y, which has no token, or that of node i
abbrev pub CanBecome : List Node → ℕ → Node → Type 0
CanBecome nodes i y = (x : Node) → slice_get nodes i ≡ Some x → Follows x y × (restless y.kind ≡ true → y.kind ≡ x.kind)

-- node j, newer than node i, is a `|` with the same parent and with node i as its left part; its right part is node j + 1
abbrev pub IsBeside : List Node → ℕ → ℕ → Type 0
IsBeside nodes i j = (i < j) × (slice_get nodes j ≡ Some (record { kind = Two Both i (j + 1); parent = Node.parent (slice_index_or nodes i nowhere) }))

-- the nodes after node j took the place of node i, which is now below node j
abbrev pub lifted : List Node → ℕ → ℕ → List Node
lifted nodes i j =
    let x = slice_index_or nodes i nowhere in
    let below = slice_set nodes i (record { kind = Node.kind x; parent = j }) in
    let y = slice_index_or below (Node.parent x) nowhere in
    slice_set below (Node.parent x) (record { kind = relink (Node.kind y) i j; parent = Node.parent y })
