-- A `|` comes above a node, with a new node beside it.
use Rattle.std.specs.Prelude.{◌≡◌, ◌≤◌, ◌+◌, ℕ, List, ◌∷◌, length, cond, nat_eq}
use Rattle.orc_term.specs.declared.arena.Node.{Node}
use Rattle.orc_term.specs.declared.arena.Tip.{Tip}
use Rattle.orc_term.specs.declared.arena.Single.{Single}
use Rattle.orc_term.specs.declared.arena.Kind.{Kind}
use Rattle.orc_term.specs.declared.arena.Kind.TheVariants.{Leaf, One, Two}
use Rattle.orc_term.specs.declared.arena.Double.TheVariants.{Both}
use Rattle.orc_term.specs.Arena.{Tree, leaf, one, two, TipIn, Holds, living_kind, StandOnce, Frame, on_one, plug}

-- a node whose part i is now part j
abbrev pub relink : Kind → ℕ → ℕ → Kind
relink (Leaf k) i j = Leaf k
relink (One s p) i j = One s j
relink (Two d p q) i j = cond (nat_eq p i) (Two d j q) (Two d p j)

-- a new `|` with node i as its left part, and a new node without parts as its right part
abbrev pub grafted : List Node → ℕ → Single → Tree → Tip → Tree
grafted nodes i s u l = two (length nodes) Both (one i s u) (leaf (length nodes + 1) l)

-- wherever node i stood in the tree, the new nodes are those of the tree with the new `|` in its place
abbrev pub Grafts : List Node → ℕ → Tip → List Node → Type 0
Grafts nodes i l nodes' = (n n' : ℕ) (s : Single) (f : Frame) (o : List Frame) (u : Tree) → n ≤ n' → living_kind (Leaf l) ≡ 1 → TipIn n' l → Holds nodes n 0 (plug (on_one i s ∷ f ∷ o) u) → StandOnce nodes (plug (on_one i s ∷ f ∷ o) u)
    → Holds nodes' n' 0 (plug (f ∷ o) (grafted nodes i s u l)) × StandOnce nodes' (plug (f ∷ o) (grafted nodes i s u l))
