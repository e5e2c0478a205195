-- Nodes that hang together around a hole.
use Rattle.std.specs.Prelude.{◌+◌, ℕ, List, [], ◌∷◌}
use Rattle.orc_term.specs.declared.arena.Node.{Node}
use Rattle.orc_term.specs.declared.arena.Kind.TheVariants.{One, Two}
use Rattle.orc_term.specs.Arena.{place, hits, count, at, SingleIn, Holds, Frame, on_one, on_left, on_right}

-- the number of a frame's node
abbrev pub place_of : Frame → ℕ
place_of (on_one i s) = i
place_of (on_left i d t) = i
place_of (on_right i d t) = i

-- the node above the hole
abbrev pub above : ℕ → List Frame → ℕ
above p [] = p
above p (f ∷ k) = place_of f

-- how often a place stands around the hole
abbrev pub around : ℕ → List Frame → ℕ
around u [] = 0
around u (on_one i s ∷ k) = hits u i + around u k
around u (on_left i d t ∷ k) = hits u i + (count u t + around u k)
around u (on_right i d t ∷ k) = hits u i + (count u t + around u k)

-- the nodes hang together around a part at place i
abbrev pub HoldsAround : List Node → ℕ → ℕ → List Frame → ℕ → Type 0
HoldsAround nodes n p [] i = Unit {0}
HoldsAround nodes n p (on_one j s ∷ k) i = at nodes (above p k) j (One s i) × SingleIn n s × HoldsAround nodes n p k j
HoldsAround nodes n p (on_left j d u ∷ k) i = at nodes (above p k) j (Two d i (place u)) × Holds nodes n j u × HoldsAround nodes n p k j
HoldsAround nodes n p (on_right j d u ∷ k) i = at nodes (above p k) j (Two d (place u) i) × Holds nodes n j u × HoldsAround nodes n p k j
