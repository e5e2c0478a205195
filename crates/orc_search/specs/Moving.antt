-- What numbered terms do, and what a step of a part is for what encloses it.
use Rattle.std.specs.Prelude.{◌≡◌, ◌<◌, ℕ, List, Some, slice_get}
use Rattle.orc_search.specs.declared.node.Node.{Node}
use Rattle.orc_search.specs.declared.node.Node.TheVariants.{Pair}
use Rattle.orc_search.specs.declared.node.Joint.TheVariants as joint
use Rattle.orc_search.specs.declared.successor.Happening.{Happening as Shown}
use Rattle.orc_search.specs.declared.successor.Happening.TheVariants.{Called, Answered, Published, Unseen}
use Rattle.orc_search.specs.declared.successor.Successor.{Successor as Numbered}
use Rattle.orc_search.specs.declared.successor.Frame.{Frame}
use Rattle.orc_search.specs.declared.successor.Frame.TheVariants.{Left, Right, Feeds, Main, Side, First}
use Rattle.orc_search.specs.declared.successor.Lift.{Lift}
use Rattle.orc_search.specs.declared.successor.Lift.TheVariants.{Stays, Fed, Bound, Passed}
use Rattle.orc_search.specs.Small.{Small}
use Rattle.orc_search.specs.Moves.{Happening, called, answered, published, unseen}
use Rattle.orc_search.specs.Successors.{Successor, in_left, in_right, in_feeds, in_main, in_side, in_first}
use Rattle.orc_search.specs.Nodes.{small_at}

-- a happening of the code as one of the definitions
abbrev pub happening_of : Shown → Happening
happening_of (Called m args) = called m args.items
happening_of (Answered m args a) = answered m args.items a
happening_of (Published v) = published v
happening_of Unseen = unseen

-- a numbered step of the code as one of the definitions
abbrev pub successor_of : List Small → Numbered → Successor
successor_of terms s = (happening_of s.happening, small_at terms s.to)

-- the numbered successor is this one: the same happening, and the number of its term
abbrev pub IsSuccessor : List Small → Numbered → Successor → Type 0
IsSuccessor terms s m = (happening_of s.happening ≡ m.0) × (slice_get terms s.to ≡ Some m.1)

-- what a move of a part is for the whole
abbrev pub in_frame : List Small → Frame → Successor → Successor
in_frame terms (Left g) = in_left (small_at terms g)
in_frame terms (Right f) = in_right (small_at terms f)
in_frame terms (Feeds x g) = in_feeds x (small_at terms g)
in_frame terms (Main g) = in_main (small_at terms g)
in_frame terms (Side n f) = in_side n (small_at terms f)
in_frame terms (First g) = in_first (small_at terms g)

-- the other part is one of so many terms
abbrev pub IsAround : ℕ → Frame → Type 0
IsAround n (Left g) = g < n
IsAround n (Right f) = f < n
IsAround n (Feeds x g) = g < n
IsAround n (Main g) = g < n
IsAround n (Side m f) = f < n
IsAround n (First g) = g < n

-- the whole, with this part
abbrev pub whole_of : Frame → ℕ → Node
whole_of (Left g) to = Pair joint.Both to g
whole_of (Right f) to = Pair joint.Both f to
whole_of (Feeds x g) to = Pair (joint.Feeds x) to g
whole_of (Main g) to = Pair joint.Needs to g
whole_of (Side n f) to = Pair joint.Needs f to
whole_of (First g) to = Pair joint.Instead to g

-- how the whole takes what happens in a part
abbrev pub lift_of : Frame → Happening → Lift
lift_of (Feeds x g) (published v) = Fed x g v
lift_of (Side n f) (published v) = Bound n f v
lift_of (First g) (published v) = Passed
lift_of _ _ = Stays
