-- What a whole becomes by a move of a part.
use Rattle.std.proofs.Common.{◌≡◌, ◌<◌, ℕ, List, refl}
use Rattle.orc_rules.specs.declared.param.Param.TheVariants.{Is}
use Rattle.orc_search.specs.declared.successor.Frame.{Frame}
use Rattle.orc_search.specs.declared.successor.Frame.TheVariants.{Left, Right, Feeds, Main, Side, First}
use Rattle.orc_search.specs.declared.successor.Lift.{Lift}
use Rattle.orc_search.specs.declared.successor.Lift.TheVariants.{Stays, Fed, Bound, Passed}
use Rattle.orc_search.specs.Small.{Small, both, feeds, set, settle}
use Rattle.orc_search.specs.Moves.{Happening, called, answered, published, unseen}
use Rattle.orc_search.specs.Successors.{Successor}
use Rattle.orc_search.specs.Nodes.{small_at, small_of_node, HasParts}
use Rattle.orc_search.specs.Moving.{in_frame, IsAround, whole_of, lift_of}

-- what the whole becomes, by how it takes what happens
abbrev pub by_lift : List Small → Lift → Frame → Happening → ℕ → Successor
by_lift ts Stays frame h to = (h, small_of_node ts (whole_of frame to))
by_lift ts (Fed x g v) frame h to = (unseen, both (feeds (small_at ts to) x (small_at ts g)) (set (Is v) x (small_at ts g)))
by_lift ts (Bound n f v) frame h to = (unseen, settle (Is v) n (small_at ts f))
by_lift ts Passed frame h to = (h, small_at ts to)

pub lift_is : (ts : List Small) (frame : Frame) (h : Happening) (to : ℕ) → in_frame ts frame (h, small_at ts to) ≡ by_lift ts (lift_of frame h) frame h to
lift_is ts (Left g) h to = refl
lift_is ts (Right f) h to = refl
lift_is ts (Feeds x g) (called m args) to = refl
lift_is ts (Feeds x g) (answered m args a) to = refl
lift_is ts (Feeds x g) (published v) to = refl
lift_is ts (Feeds x g) unseen to = refl
lift_is ts (Main g) h to = refl
lift_is ts (Side n f) (called m args) to = refl
lift_is ts (Side n f) (answered m args a) to = refl
lift_is ts (Side n f) (published v) to = refl
lift_is ts (Side n f) unseen to = refl
lift_is ts (First g) (called m args) to = refl
lift_is ts (First g) (answered m args a) to = refl
lift_is ts (First g) (published v) to = refl
lift_is ts (First g) unseen to = refl

-- what a lift takes is there
abbrev pub IsTaken : ℕ → Lift → Type 0
IsTaken n (Fed x g v) = g < n
IsTaken n (Bound m f v) = f < n
IsTaken n _ = Unit {0}

pub taken : (n : ℕ) (frame : Frame) (h : Happening) → IsAround n frame → IsTaken n (lift_of frame h)
taken n (Left g) h is = tt
taken n (Right f) h is = tt
taken n (Feeds x g) (called m args) is = tt
taken n (Feeds x g) (answered m args a) is = tt
taken n (Feeds x g) (published v) is = is
taken n (Feeds x g) unseen is = tt
taken n (Main g) h is = tt
taken n (Side m f) (called k args) is = tt
taken n (Side m f) (answered k args a) is = tt
taken n (Side m f) (published v) is = is
taken n (Side m f) unseen is = tt
taken n (First g) (called m args) is = tt
taken n (First g) (answered m args a) is = tt
taken n (First g) (published v) is = tt
taken n (First g) unseen is = tt

pub parts_of : (n : ℕ) (frame : Frame) (to : ℕ) → IsAround n frame → to < n → HasParts n (whole_of frame to)
parts_of n (Left g) to is lt = (lt, is)
parts_of n (Right f) to is lt = (is, lt)
parts_of n (Feeds x g) to is lt = (lt, is)
parts_of n (Main g) to is lt = (lt, is)
parts_of n (Side m f) to is lt = (is, lt)
parts_of n (First g) to is lt = (lt, is)
