-- Nodes as they are stored.
use Rattle.std.specs.Prelude.{◌≡◌, refl, ℕ}
use Rattle.orc_rules.specs.declared.value.Value.TheVariants.{Number, Truth, Signal}
use Rattle.orc_term.specs.declared.arena.Node.{Node}
use Rattle.orc_term.specs.declared.arena.Kind.{Kind}
use Rattle.orc_term.specs.declared.arena.Kind.TheVariants.{Leaf, One, Two}
use Rattle.orc_term.specs.declared.arena.Tip.TheVariants.{Gone, Ended, Token, Bears, Waits}
use Rattle.orc_term.specs.declared.arena.Single.TheVariants.{Feeds, Entered, Passed}
use Rattle.orc_term.specs.declared.arena.Double.TheVariants.{Both, Side}
use Rattle.orc_term.specs.declared.slot.Flat.{Flat}
use Rattle.orc_term.specs.declared.slot.Flat.TheVariants as flat

-- the kind of a node that is stored
abbrev pub kind_in : Flat → Kind
kind_in (flat.Gone p) = Leaf Gone
kind_in (flat.Ended p) = Leaf Ended
kind_in (flat.Token p s f e) = Leaf (Token s f e)
kind_in (flat.Number p s n) = Leaf (Bears s (Number n))
kind_in (flat.Truth p s b) = Leaf (Bears s (Truth b))
kind_in (flat.Signal p s) = Leaf (Bears s Signal)
kind_in (flat.Waits p k) = Leaf (Waits k)
kind_in (flat.Feeds p x g e i) = One (Feeds x g e) i
kind_in (flat.Entered p s g e i) = One (Entered s g e) i
kind_in (flat.Passed p i) = One Passed i
kind_in (flat.Both p i j) = Two Both i j
kind_in (flat.Side p c i j) = Two (Side c) i j

-- the number of the one that it is a part of
abbrev pub parent_in : Flat → ℕ
parent_in (flat.Gone p) = p
parent_in (flat.Ended p) = p
parent_in (flat.Token p s f e) = p
parent_in (flat.Number p s n) = p
parent_in (flat.Truth p s b) = p
parent_in (flat.Signal p s) = p
parent_in (flat.Waits p k) = p
parent_in (flat.Feeds p x g e i) = p
parent_in (flat.Entered p s g e i) = p
parent_in (flat.Passed p i) = p
parent_in (flat.Both p i j) = p
parent_in (flat.Side p c i j) = p

-- the node that is stored
abbrev pub node_in : Flat → Node
node_in f = record { kind = kind_in f; parent = parent_in f }

-- how a node is stored
abbrev pub flat_of : Kind → ℕ → Flat
flat_of (Leaf Gone) p = flat.Gone p
flat_of (Leaf Ended) p = flat.Ended p
flat_of (Leaf (Token s f e)) p = flat.Token p s f e
flat_of (Leaf (Bears s (Number n))) p = flat.Number p s n
flat_of (Leaf (Bears s (Truth b))) p = flat.Truth p s b
flat_of (Leaf (Bears s Signal)) p = flat.Signal p s
flat_of (Leaf (Waits k)) p = flat.Waits p k
flat_of (One (Feeds x g e) i) p = flat.Feeds p x g e i
flat_of (One (Entered s g e) i) p = flat.Entered p s g e i
flat_of (One Passed i) p = flat.Passed p i
flat_of (Two Both i j) p = flat.Both p i j
flat_of (Two (Side c) i j) p = flat.Side p c i j

-- what is stored is the same again
pub is_again : (f : Flat) → flat_of (kind_in f) (parent_in f) ≡ f
is_again (flat.Gone p) = refl
is_again (flat.Ended p) = refl
is_again (flat.Token p s f e) = refl
is_again (flat.Number p s n) = refl
is_again (flat.Truth p s b) = refl
is_again (flat.Signal p s) = refl
is_again (flat.Waits p k) = refl
is_again (flat.Feeds p x g e i) = refl
is_again (flat.Entered p s g e i) = refl
is_again (flat.Passed p i) = refl
is_again (flat.Both p i j) = refl
is_again (flat.Side p c i j) = refl
