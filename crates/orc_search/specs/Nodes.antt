-- Small terms as numbered nodes.
use Rattle.std.specs.Prelude.{◌≡◌, ◌<◌, ℕ, List, [], ◌∷◌, ◌++◌, Some, slice_get, slice_index_or}
use Rattle.orc_search.specs.declared.node.Waiting.{Waiting}
use Rattle.orc_search.specs.declared.node.Tip.{Tip}
use Rattle.orc_search.specs.declared.node.Tip.TheVariants.{Nothing, Gives, Asks, Enters, Awaits}
use Rattle.orc_search.specs.declared.node.Joint.{Joint}
use Rattle.orc_search.specs.declared.node.Joint.TheVariants.{Both, Feeds, Prunes, Instead, Needs}
use Rattle.orc_search.specs.declared.node.Node.{Node}
use Rattle.orc_search.specs.declared.node.Node.TheVariants as node
use Rattle.orc_search.specs.declared.node.Summary.{Summary}
use Rattle.orc_search.specs.Small.{Out, Small, nothing, gives, asks, enters, both, feeds, prunes, instead, awaits, needs}
use Rattle.orc_search.specs.Ticks.{is_over}
use Rattle.orc_search.specs.Successors.{least_left}

-- a pending call of the code as one of the definitions
abbrev pub out_of : Waiting → Out
out_of w = record { site = w.site; args = w.args.items; rest = w.rest }

-- the term of a node without parts
abbrev pub tip_of : Tip → Small
tip_of Nothing = nothing
tip_of (Gives p) = gives p
tip_of (Asks m ps) = asks m ps.items
tip_of (Enters e ps) = enters e ps.items
tip_of (Awaits w) = awaits (out_of w)

-- two terms, joined
abbrev pub joined : Joint → Small → Small → Small
joined Both f g = both f g
joined (Feeds x) f g = feeds f x g
joined (Prunes x) f g = prunes f x g
joined Instead f g = instead f g
joined Needs f g = needs f g

-- the term of a number
abbrev pub small_at : List Small → ℕ → Small
small_at terms i = slice_index_or terms i nothing

-- a node's term, where its parts have these
abbrev pub small_of_node : List Small → Node → Small
small_of_node terms (node.Tip t) = tip_of t
small_of_node terms (node.Pair j f g) = joined j (small_at terms f) (small_at terms g)

-- the nodes' terms, each from those before it
abbrev pub smalls_from : List Small → List Node → List Small
smalls_from terms [] = terms
smalls_from terms (n ∷ ns) = smalls_from (terms ++ small_of_node terms n ∷ []) ns

-- the terms of all nodes, by their numbers
abbrev pub smalls : List Node → List Small
smalls nodes = smalls_from [] nodes

-- a node's parts stand before it
abbrev pub HasParts : ℕ → Node → Type 0
HasParts n (node.Pair j f g) = (f < n) × (g < n)
HasParts n (node.Tip t) = Unit {0}

-- so it is of each node
abbrev pub ArePartsFirst : List Node → Type 0
ArePartsFirst nodes = (i : ℕ) (n : Node) → slice_get nodes i ≡ Some n → HasParts i n

-- what is asked of a term again and again
abbrev pub summary_of : Small → Summary
summary_of f = record { over = is_over f; left = least_left f }

-- what is known of two terms that are joined
abbrev pub JoinsSummaries : Joint → Summary → Summary → Summary → Type 0
JoinsSummaries j a b c = (f g : Small) → a ≡ summary_of f → b ≡ summary_of g → c ≡ summary_of (joined j f g)

-- the same terms, and perhaps more behind them
abbrev pub Extends : List Small → List Small → Type 0
Extends terms terms' = (more : List Small) × (terms' ≡ terms ++ more)
