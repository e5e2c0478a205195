-- What changes all of a small term: something is put for a name, a cell is settled, or time passes.
use Rattle.std.specs.Prelude.{◌≡◌, ◌<◌, ℕ, List, length, Bool, true, false, nat_eq, Some, slice_get}
use Rattle.orc_rules.specs.declared.value.Found.{Found}
use Rattle.orc_rules.specs.declared.param.Param.{Param}
use Rattle.orc_rules.specs.Term.{put_param}
use Rattle.orc_search.specs.declared.change.Change.{Change}
use Rattle.orc_search.specs.declared.change.Change.TheVariants.{Put, Settle, Pass}
use Rattle.orc_search.specs.declared.images.Image.{Image}
use Rattle.orc_search.specs.declared.change.Progress.{Progress}
use Rattle.orc_search.specs.declared.change.Progress.TheVariants.{Is, Wants}
use Rattle.orc_search.specs.declared.node.Joint.{Joint}
use Rattle.orc_search.specs.declared.node.Joint.TheVariants.{Feeds, Prunes}
use Rattle.orc_search.specs.declared.node.Node.{Node}
use Rattle.orc_search.specs.declared.node.Node.TheVariants as node
use Rattle.orc_search.specs.Small.{Small, set, settle_param, settle}
use Rattle.orc_search.specs.Ticks.{less, pass}
use Rattle.orc_search.specs.Nodes.{tip_of, joined, small_at}

-- what a whole term becomes by a change
abbrev pub changed : Change → Small → Small
changed (Put q x) f = set q x f
changed (Settle w n) f = settle w n f
changed (Pass by) f = pass by f

-- what one parameter becomes
abbrev pub changed_param : Change → Param → Param
changed_param (Put q x) p = put_param q x p
changed_param (Settle w n) p = settle_param w n p
changed_param (Pass by) p = p

-- what comes of a pending call, which only time changes
abbrev pub changed_rest : Change → Found → Found
changed_rest (Put q x) rest = rest
changed_rest (Settle w n) rest = rest
changed_rest (Pass by) rest = less by rest

-- whether a part stays as it is, since the name is another one there
abbrev pub left_stays : Change → Joint → Bool
left_stays (Put q x) (Prunes y) = nat_eq x y
left_stays _ _ = false

abbrev pub right_stays : Change → Joint → Bool
right_stays (Put q x) (Feeds y) = nat_eq x y
right_stays _ _ = false

-- the second number's term is what the first one's becomes
abbrev pub IsImage : List Small → Image → Type 0
IsImage terms p = (p.from < length terms) × (slice_get terms p.to ≡ Some (changed p.change (small_at terms p.from)))

-- each image that is kept is right
abbrev pub AreImages : List Small → List Image → Type 0
AreImages terms images = (k : ℕ) (p : Image) → slice_get images k ≡ Some p → IsImage terms p

-- it is there that a term becomes so by a change
abbrev pub IsIn : List Image → Change → ℕ → ℕ → Type 0
IsIn images c at to = (k : ℕ) × (slice_get images k ≡ Some (record { change = c; from = at; to = to }))

-- what a term is changed from: a changed term without parts, or the parts that are to be changed
abbrev pub IsPlan : List Small → Change → ℕ → Node → Type 0
IsPlan terms c at (node.Tip t) = (at < length terms) × (tip_of t ≡ changed c (small_at terms at))
IsPlan terms c at (node.Pair j f g) = (at < length terms) × (f < at) × (g < at) × (small_at terms at ≡ joined j (small_at terms f) (small_at terms g))

-- the number of a part after the change: its own, or that of its image
abbrev pub IsPart : List Small → Change → Bool → ℕ → ℕ → Type 0
IsPart terms c true at to = to ≡ at
IsPart terms c false at to = (at < length terms) × (slice_get terms to ≡ Some (changed c (small_at terms at)))

-- the image of a term, or a part whose image is wanted before
abbrev pub ProgressIs : List Small → List Small → Change → ℕ → Progress → Type 0
ProgressIs terms terms' c at (Is to) = (at < length terms) × (slice_get terms' to ≡ Some (changed c (small_at terms at)))
ProgressIs terms terms' c at (Wants part) = Unit {0}
