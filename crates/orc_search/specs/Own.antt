-- What a term does by itself, and not by a part.
use Rattle.std.specs.Prelude.{◌≡◌, ◌<◌, ℕ, List, [], ◌∷◌, ◌++◌, Option, Some, None, slice_get}
use Rattle.std.specs.List.{AllZip}
use Rattle.orc_rules.specs.declared.value.Value.{Value}
use Rattle.orc_rules.specs.declared.param.Param.TheVariants.{Cell, Void}
use Rattle.orc_rules.specs.Term.{values_of}
use Rattle.orc_rules.specs.Idle.{has_void}
use Rattle.orc_search.specs.declared.node.Tip.{Tip as NodeTip}
use Rattle.orc_search.specs.declared.moves.Becoming.{Becoming}
use Rattle.orc_search.specs.declared.moves.Own.{Own}
use Rattle.orc_search.specs.declared.moves.Own.TheVariants.{Becomes, Enters, Joins}
use Rattle.orc_search.specs.declared.successor.Happening.TheVariants.{Unseen}
use Rattle.orc_search.specs.declared.successor.Successor.{Successor as Numbered}
use Rattle.orc_search.specs.Small.{Out, Small, nothing, gives, asks, enters, prunes, instead, awaits, needs, set, settle}
use Rattle.orc_search.specs.Moves.{SmallDefinition, unseen}
use Rattle.orc_search.specs.Ticks.{is_over}
use Rattle.orc_search.specs.Successors.{Successor, given, asked, entered, returned, silently}
use Rattle.orc_search.specs.Nodes.{joined, tip_of, small_at}
use Rattle.orc_search.specs.Moving.{happening_of, IsSuccessor}

-- what a term does by itself, and not by a part
abbrev pub own : List SmallDefinition → (ℕ → List Value → Out) → ℕ → Small → List Successor
own defs ask n (gives p) = given p
own defs ask n (asks m ps) = asked ask m (values_of ps) ++ silently (has_void ps) nothing
own defs ask n (enters e ps) = entered (slice_get defs e) ps
own defs ask n (prunes f x g) = (unseen, needs (set (Cell n) x f) g) ∷ []
own defs ask n (instead f g) = silently (is_over f) g
own defs ask n (awaits o) = returned o o.rest
own defs ask n (needs f g) = silently (is_over g) (settle Void n f)
own defs ask n _ = []

-- at most one successor, as a list
abbrev pub list_of : Option Numbered → List Numbered
list_of None = []
list_of (Some s) = s ∷ []

-- what happens and the term after it, if there is any
abbrev pub becoming_of : Option Becoming → List Successor
becoming_of None = []
becoming_of (Some b) = (happening_of b.happening, tip_of b.tip) ∷ []

-- the term of that number does this, whatever the definitions, and however deep it stands; or it is this call of a definition, or has these parts
abbrev pub IsOwn : (ℕ → List Value → Out) → List Small → ℕ → Own → Type 0
IsOwn ask terms at (Becomes b) = (t : NodeTip) × (small_at terms at ≡ tip_of t) × ((defs : List SmallDefinition) (n : ℕ) → becoming_of b ≡ own defs ask n (tip_of t))
IsOwn ask terms at (Enters e ps) = small_at terms at ≡ enters e ps.items
IsOwn ask terms at (Joins j f g) = (f < at) × (g < at) × (small_at terms at ≡ joined j (small_at terms f) (small_at terms g))

-- a silent step to the term of that number, if there is one
abbrev pub silent_of : Option ℕ → List Numbered
silent_of None = []
silent_of (Some to) = record { happening = Unseen; to = to } ∷ []

-- the term of that number is what a silent step leads to, or there is none
abbrev pub Turns : List Small → Option ℕ → List Successor → Type 0
Turns terms o ms = AllZip (IsSuccessor terms) (silent_of o) ms
