-- What may come of a small term, as a list; and how long it waits.
use Rattle.std.specs.Prelude.{◌≡◌, ℕ, zero, suc, min, List, [], ◌∷◌, ◌++◌, Bool, true, false, cond, map, Option, Some, None, slice_get}
use Rattle.orc_rules.specs.declared.value.Value.{Value}
use Rattle.orc_rules.specs.declared.value.Found.{Found}
use Rattle.orc_rules.specs.declared.value.Found.TheVariants.{After, Never}
use Rattle.orc_rules.specs.declared.param.Param.{Param}
use Rattle.orc_rules.specs.declared.param.Param.TheVariants.{Is, Cell, Void}
use Rattle.orc_rules.specs.Term.{values_of}
use Rattle.orc_rules.specs.Idle.{has_void}
use Rattle.orc_rules.specs.Timed.{IsIn}
use Rattle.orc_search.specs.Small.{Out, Small, nothing, gives, asks, enters, both, feeds, prunes, instead, awaits, needs, set, set_all, settle, left_by}
use Rattle.orc_search.specs.Moves.{Happening, called, answered, published, unseen, SmallDefinition, Moves}
use Rattle.orc_search.specs.Ticks.{is_over, moves_now, pass, Passes}

-- what happens, and the term after it
abbrev pub Successor : Type 0
Successor = Happening × Small

-- what a move of a part is for the whole
abbrev pub in_left : Small → Successor → Successor
in_left g (h, f) = (h, both f g)

abbrev pub in_right : Small → Successor → Successor
in_right f (h, g) = (h, both f g)

abbrev pub in_feeds : ℕ → Small → Successor → Successor
in_feeds x g (published v, f) = (unseen, both (feeds f x g) (set (Is v) x g))
in_feeds x g (h, f) = (h, feeds f x g)

abbrev pub in_main : Small → Successor → Successor
in_main g (h, f) = (h, needs f g)

abbrev pub in_side : ℕ → Small → Successor → Successor
in_side n f (published v, g) = (unseen, settle (Is v) n f)
in_side n f (h, g) = (h, needs f g)

abbrev pub in_first : Small → Successor → Successor
in_first g (published v, f) = (published v, f)
in_first g (h, f) = (h, instead f g)

-- what a parameter does
abbrev pub given : Param → List Successor
given (Is v) = (published v, nothing) ∷ []
given Void = (unseen, nothing) ∷ []
given _ = []

-- what a call of a site does, where these are its arguments if all are values
abbrev pub asked : (ℕ → List Value → Out) → ℕ → Option (List Value) → List Successor
asked ask m (Some args) = (called m args, awaits (ask m args)) ∷ []
asked ask m None = []

-- what a call of this definition does
abbrev pub entered : Option SmallDefinition → List Param → List Successor
entered (Some d) ps = (unseen, set_all d.params ps d.body) ∷ []
entered None ps = []

-- what a pending call does
abbrev pub returned : Out → Found → List Successor
returned o (After a zero) = (answered o.site o.args a, left_by a) ∷ []
returned o _ = []

-- a silent step to this term, if the test holds
abbrev pub silently : Bool → Small → List Successor
silently true f = (unseen, f) ∷ []
silently false f = []

-- all that the rules allow, at n left sides of opened prunings
abbrev pub moves : List SmallDefinition → (ℕ → List Value → Out) → ℕ → Small → List Successor
moves defs ask n nothing = []
moves defs ask n (gives p) = given p
moves defs ask n (asks m ps) = asked ask m (values_of ps) ++ silently (has_void ps) nothing
moves defs ask n (enters e ps) = entered (slice_get defs e) ps
moves defs ask n (both f g) = map (in_left g) (moves defs ask n f) ++ map (in_right f) (moves defs ask n g)
moves defs ask n (feeds f x g) = map (in_feeds x g) (moves defs ask n f)
moves defs ask n (prunes f x g) = (unseen, needs (set (Cell n) x f) g) ∷ []
moves defs ask n (instead f g) = silently (is_over f) g ++ map (in_first g) (moves defs ask n f)
moves defs ask n (awaits o) = returned o o.rest
moves defs ask n (needs f g) = silently (is_over g) (settle Void n f) ++ (map (in_main g) (moves defs ask (suc n) f) ++ map (in_side n f) (moves defs ask n g))

-- each move is in the list
abbrev pub MovesAreListed : Type 0
MovesAreListed = (defs : List SmallDefinition) (ask : ℕ → List Value → Out) (n : ℕ) (f g : Small) (h : Happening) → Moves defs ask n f h g → IsIn (h, g) (moves defs ask n f)

-- and the list has nothing else
abbrev pub ListedAreMoves : Type 0
ListedAreMoves = (defs : List SmallDefinition) (ask : ℕ → List Value → Out) (n : ℕ) (f g : Small) (h : Happening) → IsIn (h, g) (moves defs ask n f) → Moves defs ask n f h g

-- the least of two times, where there are any
abbrev pub sooner : Option ℕ → Option ℕ → Option ℕ
sooner None b = b
sooner (Some a) None = Some a
sooner (Some a) (Some b) = Some (min a b)

-- the time that a pending call has left, if it will be answered
abbrev pub time_left : Found → Option ℕ
time_left (After a delay) = Some delay
time_left Never = None

-- the least time that a pending call has left
abbrev pub least_left : Small → Option ℕ
least_left (both f g) = sooner (least_left f) (least_left g)
least_left (feeds f x g) = least_left f
least_left (instead f g) = least_left f
least_left (awaits o) = time_left o.rest
least_left (needs f g) = sooner (least_left f) (least_left g)
least_left _ = None

-- a wait is over at once only where no time has to pass
abbrev pub some_time : Option ℕ → Option ℕ
some_time (Some (suc by)) = Some (suc by)
some_time _ = None

-- how long a term waits, if nothing can move before
abbrev pub wait : List SmallDefinition → Small → Option ℕ
wait defs f = cond (moves_now defs f) None (some_time (least_left f))

-- time passes as `wait` says, and leaves what it says
abbrev pub PassesByWait : Type 0
PassesByWait = (defs : List SmallDefinition) (f g : Small) (by : ℕ) → Passes defs f by g → (wait defs f ≡ Some by) × (g ≡ pass by f)
