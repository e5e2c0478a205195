-- A graph of states that is closed holds every run of a program.
use Rattle.std.specs.Prelude.{◌≡◌, ◌≤◌, ℕ, ◌+◌, ◌^◌, List, [], ◌∷◌, ◌⊎◌, Bool, false, cond, Option, Some, None, slice_get, slice_index_or}
use Rattle.orc_rules.specs.Term.{Halted}
use Rattle.orc_rules.specs.Timed.{Context, Moment, IsIn, Event, IsQuiet, Run}
use Rattle.orc_search.specs.Small.{Small}
use Rattle.orc_search.specs.Moves.{SmallDefinition}
use Rattle.orc_search.specs.Moments.{small_of}
use Rattle.orc_search.specs.Ticks.{is_over, moves_now}
use Rattle.orc_search.specs.Successors.{least_left}
use Rattle.orc_search.specs.Runs.{IsWell}
use Rattle.orc_search.specs.States.{State, Sight, Goes, state_of, sights, AreOf}

-- what is seen on the way to a state, and its number
abbrev pub Edge : Type 0
Edge = Sight × ℕ

-- the edges from a state of this number
abbrev pub edges_of : List (List Edge) → ℕ → List Edge
edges_of edges i = slice_index_or edges i []

-- wherever one of the states may go there is an edge to that state
abbrev pub IsClosed : List SmallDefinition → List State → List (List Edge) → Type 0
IsClosed defs states edges = (i : ℕ) (s t : State) (v : Sight) → slice_get states i ≡ Some s → Goes defs s v t → (j : ℕ) × IsIn (v, j) (edges_of edges i) × (slice_get states j ≡ Some t)

-- along edges, with what is seen on them
abbrev pub Walk : List (List Edge) → ℕ → List Sight → ℕ → Type 0
Walk edges i [] j = i ≡ j
Walk edges i (v ∷ vs) j = (mid : ℕ) × IsIn (v, mid) (edges_of edges i) × Walk edges mid vs j

-- each run from a moment whose state is in the graph walks along its edges, and the state of its last moment is where the walk ends
abbrev pub Whole : Type 0
Whole = (x : Context) (smalls : List SmallDefinition) (s s' : Moment) (es : List Event) (states : List State) (edges : List (List Edge)) (i : ℕ) → AreOf smalls x → IsWell s → IsClosed smalls states edges
    → slice_get states i ≡ Some (state_of x s) → (r : Run x s es s') → (j : ℕ) × Walk edges i (sights x s es s' r) j × (slice_get states j ≡ Some (state_of x s'))

-- what a watcher makes of what is seen, one after another; what it has seen so far has a number
abbrev pub watched : (ℕ → Sight → ℕ) → ℕ → List Sight → ℕ
watched sees w [] = w
watched sees w (v ∷ vs) = watched sees (sees w v) vs

-- pairs of a state's number and the number of what a watcher has seen: for each pair, the pairs to which the edges from its state lead are there, too
abbrev pub AreWatched : List (List Edge) → (ℕ → Sight → ℕ) → List (ℕ × ℕ) → Type 0
AreWatched edges sees pairs = (i w j : ℕ) (v : Sight) → IsIn {X = ℕ × ℕ} (i, w) pairs → IsIn {X = Edge} (v, j) (edges_of edges i) → IsIn {X = ℕ × ℕ} (j, sees w v) pairs

-- the pair of the state of a run's last moment and of what a watcher has seen of the run is among such pairs
abbrev pub RunIsWatched : Type 0
RunIsWatched = (x : Context) (smalls : List SmallDefinition) (s s' : Moment) (es : List Event) (states : List State) (edges : List (List Edge)) (sees : ℕ → Sight → ℕ) (pairs : List (ℕ × ℕ)) (i w : ℕ)
    → AreOf smalls x → IsWell s → IsClosed smalls states edges → AreWatched edges sees pairs → slice_get states i ≡ Some (state_of x s) → IsIn {X = ℕ × ℕ} (i, w) pairs
    → (r : Run x s es s') → (j : ℕ) × (slice_get states j ≡ Some (state_of x s')) × IsIn {X = ℕ × ℕ} (j, watched sees w (sights x s es s' r)) pairs

-- how a run can end at a term
pub data Ending : Type 0 where
  halted : Ending
  quiet : Ending

-- quiet, unless something can move now (the first argument) or some pending call will be answered (the second one)
abbrev pub quiet_if : Bool → Option ℕ → Option Ending
quiet_if false None = Some quiet
quiet_if _ _ = None

-- the end that a term says, if it says one: it has halted, or nothing can move and no pending call will be answered
abbrev pub ending : List SmallDefinition → Small → Option Ending
ending defs f = cond (is_over f) (Some halted) (quiet_if (moves_now defs f) (least_left f))

-- if a run has halted, its small term says that it has halted
abbrev pub HaltedIsEnding : Type 0
HaltedIsEnding = (x : Context) (smalls : List SmallDefinition) (s : Moment) → Halted s.term → ending smalls (small_of x s) ≡ Some halted

-- a call whose answer is due at no time of 64 bits
abbrev pub IsBeyond : Context → Moment → Type 0
IsBeyond x s = (by : ℕ) × (least_left (small_of x s) ≡ Some by) × (2 ^ 64 ≤ s.now + by)

-- if a run is quiet, its small term says that it is quiet, unless the next due time is past the last time
abbrev pub QuietIsEnding : Type 0
QuietIsEnding = (x : Context) (smalls : List SmallDefinition) (s : Moment) → AreOf smalls x → IsWell s → IsQuiet x s → (ending smalls (small_of x s) ≡ Some quiet) ⊎ IsBeyond x s
