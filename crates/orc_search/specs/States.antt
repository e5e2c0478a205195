-- A search's states, and the path of states that a whole run takes.
use Rattle.std.specs.Prelude.{◌≡◌, ℕ, suc, ◌+◌, ◌-◌, List, [], ◌∷◌, ◌++◌, cond, nat_eq, ◌&&◌, is_some, slice_get}
use Rattle.orc_rules.specs.declared.value.Value.{Value}
use Rattle.orc_rules.specs.declared.value.Found.{Found}
use Rattle.orc_rules.specs.Sites.{Site, find, values_eq}
use Rattle.orc_rules.specs.Timed.{Context, CallMade, Moment, nth_of, Event, does, ticks, cancels, Run}
use Rattle.orc_search.specs.Small.{Out, Small}
use Rattle.orc_search.specs.Moves.{Happening, called, answered, published, unseen, SmallDefinition, Moves}
use Rattle.orc_search.specs.Seen.{happening, AreSeen}
use Rattle.orc_search.specs.Moments.{out_of, small_of}
use Rattle.orc_search.specs.Ticks.{Passes}
use Rattle.orc_search.specs.Kept.{AreBodies}
use Rattle.orc_search.specs.Scoped.{AreClosed}
use Rattle.orc_search.specs.Runs.{IsWell}

-- what the calls to come of a site with these arguments are answered, the next one first
abbrev pub Coming : Type 0
Coming = ℕ → List Value → ℕ → Found

-- where a search stands: calls that were made count only as far as later ones are answered otherwise for them
pub record State : Type 0 where
  pub term : Small
  pub coming : Coming

-- the next call of a site with these arguments
abbrev pub next_call : Coming → ℕ → List Value → Out
next_call coming m args = record { site = m; args = args; rest = coming m args 0 }

-- one call of this site with these arguments is made
abbrev pub without_next : ℕ → List Value → Coming → Coming
without_next m args coming n vs i = coming n vs (cond (nat_eq n m && values_eq vs args) (suc i) i)

-- what the calls to come are answered after something has happened: only a call changes it
abbrev pub coming_after : Happening → Coming → Coming
coming_after (called m args) coming = without_next m args coming
coming_after (answered m args a) coming = coming
coming_after (published v) coming = coming
coming_after unseen coming = coming

-- what is seen between two states: something happens, or time passes
pub data Sight : Type 0 where
  happens : Happening → Sight
  waits : (by : ℕ) → Sight

-- from one state to the next
abbrev pub Goes : List SmallDefinition → State → Sight → State → Type 0
Goes defs s (happens h) t = Moves defs (next_call s.coming) 0 s.term h t.term × (t.coming ≡ coming_after h s.coming)
Goes defs s (waits by) t = Passes defs s.term by t.term × (t.coming ≡ s.coming)

-- through states, with what is seen on the way
abbrev pub Path : List SmallDefinition → State → List Sight → State → Type 0
Path defs s [] t = s ≡ t
Path defs s (v ∷ vs) t = (mid : State) × Goes defs s v mid × Path defs mid vs t

-- what the table says of the calls to come, after those that were made
abbrev pub coming_of : List Site → List CallMade → Coming
coming_of sites made m args i = find sites m args (i + nth_of m args made)

-- the state of a moment
abbrev pub state_of : Context → Moment → State
state_of x s = record { term = small_of x s; coming = coming_of x.sites s.calls }

-- what is seen of an event; a cancel isn't seen
abbrev pub sight_of : Context → Moment → Event → List Sight
sight_of x s (does a) = happens (happening (out_of x.sites s.now s.calls) a) ∷ []
sight_of x s (ticks t) = waits (t - s.now) ∷ []
sight_of x s (cancels k) = []

-- and of a run
abbrev pub sights : (x : Context) (s : Moment) (es : List Event) (s' : Moment) → Run x s es s' → List Sight
sights x s [] s' r = []
sights x s (e ∷ es) s' r = sight_of x s e ++ sights x r.0 es s' r.2

-- the small definitions are those of the program
pub record AreOf (smalls : List SmallDefinition) (x : Context) : Type 0 where
  pub bodies : AreBodies x.definitions
  pub closed : AreClosed x.definitions
  pub seen : AreSeen x.definitions smalls
  pub there : (e : ℕ) → is_some (slice_get smalls e) ≡ is_some (slice_get x.definitions e)

-- a run takes a path from the state of its first moment to that of its last, and each step, return and tick of it is seen there
abbrev pub RunIsPath : Type 0
RunIsPath = (x : Context) (smalls : List SmallDefinition) (s s' : Moment) (es : List Event) → AreOf smalls x → IsWell s → (r : Run x s es s') → Path smalls (state_of x s) (sights x s es s' r) (state_of x s')
