-- Each path of the small system is that of a run.
use Rattle.std.specs.Prelude.{◌≡◌, ◌<◌, ◌≤◌, ℕ, ◌+◌, ◌^◌, List, [], ◌∷◌, map, Some, Bool}
use Rattle.orc_rules.specs.declared.value.Value.{Value}
use Rattle.orc_rules.specs.declared.value.Answer.{Answer}
use Rattle.orc_rules.specs.declared.value.Found.TheVariants.{After}
use Rattle.orc_rules.specs.declared.entry.Entry.{Entry}
use Rattle.orc_rules.specs.Term.{Term, Definition, par, seq, prune, other, opened, Halted, pending_of}
use Rattle.orc_rules.specs.Step.{Act, calls, returns, opens, Used, Step}
use Rattle.orc_rules.specs.Timed.{Context, CallMade, Moment, number_of, says_of, IsIn, IsTick, IsQuiet, Event, does, Does, Run, start}
use Rattle.orc_rules.specs.Journal.{Place, next, moment, Journal, begin}
use Rattle.orc_rules.specs.Lost.{IsSource}
use Rattle.orc_rules.specs.Nodes.{Listing, definitions, source}
use Rattle.orc_rules.specs.Runs.{IsCountedOn, CountedRun}
use Rattle.orc_rules.specs.Sites.{Site}
use Rattle.orc_rules.specs.Trace as journal
use Rattle.orc_search.specs.Small.{Out, Small}
use Rattle.orc_search.specs.Moves.{Happening, published, SmallDefinition, Moves}
use Rattle.orc_search.specs.Seen.{seen, happening, IsAsked}
use Rattle.orc_search.specs.Moments.{out_of, small_of}
use Rattle.orc_search.specs.Ticks.{Passes}
use Rattle.orc_search.specs.Graphs.{halted, quiet, ending}
use Rattle.orc_search.specs.Programs.{small_definitions}
use Rattle.orc_search.specs.Runs.{IsWell}
use Rattle.orc_search.specs.States.{State, Sight, happens, waits, next_call, Path, coming_of, state_of, sights, AreOf}

-- a new call has the number k, and a new cell c
abbrev pub Takes : ℕ → ℕ → Act → Type 0
Takes k c (calls j m args cs) = j ≡ k
Takes k c (opens d) = d ≡ c
Takes k c _ = Unit {0}

-- a return is of a call that was made and pends, and has no time left
abbrev pub IsAnswered : Used → (ℕ → Out) → Term → Act → Type 0
IsAnswered used out t (returns k a) = IsIn k (pending_of t) × IsIn k used.calls × (Out.rest (out k) ≡ After a 0)
IsAnswered used out t _ = Unit {0}

-- a step of the rules with this happening, after which the term is seen as r, whatever else is known of calls by then
pub record IsStepFor (defs : List Definition) (used : Used) (ask : ℕ → List Value → Out) (out : ℕ → Out) (k c : ℕ) (cs : List ℕ) (t : Term) (h : Happening) (r : Small) : Type 0 where
  pub act : Act
  pub term : Term
  pub step : Step defs used t act term
  pub takes : Takes k c act
  pub answered : IsAnswered used out t act
  pub shows : happening out act ≡ h
  pub is : (out' : ℕ → Out) → ((j : ℕ) → IsIn j used.calls → out' j ≡ out j) → IsAsked ask out out' act → seen out' cs term ≡ r

-- what hasn't begun is a source's
abbrev pub HoldsSource : Term → Type 0
HoldsSource (par f g) = HoldsSource f × HoldsSource g
HoldsSource (seq f x g) = HoldsSource f × IsSource g
HoldsSource (prune f x g) = IsSource f × IsSource g
HoldsSource (other f g) = HoldsSource f × IsSource g
HoldsSource (opened f c g) = HoldsSource f × HoldsSource g
HoldsSource _ = Unit {0}

-- what the converse asks of a moment: calls and cells are numbered from 1 on, no call that pends is past its due time, and no cancel is due
pub record IsOrderly (x : Context) (s : Moment) : Type 0 where
  pub well : IsWell s
  pub holds : HoldsSource s.term
  pub calls : (k : ℕ) → IsIn k (map number_of s.calls) → k < next s.calls
  pub cells : (c : ℕ) → IsIn c s.cells → c < next s.cells
  pub in_time : (c : CallMade) (a : Answer) (delay : ℕ) → IsIn c s.calls → IsIn c.number (pending_of s.term) → says_of x.sites c ≡ After a delay → s.now ≤ c.at + delay
  pub fits : s.now < 2 ^ 64
  pub free : s.to_cancel ≡ []

-- one use of a rule with this happening, after which the term is seen as g
pub record IsMove (x : Context) (s : Moment) (h : Happening) (g : Small) : Type 0 where
  pub act : Act
  pub after : Moment
  pub done : Does x s act after
  pub counted : IsCountedOn s (does act)
  pub shows : happening (out_of x.sites s.now s.calls) act ≡ h
  pub small : small_of x after ≡ g
  pub orderly : IsOrderly x (record after { to_cancel = [] })

-- each move of the small term of an orderly moment is a step that a timed run takes
abbrev pub MoveIsStep : Type 0
MoveIsStep = (x : Context) (smalls : List SmallDefinition) (s : Moment) (h : Happening) (g : Small)
    → AreOf smalls x → IsOrderly x s → Moves smalls (next_call (coming_of x.sites s.calls)) 0 (small_of x s) h g → IsMove x s h g

-- and each wait of it is a tick, if the time fits
abbrev pub WaitIsTick : Type 0
WaitIsTick = (x : Context) (smalls : List SmallDefinition) (s : Moment) (by : ℕ) (g : Small)
    → AreOf smalls x → IsOrderly x s → Passes smalls (small_of x s) by g → s.now + by < 2 ^ 64
    → IsTick x s (s.now + by) × (small_of x (record s { now = s.now + by }) ≡ g) × IsOrderly x (record s { now = s.now + by })

-- how long the waits of a path are together
abbrev pub time_in : List Sight → ℕ
time_in [] = 0
time_in (happens h ∷ vs) = time_in vs
time_in (waits by ∷ vs) = by + time_in vs

-- what is published on a path
abbrev pub published_in : List Sight → List Value
published_in [] = []
published_in (happens (published v) ∷ vs) = v ∷ published_in vs
published_in (v ∷ vs) = published_in vs

-- a counted run is a run
abbrev pub plain : (x : Context) (s : Moment) (es : List Event) (s' : Moment) → CountedRun x s es s' → Run x s es s'
plain x s [] s' r = r
plain x s (e ∷ es) s' r = (r.0, r.1, plain x r.0 es s' r.3)

-- a run whose path this is, with its calls and cells numbered from 1 on
pub record IsRunOf (x : Context) (s : Moment) (vs : List Sight) (t : State) : Type 0 where
  pub events : List Event
  pub end : Moment
  pub run : CountedRun x s events end
  pub is : state_of x end ≡ t
  pub shows : sights x s events end (plain x s events end run) ≡ vs
  pub orderly : IsOrderly x end

-- each path from the state of an orderly moment is that of a run, if the time fits
abbrev pub PathIsRun : Type 0
PathIsRun = (x : Context) (smalls : List SmallDefinition) (s : Moment) (vs : List Sight) (t : State)
    → AreOf smalls x → IsOrderly x s → Path smalls (state_of x s) vs t → s.now + time_in vs < 2 ^ 64 → IsRunOf x s vs t

-- a journal of a program that publishes what its path does, and comes to this state with no cancel due
pub record IsJournalOf (x : Context) (t : Term) (vs : List Sight) (end : State) : Type 0 where
  pub entries : List Entry
  pub place : Place
  pub leads : Journal x (begin t) entries place
  pub shows : journal.published entries ≡ published_in vs
  pub is : state_of x (moment place) ≡ end
  pub well : IsWell (moment place)
  pub paid : place.to_cancel ≡ []

-- each path from a program's first state is that of a journal of the program, if the time fits
abbrev pub PathIsJournal : Type 0
PathIsJournal = (l : Listing) (sites : List Site) (cancels : Bool) (vs : List Sight) (t : State) → time_in vs < 2 ^ 64
    → Path (small_definitions l) (state_of (record { definitions = definitions l; sites = sites; cancels = cancels }) (start (source l))) vs t
    → IsJournalOf (record { definitions = definitions l; sites = sites; cancels = cancels }) (source l) vs t

-- if the state of a moment says that the run has halted, it has
abbrev pub EndingIsHalted : Type 0
EndingIsHalted = (x : Context) (smalls : List SmallDefinition) (s : Moment) → ending smalls (small_of x s) ≡ Some halted → Halted s.term

-- if the state of a moment says that the run is quiet, it is
abbrev pub EndingIsQuiet : Type 0
EndingIsQuiet = (x : Context) (smalls : List SmallDefinition) (s : Moment) → AreOf smalls x → IsWell s → ending smalls (small_of x s) ≡ Some quiet → IsQuiet x s
