-- What the tests decide: halted, idle, a tick, quiet.
use Rattle.std.specs.Prelude.{◌≡◌, ◌<◌, ◌↔◌, ℕ, List, Bool, true, false, Option, Some, None}
use Rattle.orc_rules.specs.declared.entry.State.{State}
use Rattle.orc_rules.specs.declared.entry.State.TheVariants.{Halted as HasHalted, Quiet, Running}
use Rattle.orc_rules.specs.Term.{Term, Definition, Halted}
use Rattle.orc_rules.specs.Step.{Act, returns, Step}
use Rattle.orc_rules.specs.Marked.{Marked, erase}
use Rattle.orc_rules.specs.Timed.{Context, Moment, IsIdle, IsTick, IsQuiet, used}
use Rattle.orc_rules.specs.Journal.{Place, moment}
use Rattle.orc_rules.specs.Verdict.{IsAt}
use Rattle.orc_rules.specs.Idle.{has_halted, can_move, movable}
use Rattle.orc_rules.specs.Pending.{PendsDue, IsNextDue}

-- every act but a return
abbrev pub IsOwn : Act → Type 0
IsOwn (returns k a) = ⊥
IsOwn _ = Unit {0}

-- a rule that is no return can be used
abbrev pub CanMove : Context → Moment → Type 0
CanMove x s = (a : Act) × (u : Term) × IsOwn a × Step x.definitions (used s) s.term a u

-- the state, from whether the term has halted, whether it can move, and the next due time
abbrev pub state_by : Bool → Bool → Option ℕ → State
state_by true moves due = HasHalted
state_by false true due = Running
state_by false false (Some t) = Running
state_by false false None = Quiet

abbrev pub HaltedByTest : Type 0
HaltedByTest = (t : Term) → Halted t ↔ (has_halted t ≡ true)

abbrev pub CanMoveByTest : Type 0
CanMoveByTest = (x : Context) (s : Moment) → CanMove x s ↔ (can_move x.definitions s.term ≡ true)

-- idle: nothing can move, and each pending call is due later or never
abbrev pub IdleByTest : Type 0
IdleByTest = (x : Context) (s : Moment) → IsIdle x s ↔ ((can_move x.definitions s.term ≡ false) × ((t : ℕ) → PendsDue x s t → s.now < t))

-- a tick: nothing can move, and t is the next due time and later than now
abbrev pub TickByTest : Type 0
TickByTest = (x : Context) (s : Moment) (due : Option ℕ) → IsNextDue x s due → (t : ℕ) → IsTick x s t ↔ ((can_move x.definitions s.term ≡ false) × (due ≡ Some t) × (s.now < t))

-- quiet: not halted, nothing can move, and no pending call is ever due
abbrev pub QuietByTest : Type 0
QuietByTest = (x : Context) (s : Moment) (due : Option ℕ) → IsNextDue x s due → IsQuiet x s ↔ ((has_halted s.term ≡ false) × (can_move x.definitions s.term ≡ false) × (due ≡ None))

-- a run stands where the tests say, and nowhere else
abbrev pub StateByTest : Type 0
StateByTest = (x : Context) (p : Place) (due : Option ℕ) → IsNextDue x (moment p) due → (state : State) → IsAt x p state ↔ (state ≡ state_by (has_halted (erase p.marked)) (can_move x.definitions (erase p.marked)) due)

-- a marked term can move where its count isn't 0
abbrev pub MovesByCount : Type 0
MovesByCount = (defs : List Definition) (m : Marked) → (can_move defs (erase m) ≡ false) ↔ (movable defs m ≡ 0)
