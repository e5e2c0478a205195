-- Timed runs: returns at their due times, ticks, and the calls that a bind cancels.
use Rattle.std.specs.Prelude.{◌≡◌, ℕ, suc, ◌+◌, ◌^◌, ◌<◌, ◌≤◌, List, [], ◌∷◌, Bool, true, false, nat_eq, ◌&&◌, ◌⊎◌, map}
use Rattle.std.specs.List.{count_by}
use Rattle.orc_rules.specs.declared.value.Value.{Value}
use Rattle.orc_rules.specs.declared.value.Answer.{Answer}
use Rattle.orc_rules.specs.declared.value.Found.{Found}
use Rattle.orc_rules.specs.declared.value.Found.TheVariants.{After}
use Rattle.orc_rules.specs.Term.{Term, Definition, Halted, pending_of}
use Rattle.orc_rules.specs.Sites.{Site, find, values_eq}
use Rattle.orc_rules.specs.Step.{Act, calls, returns, binds, opens, Used, Step}

-- what a run depends on: the program's definitions, the table of sites, and whether cancels are recorded
pub record Context : Type 0 where
  pub definitions : List Definition
  pub sites : List Site
  pub cancels : Bool

-- a call as it was made, at this time: nth counts the calls of the run with its site and arguments, itself included
pub record CallMade : Type 0 where
  pub number : ℕ
  pub site : ℕ
  pub args : List Value
  pub nth : ℕ
  pub at : ℕ

-- where a run is: its term, the time, the calls made and the cells opened, the newest first, and the calls whose cancel is due
pub record Moment : Type 0 where
  pub term : Term
  pub now : ℕ
  pub calls : List CallMade
  pub cells : List ℕ
  pub to_cancel : List ℕ

abbrev pub number_of : CallMade → ℕ
number_of c = c.number

-- the numbers that a run has used so far
abbrev pub used : Moment → Used
used s = record { calls = map number_of s.calls; cells = s.cells }

-- which call with its site and arguments the next one is, from 1
abbrev pub nth_of : ℕ → List Value → List CallMade → ℕ
nth_of m args made = suc (count_by (λ c. nat_eq m (CallMade.site c) && values_eq args (CallMade.args c)) made)

-- x is an element
abbrev pub IsIn : {X : Type 0} → X → List X → Type 0
IsIn x [] = ⊥
IsIn x (y ∷ ys) = (x ≡ y) ⊎ IsIn x ys

-- what the table says of a call
abbrev pub says_of : List Site → CallMade → Found
says_of sites c = find sites c.site c.args c.nth

-- call k is due at t with answer a: t is the time when it was made and its delay, where the sum is a u64
pub record IsDue (sites : List Site) (made : List CallMade) (k : ℕ) (a : Answer) (t : ℕ) : Type 0 where
  pub by : CallMade
  pub is_made : IsIn by made
  pub is_k : by.number ≡ k
  pub delay : ℕ
  pub says : says_of sites by ≡ After a delay
  pub sum : t ≡ by.at + delay
  pub fits : t < 2 ^ 64

-- if it is a return: the call is due now, with this answer
abbrev pub IsTimely : List Site → Moment → Act → Type 0
IsTimely sites s (returns k a) = IsDue sites s.calls k a s.now
IsTimely sites s _ = Unit {0}

-- a return of a call, whatever its answer, that is due later or never
abbrev pub IsLater : List Site → Moment → Act → Type 0
IsLater sites s (returns k a) = (b : Answer) (t : ℕ) → IsDue sites s.calls k b t → s.now < t
IsLater sites s _ = ⊥

-- idle: the rules allow no step now except returns of calls that are due later or never
abbrev pub IsIdle : Context → Moment → Type 0
IsIdle x s = (a : Act) (u : Term) → Step x.definitions (used s) s.term a u → IsLater x.sites s a

-- a tick may set the time to t: the least due time of the pending calls
pub record IsTick (x : Context) (s : Moment) (t : ℕ) : Type 0 where
  pub idle : IsIdle x s
  pub later : s.now < t
  pub reached : (k : ℕ) × (a : Answer) × IsIn k (pending_of s.term) × IsDue x.sites s.calls k a t
  pub least : (k : ℕ) (a : Answer) (u : ℕ) → IsIn k (pending_of s.term) → IsDue x.sites s.calls k a u → t ≤ u

-- quiet: the term hasn't halted, no rule can be used now, and no tick is possible
pub record IsQuiet (x : Context) (s : Moment) : Type 0 where
  pub running : Halted s.term → ⊥
  pub idle : IsIdle x s
  pub no_tick : (t : ℕ) → IsTick x s t → ⊥

-- in rising order
abbrev pub IsRising : List ℕ → Type 0
IsRising [] = Unit {0}
IsRising (k ∷ []) = Unit {0}
IsRising (k ∷ j ∷ ks) = (k < j) × IsRising (j ∷ ks)

-- the calls that pended before a bind and pend no more: those of the dropped side, in rising order
pub record AreDropped (before after to_cancel : List ℕ) : Type 0 where
  pub rising : IsRising to_cancel
  pub each : (k : ℕ) → IsIn k to_cancel → IsIn k before × (IsIn k after → ⊥)
  pub all : (k : ℕ) → IsIn k before → (IsIn k after → ⊥) → IsIn k to_cancel

-- the cancels that are due after an act: those of a bind where they are recorded, and else none
abbrev pub CancelsAfter : Context → Act → Term → Term → List ℕ → Type 0
CancelsAfter x (binds c v) t u to_cancel = (x.cancels ≡ true → AreDropped (pending_of t) (pending_of u) to_cancel) × (x.cancels ≡ false → to_cancel ≡ [])
CancelsAfter x _ t u to_cancel = to_cancel ≡ []

-- the calls and the cells after a step
abbrev pub calls_after : Moment → Act → List CallMade
calls_after s (calls k m args cs) = record { number = k; site = m; args = args; nth = nth_of m args s.calls; at = s.now } ∷ s.calls
calls_after s _ = s.calls

abbrev pub cells_after : Moment → Act → List ℕ
cells_after s (opens c) = c ∷ s.cells
cells_after s _ = s.cells

-- what happens in a timed run
pub data Event : Type 0 where
  does : Act → Event
  ticks : ℕ → Event
  cancels : ℕ → Event

-- one use of a rule
pub record Does (x : Context) (s : Moment) (a : Act) (s' : Moment) : Type 0 where
  pub step : Step x.definitions (used s) s.term a s'.term
  pub timely : IsTimely x.sites s a
  pub now : s'.now ≡ s.now
  pub calls : s'.calls ≡ calls_after s a
  pub cells : s'.cells ≡ cells_after s a
  pub free : s.to_cancel ≡ []
  pub to_cancel : CancelsAfter x a s.term s'.term s'.to_cancel

-- one event; while a cancel is due nothing else happens
abbrev pub Happens : Context → Moment → Event → Moment → Type 0
Happens x s (does a) s' = Does x s a s'
Happens x s (ticks t) s' = (s.to_cancel ≡ []) × IsTick x s t × (s' ≡ record s { now = t })
Happens x s (cancels k) s' = (s.to_cancel ≡ k ∷ s'.to_cancel) × (s' ≡ record s { to_cancel = s'.to_cancel })

-- a timed run: its events, one after another
abbrev pub Run : Context → Moment → List Event → Moment → Type 0
Run x s [] s' = s ≡ s'
Run x s (e ∷ es) s' = (mid : Moment) × Happens x s e mid × Run x mid es s'

-- a run of a term begins at time 0, with nothing used
abbrev pub start : Term → Moment
start t = record { term = t; now = 0; calls = []; cells = []; to_cancel = [] }
