-- Which calls pend, and when they are due.
use Rattle.std.specs.Prelude.{◌≡◌, ◌≢◌, ◌<◌, ◌≤◌, ◌+◌, ◌^◌, ◌↔◌, ◌⊎◌, ℕ, List, [], Option, Some, None}
use Rattle.orc_rules.specs.declared.param.Param.TheVariants.{Is}
use Rattle.orc_rules.specs.declared.value.Answer.{Answer}
use Rattle.orc_rules.specs.declared.value.Found.TheVariants.{After}
use Rattle.orc_rules.specs.declared.entry.Entry.{Entry}
use Rattle.orc_rules.specs.declared.entry.Entry.TheVariants.{Call, Return, ReturnHalt, Bind}
use Rattle.orc_rules.specs.Term.{pending_of}
use Rattle.orc_rules.specs.Sites.{find}
use Rattle.orc_rules.specs.Marked.{Marked, in_opened, erase, fill_marked, Replaces}
use Rattle.orc_rules.specs.Timed.{Context, Moment, IsIn, IsDue, nth_of}
use Rattle.orc_rules.specs.Journal.{Place, Leads}
use Rattle.orc_rules.specs.Numbered.{call, times, IsNumbered}
use Rattle.orc_rules.specs.Lost.{HoldsSource, AreSource}
use Rattle.orc_rules.specs.Idle.{calls_of}

-- some pending call is due at t
abbrev pub PendsDue : Context → Moment → ℕ → Type 0
PendsDue x s t = (k : ℕ) × (a : Answer) × IsIn k (pending_of s.term) × IsDue x.sites s.calls k a t

-- the pending calls that are due some day, each behind its due time
abbrev pub AreDue : Context → Moment → List (ℕ × ℕ) → Type 0
AreDue x s ds = (t k : ℕ) → IsIn {X = ℕ × ℕ} (t, k) ds ↔ (IsIn k (pending_of s.term) × (a : Answer) × IsDue x.sites s.calls k a t)

-- the least due time of the pending calls, or none where none of them is ever due
abbrev pub IsNextDue : Context → Moment → Option ℕ → Type 0
IsNextDue x s None = (t : ℕ) → PendsDue x s t → ⊥
IsNextDue x s (Some t) = PendsDue x s t × ((u : ℕ) → PendsDue x s u → t ≤ u)

-- the next due time is the least in the list of the due calls, or none where it is empty
abbrev pub NextByList : Type 0
NextByList = (x : Context) (s : Moment) (ds : List (ℕ × ℕ)) → AreDue x s ds → ((ds ≡ []) → IsNextDue x s None) × ((t k : ℕ) → IsIn {X = ℕ × ℕ} (t, k) ds → ((u j : ℕ) → IsIn {X = ℕ × ℕ} (u, j) ds → t ≤ u) → IsNextDue x s (Some t))

-- the pending calls are those that marks show
abbrev pub PendingByMarks : Type 0
PendingByMarks = (m : Marked) → HoldsSource m → pending_of (erase m) ≡ calls_of m

-- a call pends in a marked term where its name stands
abbrev pub PendingByNames : Type 0
PendingByNames = (m : Marked) → HoldsSource m → (k : ℕ) → IsIn k (pending_of (erase m)) ↔ (0 < times (call k) m)

-- which calls pend after an entry: a call comes, a return takes its own, a bind takes those of the dropped side, and every other entry leaves them
abbrev pub PendsAfter : Place → Entry → Place → ℕ → Type 0
PendsAfter p (Call s k m args) q j = IsIn j (pending_of (erase q.marked)) ↔ (j ≡ k) ⊎ IsIn j (pending_of (erase p.marked))
PendsAfter p (Return k a v) q j = IsIn j (pending_of (erase q.marked)) ↔ IsIn j (pending_of (erase p.marked)) × (j ≢ k)
PendsAfter p (ReturnHalt k) q j = IsIn j (pending_of (erase q.marked)) ↔ IsIn j (pending_of (erase p.marked)) × (j ≢ k)
PendsAfter p (Bind s c v) q j = (f g : Marked) × (cs : List ℕ) × Replaces (in_opened f c g) (fill_marked (Is v) c f) p.marked cs q.marked × (IsIn j (pending_of (erase q.marked)) ↔ IsIn j (pending_of (erase p.marked)) × (IsIn j (pending_of (erase g)) → ⊥))
PendsAfter p _ q j = IsIn j (pending_of (erase q.marked)) ↔ IsIn j (pending_of (erase p.marked))

abbrev pub PendingByEntry : Type 0
PendingByEntry = (x : Context) (p : Place) (e : Entry) (q : Place) → IsNumbered p → HoldsSource p.marked → AreSource x.definitions → Leads x p e q → (k : ℕ) → PendsAfter p e q k

-- when a call is due doesn't change, and a call that is made is due by what the table says of it
abbrev pub DueAfter : Context → Place → Entry → Place → ℕ → Answer → ℕ → Type 0
DueAfter x p (Call s k m args) q j a t = ((j ≢ k) → IsDue x.sites q.calls j a t ↔ IsDue x.sites p.calls j a t) × (IsDue x.sites q.calls k a t ↔ ((d : ℕ) × (find x.sites m args (nth_of m args p.calls) ≡ After a d) × (t ≡ p.now + d) × (t < 2 ^ 64)))
DueAfter x p _ q j a t = IsDue x.sites q.calls j a t ↔ IsDue x.sites p.calls j a t

abbrev pub DueByEntry : Type 0
DueByEntry = (x : Context) (p : Place) (e : Entry) (q : Place) → IsNumbered p → Leads x p e q → (k : ℕ) (a : Answer) (t : ℕ) → DueAfter x p e q k a t
