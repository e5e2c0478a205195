-- What a ledger does next, as a function of its records and of the groups that the tables note.
use Rattle.std.specs.Prelude.{◌≡◌, ℕ, zero, suc, ◌+◌, List, Bool, true, false, cond, nat_lt, ◌≤◌, Option, Some, None, slice_get}
use Rattle.orc_rules.specs.Term.{Term, Definition}
use Rattle.orc_rules.specs.Timed.{IsIn}
use Rattle.orc_indexes.specs.Same.{weight, is_this}
use Rattle.orc_ledger_spec.specs.Records.{Records}
use Rattle.orc_tables.specs.Steps.{group_at}
use Rattle.orc_ledger_spec.specs.Doing.{what_of}
use Rattle.orc_frames.specs.Doing.{is_wait}
use Rattle.orc_ledger_spec.specs.Homes.{home, AreHomes, Nest, AreNests}
use Rattle.orc_tables.specs.declared.records.Token.{Token}
use Rattle.orc_tables.specs.declared.records.Call.{Call}
use Rattle.orc_tables.specs.declared.records.Frame.{Frame}
use Rattle.orc_tables.specs.declared.records.Frame.TheVariants.{SeqLeft, PruneRight, OtherwiseLeft}
use Rattle.orc_tables.specs.declared.records.Step.{Step}
use Rattle.orc_tables.specs.declared.records.Side.{Side}
use Rattle.orc_tables.specs.declared.records.Side.TheVariants.{Right, Left}
use Rattle.orc_tables.specs.declared.records.Group.{Group}
use Rattle.orc_tables.specs.PendingCalls.{next_due}
use Rattle.orc_tables.specs.OpenGroups.{size_of}

-- ---- groups

-- the numbers that the tables add to the records: the group of a token and of a call, a group's own number and its parent's; the root is group 0
pub record Numbers : Type 0 where
  pub token : Token → ℕ
  pub call : Call → ℕ
  pub number : Group → ℕ
  pub parent : Group → ℕ

-- a token and a call are in the group of their step, a group has its number, and its parent is the group of the step round it
abbrev pub numbers_of : Records → Numbers
numbers_of s = record { token = λ t. group_at s.steps t.step; call = λ c. group_at s.steps c.step; number = λ g. g.number; parent = λ g. group_at s.steps g.outer }

-- how many tokens, calls and groups a group has
abbrev pub members : Numbers → Records → ℕ → ℕ
members n s i = weight (λ (t : Token). is_this i (n.token t)) s.tokens + (weight (λ (c : Call). is_this i (n.call c)) s.calls + weight (λ (g : Group). is_this i (n.parent g)) s.groups)

-- the table says of each number how many members it has
abbrev pub AreSizes : List ℕ → Records → Type 0
AreSizes sizes s = (i : ℕ) → size_of sizes i ≡ members (numbers_of s) s i

-- 1 for no members, else 0
abbrev pub is_empty : ℕ → ℕ
is_empty zero = 1
is_empty (suc k) = 0

-- how many open groups have no members
abbrev pub empty_groups : Numbers → Records → ℕ
empty_groups n s = weight (λ (g : Group). is_empty (members n s (n.number g))) s.groups

-- how many groups, the root too, have no members
abbrev pub open_empty : Numbers → Records → ℕ
open_empty n s = is_empty (members n s 0) + empty_groups n s

-- the side is the one that the step enters
abbrev pub IsSide : Frame → Side → Type 0
IsSide (PruneRight c) (Right d) = c ≡ d
IsSide (OtherwiseLeft m) (Left n g scope) = m ≡ n
IsSide _ _ = ⊥

-- the step enters a side that is a group
abbrev pub opens : Frame → Bool
opens (SeqLeft x g scope) = false
opens (PruneRight c) = true
opens (OtherwiseLeft n) = true

-- what the tables keep of groups: each token, call and group is in the group of its home; each group has a step of its side
pub record AreGrouped (n : Numbers) (s : Records) : Type 0 where
  pub homes : List ℕ
  pub are_homes : AreHomes homes s.steps
  pub groups : ℕ → Option Nest
  pub nests : AreNests homes s.steps groups
  pub root : (w : Nest) × (groups 0 ≡ Some w) × (w.step ≡ 0)
  pub tokens : (t : Token) → IsIn t s.tokens → (w : Nest) × (groups (n.token t) ≡ Some w) × (w.step ≡ home homes t.step)
  pub calls : (c : Call) → IsIn c s.calls → (w : Nest) × (groups (n.call c) ≡ Some w) × (w.step ≡ home homes c.step)
  pub sides : (g : Group) → IsIn g s.groups → (w : Nest) × (k : ℕ) × (p : Step) × (groups (n.number g) ≡ Some w) × (w.parent ≡ n.parent g) × (w.step ≡ suc k) × (slice_get s.steps k ≡ Some p) × (p.outer ≡ g.outer) × IsSide p.entered g.side
  pub listed : (i : ℕ) (w : Nest) (k : ℕ) → groups i ≡ Some w → w.step ≡ suc k → (g : Group) × IsIn g s.groups × (n.number g ≡ i)
  -- no two have one number
  pub once : (i : ℕ) → weight (λ (g : Group). is_this i (n.number g)) s.groups ≤ 1
  -- the left side of a `>x>` is in the group round it
  pub feeds : (k : ℕ) (p : Step) → slice_get s.steps k ≡ Some p → opens p.entered ≡ false → p.group ≡ group_at s.steps p.outer

-- ---- what comes next

-- something to do at this time, a tick to a time, or nothing ever
pub data Next : Type 0 where
  work : Next
  ticks : ℕ → Next
  quiet : Next

-- 1 for a token that doesn't wait, else 0
abbrev pub ready_one : (ℕ → Term) → List Definition → Records → Token → ℕ
ready_one code defs s t = cond (is_wait (what_of code defs s t)) 0 1

-- how many tokens don't wait
abbrev pub ready : (ℕ → Term) → List Definition → Records → ℕ
ready code defs s = weight (ready_one code defs s) s.tokens

-- where nothing moves: by the next due time, if there is one
abbrev pub next_at : ℕ → Option ℕ → Next
next_at now None = quiet
next_at now (Some t) = cond (nat_lt now t) (ticks t) work

-- work if the number of ready tokens and empty groups isn't 0; else by the next due time
abbrev pub next_by : ℕ → ℕ → Option ℕ → Next
next_by zero now due = next_at now due
next_by (suc k) now due = work

-- a token that moves, a group without members, or a call that is due: work; else a tick to the next due time; else quiet
abbrev pub next_of : (ℕ → Term) → List Definition → Numbers → Records → Next
next_of code defs n s = next_by (ready code defs s + open_empty n s) s.now (next_due s.calls)
