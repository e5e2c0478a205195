-- How far a run of a ledger is, and why it stops.
use Rattle.std.specs.Prelude.{◌≡◌, ◌≤◌, ◌<◌, ◌+◌, ◌*◌, ◌-◌, ◌⊎◌, ℕ, Option, Some}
use Rattle.orc_rules.specs.Nodes.{Listing, code, definitions, source}
use Rattle.orc_rules.specs.Program.{IsProgram}
use Rattle.orc_rules.specs.Timed.{IsIn}
use Rattle.orc_indexes.specs.Same.{weight}
use Rattle.orc_tables.specs.declared.records.Call.{Call}
use Rattle.orc_tables.specs.declared.records.Group.{Group}
use Rattle.orc_tables.specs.PendingCalls.{due_of}
use Rattle.orc_journal.specs.Sizes.{IsCrowded}
use Rattle.orc_ledger_spec.specs.Records.{Records}
use Rattle.orc_ledger_spec.specs.Next.{members, numbers_of, next_of, quiet, work}
use Rattle.orc_ledger_spec.specs.declared.faults.LedgerFault.TheVariants as fault
use Rattle.orc_scheduler.specs.declared.ready.Drawn.{Drawn}
use Rattle.orc_scheduler.specs.declared.ready.Drawn.TheVariants as drawn
use Rattle.orc_scheduler.specs.declared.scheduler.Step.{Step}
use Rattle.orc_scheduler.specs.declared.scheduler.Step.TheVariants as step
use Rattle.orc_scheduler.specs.declared.scheduler.Stop.{Stop}
use Rattle.orc_scheduler.specs.declared.scheduler.Stop.TheVariants as stop
use Rattle.orc_scheduler.specs.declared.scheduler.Turn.{Turn}
use Rattle.orc_scheduler.specs.declared.scheduler.Turn.TheVariants as turn

-- ---- how far a run is

-- how many groups are open
abbrev pub open_groups : Records → ℕ
open_groups s = weight (λ (g : Group). 1) s.groups

-- a bound on what may still come: two for each entry up to the limit (the entry, and a group that it may open), and one for each open group
abbrev pub left : Records → ℕ
left s = 2 * (s.limit - s.entries) + open_groups s

-- the run is as far or further: it has more entries, or as many and no more open groups
pub record Goes (s s' : Records) : Type 0 where
  pub limit : s'.limit ≡ s.limit
  pub far : 2 * s.entries + open_groups s' ≤ 2 * s'.entries + open_groups s

-- the run is further: it has more entries, or as many and fewer open groups
pub record Advances (s s' : Records) : Type 0 where
  pub limit : s'.limit ≡ s.limit
  pub far : 2 * s.entries + open_groups s' < 2 * s'.entries + open_groups s

-- what a move has come to, with n tokens in the run queue before and n' after: the run is further, or the token waits and the queue isn't longer
abbrev pub HasMoved : Records → ℕ → Records → ℕ → Step → Type 0
HasMoved s n s' n' step.Waits = (s' ≡ s) × (n' ≤ n)
HasMoved s n s' n' _ = Advances s s'

-- the run is further, or unchanged with a shorter run queue
abbrev pub IsNearer : Records → ℕ → Records → ℕ → Type 0
IsNearer s n s' n' = Advances s s' ⊎ ((s' ≡ s) × (n' < n))

-- the run is further, or unchanged with a run queue that isn't longer
abbrev pub HasSpread : Records → ℕ → Records → ℕ → Type 0
HasSpread s n s' n' = Advances s s' ⊎ ((s' ≡ s) × (n' ≤ n))

-- a turn: the run is nearer its end; or no turn was left, and nothing has changed but that handles of gone tokens may have left the queue
abbrev pub HasTurned : Records → ℕ → Records → ℕ → Turn → Type 0
HasTurned s n s' n' turn.Rests = (s' ≡ s) × (n' ≤ n)
HasTurned s n s' n' _ = IsNearer s n s' n'

-- a token that was drawn has left the run queue
abbrev pub HasDrawn : Option Drawn → ℕ → ℕ → Type 0
HasDrawn (Some (drawn.Token h)) n n' = n' + 1 ≡ n
HasDrawn _ n n' = n' ≤ n

-- ---- why it stops

-- no call is due, or overdue
abbrev pub NoneIsDue : Records → Type 0
NoneIsDue s = (c : Call) (t : ℕ) → IsIn c s.calls → due_of c ≡ Some t → t ≤ s.now → ⊥

-- work is left, and the program's own group has members
abbrev pub IsAtWork : Listing → Records → Type 0
IsAtWork l s = (next_of (code l) (definitions l) (numbers_of s) s ≡ work) × (members (numbers_of s) s 0 ≡ 0 → ⊥)

-- the run has cause to stop for this reason. Halted: the program's own group has no members. Quiet: nothing comes next. Full: the journal shows that
-- a limit of the engine can have been reached. Limit: the journal has as many entries as the limit. Broken: the scope check doesn't accept the
-- program. Memory needs no cause, and a run stops for no other reason
abbrev pub Stops : Listing → Records → Stop → Type 0
Stops l s stop.Halted = members (numbers_of s) s 0 ≡ 0
Stops l s stop.Quiet = next_of (code l) (definitions l) (numbers_of s) s ≡ quiet
Stops l s (stop.Refused fault.Full) = IsCrowded s.journal
Stops l s (stop.Refused fault.Limit) = s.limit ≤ s.entries
Stops l s (stop.Refused fault.Memory) = Unit {0}
Stops l s (stop.Refused fault.Unclaimed) = ⊥
Stops l s stop.Broken = IsProgram (definitions l) (source l) → ⊥
Stops l s (stop.Site number) = ⊥
