-- Calls that are answered, and why they aren't.
use Rattle.std.specs.Prelude.{◌≡◌, ◌≤◌, ◌<◌, ℕ, List, [], ◌∷◌, Option, Some, None}
use Rattle.orc_rules.specs.declared.value.Value.{Value}
use Rattle.orc_rules.specs.declared.value.Answer.{Answer}
use Rattle.orc_rules.specs.declared.value.Answer.TheVariants.{Value as Gives, Halt}
use Rattle.orc_rules.specs.declared.entry.Entry.TheVariants.{Return, ReturnHalt}
use Rattle.orc_rules.specs.Nodes.{Listing, source}
use Rattle.orc_rules.specs.Sites.{Site}
use Rattle.orc_rules.specs.Timed.{IsIn, IsDue, IsTick}
use Rattle.orc_rules.specs.Journal.{Place, Journal, begin, moment}
use Rattle.orc_indexes.specs.Same.{weight}
use Rattle.orc_ledger_spec.specs.Records.{Records, context}
use Rattle.orc_ledger_spec.specs.Calls.{Exchanges}
use Rattle.orc_tables.specs.PendingCalls.{has_number}
use Rattle.orc_tables.specs.Tokens.{IsHeld}
use Rattle.orc_tables.specs.declared.records.Standing.TheVariants.{On}
use Rattle.orc_tables.specs.declared.records.Token.{Token}
use Rattle.orc_tables.specs.declared.records.Call.{Call}
use Rattle.orc_ledger_spec.specs.declared.faults.ReturnFault.{ReturnFault}
use Rattle.orc_ledger_spec.specs.declared.faults.ReturnFault.TheVariants as return_
use Rattle.orc_ledger_spec.specs.declared.faults.LedgerFault.{LedgerFault}
use Rattle.orc_ledger_spec.specs.declared.faults.LedgerFault.TheVariants as fault

-- the journal has led to place p
abbrev pub IsAt : Listing → List Site → Records → Place → Type 0
IsAt l sites s p = Journal (context l sites) (begin (source l)) s.journal p

-- by the rules call k is due now with this answer
abbrev pub IsDueNow : Listing → List Site → Records → ℕ → Answer → Type 0
IsDueNow l sites s k a = (p : Place) × IsAt l sites s p × IsDue sites p.calls k a p.now

-- by the rules a tick may set the time to t
abbrev pub MayTick : Listing → List Site → Records → ℕ → Type 0
MayTick l sites s t = (p : Place) × IsAt l sites s p × IsTick (context l sites) (moment p) t

-- the token that stands on the answer of a call
abbrev pub answered : Records → Call → Value → Token
answered s c v = record { serial = s.next_mark; standing = On v; step = c.step }

-- the call goes; where it is answered with a value a token comes in its place, in this slot
abbrev pub IsReturned : Records → Call → Answer → Option ℕ → Records → Type 0
IsReturned s c (Gives v) (Some slot) s' = Exchanges s s' [] (answered s c v ∷ []) (c ∷ []) [] 0 (Return c.number s.next_mark v) × IsHeld s'.slots slot (answered s c v)
IsReturned s c Halt None s' = Exchanges s s' [] [] (c ∷ []) [] 0 (ReturnHalt c.number)
IsReturned s c _ _ s' = ⊥

-- call k pends, with this record
abbrev pub Pends : Records → ℕ → Call → Type 0
Pends s k c = IsIn c s.calls × (c.number ≡ k)

-- why an answer is refused: the first cause that there is
abbrev pub IsUnanswered : Listing → List Site → Records → ℕ → Answer → ReturnFault → Type 0
IsUnanswered l sites s k a return_.Gone = weight (has_number k) s.calls ≡ 0
IsUnanswered l sites s k a return_.Wrong = ((c : Call) × Pends s k c) × (IsDueNow l sites s k a → ⊥)
IsUnanswered l sites s k a return_.Limit = ((c : Call) × Pends s k c) × IsDueNow l sites s k a × (s.limit ≤ s.entries)
IsUnanswered l sites s k a return_.Memory = ((c : Call) × Pends s k c) × IsDueNow l sites s k a × (s.entries < s.limit)

-- why an entry that brings no token and no group is refused
abbrev pub IsStopped : Records → LedgerFault → Type 0
IsStopped s fault.Full = ⊥
IsStopped s fault.Limit = s.limit ≤ s.entries
IsStopped s fault.Memory = s.entries < s.limit
IsStopped s fault.Unclaimed = ⊥
