-- Bounds by the journal: there are no more tokens and calls, open groups and left sides of a `>x>` than its entries have brought.
use Rattle.std.specs.Prelude.{ℕ, ◌+◌, ◌≤◌, length}
use Rattle.orc_rules.specs.Nodes.{Listing}
use Rattle.orc_journal.specs.Sizes.{brings, opens, feeds, total, IsCrowded}
use Rattle.orc_ledger_spec.specs.Records.{Records}
use Rattle.orc_ledger_spec.specs.Calls.{IsRefused}
use Rattle.orc_ledger_spec.specs.Moves.{IsHindered}
use Rattle.orc_ledger_spec.specs.Halting.{IsHinderedAt}
use Rattle.orc_tables.specs.Steps.{depth_at}
use Rattle.orc_tables.specs.declared.records.Token.{Token}
use Rattle.orc_ledger_spec.specs.declared.faults.HaltFault.TheVariants.{Refused}
use Rattle.orc_ledger_spec.specs.declared.faults.LedgerFault.TheVariants.{Full}

-- the first token was there before any entry
pub record AreBrought (s : Records) : Type 0 where
  pub tokens : length s.tokens + length s.calls ≤ total brings s.journal + 1
  pub groups : length s.groups ≤ total opens s.journal
  pub depth : (i : ℕ) → depth_at s.steps i ≤ total feeds s.journal

-- if a move of a token, a call of a site or the end of a group is refused as full, the journal has enough entries to have reached the limit
pub record FullIsCrowded (l : Listing) (s : Records) : Type 0 where
  pub moves : (t : Token) → IsHindered l s t Full → IsCrowded s.journal
  pub calls : IsRefused s 0 0 0 Full → IsCrowded s.journal
  pub halts : (number : ℕ) → IsHinderedAt s number (Refused Full) → IsCrowded s.journal
