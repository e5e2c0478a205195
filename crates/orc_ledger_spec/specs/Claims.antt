-- Claims: a condition that only an atomic operation can settle, such as winning a mark that several workers try to set. A move asks its claim last,
-- when nothing else refuses it. Until then the claim is untouched; once asked, it is got or lost.
use Rattle.orc_rules.specs.Nodes.{Listing, code, definitions}
use Rattle.orc_frames.specs.declared.action.Action.{Action}
use Rattle.orc_frames.specs.declared.action.Action.TheVariants.{Prune, Other, Bind}
use Rattle.orc_tables.specs.declared.records.Token.{Token}
use Rattle.orc_ledger_spec.specs.Records.{Records}
use Rattle.orc_ledger_spec.specs.Doing.{what_of}
use Rattle.orc_ledger_spec.specs.Moves.{IsHindered}
use Rattle.orc_ledger_spec.specs.declared.faults.LedgerFault.{LedgerFault}
use Rattle.orc_ledger_spec.specs.declared.faults.LedgerFault.TheVariants as fault

-- a word that opens a side or binds a cell asks the claim; any other word leaves it untouched
abbrev pub Claims : Type 0 → Type 0 → Action → Type 0
Claims untouched asked Prune = asked
Claims untouched asked Other = asked
Claims untouched asked (Bind c v) = asked
Claims untouched asked _ = untouched

-- why a call that asks a claim last is refused: for one of these reasons, before the claim was asked; or because it was lost, where neither Full nor
-- Limit was a reason
abbrev pub IsBarred : Type 0 → Type 0 → (LedgerFault → Type 0) → LedgerFault → Type 0
IsBarred untouched lost reason fault.Full = untouched × reason fault.Full
IsBarred untouched lost reason fault.Limit = untouched × reason fault.Limit
IsBarred untouched lost reason fault.Memory = untouched × reason fault.Memory
IsBarred untouched lost reason fault.Unclaimed = lost × (reason fault.Full → ⊥) × (reason fault.Limit → ⊥)

module _ (l : Listing) (s : Records) (t : Token) where
  -- a token has moved: its claim was got if its word asks one
  abbrev pub HasAsked : Type 0 → Type 0 → Type 0
  HasAsked untouched got = Claims untouched got (what_of (code l) (definitions l) s t)

  -- why its move is refused; only a word that asks a claim loses it
  abbrev pub IsBarredAt : Type 0 → Type 0 → LedgerFault → Type 0
  IsBarredAt untouched lost = IsBarred untouched (Claims ⊥ lost (what_of (code l) (definitions l) s t)) (IsHindered l s t)
