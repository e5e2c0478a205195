-- Tokens that a call leaves in their slots.
use Rattle.std.specs.Prelude.{◌≡◌, ℕ, List, false}
use Rattle.orc_rules.specs.Term.{Term}
use Rattle.orc_tables.specs.Tokens.{IsHeld}
use Rattle.orc_tables.specs.declared.records.Token.{Token}
use Rattle.orc_ledger_spec.specs.Records.{Records}
use Rattle.orc_ledger_spec.specs.Calls.{token_goes}
use Rattle.orc_ledger_spec.specs.declared.results.Moved.{Moved}
use Rattle.orc_ledger_spec.specs.declared.results.Moved.TheVariants as moved

-- each token is still in its slot
abbrev pub KeepsAll : List Token → List Token → Type 0
KeepsAll slots slots' = (i : ℕ) (t : Token) → IsHeld slots i t → IsHeld slots' i t

-- each token of another slot than this one is still in it
abbrev pub KeepsOthers : List Token → ℕ → List Token → Type 0
KeepsOthers slots slot slots' = (i : ℕ) (t : Token) → (i ≡ slot → ⊥) → IsHeld slots i t → IsHeld slots' i t

-- each token outside the right side of cell c is still in its slot
abbrev pub KeepsOutside : (ℕ → Term) → ℕ → Records → Records → Type 0
KeepsOutside code c s s' = (i : ℕ) (t : Token) → token_goes code c s t ≡ false → IsHeld s.slots i t → IsHeld s'.slots i t

-- which tokens a move of the one in this slot leaves in theirs: where a cell is bound those outside its right side, else those of other slots
abbrev pub KeepsBy : (ℕ → Term) → Records → ℕ → Moved → Records → Type 0
KeepsBy code s slot (moved.Bound c g) s' = KeepsOutside code c s s'
KeepsBy code s slot _ s' = KeepsOthers s.slots slot s'.slots
