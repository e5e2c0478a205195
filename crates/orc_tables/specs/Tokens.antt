-- Tokens in slots.
use Rattle.std.specs.Prelude.{◌≡◌, ◌≤◌, ◌⊎◌, ℕ, List, [], ◌∷◌, Some, slice_get, Bool, true, cond, nat_lt}
use Rattle.orc_rules.specs.Timed.{IsIn}
use Rattle.orc_indexes.specs.Parking.{Parked, is_set, IsNoted}
use Rattle.orc_tables.specs.declared.records.Token.{Token}

-- what callers see of a table of tokens: its slots, how many tokens more find room, and which tokens are known to wait
pub record Slots : Type 0 where
  pub items : List Token
  pub room : ℕ
  pub parked : Parked

-- a slot whose token has serial 0 is free
abbrev pub is_live : Token → Bool
is_live t = nat_lt 0 t.serial

-- the tokens in the slots
abbrev pub live : List Token → List Token
live [] = []
live (t ∷ ts) = cond (is_live t) (t ∷ live ts) (live ts)

-- a token is in this slot
abbrev pub IsHeld : List Token → ℕ → Token → Type 0
IsHeld slots slot t = (slice_get slots slot ≡ Some t) × (1 ≤ t.serial)

-- a slot whose flag is set holds a token
abbrev pub AreHeld : List Token → List Bool → Type 0
AreHeld slots flags = (slot : ℕ) → is_set flags slot ≡ true → (t : Token) × IsHeld slots slot t

-- token t is in this slot, and known to wait
abbrev pub IsParked : List Token → Parked → ℕ → Token → Type 0
IsParked slots q slot t = IsHeld slots slot t × (is_set q.flags slot ≡ true)

-- each token that is known to wait was so before, and has kept its notes
abbrev pub StayParked : Slots → Slots → Type 0
StayParked x x' = (slot : ℕ) (t : Token) → IsParked x'.items x'.parked slot t → IsParked x.items x.parked slot t × ((cell : ℕ) → IsNoted x.parked cell slot t.serial → IsNoted x'.parked cell slot t.serial)

-- as `StayParked`, but none of these tokens waits for cell c, and the notes of c may go
abbrev pub StayBut : ℕ → Slots → Slots → Type 0
StayBut c x x' =
    (slot : ℕ) (t : Token) → IsParked x'.items x'.parked slot t
    → IsParked x.items x.parked slot t × (IsNoted x.parked c slot t.serial → ⊥) × ((cell : ℕ) → (cell ≡ c → ⊥) → IsNoted x.parked cell slot t.serial → IsNoted x'.parked cell slot t.serial)

-- each token that is known to wait was so before, or is the one in this slot, which is noted with these cells; all notes stay
abbrev pub StayWith : ℕ → ℕ → List ℕ → Slots → Slots → Type 0
StayWith slot serial cells x x' =
    ((k : ℕ) (t : Token) → IsParked x'.items x'.parked k t → IsParked x.items x.parked k t ⊎ ((k ≡ slot) × ((cell : ℕ) → IsIn cell cells → IsNoted x'.parked cell slot serial)))
    × ((cell k n : ℕ) → IsNoted x.parked cell k n → IsNoted x'.parked cell k n)
