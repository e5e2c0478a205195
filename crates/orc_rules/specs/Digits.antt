-- Reading the digits with which a text begins.
use Rattle.std.specs.Prelude.{◌≡◌, ℕ, ◌+◌, ◌*◌, ◌-◌, ◌^◌, List, [], ◌∷◌, nat_lt, if◌then◌else◌, Option, Some, None}
use Rattle.std.specs.Char.{is_ascii_digit}

-- a function of the code returned what `read` says: `view` turns its result into what contracts see of it
abbrev pub Gives : {X Y : Type 0} → (X → Y) → Option X → Option Y → Type 0
Gives view (Some x) read = read ≡ Some (view x)
Gives view None read = read ≡ None

-- the number n continued by the digits at the front, and the bytes after them; 48 is the code of `0`
abbrev pub digits_from : ℕ → List ℕ → ℕ × List ℕ
digits_from n [] = (n, [])
digits_from n (c ∷ cs) = if is_ascii_digit c then digits_from (n * 10 + (c - 48)) cs else (n, c ∷ cs)

-- the number that the digits at the front spell, 0 if there is none, and the bytes after them; nothing if it doesn't fit 64 bits
unfoldable pub digits_at : List ℕ → Option (ℕ × List ℕ)
digits_at bytes = if nat_lt (digits_from 0 bytes).0 (2 ^ 64) then Some (digits_from 0 bytes) else None
