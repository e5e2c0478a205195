-- The table of the calls that pend.
use Rattle.std.specs.Prelude.{ℕ, ◌≡◌, ◌≤◌, ◌<◌, List, [], ◌∷◌, Bool, cond, nat_eq, nat_lt, Option, Some, None, slice_get, ◌-◌}
use Rattle.orc_rules.specs.Timed.{IsIn}
use Rattle.orc_rules.specs.Numbered.{once}
use Rattle.orc_rules.specs.Numbered.Name.{call}
use Rattle.orc_tables.specs.declared.records.Call.{Call}
use Rattle.orc_calls.specs.Due.{due_by}
use Rattle.orc_indexes.specs.Dues.{IsNoted}

-- when a call is due, if it ever is
abbrev pub due_of : Call → Option ℕ
due_of c = due_by c.made_at c.found

-- the earlier of two due times; None, which is never, is later than any time
abbrev pub earlier : Option ℕ → Option ℕ → Option ℕ
earlier None o = o
earlier (Some t) None = Some t
earlier (Some t) (Some u) = Some (cond (nat_lt u t) u t)

-- the least due time of the pending calls
abbrev pub next_due : List Call → Option ℕ
next_due [] = None
next_due (c ∷ cs) = earlier (due_of c) (next_due cs)

-- what callers of the table see: the calls, how many were made, for how many more there is room, and the notes of due times
pub record Pendings : Type 0 where
  pub items : List Call
  pub made : ℕ
  pub room : ℕ
  pub notes : List (ℕ × ℕ)

-- `places` leads from each call's number to its place
abbrev pub ArePlaced : List Call → List ℕ → Type 0
ArePlaced items places = (k : ℕ) (c : Call) → slice_get items k ≡ Some c → (1 ≤ c.number) × (slice_get places (c.number - 1) ≡ Some k)

-- the call is noted with its due time, where it has one
abbrev pub HasNote : List (ℕ × ℕ) → Call → Type 0
HasNote notes c = (t : ℕ) → due_of c ≡ Some t → IsNoted notes t c.number

-- each call is noted with its due time, where it has one
abbrev pub HaveNotes : List (ℕ × ℕ) → List Call → Type 0
HaveNotes notes items = (c : Call) → IsIn c items → HasNote notes c

-- the call has this number
abbrev pub is_numbered : ℕ → Call → Bool
is_numbered number c = nat_eq number c.number

-- call k pends, its number is over `beyond`, and it is due at time t
abbrev pub IsDueBeyond : List Call → ℕ → ℕ → ℕ → Type 0
IsDueBeyond items beyond t k = (c : Call) × IsIn c items × (c.number ≡ k) × (beyond < k) × (due_of c ≡ Some t)

-- k is the least number of such a call
abbrev pub IsLeastBeyond : List Call → ℕ → ℕ → ℕ → Type 0
IsLeastBeyond items beyond t k = IsDueBeyond items beyond t k × ((j : ℕ) → IsDueBeyond items beyond t j → k ≤ j)

-- 1 for the call with number k, else 0
abbrev pub has_number : ℕ → Call → ℕ
has_number k c = once (call k) (call c.number)
