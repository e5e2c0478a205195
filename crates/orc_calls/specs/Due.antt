-- When a call is due, by the time at which it was made and what the table of sites said of it.
use Rattle.std.specs.Prelude.{◌≡◌, ◌<◌, ◌+◌, ◌^◌, ℕ, Option, Some, None, cond, nat_lt}
use Rattle.orc_rules.specs.declared.value.Answer.{Answer}
use Rattle.orc_rules.specs.declared.value.Found.{Found}
use Rattle.orc_rules.specs.declared.value.Found.TheVariants.{After, Never}
use Rattle.orc_rules.specs.declared.entry.RuleFault.{RuleFault}
use Rattle.orc_rules.specs.declared.entry.RuleFault.TheVariants as fault

-- the due time, if there is one and it fits 64 bits
abbrev pub due_by : ℕ → Found → Option ℕ
due_by made_at (After a d) = cond (nat_lt (made_at + d) (2 ^ 64)) (Some (made_at + d)) None
due_by made_at Never = None

-- the call is due at t with this answer
pub record DueNow (made_at : ℕ) (found : Found) (a : Answer) (t : ℕ) : Type 0 where
  pub delay : ℕ
  pub says : found ≡ After a delay
  pub sum : t ≡ made_at + delay
  pub fits : t < 2 ^ 64

-- why it isn't due so: Answer if the table says another answer or never, Time if it says this answer at another time
abbrev pub IsNotDue : ℕ → Found → Answer → ℕ → RuleFault → Type 0
IsNotDue made_at found a t fault.Answer = (d : ℕ) → found ≡ After a d → ⊥
IsNotDue made_at found a t fault.Time = (d : ℕ) × (found ≡ After a d) × (DueNow made_at found a t → ⊥)
IsNotDue made_at found a t _ = ⊥
