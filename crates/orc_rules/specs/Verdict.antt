-- What the checker says of a whole journal.
use Rattle.std.specs.Prelude.{◌≡◌, ◌≢◌, ℕ, suc, List, [], ◌∷◌, ◌⊎◌}
use Rattle.orc_rules.specs.declared.entry.Entry.{Entry}
use Rattle.orc_rules.specs.declared.entry.RuleFault.{RuleFault}
use Rattle.orc_rules.specs.declared.entry.RuleFault.TheVariants as reason
use Rattle.orc_rules.specs.declared.entry.State.{State}
use Rattle.orc_rules.specs.declared.entry.State.TheVariants.{Halted as HasHalted, Quiet, Running}
use Rattle.orc_rules.specs.Term.{Term, Halted}
use Rattle.orc_rules.specs.Marked.{erase}
use Rattle.orc_rules.specs.Timed.{Context, IsQuiet}
use Rattle.orc_rules.specs.Journal.{Place, moment, begin}
use Rattle.orc_rules.specs.Refusal.{IsTaken, IsRefused}

-- the checker takes these entries, one after another
abbrev pub AreTaken : Context → Place → List Entry → Place → Type 0
AreTaken x p [] q = p ≡ q
AreTaken x p (e ∷ es) q = (mid : Place) × IsTaken x p e mid × AreTaken x mid es q

-- the state that a run is in
abbrev pub IsAt : Context → Place → State → Type 0
IsAt x p HasHalted = Halted (erase p.marked)
IsAt x p Quiet = IsQuiet x (moment p)
IsAt x p Running = (Halted (erase p.marked) → ⊥) × (IsQuiet x (moment p) → ⊥)

-- the verdict on a program's journal: all entries are taken, no cancel is due at the end, and there the run has this state and time
pub record IsVerdict (x : Context) (t : Term) (es : List Entry) (state : State) (now : ℕ) : Type 0 where
  pub end : Place
  pub taken : AreTaken x (begin t) es end
  pub paid : end.to_cancel ≡ []
  pub reached : IsAt x end state
  pub time : now ≡ end.now

-- the fault of entries from p on, where the next entry has the number n: the number of the first entry that is refused, with the first reason; or the
-- number after the last entry, if a cancel is due there
abbrev pub FaultFrom : Context → Place → ℕ → List Entry → ℕ → RuleFault → Type 0
FaultFrom x p n [] at why = (at ≡ n) × (why ≡ reason.Cancel) × (p.to_cancel ≢ [])
FaultFrom x p n (e ∷ es) at why = ((at ≡ n) × IsRefused x p e why) ⊎ ((mid : Place) × IsTaken x p e mid × FaultFrom x mid (suc n) es at why)

-- the fault of a program's journal
abbrev pub IsFault : Context → Term → List Entry → ℕ → RuleFault → Type 0
IsFault x t es at why = FaultFrom x (begin t) 1 es at why
