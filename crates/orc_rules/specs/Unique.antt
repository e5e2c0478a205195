-- What the checker says is one thing: one reason, one verdict, one fault.
use Rattle.std.specs.Prelude.{◌≡◌, ◌≢◌, ℕ, List}
use Rattle.orc_rules.specs.declared.entry.Entry.{Entry}
use Rattle.orc_rules.specs.declared.entry.RuleFault.{RuleFault}
use Rattle.orc_rules.specs.declared.entry.RuleFault.TheVariants as reason
use Rattle.orc_rules.specs.declared.entry.State.{State}
use Rattle.orc_rules.specs.Term.{Term}
use Rattle.orc_rules.specs.Timed.{Context}
use Rattle.orc_rules.specs.Journal.{Place}
use Rattle.orc_rules.specs.Numbered.{IsNumbered}
use Rattle.orc_rules.specs.Refusal.{IsTaken, IsRefused}
use Rattle.orc_rules.specs.Verdict.{IsVerdict, IsFault}

-- an entry is refused for one reason, memory aside
abbrev pub RefusedForOne : Type 0
RefusedForOne = (x : Context) (p : Place) (e : Entry) (r r' : RuleFault) → r ≢ reason.Memory → r' ≢ reason.Memory → IsRefused x p e r → IsRefused x p e r' → r ≡ r'

-- an entry that is taken isn't refused, memory aside
abbrev pub TakenNotRefused : Type 0
TakenNotRefused = (x : Context) (p : Place) (e : Entry) (q : Place) (r : RuleFault) → IsNumbered p → r ≢ reason.Memory → IsTaken x p e q → IsRefused x p e r → ⊥

-- a journal has one verdict
abbrev pub VerdictIsOne : Type 0
VerdictIsOne = (x : Context) (t : Term) (es : List Entry) (state state' : State) (now now' : ℕ) → IsVerdict x t es state now → IsVerdict x t es state' now' → (state ≡ state') × (now ≡ now')

-- a journal has one fault, memory aside
abbrev pub FaultIsOne : Type 0
FaultIsOne = (x : Context) (t : Term) (es : List Entry) (at at' : ℕ) (why why' : RuleFault) → why ≢ reason.Memory → why' ≢ reason.Memory → IsFault x t es at why → IsFault x t es at' why' → (at ≡ at') × (why ≡ why')

-- a journal with a verdict has no fault, memory aside
abbrev pub VerdictNoFault : Type 0
VerdictNoFault = (x : Context) (t : Term) (es : List Entry) (state : State) (now at : ℕ) (why : RuleFault) → why ≢ reason.Memory → IsVerdict x t es state now → IsFault x t es at why → ⊥
