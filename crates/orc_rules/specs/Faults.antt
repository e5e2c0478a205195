-- The words of the reasons of a refusal, and of where a journal has brought a run; the status at a reason.
use Rattle.std.specs.Prelude.{ℕ, List, codes}
use Rattle.orc_rules.specs.declared.entry.RuleFault.{RuleFault}
use Rattle.orc_rules.specs.declared.entry.RuleFault.TheVariants as reason
use Rattle.orc_rules.specs.declared.entry.State.{State}
use Rattle.orc_rules.specs.declared.entry.State.TheVariants as state

-- the word of a reason
abbrev pub reason_word : RuleFault → List ℕ
reason_word reason.Cancel = codes "Cancel"
reason_word reason.Mark = codes "Mark"
reason_word reason.Form = codes "Form"
reason_word reason.Number = codes "Number"
reason_word reason.Answer = codes "Answer"
reason_word reason.Time = codes "Time"
reason_word reason.Halted = codes "Halted"
reason_word reason.Deep = codes "Deep"
reason_word reason.Memory = codes "Memory"

-- 5 where memory was refused, else 1
abbrev pub reason_status : RuleFault → ℕ
reason_status reason.Memory = 5
reason_status r = 1

-- the word of a state
abbrev pub state_word : State → List ℕ
state_word state.Halted = codes "Halted"
state_word state.Quiet = codes "Quiet"
state_word state.Running = codes "Running"
