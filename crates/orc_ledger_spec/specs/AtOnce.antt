-- Calls that are answered at once.
use Rattle.std.specs.Prelude.{◌≡◌, ℕ, List, Some, None}
use Rattle.orc_rules.specs.declared.value.Answer.TheVariants.{Value as Gives, Halt}
use Rattle.orc_rules.specs.declared.value.Found.TheVariants.{After}
use Rattle.orc_rules.specs.Nodes.{Listing}
use Rattle.orc_rules.specs.Sites.{Site}
use Rattle.orc_ledger_spec.specs.Records.{Records}
use Rattle.orc_tables.specs.Steps.{group_at}
use Rattle.orc_ledger_spec.specs.Requests.{IsMade}
use Rattle.orc_ledger_spec.specs.Answers.{IsReturned}
use Rattle.orc_tables.specs.declared.records.Token.{Token}
use Rattle.orc_tables.specs.declared.records.Call.{Call}
use Rattle.orc_ledger_spec.specs.declared.results.Called.{Called}
use Rattle.orc_ledger_spec.specs.declared.results.Called.TheVariants as called

-- token t, in this slot, makes a call: it pends, with number k; or the table answers it at once, and `between` are the records between the call and
-- its answer
abbrev pub IsCalled : Listing → List Site → Records → ℕ → Token → Called → Records → Type 0
IsCalled l sites s slot t (called.Pends k) s' = (c : Call) × (c.number ≡ k) × IsMade l sites s t c s'
IsCalled l sites s slot t (called.Answered v) s' = (c : Call) × (between : Records) × (c.found ≡ After (Gives v) 0) × IsMade l sites s t c between × IsReturned between c (Gives v) (Some slot) s'
IsCalled l sites s slot t (called.Halted g) s' = (c : Call) × (between : Records) × (c.found ≡ After Halt 0) × (g ≡ group_at s.steps t.step) × IsMade l sites s t c between × IsReturned between c Halt None s'
