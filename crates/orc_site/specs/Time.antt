-- When a call is due, and what it then answers.
use Rattle.std.specs.Prelude.{ℕ, ◌+◌, ◌-◌, ◌^◌, Bool, false, if◌then◌else◌}
use lib.Dec.{leb}
use Rattle.orc_rules.specs.Sites.{Table, find}
use Rattle.orc_rules.specs.declared.value.Found.{Found}
use Rattle.orc_rules.specs.declared.value.Found.TheVariants.{After, Never as FoundNever}
use Rattle.orc_rules.specs.declared.value.Answer.{Answer}
use Rattle.orc_rules.specs.declared.value.Answer.TheVariants.{Halt}
use Rattle.orc_site.specs.declared.due.Due.{Due}
use Rattle.orc_site.specs.declared.due.Due.TheVariants.{At, Never as DueNever}
use Rattle.orc_site.specs.declared.request.Request.{Request}

-- what the table says of the call
abbrev pub found : Table → Request → Found
found table request = find table.sites request.site request.args request.nth

-- the time of the call plus the delay, if it fits
abbrev pub due_from : ℕ → Found → Due
due_from made_at (After answer delay) = if leb (made_at + delay) (2 ^ 64 - 1) then At (made_at + delay) else DueNever
due_from made_at FoundNever = DueNever

-- what comes then
abbrev pub answer_of : Found → Answer
answer_of (After answer delay) = answer
answer_of FoundNever = Halt

-- the time is not later than the moment
abbrev pub is_due : Due → ℕ → Bool
is_due (At time) moment = leb time moment
is_due DueNever moment = false
