-- What a clause says of a call that the table answers.
use Rattle.std.specs.Prelude.{◌≡◌, true, false}
use Rattle.futures.specs.declared.task.Poll.{Poll}
use Rattle.futures.specs.declared.task.Poll.TheVariants.{Ready, Pending}
use Rattle.orc_rules.specs.declared.value.Answer.{Answer}
use Rattle.orc_site.specs.declared.due.Due.{Due}
use Rattle.orc_site.specs.declared.site_call.SiteCall.{SiteCall}
use Rattle.orc_site.specs.Time.{found, due_from, answer_of, is_due}

-- when it is answered, and with what
abbrev pub due_of : SiteCall → Due
due_of call = due_from call.request.made_at (found call.answers.now call.request)

abbrev pub reply_of : SiteCall → Answer
reply_of call = answer_of (found call.answers.now call.request)

-- it is due, and this is the answer
abbrev pub IsReply : SiteCall → Answer → Type 0
IsReply call answer = (is_due (due_of call) call.moment ≡ true) × (answer ≡ reply_of call)

-- ready, with the answer, exactly where it is due
abbrev pub IsExact : Poll Answer → SiteCall → Type 0
IsExact (Ready answer) call = IsReply call answer
IsExact Pending call = is_due (due_of call) call.moment ≡ false

-- the same table, request and source
abbrev pub IsSameCall : SiteCall → SiteCall → Type 0
IsSameCall old new = (new.answers ≡ old.answers) × (new.request ≡ old.request) × (new.source ≡ old.source)
