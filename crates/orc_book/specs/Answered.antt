-- What has become of a call that was answered.
use Rattle.std.specs.Prelude.{◌≡◌, ℕ, Some, None}
use Rattle.orc_rules.specs.declared.value.Answer.{Answer}
use Rattle.orc_tables.specs.Steps.{group_at}
use Rattle.orc_tables.specs.declared.records.Call.{Call}
use Rattle.orc_ledger_spec.specs.Answers.{IsReturned}
use Rattle.orc_word.specs.declared.view.View.{View}
use Rattle.orc_word.specs.Views.{group_of}
use Rattle.orc_book.specs.declared.calls.Answered.{Answered}
use Rattle.orc_book.specs.declared.calls.Answered.TheVariants.{Token, Halted}
use Rattle.orc_book.specs.Held.{Held, IsOut, word_at}

-- the call has gone: a token on its value is out, or it halted and a pass that names its group's word is there
abbrev pub IsAnswered : {X : Type 0} → Held → Call → Answer → Answered X → Held → Type 0
IsAnswered b c a (Token k) b' = IsReturned b.ledger c a (Some k.slot) b'.ledger × IsOut b' k
IsAnswered b c a (Halted v) b' = IsReturned b.ledger c a None b'.ledger × (group_of v ≡ Some (word_at b.posts (group_at b.ledger.steps c.step)))

-- what the pass weighs that has come out
abbrev pub in_answered : {X : Type 0} → (View → ℕ) → Answered X → ℕ
in_answered f (Token k) = f k.pass
in_answered f (Halted v) = f v
