use Rattle.std.proofs.Common.{◌≡◌, ◌<◌, ℕ, Some}
use Rattle.std.specs.Prelude.{slice_get}
use Rattle.orc_rules.specs.Timed.{IsIn}
use Rattle.orc_search.specs.declared.successor.Successor.{Successor}
use Rattle.orc_schedules.specs.Adding.{AddsOnly, IsAfterOne}
use Rattle.orc_schedules.specs.Reached.{Reached}
use Rattle.orc_schedules.specs.Seen.{kept_by}
use Rattle.orc_schedules.specs.Tables.{AreKnown, Keeps, after, reached}
use Rattle.orc_schedules.proofs.tables.Tables.follow_all.Given as goal

abbrev pub invariant-loop-successor : goal.invariant-loop-successor
invariant-loop-successor l = AreKnown l.self × Keeps l.fn.self l.self
    × ((i : ℕ) (s : Successor) → i < l.successor-index → slice_get l.successors i ≡ Some s → IsIn {X = Reached} (after (kept_by l.sieve) l.answers.sites l.fn.self l.from s) (reached l.answers.sites l.self))
    × AddsOnly l.answers.sites (IsAfterOne (kept_by l.sieve) l.answers.sites l.fn.self l.from l.successors) l.fn.self l.self × (l.self.ends ≡ l.fn.self.ends)
