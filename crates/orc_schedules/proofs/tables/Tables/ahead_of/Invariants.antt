use Rattle.std.proofs.Common.{◌≡◌, ◌<◌, length}
use Rattle.orc_search.specs.Nodes.{smalls}
use Rattle.orc_search.specs.Programs.{small_definitions}
use Rattle.orc_schedules.specs.Seen.{kept_by}
use Rattle.orc_schedules.specs.Tables.{AreKnown, Keeps, LeadsTo}
use Rattle.orc_schedules.proofs.tables.Tables.ahead_of.Given as goal

abbrev pub invariant-loop-early : goal.invariant-loop-early
invariant-loop-early l = AreKnown l.self × Keeps l.fn.self l.self × (l.self.states ≡ l.fn.self.states) × (l.self.ends ≡ l.fn.self.ends) × (l.ahead < length (smalls l.self.terms))
    × LeadsTo (small_definitions l.source.program.now) (kept_by l.sieve) l.source.answers.now.sites l.self l.from l.ahead
