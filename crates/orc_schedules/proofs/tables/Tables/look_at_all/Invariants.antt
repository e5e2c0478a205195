use Rattle.orc_search.specs.Nodes.{smalls}
use Rattle.orc_search.specs.Programs.{small_definitions}
use Rattle.orc_search.specs.States.{State}
use Rattle.orc_schedules.specs.Adding.{AreFound}
use Rattle.orc_schedules.specs.Listed.{AreListed}
use Rattle.orc_schedules.specs.Seen.{kept_by}
use Rattle.orc_schedules.specs.Tables.{AreKnown, Keeps, AreDone}
use Rattle.orc_schedules.proofs.tables.Tables.look_at_all.Given as goal

abbrev pub invariant-loop-at : goal.invariant-loop-at
invariant-loop-at l = AreListed (small_definitions l.source.program.now) l.source.answers.now.sites (smalls l.self.terms) l.self.counts l.moves × AreKnown l.self × Keeps l.fn.self l.self × AreDone (small_definitions l.source.program.now) (kept_by l.sieve) l.source.answers.now.sites l.self l.at
    × ((begin : State) → AreFound (small_definitions l.source.program.now) (kept_by l.sieve) begin l.source.answers.now.sites l.fn.self → AreFound (small_definitions l.source.program.now) (kept_by l.sieve) begin l.source.answers.now.sites l.self)
