use Rattle.std.proofs.Common.{◌≡◌, true, rules}
use Rattle.orc_journal.specs.Rows.{entry_of}
use Rattle.orc_journal.proofs.Grafted.{silent_more}
use Rattle.orc_journal.proofs.journal.Journal.is_silent.Goals as goal

pub loop-row-preserved : goal.loop-row-preserved
loop-row-preserved c =
    let silent : c.is_silent.result ≡ true = search rules in
    silent_more (entry_of c.self.inside.tables) c.deref-row-items.result.now c.loop-row.row-index _ c.loop-row-test.true c.loop-row.invariant (c.is_silent.ensures silent)
