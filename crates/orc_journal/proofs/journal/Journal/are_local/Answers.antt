use Rattle.std.proofs.Common.{◌≡◌, true, rules}
use Rattle.orc_journal.specs.Rows.{entry_of}
use Rattle.orc_journal.proofs.Grafted.{local_more}
use Rattle.orc_journal.proofs.journal.Journal.are_local.Goals as goal

pub loop-row-preserved : goal.loop-row-preserved
loop-row-preserved c =
    let local : c.is_local.result ≡ true = search rules in
    local_more c.args.answers.now.sites (entry_of c.self.inside.tables) c.deref-row-items.result.now c.loop-row.row-index _ c.loop-row-test.true c.loop-row.invariant (c.is_local.ensures local)
