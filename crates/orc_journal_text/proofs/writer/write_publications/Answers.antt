use Rattle.std.proofs.Common.{pos}
use Rattle.orc_rules.specs.declared.value.Value.TheVariants.{Number}
use Rattle.orc_journal_text.proofs.Outputs.{output-more}
use Rattle.orc_journal_text.proofs.writer.write_publications.Goals as goal

pub loop-value-preserved : goal.loop-value-preserved
loop-value-preserved c =
    output-more c.args.out.now.items c.loop-value.out.items _ c.args.values.now c.loop-value.value-index (Number (pos 0)) c.loop-value-test.true c.loop-value.invariant c.in_ok-write_publication.ensures
