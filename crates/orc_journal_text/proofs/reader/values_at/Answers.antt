use Rattle.std.proofs.Common.{arith}
use Rattle.orc_rules.specs.declared.limits.TheConstants.{MOST_ARGUMENTS}
use Rattle.std.proofs.lemmas.Grind.{common_steps}
use Rattle.orc_journal_text.specs.Reading.{values_at}
use Rattle.orc_journal_text.proofs.Loops.{goes_on}
use Rattle.orc_journal_text.proofs.reader.values_at.Goals as goal

pub loop-preserved : goal.loop-preserved
loop-preserved c = record {
  so_far = rw c.push.ensures (goes_on c.loop.args MOST_ARGUMENTS c.loop.counter c.loop.rest.now c.in_ok-value.behind.now c.in_ok-rest.rest.now c.in_ok-value.value (values_at MOST_ARGUMENTS c.args.bytes.now) c.loop-test.true c.in_ok-value.ensures c.in_default.ensures c.in_ok-rest.ensures c.loop.invariant.so_far);
  count = grind (arith, common_steps, c.push.ensures, c.loop.invariant.count);
}
