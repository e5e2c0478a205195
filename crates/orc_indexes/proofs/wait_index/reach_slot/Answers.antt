use Rattle.std.proofs.Common.{ap, ◌∙◌}
use Rattle.orc_indexes.specs.Same.{weight}
use Rattle.orc_indexes.specs.Parking.{is_set, one}
use Rattle.orc_indexes.proofs.Flags.{more-flags, more-count}
use Rattle.orc_indexes.proofs.wait_index.reach_slot.Goals as goal

pub loop-flags-preserved : goal.loop-flags-preserved
loop-flags-preserved c =
    let old = c.loop-flags.flags.items in
    record {
      same = λ k. ap (λ z. is_set z k) c.in-Ok.ensures.items ∙ more-flags old k ∙ c.loop-flags.invariant.same k;
      count = ap (weight one) c.in-Ok.ensures.items ∙ more-count old ∙ c.loop-flags.invariant.count;
    }
