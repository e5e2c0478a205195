use Rattle.std.proofs.Common.{◌≡◌, ◌-◌, ◌+◌, ℕ}
use Rattle.std.specs.Prelude.{vec_len}
use Rattle.orc_indexes.specs.Same.{weight}
use Rattle.orc_indexes.specs.Parking.{is_set, one}
use Rattle.orc_indexes.proofs.wait_index.reach_slot.Given as goal

abbrev pub invariant-loop-flags : goal.invariant-loop-flags
invariant-loop-flags l = record {
  same : (k : ℕ) → is_set l.flags.items k ≡ is_set l.initial.flags.items k;
  count : weight one l.flags.items ≡ weight one l.initial.flags.items;
}

abbrev pub decreases-loop-flags : goal.decreases-loop-flags
decreases-loop-flags l = l.slot + 1 - vec_len l.flags
