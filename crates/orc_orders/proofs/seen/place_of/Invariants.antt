-- None of those before the place is this outcome.
use Rattle.std.proofs.Common.{ℕ, ◌<◌, slice_index_or}
use Rattle.orc_orders.specs.declared.seen.Seen.{Seen}
use Rattle.orc_orders.specs.Survey.{IsOf}
use Rattle.orc_orders.proofs.seen.place_of.Given as goal

abbrev pub invariant-loop-at : goal.invariant-loop-at
invariant-loop-at l = (k : ℕ) (d : Seen) → k < l.at → IsOf (record { end = l.end; values = l.values }) (slice_index_or l.seen k d) → ⊥
