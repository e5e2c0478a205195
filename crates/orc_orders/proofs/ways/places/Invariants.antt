-- As many places so far.
use Rattle.std.proofs.Common.{◌≡◌, length}
use Rattle.orc_orders.proofs.ways.places.Given as goal

abbrev pub invariant-loop-place : goal.invariant-loop-place
invariant-loop-place l = length l.places.items ≡ l._place
