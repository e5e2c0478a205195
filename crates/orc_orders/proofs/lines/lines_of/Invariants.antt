-- The lines so far.
use Rattle.std.proofs.Common.{◌≡◌, take}
use Rattle.std.specs.List.{flat_map}
use Rattle.orc_orders.specs.Lines.{line}
use Rattle.orc_orders.proofs.lines.lines_of.Given as goal

abbrev pub invariant-loop-outcome : goal.invariant-loop-outcome
invariant-loop-outcome l = l.text.items ≡ flat_map (line l.orders) (take l.outcome-index l.seen)
