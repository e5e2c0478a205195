use Rattle.std.proofs.Common.{◌-◌, length}
use Rattle.orc_term.specs.Asking.{StayListed}
use Rattle.orc_term.proofs.restless.keep_restless.Given as goal

abbrev pub invariant-loop-next : goal.invariant-loop-next
invariant-loop-next l = StayListed l.items.items l.initial.list.items l.list.items

abbrev pub decreases-loop-next : goal.decreases-loop-next
decreases-loop-next l = length l.list.items - l.next
