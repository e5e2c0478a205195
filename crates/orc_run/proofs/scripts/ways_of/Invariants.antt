-- Some cases have their ways, and the others are left.
use Rattle.std.proofs.Common.{◌≡◌, ◌+◌, length}
use Rattle.orc_ways.specs.Drafting.{test_of}
use Rattle.orc_run.specs.Tested.{AreWays}
use Rattle.orc_run.proofs.scripts.ways_of.Given as goal

abbrev pub decreases-loop-rest : goal.decreases-loop-rest
decreases-loop-rest l = length l.rest

abbrev pub invariant-loop-rest : goal.invariant-loop-rest
invariant-loop-rest l = AreWays (test_of l.fn.test) 0 l.all.items × (l.at ≡ length l.all.items) × (l.at + length l.rest ≡ length l.fn.test.cases.items)
