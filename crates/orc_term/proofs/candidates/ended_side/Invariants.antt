use Rattle.std.proofs.Common.{◌≡◌, false, length}
use Rattle.orc_term.specs.Sides.{AreKnown}
use Rattle.orc_term.proofs.candidates.ended_side.Given as goal

abbrev pub invariant-loop-place : goal.invariant-loop-place
invariant-loop-place l = AreKnown l.nodes.items l.flags.items l.candidates × (l.candidates.all ≡ false)

abbrev pub decreases-loop-place : goal.decreases-loop-place
decreases-loop-place l = length l.candidates.listed
