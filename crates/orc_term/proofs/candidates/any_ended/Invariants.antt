use Rattle.std.proofs.Common.{◌≡◌, ◌<◌, ℕ, false}
use Rattle.orc_term.specs.Sides.{has_ended}
use Rattle.orc_term.proofs.candidates.any_ended.Given as goal

abbrev pub invariant-loop-place : goal.invariant-loop-place
invariant-loop-place l = (p : ℕ) → p < l.place → has_ended l.nodes.items l.flags.items p ≡ false
