use Rattle.std.proofs.Common.{◌≡◌, ℕ, length}
use Rattle.std.specs.Prelude.{vec_capacity}
use Rattle.orc_term.specs.Sides.{AreFlagged, MayBe}
use Rattle.orc_term.proofs.Settling.{Settled, unflagged}
use Rattle.orc_term.proofs.flags.settle.Given as goal

abbrev pub invariant-loop-above : goal.invariant-loop-above
invariant-loop-above l = Settled l.nodes.items l.fn.flags.items l.from l.flags.items l.place × (length l.flags.items ≡ length l.fn.flags.items) × (vec_capacity l.flags ≡ vec_capacity l.fn.flags)
    × AreFlagged l.nodes.items l.fn.flags.items l.flags.items l.candidates
    × ((p : ℕ) → MayBe l.fn.candidates p → MayBe l.candidates p)

abbrev pub decreases-loop-above : goal.decreases-loop-above
decreases-loop-above l = unflagged l.flags.items
