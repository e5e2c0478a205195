use Rattle.std.proofs.Common.{◌≡◌, length}
use Rattle.orc_rules.specs.Nodes.{code, definitions}
use Rattle.orc_term.specs.Halting.{AreHalts}
use Rattle.orc_env.specs.Names.{AreOrdered}
use Rattle.orc_checker.specs.Stillness.{term_moves}
use Rattle.orc_checker.proofs.Waking.{AreCleared, Looks}
use Rattle.orc_checker.proofs.stillness.can_term_move.Given as goal

abbrev pub invariant-loop-i : goal.invariant-loop-i
invariant-loop-i l = (length l.queued.items ≡ length l.fn.queued.items) × AreCleared l.queued.items l.i

abbrev pub invariant-loop-above : goal.invariant-loop-above
invariant-loop-above l =
    (length l.queued.items ≡ length l.fn.queued.items)
    × (AreHalts (code l.program) l.halts.items → AreOrdered l.scopes → Looks (term_moves (definitions l.program) (code l.program) l.cells l.scopes l.scope) l.node l.queued.items l.above)

abbrev pub decreases-loop-above : goal.decreases-loop-above
decreases-loop-above l = l.above
