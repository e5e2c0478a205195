use Rattle.std.proofs.Common.{◌≡◌, ◌<◌, ◌≤◌, ℕ, false}
use Rattle.orc_rules.specs.Nodes.{code, definitions}
use Rattle.orc_term.specs.Halting.{AreHalts}
use Rattle.orc_env.specs.Names.{AreOrdered}
use Rattle.orc_term.specs.Settling.{kind_at}
use Rattle.orc_checker.specs.Stillness.{token_moves}
use Rattle.orc_checker.proofs.stillness.can_new_move.Given as goal

abbrev pub invariant-loop-place : goal.invariant-loop-place
invariant-loop-place l =
    (l.halts ≡ l.fn.halts)
    × (AreHalts (code l.program) l.halts → AreOrdered l.scopes → (i : ℕ) → l.first ≤ i → i < l.place → token_moves (definitions l.program) (code l.program) l.cells l.scopes (kind_at l.nodes.items i) ≡ false)
