use Rattle.std.proofs.Common.{◌≡◌, length}
use Rattle.orc_term.specs.Rising.{Passes}
use Rattle.orc_term.proofs.Climbing.{Climbs}
use Rattle.orc_term.proofs.walk.rise.Given as goal

abbrev pub invariant-loop-steps : goal.invariant-loop-steps
invariant-loop-steps l = Climbs l.initial.nodes.items l.from l.nodes.items l.place l._steps × (length l.nodes.items ≡ length l.initial.nodes.items) × Passes l.initial.nodes.items l.nodes.items × (l.nodes.room ≡ l.initial.nodes.room) × (l.nodes.asked ≡ l.initial.nodes.asked)
