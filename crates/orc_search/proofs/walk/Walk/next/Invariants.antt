use Rattle.std.proofs.Common.{◌≡◌, ℕ, List, length}
use Rattle.orc_rules.specs.declared.value.Value.{Value}
use Rattle.orc_search.specs.Small.{Out, Small}
use Rattle.orc_search.specs.Moves.{SmallDefinition}
use Rattle.orc_search.specs.Walks.{still, IsWithin}
use Rattle.orc_search.proofs.walk.Walk.next.Given as goal

abbrev pub invariant-loop-task : goal.invariant-loop-task
invariant-loop-task l = ((defs : List SmallDefinition) (ask : ℕ → List Value → Out) (terms : List Small) → still defs ask terms l.fn.self ≡ still defs ask terms l.self) × ((n : ℕ) → IsWithin n l.fn.self → IsWithin n l.self)

abbrev pub decreases-loop-task : goal.decreases-loop-task
decreases-loop-task l = length l.self.todo.items
