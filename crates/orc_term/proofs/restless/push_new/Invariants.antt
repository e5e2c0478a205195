use Rattle.std.proofs.Common.{◌≡◌, ◌<◌, ◌≤◌, ℕ, true}
use Rattle.orc_term.specs.Hints.{restless}
use Rattle.orc_term.specs.Settling.{kind_at}
use Rattle.orc_term.specs.Asking.{IsListed}
use Rattle.orc_term.proofs.restless.push_new.Given as goal

abbrev pub invariant-loop-place : goal.invariant-loop-place
invariant-loop-place l =
    ((i : ℕ) → IsListed i l.initial.list.items → IsListed i l.list.items)
    × ((i : ℕ) → l.first ≤ i → i < l.place → restless (kind_at l.items.items i) ≡ true → IsListed i l.list.items)
