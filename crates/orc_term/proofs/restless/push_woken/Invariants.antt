use Rattle.std.proofs.Common.{◌≡◌, ◌<◌, ℕ, get_or, true}
use Rattle.orc_term.specs.Hints.{restless}
use Rattle.orc_term.specs.Settling.{kind_at}
use Rattle.orc_term.specs.Asking.{IsListed}
use Rattle.orc_term.proofs.restless.push_woken.Given as goal

abbrev pub invariant-loop-index : goal.invariant-loop-index
invariant-loop-index l =
    ((i : ℕ) → IsListed i l.initial.list.items → IsListed i l.list.items)
    × ((k : ℕ) → k < l.index → restless (kind_at l.items.items (get_or l.woken.items k 0)) ≡ true → IsListed (get_or l.woken.items k 0) l.list.items)
