use Rattle.std.proofs.Common.{◌≤◌, ◌<◌, ℕ}
use Rattle.orc_book.specs.Held.{IsSettled}
use Rattle.orc_book.proofs.settle.next_unsettled.Given as goal

abbrev pub invariant-loop-number : goal.invariant-loop-number
invariant-loop-number g l = (i : ℕ) → l.from ≤ i → i < l.number → IsSettled l.ledger l.posts.items i
