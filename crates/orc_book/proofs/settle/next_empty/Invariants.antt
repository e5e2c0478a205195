use Rattle.std.proofs.Common.{◌≤◌, ◌<◌, ℕ}
use Rattle.orc_ledger_spec.specs.Next.{members, numbers_of}
use Rattle.orc_book.proofs.settle.next_empty.Given as goal

abbrev pub invariant-loop-number : goal.invariant-loop-number
invariant-loop-number g l = (i : ℕ) → l.from ≤ i → i < l.number → 1 ≤ members (numbers_of l.ledger) l.ledger i
