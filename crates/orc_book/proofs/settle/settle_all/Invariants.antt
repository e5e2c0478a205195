use Rattle.std.proofs.Common.{◌≡◌, ◌≤◌, ◌+◌, ◌-◌, vec_len, vec_capacity}
use Rattle.orc_indexes.specs.Same.{weight}
use Rattle.orc_book.specs.Held.{bag}
use Rattle.orc_book.specs.Passes.{GivesUp, in_posts}
use Rattle.orc_book.proofs.Loose.{AreSettling}
use Rattle.orc_book.proofs.settle.settle_all.Given as goal

abbrev pub decreases-loop-number : goal.decreases-loop-number
decreases-loop-number g l = l.count - l.number

abbrev pub invariant-loop-number : goal.invariant-loop-number
invariant-loop-number g l =
    (l.number ≤ l.count)
    × AreSettling l.ledger l.initial.posts.items l.posts.items l.number
    × (vec_len l.leave + weight bag l.posts.items ≤ vec_len l.initial.leave + weight bag l.initial.posts.items)
    × (vec_capacity l.leave ≡ vec_capacity l.initial.leave)
    × GivesUp l.initial.leave.items l.leave.items (λ f. in_posts f l.initial.posts.items) (λ f. in_posts f l.posts.items)
