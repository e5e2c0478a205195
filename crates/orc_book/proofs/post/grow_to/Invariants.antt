use Rattle.std.proofs.Common.{◌≡◌, ◌≤◌, length, vec_capacity}
use Rattle.orc_rules.specs.declared.limits.TheConstants.{MOST_GROUPS}
use Rattle.orc_book.specs.Held.{HaveGrown}
use Rattle.orc_book.proofs.post.grow_to.Given as goal

abbrev pub invariant-loop-number : goal.invariant-loop-number
invariant-loop-number g l = HaveGrown l.initial.posts.items l.posts.items × (length l.posts.items ≡ l._number) × (length l.posts.items ≤ MOST_GROUPS) × (vec_capacity l.posts ≡ vec_capacity l.initial.posts)
