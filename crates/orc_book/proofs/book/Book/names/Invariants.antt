use Rattle.std.proofs.Common.{◌≡◌, ◌<◌, ℕ, Some}
use Rattle.std.specs.Prelude.{All}
use Rattle.orc_word.specs.Views.{group_of}
use Rattle.orc_book.specs.Held.{passes_at, word_at}
use Rattle.orc_book.proofs.book.Book.names.Given as goal

abbrev pub invariant-loop-post : goal.invariant-loop-post
invariant-loop-post g l = (i : ℕ) → i < l.post-index → All (λ v. group_of v ≡ Some (word_at l.self.posts i)) (passes_at l.self.posts i)
