use Rattle.std.proofs.Common.{◌≡◌, ◌<◌, ℕ, Some}
use Rattle.std.specs.Prelude.{All}
use Rattle.orc_word.specs.Views.{group_of}
use Rattle.orc_book.specs.Held.{passes_at, word_at}
use Rattle.orc_book.proofs.Posts.{all-named, named-on}
use Rattle.orc_book.proofs.book.Book.names.Goals as goal

pub loop-post-preserved : goal.loop-post-preserved
loop-post-preserved g c =
    let ps = c.self.inside.posts.items in
    let before : (i : ℕ) → i < c.loop-post.post-index → All (λ v. group_of v ≡ Some (word_at ps i)) (passes_at ps i) = rw (← c.self.view_is) at c.loop-post.invariant in
    rw (← c.self.view_is) (named-on ps _ c.as_slice-post-items.ensures.value c.loop-post.post-index c.post-item.result c.loop-post-test.true c.post-item.is c.names.ensures before)

pub returns : goal.returns
returns g c =
    let ps = c.self.inside.posts.items in
    let before : (i : ℕ) → i < c.loop-post.post-index → All (λ v. group_of v ≡ Some (word_at ps i)) (passes_at ps i) = rw (← c.self.view_is) at c.loop-post.invariant in
    rw (← c.self.view_is) (all-named ps _ c.as_slice-post-items.ensures.value c.loop-post.post-index c.loop-post-test.false before)
