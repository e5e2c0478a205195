use Rattle.std.proofs.Common.{◌≡◌, ◌<◌, ◌≤◌, ◌+◌, ◌-◌, ℕ}
use Rattle.orc_word.specs.declared.view.View.{View}
use Rattle.orc_book.specs.declared.word_table.Kind.TheVariants.{Open}
use Rattle.orc_book.specs.Held.{IsMissing, StayLoose, word_at}
use Rattle.orc_book.specs.Passes.{in_posts, in_words}
use Rattle.orc_book.specs.Words.{HaveDied, kind_at}
use Rattle.orc_book.proofs.settle.bury_missing.Given as goal

abbrev pub decreases-loop-number : goal.decreases-loop-number
decreases-loop-number g l = l.count - l.number

abbrev pub invariant-loop-number : goal.invariant-loop-number
invariant-loop-number g l =
    (l.number ≤ l.count)
    × StayLoose l.ledger l.initial.posts.items l.posts.items
    × HaveDied l.ledger l.initial.words.stands l.words.stands
    × ((f : View → ℕ) → in_posts f l.posts.items + in_words f l.words.stands ≡ in_posts f l.initial.posts.items + in_words f l.initial.words.stands)
    × ((i : ℕ) → i < l.number → IsMissing l.ledger i → kind_at l.words.stands (word_at l.initial.posts.items i) ≡ Open i → ⊥)
