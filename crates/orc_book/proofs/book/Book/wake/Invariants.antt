use Rattle.std.specs.Prelude.{◌≡◌, ◌+◌, ℕ}
use Rattle.orc_word.specs.declared.view.View.{View}
use Rattle.orc_book.specs.Held.{HaveStayed, HaveWoken, AreBorn}
use Rattle.orc_book.specs.Passes.{in_book, in_tokens}
use Rattle.orc_book.proofs.book.Book.wake.Given as goal

abbrev pub invariant-loop-link : goal.invariant-loop-link
invariant-loop-link g l = HaveStayed l.initial.self l.self × AreBorn l.initial.born.items l.born.items l.self × HaveWoken l.initial.self.marks l.self.marks l.initial.born.items l.born.items × ((f : View → ℕ) → in_tokens f l.born.items + in_book f l.self ≡ in_tokens f l.initial.born.items + in_book f l.initial.self)
