-- What has become of a group that was left last.
use Rattle.std.specs.Prelude.{◌≡◌, ◌⊎◌, ℕ}
use Rattle.orc_word.specs.declared.view.View.{View}
use Rattle.orc_rules.specs.Term.{Term}
use Rattle.orc_ledger_spec.specs.Halting.{HasHalted}
use Rattle.orc_ledger_spec.specs.declared.results.Halted.{Halted}
use Rattle.orc_ledger_spec.specs.declared.results.Halted.TheVariants as halted
use Rattle.orc_book.specs.Words.{Turns, unused}
use Rattle.orc_book.specs.declared.word_table.Kind.{Kind}
use Rattle.orc_book.specs.declared.word_table.Kind.TheVariants.{Free, Open, Dying}
use Rattle.orc_book.specs.declared.halt.Ended.{Ended}
use Rattle.orc_book.specs.declared.halt.Ended.TheVariants.{Run, Token, Lost, Group}
use Rattle.orc_book.specs.declared.token.Token.{Token as Out}
use Rattle.orc_book.specs.Held.{Held, IsOut}

-- a token that has come out has its record
abbrev pub HasEnded : {X : Type 0} → Held → Ended X → Type 0
HasEnded b Run = Unit {0}
HasEnded b (Token k) = IsOut b k
HasEnded b (Lost cell) = Unit {0}
HasEnded b Group = Unit {0}

-- what the pass of a token that has come out weighs
abbrev pub in_ended : {X : Type 0} → (View → ℕ) → Ended X → ℕ
in_ended f Run = 0
in_ended f (Token k) = f k.pass
in_ended f (Lost cell) = 0
in_ended f Group = 0

-- the book's answer for a group that has halted so: the cell that is lost, the token in this slot, or only that the group is gone
abbrev pub Told : {X : Type 0} → Halted → Ended X → Type 0
Told {X} (halted.Lost cell parent) e = e ≡ Lost cell
Told {X} (halted.Resumed slot) e = (k : Out X) × (e ≡ Token k) × (k.slot ≡ slot)
Told {X} (halted.Closed parent) e = e ≡ Group

-- The last pass to word w, which stands for this, was left, and e is the answer. The program's own group keeps its word. Any other word is free
-- again, and no other word has changed: an open group has halted, and for a killed one no record changes
abbrev pub FreesWord : {X : Type 0} → (ℕ → Term) → Held → ℕ → Kind → Ended X → Held → Type 0
FreesWord code b w Free e b' = ⊥
FreesWord code b w (Open number) e b' = ((number ≡ 0) × (e ≡ Run) × (b' ≡ b)) ⊎ ((number ≡ 0 → ⊥) × (h : Halted) × HasHalted code b.ledger b'.ledger number h × Told h e × Turns b.stands w unused b'.stands)
FreesWord code b w Dying e b' = (e ≡ Group) × (b'.ledger ≡ b.ledger) × (b'.posts ≡ b.posts) × Turns b.stands w unused b'.stands
