-- The passes that a book holds, whatever each of them weighs, and those that it gives up.
use Rattle.std.specs.Prelude.{◌≡◌, ℕ, ◌+◌, List, ◌++◌, Option, Some, None, true}
use Rattle.orc_indexes.specs.Same.{weight}
use Rattle.orc_word.specs.declared.view.View.{View}
use Rattle.orc_word.specs.Views.{group_of, deeds_of, won_of, Marks}
use Rattle.orc_word.specs.Words.{has}
use Rattle.orc_word.specs.declared.bits.Bit.TheVariants.{Killed}
use Rattle.orc_book.specs.Held.{Held, Hold, Stood}
use Rattle.orc_book.specs.declared.token.Token.{Token as Out}

-- what the passes of all posts weigh
abbrev pub in_posts : (View → ℕ) → List Hold → ℕ
in_posts f ps = weight (λ (p : Hold). weight f p.passes) ps

abbrev pub of_owed : (View → ℕ) → Option View → ℕ
of_owed f None = 0
of_owed f (Some v) = f v

-- and those that words of killed groups hold
abbrev pub in_words : (View → ℕ) → List Stood → ℕ
in_words f ws = weight (λ (s : Stood). of_owed f s.owed) ws

abbrev pub in_book : (View → ℕ) → Held → ℕ
in_book f b = in_posts f b.posts + in_words f b.stands

-- what the passes of tokens weigh that are out
abbrev pub in_tokens : {X : Type 0} → (View → ℕ) → List (Out X) → ℕ
in_tokens {X} f ks = weight (λ (k : Out X). f k.pass) ks

-- Passes have been added to those to be left: all that were given up, and no others. Whatever each pass weighs, those that were added and those that
-- there are now (`has`) weigh together what those weighed that there were before (`had`)
pub record GivesUp (before after : List View) (had has : (View → ℕ) → ℕ) : Type 0 where
  pub more : List View
  pub added : after ≡ before ++ more
  pub all : (f : View → ℕ) → weight f more + has f ≡ had f

-- the pass, which has won that its group is killed, has become this one
abbrev pub HasWon : View → View → Type 0
HasWon v won = (group_of won ≡ group_of v) × Marks (group_of v) Killed true (deeds_of v) (deeds_of won) × (has Killed (won_of won) ≡ true)
