-- What a sub-run leaves where its token stood, and why one doesn't come in.
use Rattle.std.specs.Prelude.{◌≡◌, ◌<◌, ◌≤◌, ◌+◌, ℕ, List, Option, Some, None, length}
use Rattle.orc_tables.specs.declared.records.Token.{Token as Its}
use Rattle.orc_rules.specs.Nodes.{Listing}
use Rattle.orc_ledger_spec.specs.Parts.{Apart, Fits, StandsFor}
use Rattle.orc_ledger_spec.specs.declared.parts.Yield.{Yield}
use Rattle.orc_word.specs.declared.view.View.{View}
use Rattle.orc_book.specs.declared.sub_runs.SubRunEnd.{SubRunEnd}
use Rattle.orc_book.specs.declared.sub_runs.SubRunEnd.TheVariants.{Token, Nobody}
use Rattle.orc_book.specs.declared.token.BookFault.{BookFault}
use Rattle.orc_book.specs.declared.token.BookFault.TheVariants.{Gone, Wrong, Limit, Memory}
use Rattle.orc_book.specs.declared.token.Token.{Token as Out}
use Rattle.orc_book.specs.Held.{Held, Hold, IsGone, IsOut}
use Rattle.orc_book.specs.Refusals.{IsFound}
use Rattle.orc_book.specs.Stepping.{ChangesOwn, LosesOne}

-- a token is out in the slot with the pass, where the call has come to a value; else the pass comes back
abbrev pub HasComer : {X : Type 0} → Held → ℕ → View → Option Yield → SubRunEnd X → Type 0
HasComer b slot pass (Some y) (Token k) = IsOut b k × (k.slot ≡ slot) × (k.pass ≡ pass)
HasComer b slot pass (Some y) (Nobody v) = ⊥
HasComer b slot pass None (Token k) = ⊥
HasComer b slot pass None (Nobody v) = v ≡ pass

-- where a token has come, what the book has of each group is as it was; else one token fewer of the group is out
abbrev pub HasKept : {X : Type 0} → Held → Out X → List Hold → SubRunEnd X → Type 0
HasKept b k ps (Token c) = ps ≡ b.posts
HasKept b k ps (Nobody v) = ChangesOwn b k ps LosesOne

module _ {X : Type 0} (l : Listing) (b : Held) (k : Out X) (a : Apart) where
  -- the token is out and stands at the call of the sub-run, which may be taken in there
  abbrev pub IsAwaited : Type 0
  IsAwaited = (t : Its) × IsFound l b k t × StandsFor l b.ledger t a.definition a.args × Fits a t

  -- the token isn't out; it is, but the sub-run isn't that of its call; it is, and the limit has no room for the entries, or memory was refused
  abbrev pub IsKeptOut : BookFault → Type 0
  IsKeptOut Gone = IsGone b k.slot k.serial k.pass
  IsKeptOut Wrong = (t : Its) × IsFound l b k t
  IsKeptOut Limit = IsAwaited × (b.ledger.limit < b.ledger.entries + length a.entries)
  IsKeptOut Memory = IsAwaited × (b.ledger.entries + length a.entries ≤ b.ledger.limit)
  IsKeptOut f = ⊥
