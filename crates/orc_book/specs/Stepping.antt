-- What a step does: a token's record goes, and those that come in its place are out.
use Rattle.std.specs.Prelude.{◌≡◌, ◌⊎◌, ℕ, ◌+◌, List, [], ◌∷◌, ◌++◌, length, map, None, IsSome}
use Rattle.orc_rules.specs.Nodes.{Listing, code, definitions}
use Rattle.orc_rules.specs.Timed.{IsIn}
use Rattle.orc_frames.specs.declared.action.Action.{Action}
use Rattle.orc_frames.specs.declared.action.Action.TheVariants.{Send}
use Rattle.orc_frames.specs.declared.action.Action.TheVariants as does
use Rattle.orc_ledger_spec.specs.Doing.{what_of}
use Rattle.orc_ledger_spec.specs.Moves.{Moves}
use Rattle.orc_ledger_spec.specs.declared.results.Moved.{Moved}
use Rattle.orc_ledger_spec.specs.declared.results.Moved.TheVariants as moved
use Rattle.orc_tables.specs.Steps.{group_at}
use Rattle.orc_tables.specs.declared.records.Token.{Token}
use Rattle.orc_word.specs.declared.view.View.{View}
use Rattle.orc_word.specs.Views.{group_of}
use Rattle.orc_book.specs.Held.{Changes, Held, Hold, IsUnkept, Stood}
use Rattle.orc_book.specs.Words.{IsOpened}
use Rattle.orc_book.specs.Refusals.{is_opening, IsTaken}
use Rattle.orc_book.specs.declared.token.Token.{Token as Out}

-- the slots of the tokens that come of a move: none, that of the token that moved, or that and another
abbrev pub AreComers : ℕ → Moved → List ℕ → Type 0
AreComers slot (moved.Gone g) slots = slots ≡ []
AreComers slot moved.On slots = slots ≡ slot ∷ []
AreComers slot (moved.Sent g) slots = slots ≡ slot ∷ []
AreComers slot (moved.Forked other) slots = slots ≡ slot ∷ other ∷ []
AreComers slot _ slots = ⊥

-- a token that was out has taken its action, and the tokens that come of it have been added
abbrev pub HasStepped : {X : Type 0} → Listing → Held → Out X → List (Out X) → List (Out X) → Held → Type 0
HasStepped {X} l b k before after b' =
    (t : Token) × (m : Moved) × (ks : List ℕ) × (more : List (Out X))
    × IsUnkept b k.slot k.serial k.pass t
    × Moves l b.ledger k.slot t m ks b'.ledger
    × (after ≡ before ++ more)
    × AreComers k.slot m (map (λ (j : Out X). j.slot) more)

-- tokens with these passes have been added
abbrev pub HaveCome : {X : Type 0} → List (Out X) → List (Out X) → List View → Type 0
HaveCome {X} before after passes = (more : List (Out X)) × (after ≡ before ++ more) × (map (λ (k : Out X). k.pass) more ≡ passes)

-- each word stands for what it did; or the token opens a group next, and one word that was free stands for an open group
abbrev pub HaveOpened : {X : Type 0} → Listing → Held → Out X → List Stood → Type 0
HaveOpened l b k ws = (ws ≡ b.stands) ⊎ ((t : Token) × IsTaken l b k is_opening t × ((w : ℕ) × (number : ℕ) × IsOpened b.stands w number ws))

-- one token fewer of a group is out, one more, and the book holds the same passes
abbrev pub LosesOne : Hold → Hold → Type 0
LosesOne p q = (q.passes ≡ p.passes) × (q.kept ≡ p.kept) × (q.out + 1 ≡ p.out)

abbrev pub AddsOne : Hold → Hold → Type 0
AddsOne p q = (q.passes ≡ p.passes) × (q.kept ≡ p.kept) × (q.out ≡ p.out + 1)

-- what the book has of the token's group has changed so, and what it has of each other group hasn't
abbrev pub ChangesOwn : {X : Type 0} → Held → Out X → List Hold → (Hold → Hold → Type 0) → Type 0
ChangesOwn b k ps so = (t : Token) × IsUnkept b k.slot k.serial k.pass t × Changes b.posts (group_at b.ledger.steps t.step) ps so

-- passes have been added, each of which names a group
abbrev pub AreLeft : List View → List View → Type 0
AreLeft before after = (more : List View) × (after ≡ before ++ more) × ((v : View) → IsIn v more → IsSome (group_of v))

-- By a token's action: which of the passes that were lent it uses, to the same group and idle, which passes are to be left, and which ones the
-- tokens have that come
abbrev pub IsSpent : Action → View → List View → List View → List View → List View → Type 0
IsSpent does.Halt own same idle left come = (same ≡ []) × (idle ≡ []) × (left ≡ own ∷ []) × (come ≡ [])
IsSpent does.Void own same idle left come = (same ≡ []) × (idle ≡ []) × (left ≡ own ∷ []) × (come ≡ [])
IsSpent does.Seq own same idle left come = (same ≡ []) × (idle ≡ []) × (left ≡ []) × (come ≡ own ∷ [])
IsSpent does.Def own same idle left come = (same ≡ []) × (idle ≡ []) × (left ≡ []) × (come ≡ own ∷ [])
IsSpent does.Fork own same idle left come = (length same ≡ 1) × (idle ≡ []) × (left ≡ []) × (come ≡ own ∷ same)
IsSpent does.Prune own same idle left come = (length same ≡ 1) × (length idle ≡ 1) × (left ≡ []) × ((v : View) × (come ≡ own ∷ v ∷ []))
IsSpent does.Other own same idle left come = (same ≡ []) × (length idle ≡ 1) × (left ≡ []) × (length come ≡ 1)
IsSpent (Send v) own same idle left come = (same ≡ []) × (((idle ≡ []) × (left ≡ []) × (come ≡ own ∷ [])) ⊎ ((length idle ≡ 1) × (left ≡ own ∷ []) × (length come ≡ 1)))
IsSpent _ own same idle left come = ⊥

-- the lists of passes that a step is lent: to the token's group, idle ones, and those that are to be left
pub record Lent : Type 0 where
  pub same : List View
  pub idle : List View
  pub leave : List View

-- The token has taken its action with the last of the passes that were lent. Those that it gives up have been added to those to be left, and the
-- tokens that come have the others
pub record HasSpent {X : Type 0} (l : Listing) (b : Held) (k : Out X) (before after : Lent) (tokens tokens' : List (Out X)) : Type 0 where
  pub token : Token
  pub unkept : IsUnkept b k.slot k.serial k.pass token
  pub same : List View
  pub idle : List View
  pub left : List View
  pub more : List (Out X)
  pub from_same : before.same ≡ after.same ++ same
  pub from_idle : before.idle ≡ after.idle ++ idle
  pub added : after.leave ≡ before.leave ++ left
  pub come : tokens' ≡ tokens ++ more
  pub spent : IsSpent (what_of (code l) (definitions l) b.ledger token) k.pass same idle left (map (λ (j : Out X). j.pass) more)

-- Either no idle pass was used, and a token with the old token's own pass was added; or the last idle one was used, a token with some pass was
-- added, and the own pass is to be left
abbrev pub SpendsIdle : {X : Type 0} → View → List View → List View → List View → List View → List (Out X) → List (Out X) → Type 0
SpendsIdle own before after leave leave' born born' =
    ((after ≡ before) × (leave' ≡ leave) × HaveCome born born' (own ∷ []))
    ⊎ ((v : View) × (before ≡ after ++ v ∷ []) × (leave' ≡ leave ++ own ∷ []) × ((w : View) × HaveCome born born' (w ∷ [])))

-- the passes are as they were, but the last one may have become another idle one
abbrev pub AreBack : List View → List View → Type 0
AreBack before after = (after ≡ before) ⊎ ((rest : List View) × (v : View) × (w : View) × (before ≡ rest ++ v ∷ []) × (after ≡ rest ++ w ∷ []) × (group_of w ≡ None))
