-- Nothing of Orc is lost: of each entry with which the journal of a ledger may go on, what its calls say.
use Rattle.std.specs.Prelude.{◌≡◌, ◌+◌, ◌⊎◌, ℕ, List, length, Bool, true, false, Option, Some, None}
use Rattle.orc_rules.specs.declared.value.Answer.{Answer}
use Rattle.orc_rules.specs.declared.value.Answer.TheVariants as answer
use Rattle.orc_rules.specs.declared.entry.Entry.{Entry}
use Rattle.orc_rules.specs.declared.entry.Entry.TheVariants as entry
use Rattle.orc_rules.specs.Nodes.{Listing, code, definitions}
use Rattle.orc_rules.specs.Sites.{Site}
use Rattle.orc_rules.specs.Timed.{IsIn, IsQuiet}
use Rattle.orc_rules.specs.Journal.{Place, Leads, moment}
use Rattle.orc_frames.specs.Spelling.{Path, inside, within}
use Rattle.orc_ledger_spec.specs.Records.{Records, context, raw_path}
use Rattle.orc_frames.specs.Paths.{has_published}
use Rattle.orc_ledger_spec.specs.Doing.{term_of, what_of}
use Rattle.orc_frames.specs.Doing.{names, Asks}
use Rattle.orc_ledger_spec.specs.Next.{Next, ticks, quiet, next_of, numbers_of}
use Rattle.orc_ledger_spec.specs.Answers.{IsAt, MayTick, Pends, IsUnanswered}
use Rattle.orc_ledger_spec.specs.Laws.{IsLeft}
use Rattle.orc_ledger_spec.specs.declared.faults.ReturnFault.TheVariants as return_
use Rattle.orc_frames.specs.declared.action.Action.{Action}
use Rattle.orc_frames.specs.declared.action.Action.TheVariants.{Halt, Fork, Seq, Other}
use Rattle.orc_tables.specs.declared.records.Token.{Token}
use Rattle.orc_tables.specs.declared.records.Call.{Call}
use Rattle.orc_tables.specs.declared.records.Side.TheVariants as side
use Rattle.orc_tables.specs.declared.records.Group.{Group}

-- the word is a move of marks
abbrev pub is_move : Action → Bool
is_move Halt = true
is_move Fork = true
is_move Seq = true
is_move Other = true
is_move _ = false

-- the new numbers of an entry are those that the ledger gives next
abbrev pub HasNext : Records → Entry → Type 0
HasNext s (entry.Fork t a b) = (a ≡ s.next_mark) × (b ≡ s.next_mark + 1)
HasNext s (entry.Seq t a) = a ≡ s.next_mark
HasNext s (entry.Other t a) = a ≡ s.next_mark
HasNext s (entry.Def t a) = a ≡ s.next_mark
HasNext s (entry.Open t c a b) = (c ≡ length s.cells) × (a ≡ s.next_mark) × (b ≡ s.next_mark + 1)
HasNext s (entry.Send t a v) = a ≡ s.next_mark
HasNext s (entry.Call t k m args) = k ≡ s.made + 1
HasNext s (entry.Return k a v) = a ≡ s.next_mark
HasNext s (entry.Right n a) = a ≡ s.next_mark
HasNext s _ = Unit {0}

module _ (l : Listing) (sites : List Site) (s : Records) where
  -- a token has this word, and a call asks what the token's term does
  abbrev pub IsWord : Entry → Option (ℕ × Action) → Type 0
  IsWord e (Some (serial, w)) = (t : Token) × IsIn t s.tokens × (t.serial ≡ serial) × (what_of (code l) (definitions l) s t ≡ w) × Asks e (term_of (code l) s t)
  IsWord e None = ⊥

  -- the call pends, and neither Gone nor Wrong stands against this answer
  pub record IsAnswerable (k : ℕ) (a : Answer) : Type 0 where
    pub call : (c : Call) × Pends s k c
    pub found : IsUnanswered l sites s k a return_.Gone → ⊥
    pub right : IsUnanswered l sites s k a return_.Wrong → ⊥

  -- of what this test picks no call pends, and the word of each token is a move of marks
  pub record AreDone (test : Path → Bool) : Type 0 where
    pub calls : (c : Call) → IsIn c s.calls → test (raw_path (code l) s c.step) ≡ false
    pub tokens : (t : Token) → IsIn t s.tokens → test (raw_path (code l) s t.step) ≡ true → is_move (what_of (code l) (definitions l) s t) ≡ true

  -- the right side of cell c is open, and in it, at any depth, nothing is left but moves of marks
  pub record IsLosing (c : ℕ) : Type 0 where
    pub group : Group
    pub is_open : IsIn group s.groups
    pub side : group.side ≡ side.Right c
    pub done : AreDone (inside c)

  -- the same of the left side of otherwise n, and no publication has left it
  pub record IsStarting (n : ℕ) : Type 0 where
    pub group : Group
    pub is_open : IsIn group s.groups
    pub node : ℕ
    pub scope : ℕ
    pub side : group.side ≡ side.Left n node scope
    pub stays : has_published s.steps n ≡ false
    pub done : AreDone (within n)

  -- a token makes a move of marks, or a group goes without an entry
  abbrev pub IsWithheld : Type 0
  IsWithheld = ((t : Token) × IsIn t s.tokens × (is_move (what_of (code l) (definitions l) s t) ≡ true)) ⊎ IsLeft l (numbers_of s) s

  -- n comes next, or a move of marks or a group that goes without an entry comes first
  abbrev pub ComesNext : Next → Type 0
  ComesNext n = (next_of (code l) (definitions l) (numbers_of s) s ≡ n) ⊎ IsWithheld

  -- what the ledger says of an entry: of one that names a token, that it is its word
  abbrev pub IsOffered : Entry → Type 0
  IsOffered (entry.Return k a v) = IsAnswerable k (answer.Value v)
  IsOffered (entry.ReturnHalt k) = IsAnswerable k answer.Halt
  IsOffered (entry.Lost c) = IsLosing c
  IsOffered (entry.Right n a) = IsStarting n
  IsOffered (entry.Tick t) = MayTick l sites s t × ComesNext (ticks t)
  IsOffered e = IsWord e (names e)

  -- of each entry with which the journal may go on; and where the run is quiet by the rules, the ledger says so
  pub record NothingIsLost : Type 0 where
    pub entries : (p q : Place) (e : Entry) → IsAt l sites s p → Leads (context l sites) p e q → HasNext s e × IsOffered e
    pub rests : (p : Place) → IsAt l sites s p → IsQuiet (context l sites) (moment p) → ComesNext quiet
