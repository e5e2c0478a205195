-- Why a book's calls are refused. A fault comes only for the cause that is said here: the first that there is.
use Rattle.std.specs.Prelude.{◌≡◌, ◌≤◌, ◌<◌, ◌⊎◌, ◌-◌, ℕ, List, length, Bool, true, false, Option, None, Some, slice_get}
use Rattle.orc_rules.specs.Nodes.{Listing, code, definitions}
use Rattle.orc_rules.specs.Sites.{Site}
use Rattle.orc_rules.specs.Timed.{IsIn}
use Rattle.orc_rules.specs.declared.value.Answer.{Answer}
use Rattle.orc_frames.specs.Doing.{is_wait}
use Rattle.orc_frames.specs.declared.action.Action.{Action}
use Rattle.orc_frames.specs.declared.action.Action.TheVariants as does
use Rattle.orc_tables.specs.Steps.{group_at}
use Rattle.orc_tables.specs.declared.records.Token.{Token}
use Rattle.orc_ledger_spec.specs.Records.{Records}
use Rattle.orc_ledger_spec.specs.Answers.{IsUnanswered, IsStopped}
use Rattle.orc_ledger_spec.specs.Calls.{IsRefused}
use Rattle.orc_ledger_spec.specs.Halting.{IsHinderedAt}
use Rattle.orc_ledger_spec.specs.Doing.{what_of}
use Rattle.orc_ledger_spec.specs.Moves.{IsHindered, Misfits}
use Rattle.orc_ledger_spec.specs.Next.{members, next_of, numbers_of, ticks}
use Rattle.orc_ledger_spec.specs.declared.faults.LedgerFault.{LedgerFault}
use Rattle.orc_ledger_spec.specs.declared.faults.LedgerFault.TheVariants as ledger
use Rattle.orc_ledger_spec.specs.declared.faults.ReturnFault.TheVariants as answer
use Rattle.orc_ledger_spec.specs.declared.faults.HaltFault.TheVariants as halting
use Rattle.orc_word.specs.declared.view.View.{View}
use Rattle.orc_word.specs.Views.{group_of, deeds_of, seen_of, Marks}
use Rattle.orc_word.specs.Words.{has}
use Rattle.orc_word.specs.declared.bits.Bit.TheVariants.{Killed}
use Rattle.orc_book.specs.Held.{Held, IsUnkept, IsGone, out_at}
use Rattle.orc_book.specs.Words.{HasNoWord}
use Rattle.orc_book.specs.Feeding.{IsFedBy}
use Rattle.orc_book.specs.declared.send.Fed.{Fed}
use Rattle.orc_book.specs.declared.lookup.Found.{Found}
use Rattle.orc_book.specs.declared.token.Token.{Token as Out}
use Rattle.orc_book.specs.declared.word_table.Kind.{Kind}
use Rattle.orc_book.specs.declared.word_table.Kind.TheVariants as kind
use Rattle.orc_book.specs.declared.token.BookFault.{BookFault}
use Rattle.orc_book.specs.declared.token.BookFault.TheVariants.{Gone, Wrong, Short, Live, Full, Limit, Memory}

-- a fault of the ledger as one of the book; no call of the book asks a claim of the ledger
abbrev pub fault_of : LedgerFault → BookFault
fault_of ledger.Full = Full
fault_of ledger.Limit = Limit
fault_of ledger.Memory = Memory
fault_of ledger.Unclaimed = Gone

-- ---- what each call takes

abbrev pub is_end : Action → Bool
is_end does.Halt = true
is_end does.Void = true
is_end _ = false

abbrev pub is_fork : Action → Bool
is_fork does.Fork = true
is_fork _ = false

-- the left side of a `>x>`, or the body of a definition
abbrev pub is_onward : Action → Bool
is_onward does.Seq = true
is_onward does.Def = true
is_onward _ = false

abbrev pub is_publication : Action → Bool
is_publication (does.Publish v) = true
is_publication _ = false

abbrev pub is_send : Action → Bool
is_send (does.Send v) = true
is_send _ = false

abbrev pub is_call : Action → Bool
is_call does.Call = true
is_call _ = false

abbrev pub is_prune : Action → Bool
is_prune does.Prune = true
is_prune _ = false

abbrev pub is_other : Action → Bool
is_other does.Other = true
is_other _ = false

abbrev pub is_bind : Action → Bool
is_bind (does.Bind c v) = true
is_bind _ = false

-- a pruning, or the left side of an otherwise
abbrev pub is_opening : Action → Bool
is_opening does.Prune = true
is_opening does.Other = true
is_opening _ = false

-- what `step` takes
abbrev pub is_step : Action → Bool
is_step (does.Publish v) = false
is_step (does.Bind c v) = false
is_step does.Call = false
is_step (does.Wait c) = false
is_step _ = true

-- ---- tokens

-- the last of these passes, which is used first, doesn't name this group; or there is none
abbrev pub HasNone : List View → Option ℕ → Type 0
HasNone passes group = (v : View) → slice_get passes (length passes - 1) ≡ Some v → group_of v ≡ group → ⊥

module _ {X : Type 0} (l : Listing) (b : Held) (k : Out X) where
  -- t is the record of a token that is out: its pass names its group's word, the book doesn't keep it, and some token of its group is out
  abbrev pub IsFound : Token → Type 0
  IsFound t = IsUnkept b k.slot k.serial k.pass t × (1 ≤ out_at b.posts (group_at b.ledger.steps t.step))

  abbrev pub does_next : Token → Action
  does_next t = what_of (code l) (definitions l) b.ledger t

  -- f is what the book knows of the token: its record, what it does next, the number of its group, and how many tokens of that are out
  pub record HasFound (f : Found) : Type 0 where
    pub unkept : IsUnkept b k.slot k.serial k.pass f.its
    pub there : IsIn f.its b.ledger.tokens
    pub what : f.what ≡ does_next f.its
    pub group : f.group ≡ group_at b.ledger.steps f.its.step
    pub out : f.out ≡ out_at b.posts f.group
    pub some : 1 ≤ f.out
    pub post : f.group < length b.posts
    pub found : IsFound f.its

  -- and what it does next is what the call takes
  abbrev pub IsTaken : (Action → Bool) → Token → Type 0
  IsTaken takes t = IsFound t × (takes (does_next t) ≡ true)

  -- it is found, but does something else next
  abbrev pub IsOther : (Action → Bool) → Token → Type 0
  IsOther takes t = IsFound t × (takes (does_next t) ≡ false)

  -- it calls a definition whose parameters its operands don't fit, which no program has that the scope check took
  abbrev pub IsMisfit : Token → Type 0
  IsMisfit t = IsFound t × (does_next t ≡ does.Def) × Misfits l b.ledger k.slot t b.ledger

  -- why a call that takes such tokens is refused, where the ledger refuses them for these reasons
  abbrev pub IsRefusedMove : (Action → Bool) → (Token → LedgerFault → Type 0) → BookFault → Type 0
  IsRefusedMove takes reason Gone = IsGone b k.slot k.serial k.pass
  IsRefusedMove takes reason Wrong = (t : Token) × IsOther takes t
  IsRefusedMove takes reason Full = (t : Token) × IsTaken takes t × reason t ledger.Full
  IsRefusedMove takes reason Limit = (t : Token) × IsTaken takes t × reason t ledger.Limit
  IsRefusedMove takes reason Memory = (t : Token) × IsTaken takes t × reason t ledger.Memory
  IsRefusedMove takes reason Short = ⊥
  IsRefusedMove takes reason Live = ⊥

  -- why a call of a site isn't made, and why a token isn't kept
  abbrev pub IsRefusedCall : BookFault → Type 0
  IsRefusedCall = IsRefusedMove is_call (λ t fault. IsRefused b.ledger 0 0 0 fault)

  abbrev pub IsRefusedWait : BookFault → Type 0
  IsRefusedWait = IsRefusedMove is_wait (λ t fault. fault ≡ ledger.Memory)

  -- why a token doesn't go on
  abbrev pub IsRefusedOn : BookFault → Type 0
  IsRefusedOn Wrong = (t : Token) × (IsOther is_onward t ⊎ IsMisfit t)
  IsRefusedOn why = IsRefusedMove is_onward (IsHindered l b.ledger) why

  -- the ledger has no cause to refuse the move, but none of so many words can be opened for the new group
  abbrev pub IsUnopened : ℕ → (Action → Bool) → BookFault → Type 0
  IsUnopened words takes Full = (t : Token) × IsTaken takes t × IsHindered l b.ledger t ledger.Memory × HasNoWord b.stands words Full
  IsUnopened words takes Live = (t : Token) × IsTaken takes t × IsHindered l b.ledger t ledger.Memory × HasNoWord b.stands words Live
  IsUnopened words takes _ = ⊥

  -- why no group is opened
  abbrev pub IsRefusedOpening : ℕ → (Action → Bool) → BookFault → Type 0
  IsRefusedOpening words takes why = IsUnopened words takes why ⊎ IsRefusedMove takes (IsHindered l b.ledger) why

  -- why no cell is bound, where this pass comes back: if the group's mark was set, the pass has seen that, and hasn't won it
  abbrev pub IsRefusedBind : View → BookFault → Type 0
  IsRefusedBind back Gone = IsGone b k.slot k.serial k.pass ⊎ ((t : Token) × IsTaken is_bind t × Marks (group_of k.pass) Killed false (deeds_of k.pass) (deeds_of back) × (has Killed (seen_of back) ≡ true))
  IsRefusedBind back why = IsRefusedMove is_bind (IsHindered l b.ledger) why

  -- the `>x>` that takes what the token publishes stands in another group
  abbrev pub IsSentOut : Token → Type 0
  IsSentOut t = (f : Fed) × IsFedBy l b.ledger t f × (group_at b.ledger.steps f.outer ≡ group_at b.ledger.steps t.step → ⊥)

  -- the last of the passes that the move needs names another group, or is missing
  abbrev pub IsShort : List View → List View → Token → Action → Type 0
  IsShort same idle t does.Fork = HasNone same (group_of k.pass)
  IsShort same idle t (does.Send v) = HasNone idle None × IsSentOut t
  IsShort same idle t does.Prune = HasNone same (group_of k.pass) ⊎ HasNone idle None
  IsShort same idle t does.Other = HasNone idle None
  IsShort same idle t _ = ⊥

  -- why a step is refused, but for want of a word
  abbrev pub IsRefusedStep : List View → List View → BookFault → Type 0
  IsRefusedStep same idle Gone = IsGone b k.slot k.serial k.pass
  IsRefusedStep same idle Wrong = (t : Token) × (IsOther is_step t ⊎ IsMisfit t)
  IsRefusedStep same idle Short = (t : Token) × IsFound t × IsShort same idle t (does_next t)
  IsRefusedStep same idle Full = (t : Token) × IsTaken is_step t × IsHindered l b.ledger t ledger.Full
  IsRefusedStep same idle Limit = (t : Token) × IsTaken is_step t × IsHindered l b.ledger t ledger.Limit
  IsRefusedStep same idle Memory = (t : Token) × IsFound t
  IsRefusedStep same idle Live = ⊥

-- ---- calls and time

-- why an answer is refused
abbrev pub IsRefusedAnswer : Listing → List Site → Records → ℕ → Answer → BookFault → Type 0
IsRefusedAnswer l sites s k a Gone = IsUnanswered l sites s k a answer.Gone
IsRefusedAnswer l sites s k a Wrong = IsUnanswered l sites s k a answer.Wrong
IsRefusedAnswer l sites s k a Limit = IsUnanswered l sites s k a answer.Limit
IsRefusedAnswer l sites s k a Memory = IsUnanswered l sites s k a answer.Memory
IsRefusedAnswer l sites s k a _ = ⊥

-- why a tick is refused
abbrev pub IsRefusedTick : Records → BookFault → Type 0
IsRefusedTick s Limit = IsStopped s ledger.Limit
IsRefusedTick s Memory = IsStopped s ledger.Memory
IsRefusedTick s _ = ⊥

-- why a book doesn't say what comes next: it would be a tick
abbrev pub IsRefusedNext : Listing → Records → BookFault → Type 0
IsRefusedNext l s why = ((t : ℕ) × (next_of (code l) (definitions l) (numbers_of s) s ≡ ticks t)) × IsRefusedTick s why

-- ---- groups that were left last

-- why the group with this number isn't closed
abbrev pub IsRefusedGroup : Records → ℕ → BookFault → Type 0
IsRefusedGroup s number Gone = IsHinderedAt s number halting.Gone
IsRefusedGroup s number Live = IsHinderedAt s number halting.Live
IsRefusedGroup s number Full = IsHinderedAt s number (halting.Refused ledger.Full)
IsRefusedGroup s number Limit = IsHinderedAt s number (halting.Refused ledger.Limit)
IsRefusedGroup s number Memory = Unit {0}
IsRefusedGroup s number _ = ⊥

-- why a halt is refused, of a word that stands for this
abbrev pub IsRefusedHalt : Records → Kind → BookFault → Type 0
IsRefusedHalt s kind.Free why = why ≡ Gone
IsRefusedHalt s kind.Dying why = why ≡ Memory
IsRefusedHalt s (kind.Open number) why = ((number ≡ 0) × (why ≡ Live) × (1 ≤ members (numbers_of s) s 0)) ⊎ ((number ≡ 0 → ⊥) × IsRefusedGroup s number why)
