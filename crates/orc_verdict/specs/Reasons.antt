-- What it is to give the first reason of a refusal.
use Rattle.std.specs.Prelude.{ℕ, List, Bool, true, false, nat_eq, ◌&&◌, suc, Option, Some, None}
use Rattle.std.specs.Bool.{Decides}
use Rattle.orc_rules.specs.declared.value.Answer.{Answer}
use Rattle.orc_rules.specs.declared.value.Answer.TheVariants.{Value as Gives, Halt}
use Rattle.orc_rules.specs.declared.entry.Entry.{Entry}
use Rattle.orc_rules.specs.declared.entry.Entry.TheVariants as entry
use Rattle.orc_rules.specs.declared.entry.RuleFault.{RuleFault}
use Rattle.orc_rules.specs.Nodes.{Listing, code, source}
use Rattle.orc_rules.specs.Numbered.{IsNumbered}
use Rattle.orc_rules.specs.Sites.{Table}
use Rattle.orc_rules.specs.Timed.{Context}
use Rattle.orc_rules.specs.Journal.{Place}
use Rattle.orc_rules.specs.Refusal.{Stands, HasToken, HasCall, HasCell, HasOther, Meets, IsRefused}
use Rattle.orc_rules.specs.Term.{Term, Halted}
use Rattle.orc_rules.specs.Marked.{Marked, in_opened, in_other, erase}
use Rattle.orc_term.specs.declared.arena.Kind.{Kind}
use Rattle.orc_term.specs.declared.arena.Kind.TheVariants.{One, Two}
use Rattle.orc_term.specs.Settling.{flag}
use Rattle.orc_checker.specs.Checker.{State, Spells, context, IsReached}
use Rattle.orc_verdict.specs.declared.reasons.Asked.{Asked}
use Rattle.orc_verdict.specs.declared.reasons.Asked.TheVariants.{Token, Call, Cell, TokenAndCell, Otherwise, Nothing}

-- `so` holds at each place that s spells and that a journal of the program and its sites leads to
abbrev pub AtEach : Listing → Table → State → (Context → Place → Type 0) → Type 0
AtEach l t s so = (cancels : Bool) (p : Place) → IsReached (context l t cancels) (source l) p → Spells (context l t cancels) (code l) s p → so (context l t cancels) p

-- the entry is refused there, for this reason first
abbrev pub RefusedFor : Listing → Table → Entry → State → RuleFault → Type 0
RefusedFor l t e s r = AtEach l t s (λ x p. IsRefused x p e r)

-- the entry meets the conditions of all reasons there
abbrev pub MeetsAll : Listing → Table → Entry → State → Type 0
MeetsAll l t e s = AtEach l t s (λ x p. (r : RuleFault) → Meets x p e r)

-- the truth value says whether the entry meets the condition of a reason there
abbrev pub Tests : Listing → Table → Entry → State → RuleFault → Bool → Type 0
Tests l t e s r b = AtEach l t s (λ x p. Decides b (Meets x p e r))

-- b says whether `so` holds, at each numbered place that s spells, whatever the program
abbrev pub Says : State → Bool → (Context → Place → Type 0) → Type 0
Says s b so = (x : Context) (l : Listing) (p : Place) → IsNumbered p → Spells x (code l) s p → Decides b (so x p)

-- what an entry asks to be there
abbrev pub asked_by : Entry → Asked
asked_by (entry.End s) = Token s
asked_by (entry.Fork s a b) = Token s
asked_by (entry.Seq s a) = Token s
asked_by (entry.Other s a) = Token s
asked_by (entry.Def s a) = Token s
asked_by (entry.Void s) = Token s
asked_by (entry.Open s c a b) = Token s
asked_by (entry.Send s a v) = Token s
asked_by (entry.Call s k m args) = Token s
asked_by (entry.Return k a v) = Call k
asked_by (entry.ReturnHalt k) = Call k
asked_by (entry.Bind s c v) = TokenAndCell s c
asked_by (entry.Lost c) = Cell c
asked_by (entry.Right s a) = Otherwise s
asked_by (entry.Publish s v) = Token s
asked_by (entry.Tick t) = Nothing
asked_by (entry.Cancel k) = Nothing

-- what an entry asks to be there is there
abbrev pub IsThereAs : Place → Asked → Type 0
IsThereAs p (Token s) = HasToken p s
IsThereAs p (Call k) = HasCall p k
IsThereAs p (Cell c) = HasCell p c
IsThereAs p (TokenAndCell s c) = HasToken p s × HasCell p c
IsThereAs p (Otherwise s) = HasOther p s
IsThereAs p Nothing = Unit {0}

-- whether the new numbers of an entry are the next mark, call and cell
abbrev pub counted_as : Entry → ℕ → ℕ → ℕ → Bool
counted_as (entry.Fork s a b) mark call cell = nat_eq a mark && nat_eq b (suc a)
counted_as (entry.Seq s a) mark call cell = nat_eq a mark
counted_as (entry.Other s a) mark call cell = nat_eq a mark
counted_as (entry.Def s a) mark call cell = nat_eq a mark
counted_as (entry.Open s c a b) mark call cell = nat_eq c cell && (nat_eq a mark && nat_eq b (suc a))
counted_as (entry.Send s a v) mark call cell = nat_eq a mark
counted_as (entry.Call s k m args) mark call cell = nat_eq k call
counted_as (entry.Return k a v) mark call cell = nat_eq a mark
counted_as (entry.Right s a) mark call cell = nat_eq a mark
counted_as _ mark call cell = true

-- the call that a cancel names
abbrev pub cancel_of : Entry → Option ℕ
cancel_of (entry.Cancel k) = Some k
cancel_of _ = None

-- the call and the answer of a return
abbrev pub answer_of : Entry → Option (ℕ × Answer)
answer_of (entry.Return k a v) = Some (k, Gives v)
answer_of (entry.ReturnHalt k) = Some (k, Halt)
answer_of _ = None

-- the time of a tick
abbrev pub tick_of : Entry → Option ℕ
tick_of (entry.Tick t) = Some t
tick_of _ = None

-- the flag of the right side of a pruning's node
abbrev pub right_flag : List Bool → Kind → Bool
right_flag flags (Two d i j) = flag flags j
right_flag flags _ = false

-- the flag of the left side of an otherwise's node
abbrev pub left_flag : List Bool → Kind → Bool
left_flag flags (One s i) = flag flags i
left_flag flags _ = false

-- the right side of a cell's pruning has halted
abbrev pub IsRightOver : Place → ℕ → Type 0
IsRightOver p c = (f g : Marked) × Stands (in_opened f c g) p.marked × Halted (erase g)

-- the left side of an otherwise has halted
abbrev pub IsLeftOver : Place → ℕ → Type 0
IsLeftOver p s = (f : Marked) × (g : Term) × Stands (in_other s f g) p.marked × Halted (erase f)
