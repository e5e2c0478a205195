-- The numbers of marks, calls and cells: each was given out, and stands once.
use Rattle.std.specs.Prelude.{◌≡◌, ◌<◌, ◌≤◌, ◌+◌, ℕ, suc, List, [], ◌∷◌, length, map, Bool, false, cond, nat_eq}
use Rattle.orc_rules.specs.declared.entry.Entry.{Entry}
use Rattle.orc_rules.specs.declared.entry.Entry.TheVariants.{End, Fork, Seq, Other, Def, Open, Send, Call, Return, ReturnHalt, Bind, Lost, Right, Publish, Tick, Cancel}
use Rattle.orc_rules.specs.declared.entry.Entry.TheVariants as entry
use Rattle.orc_rules.specs.Term.{Term}
use Rattle.orc_rules.specs.Marked.{Marked, ended, token, in_call, in_par, in_seq, in_opened, in_other}
use Rattle.orc_rules.specs.Timed.{Context, IsIn, number_of}
use Rattle.orc_rules.specs.Journal.{Place, Leads, Journal, begin}

-- what an entry can name: the mark of a token or of an entered otherwise, a pending call, or a cell
pub data Name : Type 0 where
  mark : ℕ → Name
  call : ℕ → Name
  cell : ℕ → Name

-- whether two names are the same
abbrev pub name_eq : Name → Name → Bool
name_eq (mark s) (mark r) = nat_eq s r
name_eq (call k) (call j) = nat_eq k j
name_eq (cell c) (cell d) = nat_eq c d
name_eq _ _ = false

-- 1 where the two are the same, else 0
abbrev pub once : Name → Name → ℕ
once n m = cond (name_eq n m) 1 0

-- how often a name stands in a marked term
abbrev pub times : Name → Marked → ℕ
times n ended = 0
times n (token s t) = once n (mark s)
times n (in_call k) = once n (call k)
times n (in_par f g) = times n f + times n g
times n (in_seq f x g) = times n f
times n (in_opened f c g) = once n (cell c) + (times n f + times n g)
times n (in_other s f g) = once n (mark s) + times n f

-- the name was given out
abbrev pub IsGiven : Place → Name → Type 0
IsGiven p (mark s) = s < p.mark
IsGiven p (call k) = IsIn k (map number_of p.calls)
IsGiven p (cell c) = IsIn c p.cells

-- counted from 1, the newest first
abbrev pub AreCounted : List ℕ → Type 0
AreCounted [] = Unit {0}
AreCounted (n ∷ ns) = (n ≡ suc (length ns)) × AreCounted ns

-- each name stands at most once, each that stands there was given out, and calls and cells were counted from 1
pub record IsNumbered (p : Place) : Type 0 where
  pub single : (n : Name) → times n p.marked ≤ 1
  pub given : (n : Name) → 0 < times n p.marked → IsGiven p n
  pub calls : AreCounted (map number_of p.calls)
  pub cells : AreCounted p.cells

-- each place to which a journal of a program leads is numbered so
abbrev pub JournalIsNumbered : Type 0
JournalIsNumbered = (x : Context) (t : Term) (es : List Entry) (p : Place) → Journal x (begin t) es p → IsNumbered p

-- what an entry uses up; `other` keeps its mark, as the number of the otherwise
abbrev pub used_up : Entry → List Name
used_up (End s) = mark s ∷ []
used_up (Fork s a b) = mark s ∷ []
used_up (Seq s a) = mark s ∷ []
used_up (Other s a) = []
used_up (Def s a) = mark s ∷ []
used_up (entry.Void s) = mark s ∷ []
used_up (Open s c a b) = mark s ∷ []
used_up (Send s a v) = mark s ∷ []
used_up (Call s k m args) = mark s ∷ []
used_up (Return k a v) = call k ∷ []
used_up (ReturnHalt k) = call k ∷ []
used_up (Bind s c v) = mark s ∷ cell c ∷ []
used_up (Lost c) = cell c ∷ []
used_up (Right s a) = mark s ∷ []
used_up (Publish s v) = mark s ∷ []
used_up (Tick t) = []
used_up (Cancel k) = []

-- what an entry uses up never comes back: so a call returns at most once, a cell is bound or lost at most once, and a right side starts at most
-- once
abbrev pub UsedUpForGood : Type 0
UsedUpForGood = (x : Context) (p q r : Place) (e : Entry) (es : List Entry) (n : Name) → IsNumbered p → Leads x p e q → IsIn n (used_up e) → Journal x q es r → times n r.marked ≡ 0
