-- A part's own run under the numbers that it has in the enclosing run.
use Rattle.std.specs.Prelude.{◌≡◌, ℕ, ◌+◌, ◌-◌, List, [], ◌∷◌, Some, false, cond, map, nat_eq, slice_get}
use Rattle.orc_rules.specs.declared.param.Param.{Param}
use Rattle.orc_rules.specs.declared.param.Param.TheVariants.{Name, Is, Cell}
use Rattle.orc_rules.specs.declared.param.Param.TheVariants as param_is
use Rattle.orc_rules.specs.declared.entry.Entry.{Entry}
use Rattle.orc_rules.specs.declared.entry.Entry.TheVariants.{End, Fork, Seq, Other, Def, Void, Open, Send, Call, Return, ReturnHalt, Bind, Lost, Right, Publish, Tick, Cancel}
use Rattle.orc_rules.specs.Sites.{Site, is_scripted}
use Rattle.orc_rules.specs.Term.{Term, stop, param, site, call, par, seq, prune, other, pending, opened, Definition}
use Rattle.orc_rules.specs.Marked.{Marked, ended, token, in_call, in_par, in_seq, in_opened, in_other}
use Rattle.orc_subrun.specs.declared.numbers.Numbering.{Numbering}

-- the mark in the enclosing run for one of the part: mark 1 becomes the token's, and those from 2 on the enclosing run's next ones
abbrev pub mark_in : Numbering → ℕ → ℕ
mark_in n own = cond (nat_eq own 1) n.token (n.mark + own - 2)

-- the cell in the enclosing run for one of the part: the part's cells are counted on behind those opened before
abbrev pub cell_in : Numbering → ℕ → ℕ
cell_in n own = n.cells + own

-- an entry of the part's own run as it is in the enclosing run; a tick and a cancel, which no local journal has, stay as they are
abbrev pub moved : Numbering → Entry → Entry
moved n (End s) = End (mark_in n s)
moved n (Fork s a b) = Fork (mark_in n s) (mark_in n a) (mark_in n b)
moved n (Seq s a) = Seq (mark_in n s) (mark_in n a)
moved n (Other s a) = Other (mark_in n s) (mark_in n a)
moved n (Def s a) = Def (mark_in n s) (mark_in n a)
moved n (Void s) = Void (mark_in n s)
moved n (Open s c a b) = Open (mark_in n s) (cell_in n c) (mark_in n a) (mark_in n b)
moved n (Send s a v) = Send (mark_in n s) (mark_in n a) v
moved n (Call s k m args) = Call (mark_in n s) (n.calls + k) m args
moved n (Return k a v) = Return (n.calls + k) (mark_in n a) v
moved n (ReturnHalt k) = ReturnHalt (n.calls + k)
moved n (Bind s c v) = Bind (mark_in n s) (cell_in n c) v
moved n (Lost c) = Lost (cell_in n c)
moved n (Right s a) = Right (mark_in n s) (mark_in n a)
moved n (Publish s v) = Publish (mark_in n s) v
moved n e = e

-- a parameter of the part as it is in the enclosing run: only cells get other numbers
abbrev pub moved_param : Numbering → Param → Param
moved_param n (Name x) = Name x
moved_param n (Is v) = Is v
moved_param n (Cell c) = Cell (cell_in n c)
moved_param n param_is.Void = param_is.Void

-- a term of the part, with the new numbers of its cells and pending calls
abbrev pub moved_term : Numbering → Term → Term
moved_term n stop = stop
moved_term n (param p) = param (moved_param n p)
moved_term n (site m ps) = site m (map (moved_param n) ps)
moved_term n (call e ps) = call e (map (moved_param n) ps)
moved_term n (par f g) = par (moved_term n f) (moved_term n g)
moved_term n (seq f x g) = seq (moved_term n f) x (moved_term n g)
moved_term n (prune f x g) = prune (moved_term n f) x (moved_term n g)
moved_term n (other f g) = other (moved_term n f) (moved_term n g)
moved_term n (pending k) = pending (n.calls + k)
moved_term n (opened f c g) = opened (moved_term n f) (cell_in n c) (moved_term n g)

-- a marked term of the part, with the new numbers of its marks too
abbrev pub moved_marked : Numbering → Marked → Marked
moved_marked n ended = ended
moved_marked n (token s t) = token (mark_in n s) (moved_term n t)
moved_marked n (in_call k) = in_call (n.calls + k)
moved_marked n (in_par f g) = in_par (moved_marked n f) (moved_marked n g)
moved_marked n (in_seq f x g) = in_seq (moved_marked n f) x (moved_term n g)
moved_marked n (in_opened f c g) = in_opened (moved_marked n f) (cell_in n c) (moved_marked n g)
moved_marked n (in_other s f g) = in_other (mark_in n s) (moved_marked n f) (moved_term n g)

-- the term names no cell, and nothing in it runs: other numbers leave it as it is
abbrev pub IsStill : Term → Type 0
IsStill t = (n : Numbering) → moved_term n t ≡ t

abbrev pub AreStill : List Definition → Type 0
AreStill ds = (e : ℕ) (d : Definition) → slice_get ds e ≡ Some d → IsStill d.body

-- nothing outside the part affects the entry: it is no tick and no cancel, and no script answers what it calls
abbrev pub IsLocal : List Site → Entry → Type 0
IsLocal sites (Tick t) = ⊥
IsLocal sites (Cancel k) = ⊥
IsLocal sites (Call s k m args) = is_scripted sites m ≡ false
IsLocal sites _ = Unit {0}

abbrev pub AreLocal : List Site → List Entry → Type 0
AreLocal sites [] = Unit {0}
AreLocal sites (e ∷ es) = IsLocal sites e × AreLocal sites es

-- the entry is no publication of the whole
abbrev pub IsSilent : Entry → Type 0
IsSilent (Publish s v) = ⊥
IsSilent _ = Unit {0}

abbrev pub AreSilent : List Entry → Type 0
AreSilent [] = Unit {0}
AreSilent (e ∷ es) = IsSilent e × AreSilent es
