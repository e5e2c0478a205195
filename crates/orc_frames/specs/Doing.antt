-- What a token can do next, by the term under it and what is round it.
use Rattle.std.specs.Prelude.{◌≡◌, ℕ, List, [], ◌∷◌, Bool, true, false, cond, map, Option, Some, None, slice_get}
use Rattle.orc_rules.specs.declared.value.Value.{Value}
use Rattle.orc_rules.specs.declared.param.Param.{Param}
use Rattle.orc_rules.specs.declared.param.Param.TheVariants as is
use Rattle.orc_rules.specs.declared.entry.Entry.{Entry}
use Rattle.orc_rules.specs.declared.entry.Entry.TheVariants as entry
use Rattle.orc_rules.specs.Term.{Term, stop, param, site, call, par, seq, prune, other, pending, opened, Definition, values_of}
use Rattle.orc_rules.specs.Idle.{has_void, can_move}
use Rattle.orc_rules.specs.Journal.{IsVoid}
use Rattle.orc_rules.specs.declared.param.Operand.{Operand}
use Rattle.orc_rules.specs.Nodes.{param_of}
use Rattle.orc_env.specs.Scopes.{Env, close_param}
use Rattle.orc_frames.specs.Spelling.{Path, whole, feeding, aiding, trying}
use Rattle.orc_frames.specs.declared.action.Action.{Action}
use Rattle.orc_frames.specs.declared.action.Action.TheVariants.{Halt, Fork, Seq, Prune, Other, Def, Void, Publish, Send, Bind, Call, Wait}

-- the first unbound cell among these arguments; 0 if there is none
abbrev pub first_cell : List Param → ℕ
first_cell [] = 0
first_cell (is.Cell c ∷ ps) = c
first_cell (is.Name x ∷ ps) = first_cell ps
first_cell (is.Is v ∷ ps) = first_cell ps
first_cell (is.Void ∷ ps) = first_cell ps

-- what takes a value that is published from a path
abbrev pub taken : Value → Path → Action
taken v whole = Publish v
taken v (feeding x g p) = Send v
taken v (aiding c p) = Bind c v
taken v (trying n p) = taken v p

-- what a token at a call of a site does: given whether an argument is void, and the values if all arguments have one
abbrev pub what_site : List Param → Bool → Option (List Value) → Action
what_site ps true o = Void
what_site ps false (Some args) = Call
what_site ps false None = Wait (first_cell ps)

-- ---- what_site in one pass over the arguments
abbrev pub or_zero : Option ℕ → ℕ
or_zero (Some c) = c
or_zero None = 0

abbrev pub or_else : Option ℕ → ℕ → Option ℕ
or_else (Some c) d = Some c
or_else None d = Some d

-- with these arguments left: one before them isn't a value if `waits`, and `first` is the first cell before them
abbrev pub scan : Bool → Option ℕ → List Param → Action
scan waits first [] = cond waits (Wait (or_zero first)) Call
scan waits first (is.Void ∷ ps) = Void
scan waits first (is.Is v ∷ ps) = scan waits first ps
scan waits first (is.Name x ∷ ps) = scan true first ps
scan waits first (is.Cell c ∷ ps) = scan true (or_else first c) ps

-- what stands for operands
abbrev pub closed : Env → List Operand → List Param
closed env ps = map (close_param env) (map param_of ps)

-- what a token on a parameter does
abbrev pub of_param : Path → Param → Action
of_param p (is.Is v) = taken v p
of_param p is.Void = Void
of_param p (is.Cell c) = Wait c
of_param p (is.Name x) = Wait 0

-- what a token at a call of a definition does: given that definition, if there is one
abbrev pub what_def : Option Definition → Action
what_def (Some d) = Def
what_def None = Wait 0

-- what a token does, by its path and the term under it
abbrev pub what_by : List Definition → Path → Term → Action
what_by defs p stop = Halt
what_by defs p (param q) = of_param p q
what_by defs p (site m ps) = what_site ps (has_void ps) (values_of ps)
what_by defs p (call e ps) = what_def (slice_get defs e)
what_by defs p (par f g) = Fork
what_by defs p (seq f x g) = Seq
what_by defs p (prune f x g) = Prune
what_by defs p (other f g) = Other
what_by defs p (pending k) = Wait 0
what_by defs p (opened f c g) = Wait 0

-- the token stays as it is
abbrev pub is_wait : Action → Bool
is_wait (Wait c) = true
is_wait _ = false

-- the term is a move of marks: an end, a fork, the left side of a `>x>` or of an otherwise
abbrev pub moves_marks : Term → Bool
moves_marks stop = true
moves_marks (par f g) = true
moves_marks (seq f x g) = true
moves_marks (other f g) = true
moves_marks _ = false

-- what each action asks of the term and the path
abbrev pub Allows : List Definition → Action → Path → Term → Type 0
Allows defs Halt p u = u ≡ stop
Allows defs Fork p u = (f g : Term) × (u ≡ par f g)
Allows defs Seq p u = (f : Term) × (z : ℕ) × (g : Term) × (u ≡ seq f z g)
Allows defs Prune p u = (f : Term) × (z : ℕ) × (g : Term) × (u ≡ prune f z g)
Allows defs Other p u = (f g : Term) × (u ≡ other f g)
Allows defs Def p u = (e : ℕ) × (ps : List Param) × (d : Definition) × (slice_get defs e ≡ Some d) × (u ≡ call e ps)
Allows defs Void p u = IsVoid u
Allows defs (Publish v) p u = (taken v p ≡ Publish v) × (u ≡ param (is.Is v))
Allows defs (Send v) p u = (taken v p ≡ Send v) × (u ≡ param (is.Is v))
Allows defs (Bind c v) p u = (taken v p ≡ Bind c v) × (u ≡ param (is.Is v))
Allows defs Call p u = (m : ℕ) × (ps : List Param) × (args : List Value) × (values_of ps ≡ Some args) × (u ≡ site m ps)
Allows defs (Wait c) p u = (moves_marks u ≡ false) × (can_move defs u ≡ false)

-- the token that an entry names, and what it does; the other entries name no token
abbrev pub names : Entry → Option (ℕ × Action)
names (entry.End s) = Some (s, Halt)
names (entry.Fork s a b) = Some (s, Fork)
names (entry.Seq s a) = Some (s, Seq)
names (entry.Other s a) = Some (s, Other)
names (entry.Def s a) = Some (s, Def)
names (entry.Void s) = Some (s, Void)
names (entry.Open s c a b) = Some (s, Prune)
names (entry.Send s a v) = Some (s, Send v)
names (entry.Call s k m args) = Some (s, Call)
names (entry.Bind s c v) = Some (s, Bind c v)
names (entry.Publish s v) = Some (s, Publish v)
names _ = None

-- the term is a call of site m with these arguments
abbrev pub IsCall : ℕ → List Value → Term → Type 0
IsCall m args u = (ps : List Param) × (values_of ps ≡ Some args) × (u ≡ site m ps)

-- a call has the site and the arguments of the term
abbrev pub Asks : Entry → Term → Type 0
Asks (entry.Call s k m args) u = IsCall m args u
Asks _ u = Unit {0}
