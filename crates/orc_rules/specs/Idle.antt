-- Tests on terms: whether one has halted, and whether a rule other than a return can be used; the same on marked terms, as counts and lists.
use Rattle.std.specs.Prelude.{ℕ, ◌+◌, List, [], ◌∷◌, ◌++◌, Bool, true, false, ◌&&◌, ◌||◌, is_some, slice_get}
use Rattle.orc_rules.specs.declared.param.Param.{Param}
use Rattle.orc_rules.specs.declared.param.Param.TheVariants.{Is, Void}
use Rattle.orc_rules.specs.Term.{Term, stop, param, site, call, par, seq, prune, other, pending, opened, Definition, values_of}
use Rattle.orc_rules.specs.Marked.{Marked, ended, token, in_call, in_par, in_seq, in_opened, in_other, erase}

-- whether a term has halted
abbrev pub has_halted : Term → Bool
has_halted stop = true
has_halted (par f g) = has_halted f && has_halted g
has_halted (opened f c g) = has_halted f && has_halted g
has_halted (seq f x g) = has_halted f
has_halted _ = false

-- whether some parameter is void
abbrev pub has_void : List Param → Bool
has_void [] = false
has_void (Void ∷ ps) = true
has_void (_ ∷ ps) = has_void ps

-- whether a parameter has become a value or void
abbrev pub is_ready : Param → Bool
is_ready (Is v) = true
is_ready Void = true
is_ready _ = false

-- whether a rule other than Return can be used
abbrev pub can_move : List Definition → Term → Bool
can_move defs stop = false
can_move defs (param p) = is_ready p
can_move defs (site m ps) = is_some (values_of ps) || has_void ps
can_move defs (call e ps) = is_some (slice_get defs e)
can_move defs (par f g) = can_move defs f || can_move defs g
can_move defs (seq f x g) = can_move defs f
can_move defs (prune f x g) = true
can_move defs (other f g) = can_move defs f || has_halted f
can_move defs (pending k) = false
can_move defs (opened f c g) = can_move defs f || (can_move defs g || has_halted g)

-- 1 for true
abbrev pub one : Bool → ℕ
one true = 1
one false = 0

-- how many tokens can move, plus how many sides have halted without effect so far: their cell isn't lost yet, or their `;` hasn't started its right
-- side
abbrev pub movable : List Definition → Marked → ℕ
movable defs ended = 0
movable defs (token s t) = one (can_move defs t)
movable defs (in_call k) = 0
movable defs (in_par f g) = movable defs f + movable defs g
movable defs (in_seq f x g) = movable defs f
movable defs (in_opened f c g) = movable defs f + (movable defs g + one (has_halted (erase g)))
movable defs (in_other n f g) = movable defs f + one (has_halted (erase f))

-- the calls that marks show as pending, in the term's order
abbrev pub calls_of : Marked → List ℕ
calls_of ended = []
calls_of (token s t) = []
calls_of (in_call k) = k ∷ []
calls_of (in_par f g) = calls_of f ++ calls_of g
calls_of (in_seq f x g) = calls_of f
calls_of (in_opened f c g) = calls_of f ++ calls_of g
calls_of (in_other n f g) = calls_of f
