-- The written-out term of an expression.
use Rattle.std.specs.Prelude.{◌+◌, ℕ, suc, List, [], ◌∷◌, length, Option, Some, None}
use Rattle.orc_lex.specs.declared.token.Plain.{Plain}
use Rattle.orc_lex.specs.declared.token.Plain.TheVariants as plains
use Rattle.orc_rules.specs.declared.value.Value.TheVariants.{Number, Truth, Signal}
use Rattle.orc_rules.specs.declared.param.Param.{Param}
use Rattle.orc_rules.specs.declared.param.Param.TheVariants.{Name, Is}
use Rattle.orc_rules.specs.Term.{Term, stop, param, site, call, par, seq, prune, other, pending, opened}
use Rattle.orc_syntax.specs.Tree.{Label, Link, Seq, Par, Prune, Other, Tree, Leaf, Variable, Call, Operation, Val, Trees, Nil, Cons}
use Rattle.orc_scope.specs.Scope.{Known, Meaning, IsVariable, IsDefinition, IsSite, IsNothing, outer_meaning, position}

-- the names of variables, each numbered by its place: numbers from the length on are new
abbrev pub number_at : ℕ → Option ℕ → ℕ
number_at new None = new
number_at new (Some n) = n

abbrev pub number : List (List ℕ) → List ℕ → ℕ
number names text = number_at (length names) (position names text)

-- the variable of an operator: a new one for `>>` and `<<`
abbrev pub variable_of : List (List ℕ) → Option Label → ℕ
variable_of names None = length names
variable_of names (Some x) = number names x.text

-- a literal or `stop`
abbrev pub plain_term : Plain → Term
plain_term (plains.Number n) = param (Is (Number n))
plain_term (plains.Truth b) = param (Is (Truth b))
plain_term plains.Signal = param (Is Signal)
plain_term plains.Stop = stop

-- a call of what the name means where it means no variable
abbrev pub called : Meaning → List Param → Term
called (IsDefinition e) ps = call e ps
called (IsSite m) ps = site m ps
called IsVariable ps = stop
called IsNothing ps = stop

-- the parameter that a term is
abbrev pub as_param : Term → Option Param
as_param (param p) = Some p
as_param stop = None
as_param (site m ps) = None
as_param (call e ps) = None
as_param (par f g) = None
as_param (seq f x g) = None
as_param (prune f x g) = None
as_param (other f g) = None
as_param (pending k) = None
as_param (opened f c g) = None

-- this parameter, or where there is none the variable n
abbrev pub param_or : ℕ → Option Param → Param
param_or n (Some p) = p
param_or n None = Name n

-- arguments as parameters: literals and variables, and new variables for the others
abbrev pub params : ℕ → List Term → List Param
params n [] = []
params n (f ∷ fs) = param_or n (as_param f) ∷ params (suc n) fs

-- a term in the pruning of the variable n with g on its right side, unless g is a parameter
abbrev pub pruned : Term → ℕ → Term → Option Param → Term
pruned f n g (Some p) = f
pruned f n g None = prune f n g

-- a call in the prunings of its new variables, the first one innermost
abbrev pub prunings : ℕ → Term → List Term → Term
prunings n f [] = f
prunings n f (g ∷ gs) = prunings (suc n) (pruned f n g (as_param g)) gs

-- a call with its arguments written out
abbrev pub call_term : Known → List (List ℕ) → List ℕ → List Term → Term
call_term known names text fs = prunings (length names) (called (outer_meaning (position known.definitions text) (position known.sites text)) (params (length names) fs)) fs

-- an operator with its written-out sides
abbrev pub operated : List (List ℕ) → Link → Term → Term → Term
operated names (Seq x) f g = seq f (variable_of names x) g
operated names Par f g = par f g
operated names (Prune x) f g = prune f (variable_of names x) g
operated names Other f g = other f g

-- the written-out term
abbrev mutual
  pub written : Known → List (List ℕ) → Tree → Term
  written known names (Leaf p span) = plain_term p
  written known names (Variable x) = param (Name (number names x.text))
  written known names (Call x ts span) = call_term known names x.text (written_all known names ts)
  written known names (Operation link f g span) = operated names link (written known names f) (written known names g)
  written known names (Val x g f span) = prune (written known names f) (number names x.text) (written known names g)

  pub written_all : Known → List (List ℕ) → Trees → List Term
  written_all known names Nil = []
  written_all known names (Cons t ts) = written known names t ∷ written_all known names ts

-- the number of a term's nodes
abbrev pub size : Term → ℕ
size stop = 1
size (param p) = 1
size (site m ps) = 1
size (call e ps) = 1
size (par f g) = 1 + (size f + size g)
size (seq f x g) = 1 + (size f + size g)
size (prune f x g) = 1 + (size f + size g)
size (other f g) = 1 + (size f + size g)
size (pending k) = 1
size (opened f c g) = 1 + (size f + size g)
