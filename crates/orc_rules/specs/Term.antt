-- Terms, substitution and halting.
use Rattle.std.specs.Prelude.{◌≡◌, ℕ, List, [], ◌∷◌, ◌++◌, ◌⊎◌, cond, nat_eq, map, Option, Some, None}
use Rattle.orc_rules.specs.declared.value.Value.{Value}
use Rattle.orc_rules.specs.declared.param.Param.{Param}
use Rattle.orc_rules.specs.declared.param.Param.TheVariants.{Name, Is, Cell, Void}
use Rattle.orc_rules.specs.declared.value.Answer.{Answer}
use Rattle.orc_rules.specs.declared.value.Answer.TheVariants.{Value as Gives, Halt}

-- a term: `stop`, a parameter, a call `M(p..)` of a site or `E(p..)` of a definition, `f | g`, `f >x> g`, `f <x< g`, `f ; g`; and, in a run only, a
-- pending call `?k` and an open pruning `f <c< g` with its cell c. Sites, definitions and variables are numbers.
pub data Term : Type 0 where
  stop : Term
  param : Param → Term
  site : ℕ → List Param → Term
  call : ℕ → List Param → Term
  par : Term → Term → Term
  seq : Term → ℕ → Term → Term
  prune : Term → ℕ → Term → Term
  other : Term → Term → Term
  pending : ℕ → Term
  opened : Term → ℕ → Term → Term
  deriving Discrete as Term-discrete

-- a definition: its parameters and its body
pub record Definition : Type 0 where
  pub params : List ℕ
  pub body : Term

-- [q/x]p for a parameter p
abbrev pub put_param : Param → ℕ → Param → Param
put_param q x (Name y) = cond (nat_eq x y) q (Name y)
put_param q x (Is v) = Is v
put_param q x (Cell c) = Cell c
put_param q x Void = Void

-- [q/x]f: q for each free x; x is bound in g of `f >x> g` and in f of `f <x< g`, and q holds no name, so nothing is captured
abbrev pub put : Param → ℕ → Term → Term
put q x stop = stop
put q x (param p) = param (put_param q x p)
put q x (site m ps) = site m (map (put_param q x) ps)
put q x (call e ps) = call e (map (put_param q x) ps)
put q x (par f g) = par (put q x f) (put q x g)
put q x (seq f y g) = seq (put q x f) y (cond (nat_eq x y) g (put q x g))
put q x (prune f y g) = prune (cond (nat_eq x y) f (put q x f)) y (put q x g)
put q x (other f g) = other (put q x f) (put q x g)
put q x (pending k) = pending k
put q x (opened f c g) = opened (put q x f) c (put q x g)

-- [w/c]p for a parameter p
abbrev pub fill_param : Param → ℕ → Param → Param
fill_param w c (Name y) = Name y
fill_param w c (Is v) = Is v
fill_param w c (Cell d) = cond (nat_eq c d) w (Cell d)
fill_param w c Void = Void

-- [w/c]f: w for each cell c
abbrev pub fill : Param → ℕ → Term → Term
fill w c stop = stop
fill w c (param p) = param (fill_param w c p)
fill w c (site m ps) = site m (map (fill_param w c) ps)
fill w c (call e ps) = call e (map (fill_param w c) ps)
fill w c (par f g) = par (fill w c f) (fill w c g)
fill w c (seq f y g) = seq (fill w c f) y (fill w c g)
fill w c (prune f y g) = prune (fill w c f) y (fill w c g)
fill w c (other f g) = other (fill w c f) (fill w c g)
fill w c (pending k) = pending k
fill w c (opened f d g) = opened (fill w c f) d (fill w c g)

-- the parameters ps for the names xs, one after another: the same as at once, since ps holds no name
abbrev pub put_all : List ℕ → List Param → Term → Term
put_all [] ps f = f
put_all (x ∷ xs) [] f = f
put_all (x ∷ xs) (p ∷ ps) f = put_all xs ps (put p x f)

-- the values, where all parameters are values
abbrev pub values_of : List Param → Option (List Value)
values_of [] = Some []
values_of (p ∷ ps) = with_value p (values_of ps)
  where
    with_value : Param → Option (List Value) → Option (List Value)
    with_value (Is v) (Some vs) = Some (v ∷ vs)
    with_value _ _ = None

-- whether some parameter is void
abbrev pub HasVoid : List Param → Type 0
HasVoid [] = ⊥
HasVoid (p ∷ ps) = (p ≡ Void) ⊎ HasVoid ps

-- the calls that pend, in the term's order
abbrev pub pending_of : Term → List ℕ
pending_of (pending k) = k ∷ []
pending_of (par f g) = pending_of f ++ pending_of g
pending_of (opened f c g) = pending_of f ++ pending_of g
pending_of (seq f x g) = pending_of f
pending_of (other f g) = pending_of f
pending_of _ = []

-- a term that has halted; every kind that isn't named here hasn't
abbrev pub Halted : Term → Type 0
Halted stop = Unit {0}
Halted (par f g) = Halted f × Halted g
Halted (opened f c g) = Halted f × Halted g
Halted (seq f x g) = Halted f
Halted _ = ⊥

-- the term that an answer leaves
abbrev pub answered : Answer → Term
answered (Gives v) = param (Is v)
answered Halt = stop
