-- The rules: what a term may do.
use Rattle.std.specs.Prelude.{◌≡◌, ◌≢◌, ℕ, List, [], ◌∷◌, Some, slice_get}
use Rattle.orc_rules.specs.declared.value.Value.{Value}
use Rattle.orc_rules.specs.declared.param.Param.{Param}
use Rattle.orc_rules.specs.declared.param.Param.TheVariants.{Is, Cell, Void}
use Rattle.orc_rules.specs.declared.value.Answer.{Answer}
use Rattle.orc_rules.specs.Term.{Term, stop, param, site, call, par, seq, prune, other, pending, opened, Definition, put, fill, put_all, values_of, HasVoid, Halted, answered}

-- what a step does: its label, and for an opening, whose label is silent, the cell too
pub data Act : Type 0 where
  calls : (k m : ℕ) (args : List Value) (inside : List ℕ) → Act
  returns : (k : ℕ) (a : Answer) → Act
  binds : (c : ℕ) (v : Value) → Act
  loses : (c : ℕ) → Act
  publishes : (v : Value) → Act
  silent : Act
  opens : (c : ℕ) → Act

-- every step but a publication: what `>x>`, `;` and a right side pass on
abbrev pub IsInner : Act → Type 0
IsInner (publishes v) = ⊥
IsInner (calls k m args cs) = Unit {0}
IsInner (returns k a) = Unit {0}
IsInner (binds c v) = Unit {0}
IsInner (loses c) = Unit {0}
IsInner silent = Unit {0}
IsInner (opens c) = Unit {0}

-- an act of the right side of the pruning with cell c, as an act of the whole pruning: the label of a call gets c in front of its cells
abbrev pub within : ℕ → Act → Act
within c (calls k m args cs) = calls k m args (c ∷ cs)
within c (returns k a) = returns k a
within c (binds d v) = binds d v
within c (loses d) = loses d
within c (publishes v) = publishes v
within c silent = silent
within c (opens d) = opens d

-- the numbers of calls and cells that a run has used
pub record Used : Type 0 where
  pub calls : List ℕ
  pub cells : List ℕ

-- a number that isn't used
abbrev pub IsNew : ℕ → List ℕ → Type 0
IsNew n [] = Unit {0}
IsNew n (u ∷ used) = (n ≢ u) × IsNew n used

-- the eighteen rules of Orc, in which `Step defs used t a u` says that the term t can do the act a and becomes u
pub data Step (defs : List Definition) (used : Used) : Term → Act → Term → Type 0 where
  value_rule : {v : Value} → Step defs used (param (Is v)) (publishes v) stop
  void_value : Step defs used (param Void) silent stop
  site_call : {k m : ℕ} {ps : List Param} {args : List Value} → values_of ps ≡ Some args → IsNew k used.calls → Step defs used (site m ps) (calls k m args []) (pending k)
  void_call : {m : ℕ} {ps : List Param} → HasVoid ps → Step defs used (site m ps) silent stop
  return_rule : {k : ℕ} {a : Answer} → Step defs used (pending k) (returns k a) (answered a)
  def_rule : {e : ℕ} {ps : List Param} {d : Definition} → slice_get defs e ≡ Some d → Step defs used (call e ps) silent (put_all d.params ps d.body)
  par_left : {f g f' : Term} {a : Act} → Step defs used f a f' → Step defs used (par f g) a (par f' g)
  par_right : {f g g' : Term} {a : Act} → Step defs used g a g' → Step defs used (par f g) a (par f g')
  seq_other : {f g f' : Term} {x : ℕ} {a : Act} → IsInner a → Step defs used f a f' → Step defs used (seq f x g) a (seq f' x g)
  seq_value : {f g f' : Term} {x : ℕ} {v : Value} → Step defs used f (publishes v) f' → Step defs used (seq f x g) silent (par (seq f' x g) (put (Is v) x g))
  prune_open : {f g : Term} {x c : ℕ} → IsNew c used.cells → Step defs used (prune f x g) (opens c) (opened (put (Cell c) x f) c g)
  prune_left : {f g f' : Term} {c : ℕ} {a : Act} → Step defs used f a f' → Step defs used (opened f c g) a (opened f' c g)
  prune_right : {f g g' : Term} {c : ℕ} {a : Act} → IsInner a → Step defs used g a g' → Step defs used (opened f c g) (within c a) (opened f c g')
  prune_bind : {f g g' : Term} {c : ℕ} {v : Value} → Step defs used g (publishes v) g' → Step defs used (opened f c g) (binds c v) (fill (Is v) c f)
  prune_lost : {f g : Term} {c : ℕ} → Halted g → Step defs used (opened f c g) (loses c) (fill Void c f)
  other_step : {f g f' : Term} {a : Act} → IsInner a → Step defs used f a f' → Step defs used (other f g) a (other f' g)
  other_value : {f g f' : Term} {v : Value} → Step defs used f (publishes v) f' → Step defs used (other f g) (publishes v) f'
  other_halt : {f g : Term} → Halted f → Step defs used (other f g) silent g

-- the rules that begin a step; the other seven (ParLeft, ParRight, SeqOther, PruneLeft, PruneRight, OtherStep, OtherValue) pass on a part's step
pub data Rule : Type 0 where
  ValueRule VoidValue SiteCall VoidCall ReturnRule DefRule SeqValue PruneOpen PruneBind PruneLost OtherHalt : Rule

-- the rule that a step uses
abbrev pub rule_of : {defs : List Definition} {used : Used} {t u : Term} {a : Act} → Step defs used t a u → Rule
rule_of value_rule = ValueRule
rule_of void_value = VoidValue
rule_of (site_call is new) = SiteCall
rule_of (void_call is) = VoidCall
rule_of return_rule = ReturnRule
rule_of (def_rule is) = DefRule
rule_of (par_left s) = rule_of s
rule_of (par_right s) = rule_of s
rule_of (seq_other i s) = rule_of s
rule_of (seq_value s) = SeqValue
rule_of (prune_open new) = PruneOpen
rule_of (prune_left s) = rule_of s
rule_of (prune_right i s) = rule_of s
rule_of (prune_bind s) = PruneBind
rule_of (prune_lost h) = PruneLost
rule_of (other_step i s) = rule_of s
rule_of (other_value s) = rule_of s
rule_of (other_halt h) = OtherHalt

-- a step that uses this rule
abbrev pub StepBy : List Definition → Used → Rule → Term → Act → Term → Type 0
StepBy defs used r t a u = (s : Step defs used t a u) × (rule_of s ≡ r)
