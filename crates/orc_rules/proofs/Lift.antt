-- A step of a part is a step of the whole.
use Rattle.std.proofs.Common.{◌≡◌, ℕ, List, [], ◌∷◌, refl, sym, ap, ◌∙◌, subst}
use Rattle.orc_rules.specs.declared.value.Value.{Value}
use Rattle.orc_rules.specs.declared.param.Param.{Param}
use Rattle.orc_rules.specs.declared.param.Param.TheVariants.{Is}
use Rattle.orc_rules.specs.declared.value.Answer.{Answer}
use Rattle.orc_rules.specs.Term.{par, seq, other, opened, Definition, fill}
use Rattle.orc_rules.specs.Step.{Act, calls, returns, binds, loses, publishes, silent, opens, IsInner, within, Used, Step, Rule, ValueRule, SeqValue, PruneBind, StepBy, value_rule, par_left, par_right, seq_other, seq_value, prune_left, prune_right, prune_bind, other_step, other_value}
use Rattle.orc_rules.specs.Marked.{Marked, ended, token, in_call, in_par, in_seq, in_opened, in_other, erase, fill_marked, Replaces, here, in_left, in_right, in_feeding, in_main, in_side, in_entered, Emits, emits, on_left, on_right, on_feeding, is_fed, on_main, on_side, is_bound, on_entered, passes}

-- the same step, inside the right sides of all these cells
abbrev pub within_all : List ℕ → Act → Act
within_all [] a = a
within_all (c ∷ cs) a = within c (within_all cs a)

pub within-inner : (c : ℕ) (a : Act) → IsInner a → IsInner (within c a)
within-inner c (calls k m args cs) i = tt
within-inner c (returns k a) i = tt
within-inner c (binds d v) i = tt
within-inner c (loses d) i = tt
within-inner c silent i = tt
within-inner c (opens d) i = tt
within-inner c (publishes v) i = i

pub within_all-inner : (cs : List ℕ) (a : Act) → IsInner a → IsInner (within_all cs a)
within_all-inner [] a i = i
within_all-inner (c ∷ cs) a i = within-inner c (within_all cs a) (within_all-inner cs a i)

-- which acts the cells around them change: calls alone
pub within_silent : (cs : List ℕ) → within_all cs silent ≡ silent
within_silent [] = refl
within_silent (c ∷ cs) = ap (within c) (within_silent cs)

pub within_opens : (cs : List ℕ) (c : ℕ) → within_all cs (opens c) ≡ opens c
within_opens [] c = refl
within_opens (d ∷ cs) c = ap (within d) (within_opens cs c)

pub within_loses : (cs : List ℕ) (c : ℕ) → within_all cs (loses c) ≡ loses c
within_loses [] c = refl
within_loses (d ∷ cs) c = ap (within d) (within_loses cs c)

pub within_returns : (cs : List ℕ) (k : ℕ) (a : Answer) → within_all cs (returns k a) ≡ returns k a
within_returns [] k a = refl
within_returns (d ∷ cs) k a = ap (within d) (within_returns cs k a)

pub within_calls : (cs : List ℕ) (k m : ℕ) (args : List Value) → within_all cs (calls k m args []) ≡ calls k m args cs
within_calls [] k m args = refl
within_calls (d ∷ cs) k m args = ap (within d) (within_calls cs k m args)

-- filling a cell of a marked term fills it in the plain one
pub erase-fill : (w : Param) (c : ℕ) (m : Marked) → erase (fill_marked w c m) ≡ fill w c (erase m)
erase-fill w c ended = refl
erase-fill w c (token s t) = refl
erase-fill w c (in_call k) = refl
erase-fill w c (in_par f g) = λ i. par (erase-fill w c f i) (erase-fill w c g i)
erase-fill w c (in_seq f x g) = λ i. seq (erase-fill w c f i) x (fill w c g)
erase-fill w c (in_opened f d g) = λ i. opened (erase-fill w c f i) d (erase-fill w c g i)
erase-fill w c (in_other n f g) = λ i. other (erase-fill w c f i) (fill w c g)

module _ (defs : List Definition) (used : Used) where
  -- a step of one part that is no publication is a step of the whole
  pub replaced_steps : {x y m m' : Marked} {cs : List ℕ} {a : Act} → IsInner a → Step defs used (erase x) a (erase y) → Replaces x y m cs m' → Step defs used (erase m) (within_all cs a) (erase m')
  replaced_steps i s here = s
  replaced_steps i s (in_left r) = par_left (replaced_steps i s r)
  replaced_steps i s (in_right r) = par_right (replaced_steps i s r)
  replaced_steps i s (in_feeding {cs = cs} r) = seq_other (within_all-inner cs _ i) (replaced_steps i s r)
  replaced_steps i s (in_main r) = prune_left (replaced_steps i s r)
  replaced_steps i s (in_side {cs = cs} r) = prune_right (within_all-inner cs _ i) (replaced_steps i s r)
  replaced_steps i s (in_entered {cs = cs} r) = other_step (within_all-inner cs _ i) (replaced_steps i s r)

  -- a part that spells the same term leaves the whole the same
  pub replaced_same : {x y m m' : Marked} {cs : List ℕ} → erase x ≡ erase y → Replaces x y m cs m' → erase m ≡ erase m'
  replaced_same e here = e
  replaced_same e (in_left {g = g} r) = ap (λ t. par t (erase g)) (replaced_same e r)
  replaced_same e (in_right {f = f} r) = ap (λ t. par (erase f) t) (replaced_same e r)
  replaced_same e (in_feeding {z = z} {g = g} r) = ap (λ t. seq t z g) (replaced_same e r)
  replaced_same e (in_main {g = g} {c = c} r) = ap (λ t. opened t c (erase g)) (replaced_same e r)
  replaced_same e (in_side {f = f} {c = c} r) = ap (λ t. opened (erase f) c t) (replaced_same e r)
  replaced_same e (in_entered {g = g} r) = ap (λ t. other t g) (replaced_same e r)

  -- a publication of a token is a step of the whole
  pub emits_steps : {s a : ℕ} {v : Value} {m m' : Marked} {b : Act} → Emits s a v m b m' → Step defs used (erase m) b (erase m')
  emits_steps emits = value_rule
  emits_steps (on_left e) = par_left (emits_steps e)
  emits_steps (on_right e) = par_right (emits_steps e)
  emits_steps (on_feeding i e) = seq_other i (emits_steps e)
  emits_steps (is_fed e) = seq_value (emits_steps e)
  emits_steps (on_main e) = prune_left (emits_steps e)
  emits_steps (on_side i e) = prune_right i (emits_steps e)
  emits_steps {v = v} (is_bound {f = f} {g = g} {c = c} e) =
      subst (λ t. Step defs used (opened (erase f) c (erase g)) (binds c v) t) (sym (erase-fill (Is v) c f)) (prune_bind (emits_steps e))
  emits_steps (on_entered i e) = other_step i (emits_steps e)
  emits_steps (passes e) = other_value (emits_steps e)

  -- the same, with the rule's name
  pub replaced_named : {x y m m' : Marked} {cs : List ℕ} {a : Act} (r : Rule) → IsInner a → StepBy defs used r (erase x) a (erase y) → Replaces x y m cs m' → StepBy defs used r (erase m) (within_all cs a) (erase m')
  replaced_named n i s here = s
  replaced_named n i s (in_left r) = let d = replaced_named n i s r in (par_left d.0, d.1)
  replaced_named n i s (in_right r) = let d = replaced_named n i s r in (par_right d.0, d.1)
  replaced_named n i s (in_feeding {cs = cs} r) = let d = replaced_named n i s r in (seq_other (within_all-inner cs _ i) d.0, d.1)
  replaced_named n i s (in_main r) = let d = replaced_named n i s r in (prune_left d.0, d.1)
  replaced_named n i s (in_side {cs = cs} r) = let d = replaced_named n i s r in (prune_right (within_all-inner cs _ i) d.0, d.1)
  replaced_named n i s (in_entered {cs = cs} r) = let d = replaced_named n i s r in (other_step (within_all-inner cs _ i) d.0, d.1)

  -- the rule of a token's publication, by what takes it
  abbrev pub taker_rule : Act → Rule
  taker_rule (publishes v) = ValueRule
  taker_rule (binds c v) = PruneBind
  taker_rule _ = SeqValue

  pub taker_within : (c : ℕ) (a : Act) → taker_rule a ≡ taker_rule (within c a)
  taker_within c (calls k m args cs) = refl
  taker_within c (returns k a) = refl
  taker_within c (binds d v) = refl
  taker_within c (loses d) = refl
  taker_within c silent = refl
  taker_within c (opens d) = refl
  taker_within c (publishes v) = refl

  pub emits_named : {s a : ℕ} {v : Value} {m m' : Marked} {b : Act} → Emits s a v m b m' → StepBy defs used (taker_rule b) (erase m) b (erase m')
  emits_named emits = (value_rule, refl)
  emits_named (on_left e) = let d = emits_named e in (par_left d.0, d.1)
  emits_named (on_right e) = let d = emits_named e in (par_right d.0, d.1)
  emits_named (on_feeding i e) = let d = emits_named e in (seq_other i d.0, d.1)
  emits_named (is_fed e) = (seq_value (emits_named e).0, refl)
  emits_named (on_main e) = let d = emits_named e in (prune_left d.0, d.1)
  emits_named (on_side {c = c} {b = b} i e) = let d = emits_named e in (prune_right i d.0, d.1 ∙ taker_within c b)
  emits_named {v = v} (is_bound {f = f} {g = g} {c = c} e) =
      subst (λ t. StepBy defs used PruneBind (opened (erase f) c (erase g)) (binds c v) t) (sym (erase-fill (Is v) c f)) (prune_bind (emits_named e).0, refl)
  emits_named (on_entered i e) = let d = emits_named e in (other_step i d.0, d.1)
  emits_named (passes e) = let d = emits_named e in (other_value d.0, d.1)
