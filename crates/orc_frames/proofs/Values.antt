-- The values of a call's arguments, one after another.
use Rattle.std.proofs.Common.{◌≡◌, ◌<◌, ℕ, zero, suc, List, [], ◌∷◌, ◌++◌, length, get_or, Option, Some, None, IfSome, IfNone, refl, sym, ap, ◌∙◌, arith}
use Rattle.orc_rules.specs.declared.value.Value.{Value}
use Rattle.orc_rules.specs.declared.param.Operand.{Operand}
use Rattle.orc_rules.specs.declared.param.Param.{Param}
use Rattle.orc_rules.specs.declared.param.Param.TheVariants as is
use Rattle.orc_rules.specs.Term.{values_of}
use Rattle.orc_rules.specs.Nodes.{param_of}
use Rattle.orc_env.specs.declared.names.Bound.{Bound}
use Rattle.orc_env.specs.declared.names.Bound.TheVariants as bound
use Rattle.orc_env.specs.declared.names.Scope.{Scope}
use Rattle.orc_env.specs.Names.{AreOrdered, Means, IsFree}
use Rattle.orc_env.specs.Scopes.{Env, close_param, env_of}
use Rattle.orc_frames.specs.Doing.{closed}
use Rattle.orc_frames.proofs.Meaning.{rest_some}

-- where all have values, the first one has
first_value : (p : Param) (ps : List Param) (vs : List Value) → values_of (p ∷ ps) ≡ Some vs → (v : Value) × (p ≡ is.Is v)
first_value (is.Is v) ps vs h = (v, refl)
first_value (is.Name x) ps vs h = cc h
first_value (is.Cell c) ps vs h = cc h
first_value is.Void ps vs h = cc h

rest_values : (p : Param) (ps : List Param) (vs : List Value) → values_of (p ∷ ps) ≡ Some vs → (ws : List Value) × (values_of ps ≡ Some ws)
rest_values (is.Is v) ps vs h = rest_some v ps vs h
rest_values (is.Name x) ps vs h = cc h
rest_values (is.Cell c) ps vs h = cc h
rest_values is.Void ps vs h = cc h

-- one value more before the others
before_values : (v : Value) (ps : List Param) (vs : List Value) → values_of ps ≡ Some vs → values_of (is.Is v ∷ ps) ≡ Some (v ∷ vs)
before_values v ps vs h = rw h refl

some-one : (us vs : List Value) → Some us ≡ Some vs → us ≡ vs
some-one us vs h = ap (value_or us) h
  where
    value_or : List Value → Option (List Value) → List Value
    value_or d (Some ws) = ws
    value_or d None = d

module _ (env : Env) where
  -- each of them has
  each-value : (ops : List Operand) (i : ℕ) (d : Operand) (vs : List Value) → i < length ops → values_of (closed env ops) ≡ Some vs → (v : Value) × (close_param env (param_of (get_or ops i d)) ≡ is.Is v)
  each-value [] i d vs lt h = absurd (omega (arith, lt))
  each-value (o ∷ ops) zero d vs lt h = first_value (close_param env (param_of o)) (closed env ops) vs h
  each-value (o ∷ ops) (suc i) d vs lt h = let r = rest_values (close_param env (param_of o)) (closed env ops) vs h in each-value ops i d r.0 (omega (arith, lt)) r.1

  -- the value of one operand more
  pub one-value : (ops : List Operand) (o : Operand) (vs : List Value) (v : Value) → values_of (closed env ops) ≡ Some vs → close_param env (param_of o) ≡ is.Is v → values_of (closed env (ops ++ o ∷ [])) ≡ Some (vs ++ v ∷ [])
  one-value [] o vs v h is_v = ap (λ p. values_of (p ∷ [])) is_v ∙ ap (λ us. Some (us ++ v ∷ [])) (some-one [] vs h)
  one-value (p ∷ ops) o vs v h is_v =
      let q = close_param env (param_of p) in
      let f = first_value q (closed env ops) vs h in
      let r = rest_values q (closed env ops) vs h in
      ap (λ z. values_of (z ∷ closed env (ops ++ o ∷ []))) f.1
      ∙ before_values f.0 (closed env (ops ++ o ∷ [])) (r.0 ++ v ∷ []) (one-value ops o r.0 v r.1 is_v)
      ∙ ap (λ us. Some (us ++ v ∷ [])) (some-one (f.0 ∷ r.0) vs (sym (ap (λ z. values_of (z ∷ closed env ops)) f.1 ∙ before_values f.0 (closed env ops) r.0 r.1) ∙ h))

  -- as many values as operands
  pub values-length : (ops : List Operand) (vs : List Value) → values_of (closed env ops) ≡ Some vs → length vs ≡ length ops
  values-length [] vs h = ap length (sym (some-one [] vs h))
  values-length (p ∷ ops) vs h =
      let q = close_param env (param_of p) in
      let f = first_value q (closed env ops) vs h in
      let r = rest_values q (closed env ops) vs h in
      omega (arith, values-length ops r.0 r.1, ap length (some-one (f.0 ∷ r.0) vs (sym (ap (λ z. values_of (z ∷ closed env ops)) f.1 ∙ before_values f.0 (closed env ops) r.0 r.1) ∙ h)))

-- a value is what stands for its operand
means-value : (cells : List Bound) (ss : List Scope) (e : ℕ) (p : Operand) (v : Value) (o : Option Bound) → AreOrdered ss → close_param (env_of cells ss e) (param_of p) ≡ is.Is v → IfSome o (Means cells ss e p) → IfNone o (IsFree cells ss e p) → o ≡ Some (bound.Is v)
means-value cells ss e p v (Some (bound.Is u)) ordered h means free = ap Some (ap bound_or (sym (means ordered) ∙ h))
  where
    bound_or : Param → Bound
    bound_or (is.Is w) = bound.Is w
    bound_or _ = bound.Void
means-value cells ss e p v (Some (bound.Cell c)) ordered h means free = cc (means ordered, h)
means-value cells ss e p v (Some bound.Void) ordered h means free = cc (means ordered, h)
means-value cells ss e p v None ordered h means free = cc (ap (λ z. close_param (env_of cells ss e) (param_of z)) free.1, free.2 ordered, h)

pub stands-value : (cells : List Bound) (ss : List Scope) (e : ℕ) (ops : List Operand) (i : ℕ) (d : Operand) (vs : List Value) → i < length ops → values_of (closed (env_of cells ss e) ops) ≡ Some vs → AreOrdered ss
    → (o : Option Bound) → IfSome o (Means cells ss e (get_or ops i d)) → IfNone o (IsFree cells ss e (get_or ops i d)) → (v : Value) × (o ≡ Some (bound.Is v))
stands-value cells ss e ops i d vs lt h ordered o means free = let got = each-value (env_of cells ss e) ops i d vs lt h in (got.0, means-value cells ss e (get_or ops i d) got.0 o ordered got.1 means free)
