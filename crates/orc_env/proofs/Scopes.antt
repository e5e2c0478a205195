-- The environments of scopes, one scope after another.
use Rattle.std.proofs.Common.{◌≡◌, ◌≤◌, ◌<◌, ◌+◌, ◌-◌, ℕ, zero, suc, List, [], ◌∷◌, ◌++◌, length, map, Option, Some, None, refl, sym, ap, ◌∙◌, arith, length-append, slice_index_or, true, false, cond, nat_eq, eq-eqb}
use Rattle.std.proofs.lemmas.Bool.{ne_eqb}
use Rattle.std.specs.Prelude.{slice_get}
use Rattle.orc_rules.specs.declared.value.Value.{Value}
use Rattle.orc_rules.specs.declared.param.Param.{Param}
use Rattle.orc_rules.specs.declared.param.Param.TheVariants as is
use Rattle.orc_rules.specs.Term.{param, site, call, put_param, values_of}
use Rattle.orc_env.specs.declared.names.Bound.{Bound}
use Rattle.orc_env.specs.declared.names.Bound.TheVariants as bound
use Rattle.orc_env.specs.declared.names.Scope.{Scope}
use Rattle.orc_env.specs.Scopes.{Env, given, close, close_param, current, envs_from, env_of}
use Rattle.orc_rules.specs.declared.param.Operand.TheVariants.{Name}
use Rattle.orc_env.specs.Names.{AreOrdered, IsFree}

index-append : {X : Type 0} (xs ys : List X) (i : ℕ) (d : X) → i < length xs → slice_index_or (xs ++ ys) i d ≡ slice_index_or xs i d
index-append [] ys i d h = absurd (omega (arith, h))
index-append (x ∷ xs) ys zero d h = refl
index-append (x ∷ xs) ys (suc i) d h = index-append xs ys i d (omega (arith, h))

index-end : {X : Type 0} (xs : List X) (y : X) (d : X) → slice_index_or (xs ++ y ∷ []) (length xs) d ≡ y
index-end [] y d = refl
index-end (x ∷ xs) y d = index-end xs y d

module _ (cells : List Bound) where
  -- one scope's environment, from those before it
  abbrev pub one_env : List Env → Scope → Env
  one_env es s = (s.name, current cells s.bound) ∷ slice_index_or es s.outer []

  pub envs-split : (es : List Env) (ss more : List Scope) → envs_from cells es (ss ++ more) ≡ envs_from cells (envs_from cells es ss) more
  envs-split es [] more = refl
  envs-split es (s ∷ ss) more = envs-split (es ++ one_env es s ∷ []) ss more

  pub envs-length : (es : List Env) (ss : List Scope) → length (envs_from cells es ss) ≡ length es + length ss
  envs-length es [] = omega arith
  envs-length es (s ∷ ss) = omega (arith, envs-length (es ++ one_env es s ∷ []) ss, length-append es (one_env es s ∷ []))

  pub envs-before : (es : List Env) (ss : List Scope) (i : ℕ) → i < length es → slice_index_or (envs_from cells es ss) i [] ≡ slice_index_or es i []
  envs-before es [] i h = refl
  envs-before es (s ∷ ss) i h = envs-before (es ++ one_env es s ∷ []) ss i (omega (arith, h, length-append es (one_env es s ∷ []))) ∙ index-append es (one_env es s ∷ []) i [] h

  -- the scopes that are there keep their environments
  pub env-kept : (ss more : List Scope) (e : ℕ) → e ≤ length ss → env_of cells ss e ≡ env_of cells (ss ++ more) e
  env-kept ss more e h = sym (ap (λ z. slice_index_or z e []) (envs-split ([] ∷ []) ss more) ∙ envs-before (envs_from cells ([] ∷ []) ss) more e (omega (arith, h, envs-length ([] ∷ []) ss)))

  -- the environment of one scope more
  pub env-new : (ss : List Scope) (s : Scope) (n : ℕ) → n ≡ length ss + 1 → env_of cells (ss ++ s ∷ []) n ≡ (s.name, current cells s.bound) ∷ env_of cells ss s.outer
  env-new ss s n h =
      let es = envs_from cells ([] ∷ []) ss in
      ap (λ z. slice_index_or z n []) (envs-split ([] ∷ []) ss (s ∷ []))
      ∙ ap (λ z. slice_index_or (es ++ one_env es s ∷ []) z []) (let e : n ≡ length es = omega (arith, h, envs-length ([] ∷ []) ss) in e)
      ∙ index-end es (one_env es s) []

  unfold_from : (es : List Env) (ss : List Scope) (i : ℕ) (s : Scope) → slice_get ss i ≡ Some s → s.outer < length es + i → slice_index_or (envs_from cells es ss) (length es + i) [] ≡ (s.name, current cells s.bound) ∷ slice_index_or (envs_from cells es ss) s.outer []
  unfold_from es [] i s h lt = cc h
  unfold_from es (r ∷ ss) zero s h lt =
      let is : r ≡ s = ap (λ o. or_else r o) h in
      let es' = es ++ one_env es r ∷ [] in
      let len : length es' ≡ length es + 1 = omega (arith, length-append es (one_env es r ∷ [])) in
      let out : s.outer < length es = omega (arith, lt) in
      ap (λ z. slice_index_or (envs_from cells es' ss) z []) (let e : length es + 0 ≡ length es = omega arith in e)
      ∙ envs-before es' ss (length es) (omega (arith, len))
      ∙ index-end es (one_env es r) []
      ∙ ap (λ z. one_env es z) is
      ∙ sym (ap (λ z. (s.name, current cells s.bound) ∷ z) (envs-before es' ss s.outer (omega (arith, len, out)) ∙ index-append es (one_env es r ∷ []) s.outer [] out))
    where
      or_else : {X : Type 0} → X → Option X → X
      or_else d (Some z) = z
      or_else d None = d
  unfold_from es (r ∷ ss) (suc i) s h lt =
      let es' = es ++ one_env es r ∷ [] in
      let len : length es' ≡ length es + 1 = omega (arith, length-append es (one_env es r ∷ [])) in
      let e : length es + suc i ≡ length es' + i = omega (arith, len) in
      ap (λ z. slice_index_or (envs_from cells es' ss) z []) e ∙ unfold_from es' ss i s h (omega (arith, lt, len))

  -- a scope's environment is one name more than its outer's
  pub env-unfold : (ss : List Scope) (n : ℕ) (s : Scope) → AreOrdered ss → (n ≡ 0 → ⊥) → slice_get ss (n - 1) ≡ Some s → env_of cells ss n ≡ (s.name, current cells s.bound) ∷ env_of cells ss s.outer
  env-unfold ss n s ordered off h =
      let e : n ≡ 1 + (n - 1) = let p : 1 ≤ n = over n off in omega (arith, p) in
      ap (λ z. slice_index_or (envs_from cells ([] ∷ []) ss) z []) e ∙ unfold_from ([] ∷ []) ss (n - 1) s h (omega (arith, ordered (n - 1) s h))
    where
      over : (n : ℕ) → (n ≡ 0 → ⊥) → 1 ≤ n
      over zero h = absurd (h refl)
      over (suc n) h = omega arith

pub close-given : (e : Env) (b : Bound) → close_param e (given b) ≡ given b
close-given [] b = refl
close-given (c ∷ e) (bound.Is v) = close-given e (bound.Is v)
close-given (c ∷ e) (bound.Cell d) = close-given e (bound.Cell d)
close-given (c ∷ e) bound.Void = close-given e bound.Void

pub close-of-param : (e : Env) (p : Param) → close e (param p) ≡ param (close_param e p)
close-of-param [] p = refl
close-of-param (b ∷ e) p = close-of-param e (put_param (given b.1) b.0 p)

map-two : (e : Env) (b : ℕ × Bound) (ps : List Param) → map (close_param e) (map (put_param (given b.1) b.0) ps) ≡ map (close_param (b ∷ e)) ps
map-two e b [] = refl
map-two e b (p ∷ ps) = λ j. close_param (b ∷ e) p ∷ map-two e b ps j

map-none : (ps : List Param) → ps ≡ map (close_param []) ps
map-none [] = refl
map-none (p ∷ ps) = λ j. p ∷ map-none ps j

pub close-site : (e : Env) (m : ℕ) (ps : List Param) → close e (site m ps) ≡ site m (map (close_param e) ps)
close-site [] m ps = ap (site m) (map-none ps)
close-site (b ∷ e) m ps = close-site e m (map (put_param (given b.1) b.0) ps) ∙ ap (site m) (map-two e b ps)

pub close-call : (e : Env) (m : ℕ) (ps : List Param) → close e (call m ps) ≡ call m (map (close_param e) ps)
close-call [] m ps = ap (call m) (map-none ps)
close-call (b ∷ e) m ps = close-call e m (map (put_param (given b.1) b.0) ps) ∙ ap (call m) (map-two e b ps)

-- the name of the scope itself, and another one
pub name-here : (e : Env) (x y : ℕ) (b : Bound) → nat_eq x y ≡ true → close_param ((x, b) ∷ e) (is.Name y) ≡ given b
name-here e x y b h = ap (λ z. close_param e (cond z (given b) (is.Name y))) h ∙ close-given e b

pub name-past : (e : Env) (x y : ℕ) (b : Bound) → nat_eq x y ≡ false → close_param ((x, b) ∷ e) (is.Name y) ≡ close_param e (is.Name y)
name-past e x y b h = ap (λ z. close_param e (cond z (given b) (is.Name y))) h

-- one value more
pub values-more : (p : Param) (ps : List Param) (v : Value) (vs : List Value) → p ≡ is.Is v → values_of ps ≡ Some vs → values_of (p ∷ ps) ≡ Some (v ∷ vs)
values-more p ps v vs e h = ap (λ z. values_of (z ∷ ps)) e ∙ rw h refl

-- a look-up goes on in the outer scope
abbrev pub LooksUp : List Bound → List Scope → ℕ → ℕ → ℕ → Type 0
LooksUp cells ss x from at = AreOrdered ss → close_param (env_of cells ss from) (is.Name x) ≡ close_param (env_of cells ss at) (is.Name x)

module _ (cells : List Bound) (ss : List Scope) (x from at : ℕ) (s : Scope) (so_far : LooksUp cells ss x from at) (off : at ≡ 0 → ⊥) (h : slice_get ss (at - 1) ≡ Some s) where
  pub looks_on : (s.name ≡ x → ⊥) → LooksUp cells ss x from s.outer
  looks_on e ordered = so_far ordered ∙ ap (λ z. close_param z (is.Name x)) (env-unfold cells ss at s ordered off h) ∙ name-past (env_of cells ss s.outer) s.name x (current cells s.bound) (ne_eqb s.name x e)

  pub looks_here : s.name ≡ x → AreOrdered ss → close_param (env_of cells ss from) (is.Name x) ≡ given (current cells s.bound)
  looks_here e ordered = so_far ordered ∙ ap (λ z. close_param z (is.Name x)) (env-unfold cells ss at s ordered off h) ∙ name-here (env_of cells ss s.outer) s.name x (current cells s.bound) (eq-eqb s.name x e)

-- and each scope's outer is before it
abbrev pub LooksFor : List Bound → List Scope → ℕ → ℕ → ℕ → ℕ → Type 0
LooksFor cells ss x from at steps = LooksUp cells ss x from at × (AreOrdered ss → 0 < steps → at + steps ≤ length ss)

index-out : {X : Type 0} (xs : List X) (i : ℕ) (d : X) → length xs ≤ i → slice_index_or xs i d ≡ d
index-out [] i d h = refl
index-out (x ∷ xs) zero d h = absurd (omega (arith, h))
index-out (x ∷ xs) (suc i) d h = index-out xs i d (omega (arith, h))

none_out : {X : Type 0} (xs : List X) (i : ℕ) → slice_get xs i ≡ None → length xs ≤ i
none_out [] i h = omega arith
none_out (x ∷ xs) zero h = cc h
none_out (x ∷ xs) (suc i) h = omega (arith, none_out xs i h)

some_in : {X : Type 0} (xs : List X) (i : ℕ) (x : X) → slice_get xs i ≡ Some x → i < length xs
some_in [] i x h = cc h
some_in (y ∷ xs) zero x h = omega arith
some_in (y ∷ xs) (suc i) x h = omega (arith, some_in xs i x h)

-- the look-up ends without the name
module _ (cells : List Bound) (ss : List Scope) (x from at : ℕ) where
  free_in : LooksUp cells ss x from at → env_of cells ss at ≡ [] → IsFree cells ss from (Name x)
  free_in so_far e = (x, refl, λ ordered. so_far ordered ∙ ap (λ z. close_param z (is.Name x)) e)

  pub looks_end : LooksUp cells ss x from at → at ≡ 0 → IsFree cells ss from (Name x)
  looks_end so_far e = free_in so_far (ap (env_of cells ss) e ∙ envs-before cells ([] ∷ []) ss 0 (omega arith))

  pub looks_out : LooksUp cells ss x from at → (at ≡ 0 → ⊥) → slice_get ss (at - 1) ≡ None → IsFree cells ss from (Name x)
  looks_out so_far off h =
      let out : length ss ≤ at - 1 = none_out ss (at - 1) h in
      let over : 1 ≤ at = positive at off in
      free_in so_far (index-out (envs_from cells ([] ∷ []) ss) at [] (omega (arith, out, over, envs-length cells ([] ∷ []) ss)))
    where
      positive : (n : ℕ) → (n ≡ 0 → ⊥) → 1 ≤ n
      positive zero h = absurd (h refl)
      positive (suc n) h = omega arith

  pub looks_never : (steps : ℕ) → LooksFor cells ss x from at steps → length ss < steps → IsFree cells ss from (Name x)
  looks_never steps so_far lt = (x, refl, λ ordered. absurd (omega (arith, lt, so_far.1 ordered (omega (arith, lt)))))

  pub looks_on_less : (s : Scope) (steps : ℕ) → LooksFor cells ss x from at steps → (at ≡ 0 → ⊥) → slice_get ss (at - 1) ≡ Some s → AreOrdered ss → 0 < steps + 1 → s.outer + (steps + 1) ≤ length ss
  looks_on_less s steps so_far off h ordered more = go steps (so_far.1 ordered)
    where
      positive : (n : ℕ) → (n ≡ 0 → ⊥) → 1 ≤ n
      positive zero h = absurd (h refl)
      positive (suc n) h = omega arith

      go : (n : ℕ) → (0 < n → at + n ≤ length ss) → s.outer + (n + 1) ≤ length ss
      go zero so = omega (arith, some_in ss (at - 1) s h, ordered (at - 1) s h, positive at off)
      go (suc n) so = omega (arith, so (omega arith), ordered (at - 1) s h, positive at off)
