-- What the scopes of a call's parameters put for the names.
use Rattle.std.proofs.Common.{◌≡◌, ◌≤◌, ◌<◌, ◌+◌, ℕ, zero, suc, List, [], ◌∷◌, ◌++◌, length, map, Option, Some, None, refl, sym, ap, ◌∙◌, subst, arith, length-append, get_or, Bool, true, false, cond, nat_eq, unwrap_or}
use Rattle.std.specs.Prelude.{slice_get, drop}
use Rattle.std.proofs.Math.Seq.{drop-cons}
use Rattle.std.proofs.lemmas.Option.{unwrap_or-slice_get}
use Rattle.orc_rules.specs.declared.param.Param.{Param}
use Rattle.orc_rules.specs.declared.param.Param.TheVariants as is
use Rattle.orc_rules.specs.declared.param.Operand.{Operand}
use Rattle.orc_rules.specs.declared.param.Operand.TheVariants as operand
use Rattle.orc_rules.specs.Term.{put, put_all}
use Rattle.orc_rules.specs.Nodes.{param_of}
use Rattle.orc_env.specs.declared.names.Bound.{Bound}
use Rattle.orc_env.specs.declared.names.Bound.TheVariants.{Is, Cell, Void}
use Rattle.orc_env.specs.declared.names.Scope.{Scope}
use Rattle.orc_env.specs.Scopes.{Env, given, close, close_param, current, envs_from, env_of}
use Rattle.orc_env.specs.Names.{AreOrdered, Means}
use Rattle.orc_env.specs.Parameters.{AreOwn, Adds}
use Rattle.orc_env.proofs.Scopes.{close-given, env-new, envs-before, one_env}

abbrev pub scope_or : Scope → Option Scope → Scope
scope_or d (Some z) = z
scope_or d None = d

pub ordered_push : (ss : List Scope) (s : Scope) → AreOrdered ss → s.outer ≤ length ss → AreOrdered (ss ++ s ∷ [])
ordered_push ss s ordered le i r h = go ss i h (ordered i r) (λ e. e)
  where
    go : (xs : List Scope) (j : ℕ) → slice_get (xs ++ s ∷ []) j ≡ Some r → (slice_get xs j ≡ Some r → r.outer ≤ i) → (j ≡ length xs → i ≡ length ss) → r.outer ≤ i
    go [] zero h k l = let same : s ≡ r = ap (scope_or s) h in omega (arith, le, l refl, ap Scope.outer same)
    go [] (suc j) h k l = cc h
    go (x ∷ xs) zero h k l = k h
    go (x ∷ xs) (suc j) h k l = go xs j h k (λ e. l (ap suc e))

abbrev back : Param → Bound
back (is.Is v) = Is v
back (is.Cell c) = Cell c
back is.Void = Void
back (is.Name x) = Void

back-given : (b : Bound) → back (given b) ≡ b
back-given (Is v) = refl
back-given (Cell c) = refl
back-given Void = refl

given-one : (b c : Bound) → given b ≡ given c → b ≡ c
given-one b c h = sym (back-given b) ∙ ap back h ∙ back-given c

append-none : {X : Type 0} (xs : List X) → xs ++ [] ≡ xs
append-none [] = refl
append-none (x ∷ xs) = λ j. x ∷ append-none xs j

append-three : {X : Type 0} (xs ys zs : List X) → (xs ++ ys) ++ zs ≡ xs ++ (ys ++ zs)
append-three [] ys zs = refl
append-three (x ∷ xs) ys zs = λ j. x ∷ append-three xs ys zs j

module _ (cells : List Bound) (own : AreOwn cells) where
  -- what a cell has become is what it is now
  own-current : (b : Bound) → current cells (current cells b) ≡ current cells b
  own-current (Is v) = refl
  own-current (Cell c) = ap (current cells) now ∙ go (slice_get cells c) refl ∙ sym now
    where
      now : current cells (Cell c) ≡ unwrap_or (slice_get cells c) (Cell c)
      now = sym (unwrap_or-slice_get cells c (Cell c))

      go : (o : Option Bound) → slice_get cells c ≡ o → current cells (unwrap_or o (Cell c)) ≡ unwrap_or o (Cell c)
      go None h = now ∙ ap (λ z. unwrap_or z (Cell c)) h
      go (Some (Is v)) h = refl
      go (Some (Cell d)) h = ap (λ z. current cells (Cell z)) (sym (own c d h)) ∙ now ∙ ap (λ z. unwrap_or z (Cell c)) h
      go (Some Void) h = refl
  own-current Void = refl

  -- each name stands for what it is now
  abbrev AllOwn : Env → Type 0
  AllOwn [] = Unit {0}
  AllOwn (b ∷ e) = (current cells b.1 ≡ b.1) × AllOwn e

  own-more : (es : List Env) (e : Env) → ((i : ℕ) → AllOwn (get_or es i [])) → AllOwn e → (i : ℕ) → AllOwn (get_or (es ++ e ∷ []) i [])
  own-more [] e h a zero = a
  own-more [] e h a (suc i) = tt
  own-more (x ∷ es) e h a zero = h zero
  own-more (x ∷ es) e h a (suc i) = own-more es e (λ j. h (suc j)) a i

  own-from : (es : List Env) (ss : List Scope) → ((i : ℕ) → AllOwn (get_or es i [])) → (i : ℕ) → AllOwn (get_or (envs_from cells es ss) i [])
  own-from es [] h = h
  own-from es (s ∷ ss) h = own-from (es ++ one_env cells es s ∷ []) ss (own-more es (one_env cells es s) h (own-current s.bound, h s.outer))

  own-env : (ss : List Scope) (n : ℕ) → AllOwn (env_of cells ss n)
  own-env ss = own-from ([] ∷ []) ss first
    where
      first : (i : ℕ) → AllOwn (get_or ([] ∷ []) i [])
      first zero = tt
      first (suc i) = tt

  name-own : (e : Env) (x : ℕ) (b : Bound) → AllOwn e → close_param e (is.Name x) ≡ given b → current cells b ≡ b
  name-own [] x (Is v) a h = cc h
  name-own [] x (Cell c) a h = cc h
  name-own [] x Void a h = cc h
  name-own (c ∷ e) x b a h = go (nat_eq c.0 x) h (λ k. name-own e x b a.1 k)
    where
      go : (t : Bool) → close_param e (cond t (given c.1) (is.Name x)) ≡ given b → (close_param e (is.Name x) ≡ given b → current cells b ≡ b) → current cells b ≡ b
      go true k on = subst (λ z. current cells z ≡ z) (given-one c.1 b (sym (close-given e c.1) ∙ k)) a.0
      go false k on = on k

  -- what stands for an operand is what it is now
  operand-own : (e : Env) (p : Operand) (b : Bound) → AllOwn e → close_param e (param_of p) ≡ given b → current cells b ≡ b
  operand-own e (operand.Name x) b a h = name-own e x b a h
  operand-own e (operand.Is v) b a h = subst (λ z. current cells z ≡ z) (given-one (Is v) b (sym (close-given e (Is v)) ∙ h)) refl

module _ (cells : List Bound) (ss : List Scope) (e : ℕ) where
  -- no parameters
  pub adds-none : (xs : List ℕ) (ps : List Operand) → xs ≡ [] → Adds cells ss e xs ps [] 0
  adds-none xs ps none =
      subst (λ z. Adds cells ss e z ps [] 0) (sym none)
      (omega arith, (λ o. subst AreOrdered (sym (append-none ss)) o), (λ o own f. ap (λ z. close z f) (envs-before cells ([] ∷ []) (ss ++ []) 0 (omega arith))))

  -- one parameter more
  pub adds-more : (xs : List ℕ) (ps : List Operand) (more : List Scope) (n x : ℕ) (p : Operand) (b : Bound) (k : ℕ) → Adds cells ss e xs ps more n → Means cells ss e p b → k ≡ length ss + (length more + 1) → Adds cells ss e (x ∷ xs) (p ∷ ps) (more ++ record { name = x; bound = b; outer = n } ∷ []) k
  adds-more xs ps more n x p b k adds means is_k =
      let s : Scope = record { name = x; bound = b; outer = n } in
      let all : (ss ++ more) ++ s ∷ [] ≡ ss ++ (more ++ s ∷ []) = append-three ss more (s ∷ []) in
      let one : k ≡ length (ss ++ more) + 1 = omega (arith, is_k, length-append ss more) in (
        subst (λ z. k ≤ length z) all (omega (arith, one, length-append (ss ++ more) (s ∷ []))),
        (λ o. subst AreOrdered all (ordered_push (ss ++ more) s (adds.1 o) adds.0)),
        (
            λ o own f.
            let env = env_of cells ss e in
            let is_b : given (current cells b) ≡ close_param env (param_of p) = ap given (operand-own cells own env p b (own-env cells own ss e) (means o)) ∙ sym (means o) in
            ap (λ z. close z f) (ap (λ z. env_of cells z k) (sym all) ∙ env-new cells (ss ++ more) s k one)
            ∙ adds.2 o own (put (given (current cells b)) x f)
            ∙ ap (λ z. put_all xs (map (close_param env) (map param_of ps)) (put z x f)) is_b
            ),
      )

  -- the same for the parameter before those of the two lists from suc i on
  pub adds-drop : (xs : List ℕ) (ps : List Operand) (i : ℕ) (more : List Scope) (n d : ℕ) (o : Operand) (b : Bound) (k : ℕ) → i < length xs → i < length ps → Adds cells ss e (drop (suc i) xs) (drop (suc i) ps) more n → Means cells ss e (get_or ps i o) b → k ≡ length ss + (length more + 1) → Adds cells ss e (drop i xs) (drop i ps) (more ++ record { name = get_or xs i d; bound = b; outer = n } ∷ []) k
  adds-drop xs ps i more n d o b k lt lt' adds means is_k =
      let pushed = more ++ record { name = get_or xs i d; bound = b; outer = n } ∷ [] in
      subst (λ z. Adds cells ss e z (drop i ps) pushed k) (sym (drop-cons xs i d lt))
      (subst (λ z. Adds cells ss e (get_or xs i d ∷ drop (suc i) xs) z pushed k) (sym (drop-cons ps i o lt'))
      (adds-more (drop (suc i) xs) (drop (suc i) ps) more n (get_or xs i d) (get_or ps i o) b k adds means is_k))
