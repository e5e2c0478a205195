-- Names and cells that come change no environment that is there.
use Rattle.std.proofs.Common.{◌≡◌, ◌≤◌, ◌+◌, ℕ, zero, suc, List, [], ◌∷◌, ◌++◌, length, get_or, refl, sym, ap, ◌∙◌, arith, length-append}
use Rattle.std.proofs.lemmas.List.{get_or_append_left}
use Rattle.std.proofs.Math.Seq.{get_or-append_seam}
use Rattle.orc_env.specs.declared.names.Bound.{Bound}
use Rattle.orc_env.specs.declared.names.Bound.TheVariants.{Is, Cell, Void}
use Rattle.orc_env.specs.declared.names.Scope.{Scope}
use Rattle.orc_env.specs.Scopes.{Env, current, envs_from, env_of}

-- a scope with its environment, after those that are there
abbrev next_env : List Bound → List Env → Scope → Env
next_env cells es s = (s.name, current cells s.bound) ∷ get_or es s.outer []

module _ (cells : List Bound) where
  envs_from-push : (es : List Env) (ss : List Scope) (s : Scope) → envs_from cells es (ss ++ s ∷ []) ≡ envs_from cells es ss ++ next_env cells (envs_from cells es ss) s ∷ []
  envs_from-push es [] s = refl
  envs_from-push es (x ∷ ss) s = envs_from-push (es ++ next_env cells es x ∷ []) ss s

  length-envs_from : (es : List Env) (ss : List Scope) → length (envs_from cells es ss) ≡ length es + length ss
  length-envs_from es [] = omega arith
  length-envs_from es (x ∷ ss) = omega (arith, length-envs_from (es ++ next_env cells es x ∷ []) ss, length-append es (next_env cells es x ∷ []))

  length-envs : (ss : List Scope) → length (envs_from cells ([] ∷ []) ss) ≡ suc (length ss)
  length-envs ss = omega (arith, length-envs_from ([] ∷ []) ss)

  -- the environment of a scope that is there
  pub env-kept : (ss : List Scope) (s : Scope) (e : ℕ) → e ≤ length ss → env_of cells (ss ++ s ∷ []) e ≡ env_of cells ss e
  env-kept ss s e le =
      let es = envs_from cells ([] ∷ []) ss in
      ap (λ z. get_or z e []) (envs_from-push ([] ∷ []) ss s) ∙ get_or_append_left es (next_env cells es s ∷ []) [] e (omega (arith, le, length-envs ss))

  -- that of the one that comes
  pub env-new : (ss : List Scope) (s : Scope) (n : ℕ) → n ≡ suc (length ss) → env_of cells (ss ++ s ∷ []) n ≡ (s.name, current cells s.bound) ∷ env_of cells ss s.outer
  env-new ss s n is =
      let es = envs_from cells ([] ∷ []) ss in
      ap (λ z. get_or z n []) (envs_from-push ([] ∷ []) ss s) ∙ ap (λ z. get_or (es ++ next_env cells es s ∷ []) z []) (is ∙ sym (length-envs ss)) ∙ get_or-append_seam es (next_env cells es s) [] []

get_or-more : {X : Type 0} (xs : List X) (d : ℕ) (f : ℕ → X) → get_or (xs ++ f (length xs) ∷ []) d (f d) ≡ get_or xs d (f d)
get_or-more [] zero f = refl
get_or-more [] (suc d) f = refl
get_or-more (x ∷ xs) zero f = refl
get_or-more (x ∷ xs) (suc d) f = get_or-more xs d (λ k. f (suc k))

-- a cell that comes stands for itself, as it did before
pub current-push : (cells : List Bound) (b : Bound) → current (cells ++ Cell (length cells) ∷ []) b ≡ current cells b
current-push cells (Is v) = refl
current-push cells (Cell d) = get_or-more cells d Cell
current-push cells Void = refl

envs_from-current : (cells cells' : List Bound) → ((b : Bound) → current cells' b ≡ current cells b) → (es : List Env) (ss : List Scope) → envs_from cells' es ss ≡ envs_from cells es ss
envs_from-current cells cells' same es [] = refl
envs_from-current cells cells' same es (s ∷ ss) =
    ap (λ b. envs_from cells' (es ++ ((s.name, b) ∷ get_or es s.outer []) ∷ []) ss) (same s.bound)
    ∙ envs_from-current cells cells' same (es ++ next_env cells es s ∷ []) ss

pub env-current : (cells cells' : List Bound) → ((b : Bound) → current cells' b ≡ current cells b) → (ss : List Scope) (e : ℕ) → env_of cells' ss e ≡ env_of cells ss e
env-current cells cells' same ss e = ap (λ z. get_or z e []) (envs_from-current cells cells' same ([] ∷ []) ss)
