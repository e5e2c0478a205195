-- What names mean: the environments of numbered scopes.
use Rattle.std.specs.Prelude.{ℕ, List, [], ◌∷◌, ◌++◌, cond, nat_eq, slice_index_or}
use Rattle.orc_rules.specs.declared.param.Param.{Param}
use Rattle.orc_rules.specs.declared.param.Param.TheVariants as is
use Rattle.orc_env.specs.declared.names.Bound.{Bound}
use Rattle.orc_env.specs.declared.names.Bound.TheVariants.{Is, Cell, Void}
use Rattle.orc_env.specs.declared.names.Scope.{Scope}
use Rattle.orc_rules.specs.Term.{Term, put, put_param}

-- names and what is put for them, the newest first
abbrev pub Env : Type 0
Env = List (ℕ × Bound)

-- what is put for a name, as a parameter of a term
abbrev pub given : Bound → Param
given (Is v) = is.Is v
given (Cell c) = is.Cell c
given Void = is.Void

-- a term with an environment's meanings put for its names, the newest name first
abbrev pub close : Env → Term → Term
close [] f = f
close (b ∷ e) f = close e (put (given b.1) b.0 f)

abbrev pub close_param : Env → Param → Param
close_param [] p = p
close_param (b ∷ e) p = close_param e (put_param (given b.1) b.0 p)

-- an environment without a name
abbrev pub without : ℕ → Env → Env
without x [] = []
without x (b ∷ e) = cond (nat_eq b.0 x) (without x e) (b ∷ without x e)

-- what has become of a cell: itself if it isn't bound; values and void stay as they are
abbrev pub current : List Bound → Bound → Bound
current cells (Is v) = Is v
current cells (Cell c) = slice_index_or cells c (Cell c)
current cells Void = Void

-- the environments es of the first scopes, and behind them those of the scopes ss
abbrev pub envs_from : List Bound → List Env → List Scope → List Env
envs_from cells es [] = es
envs_from cells es (s ∷ ss) = envs_from cells (es ++ ((s.name, current cells s.bound) ∷ slice_index_or es s.outer []) ∷ []) ss

-- the environment of scope n: scope 0 has no names, and scope n is at place n - 1
abbrev pub env_of : List Bound → List Scope → ℕ → Env
env_of cells ss n = slice_index_or (envs_from cells ([] ∷ []) ss) n []
