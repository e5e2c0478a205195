-- The scopes that a call of a definition adds for its parameters.
use Rattle.std.specs.Prelude.{◌≡◌, ◌≤◌, ℕ, List, ◌++◌, length, map, Some, slice_get}
use Rattle.orc_rules.specs.declared.param.Operand.{Operand}
use Rattle.orc_rules.specs.Term.{Term, put_all}
use Rattle.orc_rules.specs.Nodes.{param_of}
use Rattle.orc_env.specs.declared.names.Bound.{Bound}
use Rattle.orc_env.specs.declared.names.Bound.TheVariants.{Cell}
use Rattle.orc_env.specs.declared.names.Scope.{Scope}
use Rattle.orc_env.specs.Scopes.{close, close_param, env_of}
use Rattle.orc_env.specs.Names.{AreOrdered}

-- a cell that isn't bound has itself in the table of cells
abbrev pub AreOwn : List Bound → Type 0
AreOwn cells = (c d : ℕ) → slice_get cells c ≡ Some (Cell d) → c ≡ d

-- with `more` behind the scopes ss, scope n has the names xs, and they mean what the operands ps mean in scope e
abbrev pub Adds : List Bound → List Scope → ℕ → List ℕ → List Operand → List Scope → ℕ → Type 0
Adds cells ss e xs ps more n = (n ≤ length (ss ++ more)) × (AreOrdered ss → AreOrdered (ss ++ more))
    × (AreOrdered ss → AreOwn cells → (f : Term) → close (env_of cells (ss ++ more) n) f ≡ put_all xs (map (close_param (env_of cells ss e)) (map param_of ps)) f)
