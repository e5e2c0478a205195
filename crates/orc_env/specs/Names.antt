-- What an operand means in a scope.
use Rattle.std.specs.Prelude.{◌≡◌, ◌≤◌, ℕ, List, map, Some, slice_get}
use Rattle.orc_rules.specs.declared.value.Value.{Value}
use Rattle.orc_rules.specs.declared.param.Operand.{Operand}
use Rattle.orc_rules.specs.declared.param.Operand.TheVariants.{Name}
use Rattle.orc_rules.specs.declared.param.Param.TheVariants as is
use Rattle.orc_rules.specs.Term.{values_of}
use Rattle.orc_rules.specs.Nodes.{param_of}
use Rattle.orc_env.specs.declared.names.Bound.{Bound}
use Rattle.orc_env.specs.declared.names.Scope.{Scope}
use Rattle.orc_env.specs.Scopes.{given, close_param, env_of}

-- each scope extends one of a lower number; the scope at place i has the number i + 1
abbrev pub AreOrdered : List Scope → Type 0
AreOrdered scopes = (i : ℕ) (s : Scope) → slice_get scopes i ≡ Some s → s.outer ≤ i

-- this is what an operand means in scope e
abbrev pub Means : List Bound → List Scope → ℕ → Operand → Bound → Type 0
Means cells scopes e p b = AreOrdered scopes → close_param (env_of cells scopes e) (param_of p) ≡ given b

-- the operand is a name that scope e doesn't have
abbrev pub IsFree : List Bound → List Scope → ℕ → Operand → Type 0
IsFree cells scopes e p = (x : ℕ) × (p ≡ Name x) × (AreOrdered scopes → close_param (env_of cells scopes e) (is.Name x) ≡ is.Name x)

-- the operands mean these values in scope e
abbrev pub AreArguments : List Bound → List Scope → ℕ → List Operand → List Value → Type 0
AreArguments cells scopes e ps args = AreOrdered scopes → values_of (map (close_param (env_of cells scopes e)) (map param_of ps)) ≡ Some args

-- the operands don't mean these values in scope e
abbrev pub AreOthers : List Bound → List Scope → ℕ → List Operand → List Value → Type 0
AreOthers cells scopes e ps args = AreOrdered scopes → values_of (map (close_param (env_of cells scopes e)) (map param_of ps)) ≡ Some args → ⊥
