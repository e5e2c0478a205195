-- When a call of a definition has operands that don't fit its parameters.
use Rattle.std.specs.Prelude.{◌≡◌, ◌⊎◌, ℕ, List, length}
use Rattle.orc_rules.specs.declared.param.Operand.{Operand}
use Rattle.orc_rules.specs.Timed.{IsIn}
use Rattle.orc_env.specs.declared.names.Bound.{Bound}
use Rattle.orc_env.specs.declared.names.Scope.{Scope}
use Rattle.orc_env.specs.Names.{IsFree}

-- the operands don't fit the parameters: they are not as many, or nothing is put for one of them
abbrev pub Misfit : List Bound → List Scope → ℕ → List ℕ → List Operand → Type 0
Misfit cells ss e xs ps = (length xs ≡ length ps → ⊥) ⊎ ((p : Operand) × IsIn p ps × IsFree cells ss e p)
