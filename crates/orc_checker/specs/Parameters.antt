-- When a call of a definition has no scopes for its parameters.
use Rattle.std.specs.Prelude.{◌≡◌, ◌⊎◌, ℕ, List, length, Some, slice_get}
use Rattle.orc_rules.specs.declared.entry.RuleFault.{RuleFault}
use Rattle.orc_rules.specs.declared.entry.RuleFault.TheVariants as reason
use Rattle.orc_rules.specs.declared.param.Operand.{Operand}
use Rattle.orc_env.specs.declared.names.Bound.{Bound}
use Rattle.orc_env.specs.declared.names.Scope.{Scope}
use Rattle.orc_env.specs.Names.{IsFree}

-- why no scopes are added: the operands aren't as many as the names, or nothing stands for one of them; memory may be refused too
abbrev pub LacksArguments : List Bound → List Scope → ℕ → List ℕ → List Operand → RuleFault → Type 0
LacksArguments cells ss e xs ps reason.Form = (length xs ≡ length ps → ⊥) ⊎ ((i : ℕ) × (p : Operand) × (slice_get ps i ≡ Some p) × IsFree cells ss e p)
LacksArguments cells ss e xs ps reason.Memory = Unit {0}
LacksArguments cells ss e xs ps _ = ⊥
