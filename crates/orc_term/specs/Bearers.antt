-- On which value a token stands.
use Rattle.std.specs.Prelude.{◌≡◌, ℕ, List}
use Rattle.orc_rules.specs.declared.value.Value.{Value}
use Rattle.orc_rules.specs.declared.param.Param.TheVariants as is
use Rattle.orc_rules.specs.Term.{Term, param}
use Rattle.orc_rules.specs.Marked.{token}
use Rattle.orc_env.specs.declared.names.Bound.{Bound}
use Rattle.orc_env.specs.declared.names.Scope.{Scope}
use Rattle.orc_env.specs.Scopes.{env_of}
use Rattle.orc_env.specs.Names.{AreOrdered}
use Rattle.orc_term.specs.declared.arena.Tip.{Tip}
use Rattle.orc_term.specs.declared.arena.Tip.TheVariants.{Token, Bears}
use Rattle.orc_term.specs.Arena.{of_tip}

-- the tip is token s
abbrev pub Carries : ℕ → Tip → Type 0
Carries s (Token m f e) = m ≡ s
Carries s (Bears m v) = m ≡ s
Carries s _ = ⊥

-- the tip is token s on the value
abbrev pub BearsValue : (ℕ → Term) → List Bound → List Scope → ℕ → Tip → Value → Type 0
BearsValue code cells scopes s k v = AreOrdered scopes → of_tip code (env_of cells scopes) k ≡ token s (param (is.Is v))

-- the tip isn't token s on the value
abbrev pub BearsOther : (ℕ → Term) → List Bound → List Scope → ℕ → Tip → Value → Type 0
BearsOther code cells scopes s k v = AreOrdered scopes → of_tip code (env_of cells scopes) k ≡ token s (param (is.Is v)) → ⊥
