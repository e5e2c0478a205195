-- The numbers of names.
use Rattle.std.specs.Prelude.{◌+◌, ◌^◌, ◌≤◌, ℕ, List, length}
use Rattle.orc_rules.specs.declared.limits.TheConstants.{MOST_ARGUMENTS}
use Rattle.orc_scope.specs.Scope.{Known}

-- what stands outside of expressions, and the names of variables
pub record Numbering : Type 0 where
  pub known : Known
  pub names : List (List ℕ)

-- the numbers of names, and of as many new variables as a call has arguments at most, have 32 bits
abbrev pub AreSmall : Numbering → Type 0
AreSmall n = (length n.known.definitions ≤ 2 ^ 32) × (length n.known.sites ≤ 2 ^ 32) × (length n.names + MOST_ARGUMENTS ≤ 2 ^ 32)
