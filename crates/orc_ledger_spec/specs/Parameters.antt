-- The scopes that a call of a definition adds for its parameters.
use Rattle.std.specs.Prelude.{◌≡◌, ◌⊎◌, ℕ, List, [], ◌∷◌, Some, None, slice_get, slice_index_or}
use Rattle.orc_rules.specs.declared.entry.Entry.TheVariants as entry
use Rattle.orc_rules.specs.Nodes.{Listing, Routine}
use Rattle.orc_env.specs.declared.names.Scope.{Scope}
use Rattle.orc_ledger_spec.specs.Records.{Records}
use Rattle.orc_ledger_spec.specs.Calls.{Turns, born}
use Rattle.orc_tables.specs.declared.records.Token.{Token}
use Rattle.orc_env.specs.Parameters.{Adds}
use Rattle.orc_frames.specs.Parameters.{Misfit}

-- a call of a definition becomes a token on its body, in a scope for its parameters
abbrev pub IsDefined : Records → Token → ℕ → ℕ → List Scope → Records → Type 0
IsDefined s t body newest more s' = Turns s s' t (born s t s.next_mark body newest t.step ∷ []) more [] [] [] (entry.Def t.serial s.next_mark)

-- the call of a definition is done: its body stands in scopes for its parameters
abbrev pub IsCalled : Listing → Records → Token → ℕ → ℕ → ℕ → Records → Type 0
IsCalled l s t scope e list s' =
    (r : Routine) × (newest : ℕ) × (more : List Scope) × (slice_get l.routines e ≡ Some r) × Adds s.cells s.scopes scope r.params (slice_index_or l.lists list []) more newest × IsDefined s t r.body newest more s'

-- there is no such definition, or the operands don't fit its parameters
abbrev pub IsUndone : Listing → Records → ℕ → ℕ → ℕ → Type 0
IsUndone l s scope e list = (slice_get l.routines e ≡ None) ⊎ ((r : Routine) × (slice_get l.routines e ≡ Some r) × Misfit s.cells s.scopes scope r.params (slice_index_or l.lists list []))
