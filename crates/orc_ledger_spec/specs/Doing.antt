-- What a token does next, as a function of the records.
use Rattle.std.specs.Prelude.{ℕ, List}
use Rattle.orc_rules.specs.Term.{Term, Definition}
use Rattle.orc_ledger_spec.specs.Records.{Records, its_env, its_path}
use Rattle.orc_frames.specs.Paths.{standing}
use Rattle.orc_tables.specs.declared.records.Token.{Token}
use Rattle.orc_frames.specs.declared.action.Action.{Action}
use Rattle.orc_frames.specs.Doing.{what_by}

-- the term under a token
abbrev pub term_of : (ℕ → Term) → Records → Token → Term
term_of code s t = standing code (its_env code s) t.standing

-- what a token does next, its word: by its path, without the otherwises that have published, and its term
abbrev pub what_of : (ℕ → Term) → List Definition → Records → Token → Action
what_of code defs s t = what_by defs (its_path code s t.step) (term_of code s t)
