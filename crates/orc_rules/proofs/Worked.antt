-- The tables of worked journals.
use Rattle.std.proofs.Common.{List, ◌∷◌, Bool}
use Rattle.orc_rules.specs.declared.builtin.Builtin.TheVariants as builtins
use Rattle.orc_rules.specs.Term.{Definition}
use Rattle.orc_rules.specs.Sites.{Site, built_in}
use Rattle.orc_rules.specs.Timed.{Context}

-- the built-in sites, numbered from 0 as here, and then those of a script
abbrev pub world : List Definition → List Site → Bool → Context
world definitions scripted cancels = record {
  definitions = definitions;
  sites = built_in builtins.Add ∷ built_in builtins.Sub ∷ built_in builtins.Eq ∷ built_in builtins.Lt ∷ built_in builtins.Ift ∷ built_in builtins.Iff ∷ built_in builtins.Rwait ∷ scripted;
  cancels = cancels;
}
