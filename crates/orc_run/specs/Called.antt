-- What the printed commands that show a failure repeat of the command line.
use Rattle.std.specs.Prelude.{ℕ, List, [], ◌++◌, Option, Some, None, cond, codes, decimal, nat_eq, option_map}
use Rattle.orc_rules.specs.declared.limits.TheConstants.{DEFAULT_ENTRIES}
use Rattle.orc_cli.specs.declared.arguments.TheConstants.{DEFAULT_STATES, DEFAULT_TRIALS, DEFAULT_WAYS}
use Rattle.orc_cli.specs.declared.job.TestOptions.{TestOptions}
use Rattle.orc_tally.specs.Shell.{word_of}
use Rattle.orc_run.specs.declared.call.Names.{Names}

-- the names that a command line has for a test's files
pub record Named : Type 0 where
  pub source : List ℕ
  pub test : List ℕ
  pub script : Option (List ℕ)

-- the same from the code's names
abbrev pub named_of : Names → Named
named_of n = record { source = n.program.file.now; test = n.test.now; script = option_map (λ p. p.now) n.program.script }

-- the option that names the script, as a shell takes it
abbrev pub script_text : Option (List ℕ) → List ℕ
script_text (Some name) = codes " --script " ++ word_of name
script_text None = []

-- an option with its number, empty if that is the default
abbrev pub option_text : List ℕ → ℕ → ℕ → List ℕ
option_text word usual n = cond (nat_eq n usual) [] (word ++ decimal n)

-- the options on which the failures of a test depend
abbrev pub options_text : Option (List ℕ) → TestOptions → List ℕ
options_text script o = script_text script ++ (option_text (codes " --ways ") DEFAULT_WAYS o.ways ++ (option_text (codes " --orders ") DEFAULT_TRIALS o.orders ++ (option_text (codes " --states ") DEFAULT_STATES o.states ++ option_text (codes " --limit ") DEFAULT_ENTRIES o.limit)))
