-- Which files of a command line are standard input.
use Rattle.std.specs.Prelude.{ℕ, List, Bool, false, ◌&&◌, ◌||◌, bytes_eq, codes, Option, Some, None, option_map}
use Rattle.orc_cli.specs.declared.job.Job.{Job}
use Rattle.orc_cli.specs.declared.job.Job.TheVariants as job
use Rattle.orc_cli.specs.declared.job.ProgramPaths.{ProgramPaths}

-- a path is `-`; and a path that may be missing
abbrev pub names_input : List ℕ → Bool
names_input path = bytes_eq path (codes "-")

abbrev pub may_name_input : Option (List ℕ) → Bool
may_name_input (Some path) = names_input path
may_name_input None = false

-- at least two of three, and of four
abbrev pub two_of : Bool → Bool → Bool → Bool
two_of a b c = (a && b) || ((a || b) && c)

abbrev pub two_of_four : Bool → Bool → Bool → Bool → Bool
two_of_four a b c d = two_of a b c || ((a || b || c) && d)

-- both files of a program are standard input; and at least two of them and another one
abbrev pub are_one : ProgramPaths → Bool
are_one program = names_input program.file.now && may_name_input (option_map (λ p. p.now) program.script)

abbrev pub share_with : ProgramPaths → List ℕ → Bool
share_with program other = two_of (names_input program.file.now) (names_input other) (may_name_input (option_map (λ p. p.now) program.script))

-- more than one file of the job is standard input
abbrev pub shares : Job → Bool
shares (job.Run program options) = are_one program
shares (job.Outcomes program options) = are_one program
shares (job.Search program options) = are_one program
shares (job.Show program options) = are_one program
shares (job.Check program journal) = share_with program journal.now
shares (job.Claims program journal test) = two_of_four (names_input program.file.now) (names_input journal.now) (may_name_input (option_map (λ p. p.now) program.script)) (names_input test.now)
shares (job.Draw program journal options) = share_with program journal.now
shares (job.DrawRun program options) = are_one program
shares (job.Print file) = false
shares (job.Test program test options) = share_with program test.now
