-- The line and the status of a job that was not done, and what explains it.
use Rattle.std.specs.Prelude.{ℕ, List, [], ◌++◌, Bool, true, false, codes, decimal, string_bytes}
use Rattle.orc_rules.specs.declared.limits.TheConstants.{MOST_ROWS}
use Rattle.orc_run.specs.Faults.{line, status}
use Rattle.orc_run.specs.Status.{read_status_of}
use Rattle.orc_run.specs.declared.explained.Explained.{Explained}
use Rattle.orc_run.specs.declared.explained.Explained.TheVariants as explained
use Rattle.orc_run.specs.declared.failures.Failure.{Failure}
use Rattle.orc_run.specs.declared.failures.Failure.TheVariants as failure
use Rattle.orc_run.specs.declared.inputs.ReadFault.TheVariants as read

-- the process's status
abbrev pub failure_status : Failure → ℕ
failure_status (failure.Unread path f) = read_status_of f
failure_status (failure.Fault f) = status f
failure_status failure.Rows = 1
failure_status (failure.NoFailure n) = 1
failure_status (failure.NoOutcome n) = 1
failure_status (failure.NoRun n) = 1
failure_status (failure.NoJournal n) = 1

-- the line on standard error, without its LF
abbrev pub failure_line : Failure → List ℕ
failure_line (failure.Unread path read.Memory) = codes "orc: memory"
failure_line (failure.Unread path (read.Failed why)) = codes "orc: read " ++ path.now
failure_line (failure.Fault f) = line f
failure_line failure.Rows = codes "orc: draw: over " ++ (decimal MOST_ROWS ++ codes " rows")
failure_line (failure.NoFailure n) = codes "orc: test: no failure " ++ decimal n
failure_line (failure.NoOutcome n) = codes "orc: outcomes: no outcome " ++ decimal n
failure_line (failure.NoRun n) = codes "orc: outcomes: no run found with outcome " ++ decimal n
failure_line (failure.NoJournal n) = codes "orc: test: no run found with failure " ++ decimal n

-- an explanation is asked for
abbrev pub is_asked : Explained → Bool
is_asked explained.Unasked = false
is_asked explained.Nothing = true
is_asked (explained.Text text) = true

-- the text that explains it: empty unless an explanation is asked for
abbrev pub told : Explained → List ℕ
told explained.Unasked = []
told explained.Nothing = []
told (explained.Text text) = string_bytes text
