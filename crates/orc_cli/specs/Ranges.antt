-- Which numbers a command line may ask for.
use Rattle.std.specs.Prelude.{◌≤◌, ℕ}
use Rattle.orc_rules.specs.declared.limits.TheConstants.{MOST_ENTRIES, MOST_WORKERS}
use Rattle.orc_cli.specs.declared.job.Job.{Job}
use Rattle.orc_cli.specs.declared.job.Job.TheVariants as job

-- so many workers, and at most so many entries: the same as `IsInRange` of `orc_engine`, on which this crate doesn't stand
abbrev pub IsInRange : ℕ → ℕ → Type 0
IsInRange workers limit = ((1 ≤ workers) × (workers ≤ MOST_WORKERS)) × ((1 ≤ limit) × (limit ≤ MOST_ENTRIES))

-- what a job asks for, if it makes runs
abbrev pub AreInRange : Job → Type 0
AreInRange (job.Run program options) = IsInRange options.workers options.limit
AreInRange (job.Outcomes program options) = IsInRange options.workers options.limit
AreInRange (job.Search program options) = IsInRange options.survey.workers options.survey.limit
AreInRange (job.Show program options) = IsInRange options.survey.workers options.survey.limit
AreInRange (job.DrawRun program options) = IsInRange options.run.workers options.run.limit
AreInRange (job.Test program test options) = IsInRange options.workers options.limit
AreInRange _ = Unit {0}
