-- What is wanted of a run.
use Rattle.std.specs.Prelude.{Bool, true, false}
use Rattle.orc_cli.specs.declared.job.Wanted.{Wanted}
use Rattle.orc_cli.specs.declared.job.Wanted.TheVariants as wanted

-- the run's journal is kept for it
abbrev pub keeps_journal : Wanted → Bool
keeps_journal wanted.Values = false
keeps_journal wanted.Times = true
keeps_journal wanted.Journal = true
