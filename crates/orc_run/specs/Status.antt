-- The exit statuses of the program.
use Rattle.std.specs.Prelude.{ℕ}
use Rattle.orc_run.specs.declared.inputs.ReadFault.{ReadFault}
use Rattle.orc_run.specs.declared.inputs.ReadFault.TheVariants as read

-- the status where a file could not be read
abbrev pub read_status_of : ReadFault → ℕ
read_status_of read.Memory = 5
read_status_of (read.Failed why) = 6
