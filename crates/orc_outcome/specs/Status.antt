-- The exit status of a run.
use Rattle.std.specs.Prelude.{ℕ}
use Rattle.orc_outcome.specs.declared.end.End.{End}
use Rattle.orc_outcome.specs.declared.end.End.TheVariants as ends

-- the status of a run by how it ended
abbrev pub end_status_of : End → ℕ
end_status_of ends.Halted = 0
end_status_of ends.Quiet = 3
end_status_of ends.Limit = 4
end_status_of ends.Full = 4
end_status_of ends.Memory = 5
