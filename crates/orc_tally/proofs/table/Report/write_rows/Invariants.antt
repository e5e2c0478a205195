-- What is left gives the rest of the lines.
use Rattle.std.proofs.Common.{◌≡◌, ◌++◌, length, map}
use Rattle.orc_tally.specs.Table.{lines}
use Rattle.orc_tally.proofs.table.Report.write_rows.Given as goal

abbrev pub decreases-loop-rest : goal.decreases-loop-rest
decreases-loop-rest l = length l.rest

abbrev pub invariant-loop-rest : goal.invariant-loop-rest
invariant-loop-rest l = l.text.items ++ lines l.fn.self (map (λ d. d.items) l.shown) l.rest ≡ l.fn.text.items ++ lines l.fn.self (map (λ d. d.items) l.fn.details) l.fn.rows
