-- So many cells have been added, and there is room for the others.
use Rattle.std.proofs.Common.{◌≡◌, ◌≤◌, ◌+◌, ◌++◌, length}
use Rattle.std.specs.Prelude.{vec_len, vec_capacity}
use Rattle.orc_ledger_spec.specs.Parts.{cells_from}
use Rattle.orc_ledger.proofs.sub_runs.add_cells.Given as goal

abbrev pub invariant-loop-cell : goal.invariant-loop-cell
invariant-loop-cell l =
    (l.cells.items ≡ l.fn.cells.items ++ cells_from (length l.fn.cells.items) l._cell) ×
    (vec_len l.cells + l.fn.count ≤ vec_capacity l.cells + l._cell)
