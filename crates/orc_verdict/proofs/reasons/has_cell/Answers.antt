use Rattle.orc_verdict.proofs.Conditions.{cell_found, cell_none}
use Rattle.orc_verdict.proofs.reasons.has_cell.Goals as goal

pub returns-in-Some : goal.returns-in-Some
returns-in-Some c x l p nu sp = cell_found x l c.args.marked.now p nu sp c.args.c c.in-Some.field-0 c.in-Some.ensures.has

pub returns-in-None : goal.returns-in-None
returns-in-None c x l p nu sp = cell_none x l c.args.marked.now p nu sp c.args.c c.in-None.ensures.none
