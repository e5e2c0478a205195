use Rattle.std.proofs.Common.{sym, subst, List}
use Rattle.orc_rules.specs.Timed.{IsIn}
use Rattle.orc_indexes.specs.declared.wait_index.Note.{Note}
use Rattle.orc_indexes.proofs.wait_index.Parking.note.Goals as goal

pub returns-clause-kept : goal.returns-clause-kept
returns-clause-kept c = rw (← c.self.view_is) (λ d n i. c.write_note.ensures.kept d n (subst (λ (z : List Note). IsIn n z) (sym (c.in_ok-reach_cell.ensures.same d)) i))
