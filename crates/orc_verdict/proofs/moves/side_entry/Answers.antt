use Rattle.orc_verdict.proofs.Sides.{left_over, right_over}
use Rattle.orc_verdict.proofs.moves.side_entry.Goals as goal

pub returns-else-not-branch : goal.returns-else-not-branch
returns-else-not-branch c = record { over = λ x l p spells. right_over p c.in-Right.cell _ c.if-not-branch.false (c.in_ok-right_has_halted-in-Right.ensures x l p spells) }

pub returns-else-not-branch-2 : goal.returns-else-not-branch-2
returns-else-not-branch-2 c = record { over = λ x l p spells. left_over p c.in-Left.mark 0 _ c.if-not-branch-2.false (c.in_ok-left_has_halted-in-Left.ensures x l p spells) }
