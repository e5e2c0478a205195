use Rattle.std.proofs.Common.{sym, ◌∙◌}
use Rattle.orc_frames.proofs.Growth.{left-told}
use Rattle.orc_frames.proofs.left.published_at.Goals as goal

pub returns-then-enters_left_of-clause-left : goal.returns-then-enters_left_of-clause-left
returns-then-enters_left_of-clause-left c = sym (left-told c.args.number c.args.steps.now.items c.args.step c.in_ok-step.step (sym c.in_ok-step.ensures) (sym c.enters_left_of.ensures ∙ c.if-enters_left_of.true) c.requires)
