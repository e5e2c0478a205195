use Rattle.std.proofs.Common.{◌∙◌, sym}
use Rattle.orc_rules.specs.Marked.{erase}
use Rattle.orc_verdict.proofs.verdict.state_of.Goals as goal

pub returns-then-has_halted-clause-state : goal.returns-then-has_halted-clause-state
returns-then-has_halted-clause-state c x p own sp = (c.tests_are_right.ensures.halted (erase p.marked)).1 (sym (c.has_halted.ensures x c.args.program.now p sp) ∙ c.if-has_halted.true)

pub returns-clause-state : goal.returns-clause-state
returns-clause-state c x p own sp = (
  λ halted. absurd (cc (sym ((c.tests_are_right.ensures.halted (erase p.marked)).0 halted) ∙ sym (c.has_halted.ensures x c.args.program.now p sp) ∙ c.if-has_halted.false)),
  λ quiet. absurd (cc (sym ((c.is_quiet.ensures.quiet x p own sp).1 quiet) ∙ c.if-is_quiet.false)),
)
