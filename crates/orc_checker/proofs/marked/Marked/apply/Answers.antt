use Rattle.orc_checker.specs.Checker.{context}
use Rattle.orc_checker.proofs.marked.Marked.apply.Goals as goal

pub returns-clause-done : goal.returns-clause-done
returns-clause-done c cancels p r sp = (c.in_ok-label.ensures (context c.args.program.now c.args.answers.now cancels) c.args.program.now p sp, c.in_ok-step.ensures.done cancels p r sp)
