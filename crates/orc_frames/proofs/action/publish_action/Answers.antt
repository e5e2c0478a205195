use Rattle.std.proofs.Common.{ap, sym, ◌∙◌, arith}
use Rattle.orc_frames.specs.Spelling.{seen}
use Rattle.orc_frames.specs.Paths.{path}
use Rattle.orc_frames.specs.Doing.{taken}
use Rattle.orc_frames.proofs.Forms.{path-past}
use Rattle.orc_frames.proofs.Meaning.{taken-taker}
use Rattle.orc_frames.proofs.action.publish_action.Goals as goal

pub returns-then-from-len : goal.returns-then-from-len
returns-then-from-len c code env left = sym (ap (λ p. taken c.args.value (seen left p)) (path-past code env c.args.steps.now.items c.args.from (omega (arith, c.if-from-len.true, c.len.ensures.count))))

pub returns-in-Whole : goal.returns-in-Whole
returns-in-Whole c code env left = sym (taken-taker c.args.value (seen left (path code env c.args.steps.now.items c.args.from)) ∙ ap (taken c.args.value) (c.in-Whole.ensures.takes code env left))

pub returns-in-SeqLeft : goal.returns-in-SeqLeft
returns-in-SeqLeft c code env left = sym (taken-taker c.args.value (seen left (path code env c.args.steps.now.items c.args.from)) ∙ ap (taken c.args.value) (c.in-SeqLeft.ensures.takes code env left))

pub returns-in-PruneRight : goal.returns-in-PruneRight
returns-in-PruneRight c code env left = sym (taken-taker c.args.value (seen left (path code env c.args.steps.now.items c.args.from)) ∙ ap (taken c.args.value) (c.in-PruneRight.ensures.takes code env left))
