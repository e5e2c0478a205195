use Rattle.std.proofs.Common.{subst, arith}
use Rattle.orc_verdict.specs.Finding.{HasNone}
use Rattle.orc_verdict.proofs.Parts.{all_lack, none_next}
use Rattle.orc_verdict.proofs.finder.find.Goals as goal

pub returns-clause-none : goal.returns-clause-none
returns-clause-none c = subst (λ z. HasNone z c.args.name) c.nodes-nodes.ensures (all_lack c.nodes-nodes.result.now c.args.name c.loop-at.at (omega arith) c.loop-at.invariant)

pub loop-at-init : goal.loop-at-init
loop-at-init c i lt = absurd (omega (arith, lt))

pub loop-at-preserved : goal.loop-at-preserved
loop-at-preserved c = none_next c.nodes-nodes.result.now c.args.name c.loop-at.at c.loop-at.invariant c.in-None.ensures.lacks
