use Rattle.orc_rules.specs.Nodes.{code, definitions}
use Rattle.orc_ledger_spec.specs.Records.{its_path}
use Rattle.orc_ledger_spec.specs.Doing.{term_of}
use Rattle.orc_ledger.proofs.Reaching.{rule_moves}
use Rattle.orc_ledger.proofs.ledger.Ledger.uses_rule.Goals as goal

pub loop-inwards-init : goal.loop-inwards-init
loop-inwards-init g c = λ h. h

pub loop-inwards-preserved : goal.loop-inwards-preserved
loop-inwards-preserved g c = λ h. c.loop-inwards.invariant (c.in-Some.ensures h)

pub returns-clause-rule : goal.returns-clause-rule
returns-clause-rule g c h =
    let l = g.P.Run.listing in
    let s = c.args.self.now in
    let t = c.loop-inwards.inner in
    c.loop-inwards.invariant (rule_moves (definitions l) (its_path (code l) s t.step) (term_of (code l) s t) (c.is_at_rule.ensures h))
