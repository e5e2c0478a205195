use Rattle.std.proofs.Common.{◌≡◌, ◌∙◌}
use Rattle.orc_verdict.proofs.Taken.{one_more}
use Rattle.orc_verdict.proofs.allowed.taken.Goals as goal

pub loop-entry-preserved-in-Continue-1 : goal.loop-entry-preserved-in-Continue-1
loop-entry-preserved-in-Continue-1 c =
    let same : c.first_reason.new.marked ≡ c.args.marked.now = c.in-None-first_reason.ensures.same ∙ c.loop-entry.invariant.0 in
    (same, one_more c.args.program.now c.args.answers.now c.args.marked.now c.loop-entry.marked c.loop-entry.taken.items c.push.new.self.items c.in-Some.entry c.loop-entry.invariant.0 c.in_ok-push-in-None-first_reason.ensures.items c.loop-entry.invariant.1 c.in-None-first_reason.ensures.met)
