-- Of one claim more something is said.
use Rattle.std.proofs.Common.{◌∙◌, ◌+◌, ap, arith, length, subst, sym}
use Rattle.std.proofs.lemmas.List.{length_push}
use Rattle.orc_run.specs.Whole.{AreAfter}
use Rattle.orc_run.proofs.Schedules.{one_said}
use Rattle.orc_run.proofs.Testing.{stands_there}
use Rattle.orc_run.proofs.searched.Searcher.say_of_claims.Goals as goal

pub loop-claim-preserved : goal.loop-claim-preserved
loop-claim-preserved c =
    let me = c.args.self.now in
    let script = c.args.way.now.script.now in
    let before = c.args.before.items in
    let after = c.loop-claim.after.items in
    let more = c.in_ok-push.ensures.items in
    let was = stands_there before c.loop-claim.claim c.index.result.now (omega (arith, c.loop-claim-test.true, c.len-claim-end.ensures)) c.index.ensures in (
      subst (AreAfter me c.args.place script before) (sym more) (one_said me c.args.place script before after c.loop-claim.claim c.index.result.now c.in_ok-said.said c.loop-claim.invariant.1 was c.loop-claim.invariant.0 c.in_ok-said.ensures.said),
      ap (λ n. n + 1) c.loop-claim.invariant.1 ∙ sym (length_push after c.in_ok-said.said) ∙ ap length (sym more),
      c.in_ok-said.ensures.ready,
    )

pub say-requires-clause-ready : goal.say-requires-clause-ready
say-requires-clause-ready c = c.loop-claim.invariant.2
