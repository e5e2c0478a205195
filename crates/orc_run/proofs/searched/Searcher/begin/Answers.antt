-- One claim more was asked.
use Rattle.std.proofs.Common.{◌∙◌, ◌+◌, ap, length, subst, sym}
use Rattle.std.proofs.lemmas.List.{length_push}
use Rattle.orc_run.specs.Whole.{AreSoFar}
use Rattle.orc_run.proofs.Schedules.{one_begun}
use Rattle.orc_run.proofs.searched.Searcher.begin.Goals as goal

pub loop-claim-preserved : goal.loop-claim-preserved
loop-claim-preserved c =
    let all = c.loop-claim.all.items in
    let more = c.in_ok-push.ensures.items in (
      subst (AreSoFar c.args.self.now 0 0) (sym more) (one_begun c.args.self.now all c.loop-claim.claim c.begun.result c.loop-claim.invariant.1 c.loop-claim.invariant.0 c.begun.ensures),
      ap (λ n. n + 1) c.loop-claim.invariant.1 ∙ sym (length_push all c.begun.result) ∙ ap length (sym more),
    )
