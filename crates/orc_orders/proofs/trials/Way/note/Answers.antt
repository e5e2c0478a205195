use Rattle.std.proofs.Common.{◌+◌, ◌∙◌, ap, cond, map}
use Rattle.std.proofs.lemmas.Result.{err_from_is_err_and}
use Rattle.orc_claims.specs.Verdicts.{judged}
use Rattle.orc_tally.specs.Told.{noted_all}
use Rattle.orc_orders.specs.Trials.{is_running}
use Rattle.orc_orders.proofs.Telling.{is_noted}
use Rattle.orc_orders.proofs.trials.Way.note.Goals as goal

pub returns-in_err-run-clause-fault : goal.returns-in_err-run-clause-fault
returns-in_err-run-clause-fault c = λ source script.
    let p = err_from_is_err_and c.from_residual.result c.from_residual.ensures.1 in
    rw (p.1, p.2) (c.in_err-run.ensures.fault source script)

pub returns-clause-noted : goal.returns-clause-noted
returns-clause-noted c =
    let its = c.args.self.now in
    let w = c.args.told.now in
    let now = c.in_ok-run.run'.played.summary.now in
    let told = c.in_ok-noted.ensures ∙ (λ i. noted_all c.args.way c.args.order (c.as_slice.ensures.value i) ((c.as_slice-2.ensures.value ∙ c.in_ok-judged.ensures.judged) i)) ∙ (λ i. noted_all c.args.way c.args.order w.told.items (map (λ k. judged k (c.as_slice-happenings.ensures i) (c.state_at-state.ensures i) now) its.trials.now.claims.now)) in
    let cut = ap (λ n. w.cut + n) (c.cut_at.ensures.value ∙ ap (λ s. cond (is_running s) 1 0) c.state_at-state.ensures) in
    is_noted its.loaded.program its.loaded.answers its.sites.items its.trials.now.claims.now its.trials.now.limit c.args.way c.args.order w _ c.in_ok-run.run' c.in_ok-run.ensures.made told cut
