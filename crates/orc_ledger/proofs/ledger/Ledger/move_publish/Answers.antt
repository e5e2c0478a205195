use Rattle.std.proofs.Common.{ap, ◌∙◌}
use Rattle.orc_frames.specs.Doing.{taken}
use Rattle.orc_frames.specs.declared.action.Action.TheVariants.{Publish}
use Rattle.std.proofs.lemmas.Result.{err_from_is_err_and}
use Rattle.orc_ledger_spec.proofs.Advancing.{word-value, moves-by, hindered-by}
use Rattle.orc_ledger.proofs.ledger.Ledger.move_publish.Goals as goal

pub returns-clause-done : goal.returns-clause-done
returns-clause-done g c ks =
    let l = g.P.Run.listing in
    let a = c.args in
    moves-by l a.self.now a.token a.slot _ _ ks (Publish a.value) (word-value l a.self.now a.token a.value c.requires.form ∙ ap (taken a.value) c.requires.takes) (c.in_ok-publish.ensures.done, c.group_of-group.ensures)

pub returns-in_err-publish-clause-why : goal.returns-in_err-publish-clause-why
returns-in_err-publish-clause-why g c =
    let l = g.P.Run.listing in
    let a = c.args in
    let p = err_from_is_err_and c.from_residual.result c.from_residual.ensures.1 in
    rw (p.1, p.2) (hindered-by l a.self.now a.token _ (Publish a.value) (word-value l a.self.now a.token a.value c.requires.form ∙ ap (taken a.value) c.requires.takes) c.in_err-publish.ensures.why)
