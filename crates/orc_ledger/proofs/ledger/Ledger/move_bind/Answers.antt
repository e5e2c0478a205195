use Rattle.std.proofs.Common.{◌≡◌, ap, refl, ◌∙◌}
use Rattle.orc_frames.specs.Doing.{taken}
use Rattle.orc_frames.specs.declared.action.Action.TheVariants.{Bind}
use Rattle.std.proofs.lemmas.Result.{err_from_is_err_and}
use Rattle.orc_ledger_spec.proofs.Advancing.{word-value, moves-by}
use Rattle.orc_ledger_spec.proofs.Claiming.{asked-by, barred-by}
use Rattle.orc_ledger.proofs.ledger.Ledger.move_bind.Goals as goal

pub returns-clause-done : goal.returns-clause-done
returns-clause-done g c =
    let l = g.P.Run.listing in
    let a = c.args in
    moves-by l a.self.now a.token a.slot _ _ _ (Bind a.cell a.value) (word-value l a.self.now a.token a.value c.requires.form ∙ ap (taken a.value) c.requires.takes) (record { done = c.in_ok-bind.ensures.done; journal = c.in_ok-bind.ensures.journal; cancelled = c.in_ok-bind.ensures.cancelled; outer = a.outer; side = c.requires.side; round = c.group_of-group.ensures }, refl)

pub returns-clause-asked : goal.returns-clause-asked
returns-clause-asked g c =
    let l = g.P.Run.listing in
    let a = c.args in
    asked-by l a.self.now a.token (c.bind.new.claim ≡ a.claim.now) (g.C.Claim.got a.claim.now c.bind.new.claim) (Bind a.cell a.value) (word-value l a.self.now a.token a.value c.requires.form ∙ ap (taken a.value) c.requires.takes) c.in_ok-bind.ensures.got

pub returns-in_err-bind-clause-why : goal.returns-in_err-bind-clause-why
returns-in_err-bind-clause-why g c =
    let l = g.P.Run.listing in
    let a = c.args in
    let p = err_from_is_err_and c.from_residual.result c.from_residual.ensures.1 in
    rw (p.1, p.2) (barred-by l a.self.now a.token (c.bind.new.claim ≡ a.claim.now) (g.C.Claim.lost a.claim.now c.bind.new.claim) _ (Bind a.cell a.value) (word-value l a.self.now a.token a.value c.requires.form ∙ ap (taken a.value) c.requires.takes) c.in_err-bind.ensures.why)
