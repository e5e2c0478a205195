use Rattle.orc_frames.specs.declared.action.Action.TheVariants.{Halt}
use Rattle.std.proofs.lemmas.Result.{err_from_is_err_and}
use Rattle.orc_ledger_spec.proofs.Advancing.{word-stop, moves-by, hindered-by}
use Rattle.orc_ledger.proofs.ledger.Ledger.move_end.Goals as goal

pub returns-clause-done : goal.returns-clause-done
returns-clause-done g c ks =
    let l = g.P.Run.listing in
    let a = c.args in
    moves-by l a.self.now a.token a.slot _ _ ks Halt (word-stop l a.self.now a.token c.requires.at.0 c.requires.at.1) (c.in_ok-end.ensures.done, c.group_of-group.ensures)

pub returns-in_err-end-clause-why : goal.returns-in_err-end-clause-why
returns-in_err-end-clause-why g c =
    let l = g.P.Run.listing in
    let a = c.args in
    let p = err_from_is_err_and c.from_residual.result c.from_residual.ensures.1 in
    rw (p.1, p.2) (hindered-by l a.self.now a.token _ Halt (word-stop l a.self.now a.token c.requires.at.0 c.requires.at.1) c.in_err-end.ensures.why)
