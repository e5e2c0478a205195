use Rattle.std.proofs.Common.{◌≡◌}
use Rattle.orc_rules.specs.Nodes.{code}
use Rattle.orc_frames.specs.declared.action.Action.TheVariants.{Prune}
use Rattle.std.proofs.lemmas.Result.{err_from_is_err_and}
use Rattle.orc_ledger_spec.proofs.Advancing.{word-prune, moves-by}
use Rattle.orc_ledger_spec.proofs.Claiming.{asked-by, barred-by}
use Rattle.orc_ledger.proofs.ledger.Ledger.move_prune.Goals as goal

pub returns-clause-done : goal.returns-clause-done
returns-clause-done g c ks =
    let l = g.P.Run.listing in
    let a = c.args in
    moves-by l a.self.now a.token a.slot _ _ ks Prune (word-prune l a.self.now a.token a.scope (code l a.left) a.name (code l a.right) c.requires.at) (record { scope = a.scope; left = a.left; name = a.name; right = a.right; number = c.in_ok-right_slot.ensures.done.0; at = c.requires.at; free = c.in_ok-right_slot.ensures.done.1; done = c.in_ok-right_slot.ensures.done.2; held = c.in_ok-right_slot.ensures.left; right_held = c.in_ok-right_slot.ensures.right })

pub returns-clause-asked : goal.returns-clause-asked
returns-clause-asked g c =
    let l = g.P.Run.listing in
    let a = c.args in
    asked-by l a.self.now a.token (c.prune.new.claim ≡ a.claim.now) (g.C.Claim.got a.claim.now c.prune.new.claim) Prune (word-prune l a.self.now a.token a.scope (code l a.left) a.name (code l a.right) c.requires.at) c.in_ok-right_slot.ensures.got

pub returns-in_err-right_slot-clause-why : goal.returns-in_err-right_slot-clause-why
returns-in_err-right_slot-clause-why g c =
    let l = g.P.Run.listing in
    let a = c.args in
    let p = err_from_is_err_and c.from_residual.result c.from_residual.ensures.1 in
    rw (p.1, p.2) (barred-by l a.self.now a.token (c.prune.new.claim ≡ a.claim.now) (g.C.Claim.lost a.claim.now c.prune.new.claim) _ Prune (word-prune l a.self.now a.token a.scope (code l a.left) a.name (code l a.right) c.requires.at) c.in_err-right_slot.ensures.why)
