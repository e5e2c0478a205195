use Rattle.std.proofs.Common.{◌≡◌, refl, ap, ◌∙◌}
use Rattle.orc_frames.specs.Doing.{taken}
use Rattle.orc_frames.specs.declared.action.Action.TheVariants.{Publish, Send}
use Rattle.orc_ledger_spec.proofs.Advancing.{word-value}
use Rattle.orc_ledger_spec.proofs.Claiming.{asked-none}
use Rattle.orc_ledger.proofs.ledger.Ledger.move_value.Goals as goal

pub returns-in-Whole-clause-asked : goal.returns-in-Whole-clause-asked
returns-in-Whole-clause-asked g c =
    let l = g.P.Run.listing in
    let a = c.args in
    asked-none l a.self.now a.token (a.claim.now ≡ a.claim.now) (g.C.Claim.got a.claim.now a.claim.now) c.move_publish.result (Publish a.value) (word-value l a.self.now a.token a.value c.requires.form ∙ ap (taken a.value) c.in-Whole.ensures.takes) refl

pub returns-in-SeqLeft-clause-asked : goal.returns-in-SeqLeft-clause-asked
returns-in-SeqLeft-clause-asked g c =
    let l = g.P.Run.listing in
    let a = c.args in
    asked-none l a.self.now a.token (a.claim.now ≡ a.claim.now) (g.C.Claim.got a.claim.now a.claim.now) c.move_send.result (Send a.value) (word-value l a.self.now a.token a.value c.requires.form ∙ ap (taken a.value) c.in-SeqLeft.ensures.takes) refl
