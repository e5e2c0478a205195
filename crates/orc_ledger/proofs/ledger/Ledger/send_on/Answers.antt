use Rattle.std.proofs.Common.{◌≡◌, [], ap, ◌∙◌, refl}
use Rattle.orc_rules.specs.Nodes.{code}
use Rattle.orc_rules.specs.Term.{param}
use Rattle.orc_rules.specs.declared.param.Param.TheVariants as is
use Rattle.orc_frames.specs.Doing.{taken}
use Rattle.orc_frames.specs.Paths.{standing}
use Rattle.orc_frames.specs.declared.action.Action.TheVariants.{Send}
use Rattle.orc_ledger_spec.specs.Records.{its_env}
use Rattle.orc_ledger_spec.proofs.Advancing.{word-value, moves-by}
use Rattle.orc_tables.specs.Steps.{group_at}
use Rattle.orc_ledger.proofs.ledger.Ledger.send_on.Goals as goal

pub returns-in-Ok-clause-sent : goal.returns-in-Ok-clause-sent
returns-in-Ok-clause-sent g c _ =
    let l = g.P.Run.listing in
    let a = c.args in
    let s = a.self.now in
    let f = c.in-SeqLeft in
    let form : standing (code l) (its_env (code l) s) a.token.standing ≡ param (is.Is a.value) = ap (standing (code l) (its_env (code l) s)) c.requires.on in (
      group_at s.steps a.token.step,
      moves-by l s a.token a.slot _ _ [] (Send a.value) (word-value l s a.token a.value form ∙ ap (taken a.value) f.ensures.takes) (record { name = f.name; right = f.right; scope = f.scope; outer = f.outer; takes = f.ensures.takes; done = c.in-Ok.ensures.done; held = c.in-Ok.ensures.right }, refl),
    )
