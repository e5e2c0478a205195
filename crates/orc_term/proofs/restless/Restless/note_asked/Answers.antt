use Rattle.std.proofs.Common.{◌∙◌}
use Rattle.orc_term.proofs.Asking.{noted_all, kinds_of_all}
use Rattle.orc_term.proofs.restless.Restless.note_asked.Goals as goal

pub returns-in-Ok-push_new-clause-noted : goal.returns-in-Ok-push_new-clause-noted
returns-in-Ok-push_new-clause-noted c noted =
    noted_all c.args.items.now.items c.args.self.now _ (c.len-self.ensures ∙ c.args.items.now.ok.0) c.kinds_of-self.ensures
    (λ i was. c.push_new.ensures.kept i (c.push_woken.ensures.kept i was))
    (λ i moves was. c.push_new.ensures.kept i (c.in-Ok.ensures.added i moves was))
    c.in-Ok-push_new.ensures.added
    noted

pub returns-in-Ok-push_new-clause-asked : goal.returns-in-Ok-push_new-clause-asked
returns-in-Ok-push_new-clause-asked c = kinds_of_all c.args.items.now.items _ c.kinds_of-self.ensures
