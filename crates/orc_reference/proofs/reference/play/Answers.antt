use Rattle.orc_reference.proofs.reference.play.Goals as goal

pub returns : goal.returns
returns c = c.played.ensures.played _ _ _ (c.in_ok-end.ensures (c.in-Ok.ensures c.args.answers.now))
