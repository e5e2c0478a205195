use Rattle.orc_term.proofs.asked.kinds_again.Given as goal

abbrev pub ghost-pick_kinds : goal.ghost-pick_kinds
ghost-pick_kinds g a = g.kinds
