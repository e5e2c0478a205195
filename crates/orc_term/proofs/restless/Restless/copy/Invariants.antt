use Rattle.orc_term.proofs.restless.Restless.copy.Given as goal

abbrev pub ghost-kinds_again : goal.ghost-kinds_again
ghost-kinds_again a = a.before.now.kinds
