-- The items are those that the caller picks.
use Rattle.orc_log.proofs.log.past_with_call.Given as goal

abbrev pub ghost-ghost_list_of : goal.ghost-ghost_list_of
ghost-ghost_list_of g a = g.items
