-- Nothing has been.
use Rattle.std.proofs.Common.{[]}
use Rattle.orc_log.proofs.log.Log.new.Given as goal

abbrev pub ghost-ghost_list_of : goal.ghost-ghost_list_of
ghost-ghost_list_of g a = []
