-- The first of what had been.
use Rattle.std.proofs.Common.{take}
use Rattle.orc_log.proofs.log.Log.truncate.Given as goal

abbrev pub ghost-first_of_past : goal.ghost-first_of_past
ghost-first_of_past g a = take a.len a.past.now.items
