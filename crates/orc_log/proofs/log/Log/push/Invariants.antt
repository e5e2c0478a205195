-- What had been, and then the entry.
use Rattle.std.proofs.Common.{◌++◌, ◌∷◌, []}
use Rattle.orc_log.proofs.log.Log.push.Given as goal

abbrev pub ghost-past_with_entry : goal.ghost-past_with_entry
ghost-past_with_entry g a = a.past.now.items ++ a.entry.now ∷ []
