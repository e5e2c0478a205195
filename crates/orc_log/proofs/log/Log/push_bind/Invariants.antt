-- What had been, then the bind, and then its cancels.
use Rattle.std.proofs.Common.{◌++◌, ◌∷◌, map}
use Rattle.orc_rules.specs.declared.entry.Entry.TheVariants.{Bind, Cancel}
use Rattle.orc_log.proofs.log.Log.push_bind.Given as goal

abbrev pub ghost-past_with_bind : goal.ghost-past_with_bind
ghost-past_with_bind g a = a.past.now.items ++ Bind a.token a.cell a.value ∷ map Cancel a.cancelled.now
