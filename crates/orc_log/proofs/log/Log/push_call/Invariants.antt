-- What had been, and then the call.
use Rattle.std.proofs.Common.{◌++◌, ◌∷◌, []}
use Rattle.orc_rules.specs.declared.entry.Entry.TheVariants.{Call}
use Rattle.orc_log.proofs.log.Log.push_call.Given as goal

abbrev pub ghost-past_with_call : goal.ghost-past_with_call
ghost-past_with_call g a = a.past.now.items ++ Call a.token a.call a.site a.args.now ∷ []
