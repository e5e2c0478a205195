-- What had been, and then the part.
use Rattle.std.proofs.Common.{◌++◌, map}
use Rattle.orc_subrun.specs.Moved.{moved}
use Rattle.orc_log.proofs.log.Log.append_known.Given as goal

abbrev pub ghost-past_with_part : goal.ghost-past_with_part
ghost-past_with_part g a = a.past.now.items ++ map (moved a.numbering) a.part.now.entries
