use Rattle.std.proofs.Common.{◌≡◌, drop}
use Rattle.orc_search.specs.Asked.{times_of}
use Rattle.orc_search.proofs.made.times_of.Given as goal

abbrev pub invariant-loop-calls : goal.invariant-loop-calls
invariant-loop-calls l = times_of l.made l.site l.args ≡ times_of (drop l.calls-index l.made) l.site l.args
