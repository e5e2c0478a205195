use Rattle.std.proofs.Common.{◌≡◌, drop}
use Rattle.orc_rules.specs.Idle.{has_void}
use Rattle.orc_search.proofs.moves.has_void.Given as goal

abbrev pub invariant-loop-param : goal.invariant-loop-param
invariant-loop-param l = has_void l.params ≡ has_void (drop l.param-index l.params)
