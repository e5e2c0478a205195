use Rattle.std.proofs.Common.{◌≡◌, drop}
use Rattle.std.specs.List.{list_all}
use Rattle.orc_ways.specs.Claims.{is_called}
use Rattle.orc_ways.specs.Values.{simples_of}
use Rattle.orc_ways.proofs.claims.are_calls.Given as goal

abbrev pub invariant-loop-simple : goal.invariant-loop-simple
invariant-loop-simple l = list_all is_called (simples_of (drop l.simple-index l.simples)) ≡ list_all is_called (simples_of l.simples)
