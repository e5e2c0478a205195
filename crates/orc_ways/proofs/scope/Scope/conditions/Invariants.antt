use Rattle.std.proofs.Common.{◌≡◌, ◌-◌, length}
use Rattle.orc_ways.specs.Claims.{conditions_at}
use Rattle.orc_ways.specs.Values.{tokens_of, sites_of, conditions_of}
use Rattle.orc_ways.proofs.Loops.{with_front}
use Rattle.orc_ways.proofs.scope.Scope.conditions.Given as goal

abbrev pub invariant-loop : goal.invariant-loop
invariant-loop l = with_front (conditions_of l.conditions.items) (conditions_at (sites_of l.self.sites.now) (tokens_of l.self.line.now) (length (tokens_of l.tokens) - l.counter) (tokens_of l.rest)) ≡ conditions_at (sites_of l.self.sites.now) (tokens_of l.self.line.now) (length (tokens_of l.tokens)) (tokens_of l.tokens)
