use Rattle.std.proofs.Common.{◌≡◌, ◌-◌, length}
use Rattle.orc_ways.specs.Claims.{event_step}
use Rattle.orc_ways.specs.Values.{sites_of, simples_of}
use Rattle.orc_ways.specs.Tokens.{many}
use Rattle.orc_ways.specs.Values.{tokens_of}
use Rattle.orc_ways.proofs.Loops.{with_front}
use Rattle.orc_ways.proofs.scope.Scope.event.Given as goal

abbrev pub invariant-loop : goal.invariant-loop
invariant-loop l = with_front (simples_of l.alternatives.items) (many (event_step (sites_of l.self.sites.now) (tokens_of l.self.line.now)) (length (tokens_of l.tokens) - l.counter) (tokens_of l.rest)) ≡ many (event_step (sites_of l.self.sites.now) (tokens_of l.self.line.now)) (length (tokens_of l.tokens)) (tokens_of l.tokens)
