use Rattle.std.proofs.Common.{◌≡◌, ◌-◌, length}
use Rattle.orc_ways.specs.Claims.{literal_step}
use Rattle.orc_ways.specs.Tokens.{many}
use Rattle.orc_ways.specs.Values.{tokens_of}
use Rattle.orc_ways.proofs.Loops.{with_front}
use Rattle.orc_ways.proofs.claims.literals.Given as goal

abbrev pub invariant-loop : goal.invariant-loop
invariant-loop l = with_front l.values.items (many literal_step (length (tokens_of l.tokens) - l.counter) (tokens_of l.rest)) ≡ many literal_step (length (tokens_of l.tokens)) (tokens_of l.tokens)
