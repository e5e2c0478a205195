use Rattle.std.proofs.Common.{◌≡◌, ◌-◌}
use Rattle.orc_ways.specs.declared.limits.TheConstants.{MOST_ALTERNATIVES}
use Rattle.orc_ways.specs.Lines.{alternative_step}
use Rattle.orc_ways.specs.Values.{histories_of}
use Rattle.orc_ways.specs.Tokens.{many}
use Rattle.orc_ways.specs.Values.{tokens_of}
use Rattle.orc_ways.proofs.Loops.{with_front}
use Rattle.orc_ways.proofs.services.alternatives.Given as goal

abbrev pub invariant-loop : goal.invariant-loop
invariant-loop l = with_front (histories_of l.alternatives.items) (many alternative_step (MOST_ALTERNATIVES - l.counter) (tokens_of l.rest)) ≡ many alternative_step MOST_ALTERNATIVES (tokens_of l.tokens)
