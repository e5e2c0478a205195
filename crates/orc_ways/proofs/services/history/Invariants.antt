use Rattle.std.proofs.Common.{◌≡◌, ◌-◌}
use Rattle.orc_rules.specs.declared.limits.TheConstants.{MOST_ANSWERS}
use Rattle.orc_ways.specs.Lines.{reply_step}
use Rattle.orc_ways.specs.Tokens.{many}
use Rattle.orc_ways.specs.Values.{tokens_of}
use Rattle.orc_ways.proofs.Loops.{with_front}
use Rattle.orc_ways.proofs.services.history.Given as goal

abbrev pub invariant-loop : goal.invariant-loop
invariant-loop l = with_front l.replies.items (many reply_step (MOST_ANSWERS - l.counter) (tokens_of l.rest)) ≡ many reply_step MOST_ANSWERS (tokens_of l.tokens)
