use Rattle.std.proofs.Common.{◌≡◌, ◌-◌}
use Rattle.orc_rules.specs.declared.limits.TheConstants.{MOST_ARGUMENTS}
use Rattle.orc_ways.specs.Claims.{slot_step}
use Rattle.orc_ways.specs.Tokens.{many}
use Rattle.orc_ways.specs.Values.{tokens_of}
use Rattle.orc_ways.proofs.Loops.{with_front}
use Rattle.orc_ways.proofs.scope.Scope.some_slots.Given as goal

abbrev pub invariant-loop : goal.invariant-loop
invariant-loop l = with_front l.slots.items (many (slot_step (tokens_of l.self.line.now)) (MOST_ARGUMENTS - l.counter) (tokens_of l.rest)) ≡ many (slot_step (tokens_of l.self.line.now)) MOST_ARGUMENTS (tokens_of l.tokens)
