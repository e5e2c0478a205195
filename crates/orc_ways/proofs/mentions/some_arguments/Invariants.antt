use Rattle.std.proofs.Common.{◌≡◌, ◌-◌}
use Rattle.orc_ways.proofs.Counting.{with_before}
use Rattle.orc_rules.specs.declared.limits.TheConstants.{MOST_ARGUMENTS}
use Rattle.orc_ways.specs.Lines.{arguments_from}
use Rattle.orc_ways.specs.Values.{tokens_of}
use Rattle.orc_ways.proofs.mentions.some_arguments.Given as goal

abbrev pub invariant-loop-before : goal.invariant-loop-before
invariant-loop-before l = with_before l.before (arguments_from (MOST_ARGUMENTS - l.before) (tokens_of l.rest)) ≡ arguments_from MOST_ARGUMENTS (tokens_of l.tokens)
