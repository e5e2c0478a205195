use Rattle.std.proofs.Common.{ap, sym}
use Rattle.orc_rules.specs.declared.limits.TheConstants.{MOST_ARGUMENTS}
use Rattle.orc_ways.specs.Lines.{arguments_from}
use Rattle.orc_ways.specs.Values.{tokens_of}
use Rattle.orc_ways.proofs.Counting.{no_argument, last_argument, more_arguments, too_many_arguments}
use Rattle.orc_ways.proofs.mentions.some_arguments.Goals as goal

pub returns-in_default : goal.returns-in_default
returns-in_default c = sym (no_argument MOST_ARGUMENTS c.loop-before.before (tokens_of c.loop-before.rest.now) (arguments_from MOST_ARGUMENTS (tokens_of c.args.tokens.now)) c.loop-before-test.true c.in_default.ensures c.loop-before.invariant)

pub returns-then-is_last : goal.returns-then-is_last
returns-then-is_last c = sym (last_argument MOST_ARGUMENTS c.loop-before.before (tokens_of c.loop-before.rest.now) (arguments_from MOST_ARGUMENTS (tokens_of c.args.tokens.now)) c.in-Some.is_last (tokens_of c.in-Some.behind.now) c.loop-before-test.true c.in-Some.ensures c.if-is_last.true c.loop-before.invariant)

pub loop-before-preserved : goal.loop-before-preserved
loop-before-preserved c = more_arguments MOST_ARGUMENTS c.loop-before.before (tokens_of c.loop-before.rest.now) (arguments_from MOST_ARGUMENTS (tokens_of c.args.tokens.now)) c.in-Some.is_last (tokens_of c.in-Some.behind.now) (tokens_of c.same_tokens-rest-in-loop-before.result.now) c.loop-before-test.true c.in-Some.ensures c.if-is_last.false (ap tokens_of c.same_tokens-rest-in-loop-before.ensures) c.loop-before.invariant

pub returns : goal.returns
returns c = sym (too_many_arguments MOST_ARGUMENTS c.loop-before.before (tokens_of c.loop-before.rest.now) (arguments_from MOST_ARGUMENTS (tokens_of c.args.tokens.now)) c.loop-before-test.false c.loop-before.invariant)
