use Rattle.std.proofs.Common.{ap}
use Rattle.orc_rules.specs.declared.limits.TheConstants.{MOST_ANSWERS}
use Rattle.orc_ways.specs.Lines.{reply_step}
use Rattle.orc_ways.specs.Tokens.{many}
use Rattle.orc_ways.specs.Values.{tokens_of}
use Rattle.orc_ways.proofs.Loops.{no_item, ended, goes_on, too_many}
use Rattle.orc_ways.proofs.services.history.Goals as goal

pub returns-in_default : goal.returns-in_default
returns-in_default c = no_item reply_step c.loop.replies.items MOST_ANSWERS c.loop.counter (tokens_of c.loop.rest.now) (many reply_step MOST_ANSWERS (tokens_of c.args.tokens.now)) c.loop-test.true c.in_default.ensures c.loop.invariant

pub returns-then-is_last : goal.returns-then-is_last
returns-then-is_last c = ended reply_step c.loop.replies.items MOST_ANSWERS c.loop.counter (tokens_of c.loop.rest.now) (many reply_step MOST_ANSWERS (tokens_of c.args.tokens.now)) c.in-Some.reply c.in-Some.is_last (tokens_of c.in-Some.behind.now) (tokens_of c.same_tokens-rest-in-loop.result.now) c.push.new.self.items c.loop-test.true c.in-Some.ensures c.if-is_last.true c.in_ok-push.ensures.items (ap tokens_of c.same_tokens-rest-in-loop.ensures) c.loop.invariant

pub loop-preserved : goal.loop-preserved
loop-preserved c = goes_on reply_step c.loop.replies.items MOST_ANSWERS c.loop.counter (tokens_of c.loop.rest.now) (many reply_step MOST_ANSWERS (tokens_of c.args.tokens.now)) c.in-Some.reply c.in-Some.is_last (tokens_of c.in-Some.behind.now) (tokens_of c.same_tokens-rest-in-loop.result.now) c.push.new.self.items c.loop-test.true c.in-Some.ensures c.if-is_last.false c.in_ok-push.ensures.items (ap tokens_of c.same_tokens-rest-in-loop.ensures) c.loop.invariant

pub returns : goal.returns
returns c = too_many reply_step c.loop.replies.items MOST_ANSWERS c.loop.counter (tokens_of c.loop.rest.now) (many reply_step MOST_ANSWERS (tokens_of c.args.tokens.now)) c.loop-test.false c.loop.invariant
