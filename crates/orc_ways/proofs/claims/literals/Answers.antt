use Rattle.std.proofs.Common.{ap, arith, length}
use Rattle.std.proofs.lemmas.List.{length-map}
use Rattle.orc_ways.specs.Claims.{literal_step}
use Rattle.orc_ways.specs.Tokens.{many}
use Rattle.orc_ways.specs.Values.{token_of, tokens_of}
use Rattle.orc_ways.proofs.Loops.{no_item, ended, goes_on, too_many}
use Rattle.orc_ways.proofs.claims.literals.Goals as goal

pub returns-in_default : goal.returns-in_default
returns-in_default c = no_item literal_step c.loop.values.items (length (tokens_of c.args.tokens.now)) c.loop.counter (tokens_of c.loop.rest.now) (many literal_step (length (tokens_of c.args.tokens.now)) (tokens_of c.args.tokens.now)) (omega (arith, length-map c.args.tokens.now token_of)) c.in_default.ensures c.loop.invariant

pub returns-then-is_last : goal.returns-then-is_last
returns-then-is_last c = ended literal_step c.loop.values.items (length (tokens_of c.args.tokens.now)) c.loop.counter (tokens_of c.loop.rest.now) (many literal_step (length (tokens_of c.args.tokens.now)) (tokens_of c.args.tokens.now)) c.in-Some.value c.in-Some.is_last (tokens_of c.in-Some.behind.now) (tokens_of c.same_tokens-rest-in-loop.result.now) c.push.new.self.items (omega (arith, length-map c.args.tokens.now token_of)) c.in-Some.ensures c.if-is_last.true c.in_ok-push.ensures.items (ap tokens_of c.same_tokens-rest-in-loop.ensures) c.loop.invariant

pub loop-preserved : goal.loop-preserved
loop-preserved c = goes_on literal_step c.loop.values.items (length (tokens_of c.args.tokens.now)) c.loop.counter (tokens_of c.loop.rest.now) (many literal_step (length (tokens_of c.args.tokens.now)) (tokens_of c.args.tokens.now)) c.in-Some.value c.in-Some.is_last (tokens_of c.in-Some.behind.now) (tokens_of c.same_tokens-rest-in-loop.result.now) c.push.new.self.items (omega (arith, length-map c.args.tokens.now token_of)) c.in-Some.ensures c.if-is_last.false c.in_ok-push.ensures.items (ap tokens_of c.same_tokens-rest-in-loop.ensures) c.loop.invariant

pub returns : goal.returns
returns c = too_many literal_step c.loop.values.items (length (tokens_of c.args.tokens.now)) c.loop.counter (tokens_of c.loop.rest.now) (many literal_step (length (tokens_of c.args.tokens.now)) (tokens_of c.args.tokens.now)) (omega (arith, length-map c.args.tokens.now token_of)) c.loop.invariant
