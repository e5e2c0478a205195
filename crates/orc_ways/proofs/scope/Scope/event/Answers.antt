use Rattle.std.proofs.Common.{[], ◌∷◌, ◌++◌, ◌≡◌, ◌∙◌, ap, arith, length}
use Rattle.std.proofs.lemmas.List.{length-map, map-append}
use Rattle.orc_ways.specs.Claims.{event_step}
use Rattle.orc_ways.specs.Values.{simple_of, simples_of, sites_of, token_of, tokens_of}
use Rattle.orc_ways.specs.Tokens.{many}
use Rattle.orc_ways.proofs.Loops.{no_item, ended, goes_on, too_many}
use Rattle.orc_ways.proofs.scope.Scope.event.Goals as goal

pub returns-in_default : goal.returns-in_default
returns-in_default c =
    let h = rw c.in_default.is at c.in_ok-simple.ensures in
    no_item (event_step (sites_of c.args.self.sites.now) (tokens_of c.args.self.line.now)) (simples_of c.loop.alternatives.items) (length (tokens_of c.args.tokens.now)) c.loop.counter (tokens_of c.loop.rest.now) (many (event_step (sites_of c.args.self.sites.now) (tokens_of c.args.self.line.now)) (length (tokens_of c.args.tokens.now)) (tokens_of c.args.tokens.now)) (omega (arith, length-map c.args.tokens.now token_of)) h c.loop.invariant

pub returns-then-is_last : goal.returns-then-is_last
returns-then-is_last c =
    let h = rw c.in-Some.is at c.in_ok-simple.ensures in
    let items : simples_of c.push.new.self.items ≡ simples_of c.loop.alternatives.items ++ simple_of c.in-Some.simple ∷ [] = ap simples_of c.in_ok-push.ensures.items ∙ map-append simple_of c.loop.alternatives.items (c.in-Some.simple ∷ []) in
    ended (event_step (sites_of c.args.self.sites.now) (tokens_of c.args.self.line.now)) (simples_of c.loop.alternatives.items) (length (tokens_of c.args.tokens.now)) c.loop.counter (tokens_of c.loop.rest.now) (many (event_step (sites_of c.args.self.sites.now) (tokens_of c.args.self.line.now)) (length (tokens_of c.args.tokens.now)) (tokens_of c.args.tokens.now)) (simple_of c.in-Some.simple) c.in-Some.is_last (tokens_of c.in-Some.behind.now) (tokens_of c.same_tokens-rest-in-loop.result.now) (simples_of c.push.new.self.items) (omega (arith, length-map c.args.tokens.now token_of)) h c.if-is_last.true items (ap tokens_of c.same_tokens-rest-in-loop.ensures) c.loop.invariant

pub loop-preserved : goal.loop-preserved
loop-preserved c =
    let h = rw c.in-Some.is at c.in_ok-simple.ensures in
    let items : simples_of c.push.new.self.items ≡ simples_of c.loop.alternatives.items ++ simple_of c.in-Some.simple ∷ [] = ap simples_of c.in_ok-push.ensures.items ∙ map-append simple_of c.loop.alternatives.items (c.in-Some.simple ∷ []) in
    goes_on (event_step (sites_of c.args.self.sites.now) (tokens_of c.args.self.line.now)) (simples_of c.loop.alternatives.items) (length (tokens_of c.args.tokens.now)) c.loop.counter (tokens_of c.loop.rest.now) (many (event_step (sites_of c.args.self.sites.now) (tokens_of c.args.self.line.now)) (length (tokens_of c.args.tokens.now)) (tokens_of c.args.tokens.now)) (simple_of c.in-Some.simple) c.in-Some.is_last (tokens_of c.in-Some.behind.now) (tokens_of c.same_tokens-rest-in-loop.result.now) (simples_of c.push.new.self.items) (omega (arith, length-map c.args.tokens.now token_of)) h c.if-is_last.false items (ap tokens_of c.same_tokens-rest-in-loop.ensures) c.loop.invariant

pub returns : goal.returns
returns c = too_many (event_step (sites_of c.args.self.sites.now) (tokens_of c.args.self.line.now)) (simples_of c.loop.alternatives.items) (length (tokens_of c.args.tokens.now)) c.loop.counter (tokens_of c.loop.rest.now) (many (event_step (sites_of c.args.self.sites.now) (tokens_of c.args.self.line.now)) (length (tokens_of c.args.tokens.now)) (tokens_of c.args.tokens.now)) (omega (arith, length-map c.args.tokens.now token_of)) c.loop.invariant
