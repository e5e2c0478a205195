use Rattle.std.proofs.Common.{[], ◌∷◌, ◌++◌, ◌≡◌, ◌∙◌, ap}
use Rattle.std.proofs.lemmas.List.{map-append}
use Rattle.orc_ways.specs.declared.limits.TheConstants.{MOST_ALTERNATIVES}
use Rattle.orc_ways.specs.Lines.{alternative_step}
use Rattle.orc_ways.specs.Values.{histories_of, tokens_of}
use Rattle.orc_ways.specs.Tokens.{many}
use Rattle.orc_ways.proofs.Loops.{no_item, ended, goes_on, too_many}
use Rattle.orc_ways.proofs.services.alternatives.Goals as goal

pub returns-in_default : goal.returns-in_default
returns-in_default c =
    let h = rw c.in_default.is at c.in_ok-replies.ensures in
    no_item alternative_step (histories_of c.loop.alternatives.items) MOST_ALTERNATIVES c.loop.counter (tokens_of c.loop.rest.now) (many alternative_step MOST_ALTERNATIVES (tokens_of c.args.tokens.now)) c.loop-test.true h c.loop.invariant

pub returns-then-is_last : goal.returns-then-is_last
returns-then-is_last c =
    let h = rw c.in-Some.is at c.in_ok-replies.ensures in
    let items : histories_of c.push.new.self.items ≡ histories_of c.loop.alternatives.items ++ c.in-Some.replies.items ∷ [] = ap histories_of c.in_ok-push.ensures.items ∙ map-append (λ h. h.items) c.loop.alternatives.items (c.in-Some.replies ∷ []) in
    ended alternative_step (histories_of c.loop.alternatives.items) MOST_ALTERNATIVES c.loop.counter (tokens_of c.loop.rest.now) (many alternative_step MOST_ALTERNATIVES (tokens_of c.args.tokens.now)) c.in-Some.replies.items c.in-Some.is_last (tokens_of c.in-Some.behind.now) (tokens_of c.same_tokens-rest-in-loop.result.now) (histories_of c.push.new.self.items) c.loop-test.true h c.if-is_last.true items (ap tokens_of c.same_tokens-rest-in-loop.ensures) c.loop.invariant

pub loop-preserved : goal.loop-preserved
loop-preserved c =
    let h = rw c.in-Some.is at c.in_ok-replies.ensures in
    let items : histories_of c.push.new.self.items ≡ histories_of c.loop.alternatives.items ++ c.in-Some.replies.items ∷ [] = ap histories_of c.in_ok-push.ensures.items ∙ map-append (λ h. h.items) c.loop.alternatives.items (c.in-Some.replies ∷ []) in
    goes_on alternative_step (histories_of c.loop.alternatives.items) MOST_ALTERNATIVES c.loop.counter (tokens_of c.loop.rest.now) (many alternative_step MOST_ALTERNATIVES (tokens_of c.args.tokens.now)) c.in-Some.replies.items c.in-Some.is_last (tokens_of c.in-Some.behind.now) (tokens_of c.same_tokens-rest-in-loop.result.now) (histories_of c.push.new.self.items) c.loop-test.true h c.if-is_last.false items (ap tokens_of c.same_tokens-rest-in-loop.ensures) c.loop.invariant

pub returns : goal.returns
returns c = too_many alternative_step (histories_of c.loop.alternatives.items) MOST_ALTERNATIVES c.loop.counter (tokens_of c.loop.rest.now) (many alternative_step MOST_ALTERNATIVES (tokens_of c.args.tokens.now)) c.loop-test.false c.loop.invariant
