use Rattle.std.proofs.Common.{List, [], ◌∷◌, ◌++◌, ◌-◌, ◌≡◌, ◌∙◌, sym, ap, arith, length, length-append}
use Rattle.std.proofs.lemmas.List.{map-append}
use Rattle.orc_ways.specs.declared.token.Token.{Token as CodeToken}
use Rattle.orc_ways.specs.Tokens.{cut, cut_by}
use Rattle.orc_ways.specs.Values.{token_of, tokens_of}
use Rattle.orc_ways.proofs.Cutting.{with_tokens, started, at_end, one_token}
use Rattle.orc_ways.proofs.token.cut_line.Goals as goal

pub loop-init : goal.loop-init
loop-init c = record { few = omega arith; so_far = ap (λ (front : List CodeToken). with_tokens (tokens_of front) (cut_by (length c.args.line.now - 0) c.skip_blanks-rest.result.now)) c.new-tokens.ensures.items ∙ started c.args.line.now c.skip_blanks-rest.result.now c.skip_blanks-rest.ensures }

pub returns-then-is_line_end-clause-value : goal.returns-then-is_line_end-clause-value
returns-then-is_line_end-clause-value c = at_end (length c.args.line.now) c.loop.counter (tokens_of c.loop.tokens.items) c.loop.rest.now (cut c.args.line.now) (sym c.is_line_end.ensures ∙ c.if-is_line_end.true) c.loop.invariant.so_far

pub loop-preserved : goal.loop-preserved
loop-preserved c =
    let items : tokens_of c.push.new.self.items ≡ tokens_of c.loop.tokens.items ++ token_of c.in-Some.token ∷ [] = ap tokens_of c.in_ok-push.ensures.items ∙ map-append token_of c.loop.tokens.items (c.in-Some.token ∷ []) in
    record {
      few = omega (arith, ap length c.in_ok-push.ensures.items, length-append c.loop.tokens.items (c.in-Some.token ∷ []), c.loop.invariant.few);
      so_far = one_token (length c.args.line.now) c.loop.counter (tokens_of c.loop.tokens.items) c.loop.rest.now (cut c.args.line.now) (token_of c.in-Some.token) c.in-Some.behind.now c.skip_blanks-rest-in-loop.result.now (tokens_of c.push.new.self.items) (omega arith) (sym c.is_line_end.ensures ∙ c.if-is_line_end.false) c.in-Some.ensures items c.skip_blanks-rest-in-loop.ensures c.loop.invariant.so_far;
    }
