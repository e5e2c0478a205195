use Rattle.std.proofs.Common.{[], ◌∷◌, ◌++◌, ◌≡◌, ◌∙◌, sym, ap, arith, length}
use Rattle.std.proofs.lemmas.List.{length-map, map-append}
use Rattle.orc_ways.specs.Claims.{conditions_at, condition_at}
use Rattle.orc_ways.specs.Values.{condition_of, conditions_of, sites_of, token_of, tokens_of}
use Rattle.orc_ways.proofs.Conditions.{no_condition, bad_condition, more_conditions, all_conditions}
use Rattle.orc_ways.proofs.scope.Scope.conditions.Goals as goal

pub returns-then-not-begins_with : goal.returns-then-not-begins_with
returns-then-not-begins_with c = no_condition (sites_of c.args.self.sites.now) (tokens_of c.args.self.line.now) (conditions_of c.loop.conditions.items) (length (tokens_of c.args.tokens.now)) c.loop.counter (tokens_of c.loop.rest.now) (conditions_at (sites_of c.args.self.sites.now) (tokens_of c.args.self.line.now) (length (tokens_of c.args.tokens.now)) (tokens_of c.args.tokens.now)) (sym c.begins_with.ensures ∙ c.if-not-begins_with.true) c.loop.invariant

pub returns-in_default : goal.returns-in_default
returns-in_default c =
    let h = rw c.in_default.is at c.in_ok-condition.ensures in
    bad_condition (sites_of c.args.self.sites.now) (tokens_of c.args.self.line.now) (conditions_of c.loop.conditions.items) (length (tokens_of c.args.tokens.now)) c.loop.counter (tokens_of c.loop.rest.now) (conditions_at (sites_of c.args.self.sites.now) (tokens_of c.args.self.line.now) (length (tokens_of c.args.tokens.now)) (tokens_of c.args.tokens.now)) (omega (arith, length-map c.args.tokens.now token_of)) (sym c.begins_with.ensures ∙ c.if-not-begins_with.false) (ap (condition_at (sites_of c.args.self.sites.now) (tokens_of c.args.self.line.now)) (sym c.rest_of_tokens.ensures) ∙ h) c.loop.invariant

pub loop-preserved : goal.loop-preserved
loop-preserved c =
    let h = rw c.in-Some.is at c.in_ok-condition.ensures in
    let items : conditions_of c.push.new.self.items ≡ conditions_of c.loop.conditions.items ++ condition_of c.in-Some.condition ∷ [] = ap conditions_of c.in_ok-push.ensures.items ∙ map-append condition_of c.loop.conditions.items (c.in-Some.condition ∷ []) in
    more_conditions (sites_of c.args.self.sites.now) (tokens_of c.args.self.line.now) (conditions_of c.loop.conditions.items) (length (tokens_of c.args.tokens.now)) c.loop.counter (tokens_of c.loop.rest.now) (conditions_at (sites_of c.args.self.sites.now) (tokens_of c.args.self.line.now) (length (tokens_of c.args.tokens.now)) (tokens_of c.args.tokens.now)) (condition_of c.in-Some.condition) (tokens_of c.in-Some.behind.now) (tokens_of c.same_tokens-rest-in-loop.result.now) (conditions_of c.push.new.self.items) (omega (arith, length-map c.args.tokens.now token_of)) (sym c.begins_with.ensures ∙ c.if-not-begins_with.false) (ap (condition_at (sites_of c.args.self.sites.now) (tokens_of c.args.self.line.now)) (sym c.rest_of_tokens.ensures) ∙ h) items (ap tokens_of c.same_tokens-rest-in-loop.ensures) c.loop.invariant

pub returns : goal.returns
returns c = all_conditions (sites_of c.args.self.sites.now) (tokens_of c.args.self.line.now) (conditions_of c.loop.conditions.items) (length (tokens_of c.args.tokens.now)) c.loop.counter (tokens_of c.loop.rest.now) (conditions_at (sites_of c.args.self.sites.now) (tokens_of c.args.self.line.now) (length (tokens_of c.args.tokens.now)) (tokens_of c.args.tokens.now)) (omega (arith, length-map c.args.tokens.now token_of)) c.loop.invariant
