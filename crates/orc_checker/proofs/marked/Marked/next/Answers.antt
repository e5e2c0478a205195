use Rattle.std.proofs.Common.{◌∙◌, ap, sym, subst}
use Rattle.orc_rules.specs.Nodes.{code, definitions}
use Rattle.orc_rules.specs.Marked.{token}
use Rattle.orc_env.specs.Names.{AreOrdered}
use Rattle.orc_env.specs.Scopes.{close, env_of}
use Rattle.orc_term.specs.declared.arena.Kind.TheVariants.{Leaf}
use Rattle.orc_term.specs.Arena.{living_kind, of_tip}
use Rattle.orc_term.specs.Bearers.{Carries}
use Rattle.orc_checker.specs.Checker.{State}
use Rattle.orc_checker.specs.Offers.{Allows}
use Rattle.orc_checker.proofs.Offered.{if_some, offers_allowed, offers_published, token_stands}
use Rattle.orc_checker.proofs.marked.Marked.next.Goals as goal

pub returns-in-Some : goal.returns-in-Some
returns-in-Some c =
    let l = c.args.program.now in
    let s = c.args.self.now in
    let t = c.in-Ok.holder in
    if_some c.publication.result
    (λ n h x p own sp. offers_published x l s p sp t.parent t.at t.tip c.in-Ok.ensures.there c.in-Some.ensures.lives c.args.token c.in-Some.value (c.in-Some.ensures.bears c.args.token c.in-Ok.ensures.carries sp.scopes) n h)
    c.publication.ensures

pub returns-in-Token : goal.returns-in-Token
returns-in-Token c =
    let l = c.args.program.now in
    let s = c.args.self.now in
    let t = c.in-Ok.holder in
    let k = c.in-Token in
    let term = close (env_of s.cells s.scopes k.scope) (code l k.node) in
    let scopes = c.deref.ensures.value ∙ ap State.scopes c.self.view_is in
    let cells = c.deref-in-Token.ensures.value ∙ ap State.cells c.self.view_is in
    if_some c.move_from.result
    (λ n h x p own sp.
    offers_allowed x l s p sp c.args.token term
    (token_stands x l s p sp t.parent t.at t.tip c.in-Ok.ensures.there (ap (λ z. living_kind (Leaf z)) k.is) c.args.token term (ap (of_tip (code l) (env_of s.cells s.scopes)) k.is ∙ ap (λ z. token z term) (subst (Carries c.args.token) k.is c.in-Ok.ensures.carries)))
    n
    (subst (λ ds. Allows ds term n) (sym own)
    (subst (λ ss. AreOrdered ss → Allows (definitions l) (close (env_of s.cells ss k.scope) (code l k.node)) n) scopes
    (subst (λ cs. AreOrdered c.deref.result.now → Allows (definitions l) (close (env_of cs c.deref.result.now k.scope) (code l k.node)) n) cells h) sp.scopes)))
    c.move_from.ensures
