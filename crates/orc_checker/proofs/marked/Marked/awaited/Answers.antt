use Rattle.std.proofs.Common.{◌∙◌, ap, subst, refl}
use Rattle.orc_rules.specs.Nodes.{code}
use Rattle.orc_env.specs.Names.{Means}
use Rattle.orc_env.specs.Scopes.{close, env_of}
use Rattle.orc_term.specs.declared.arena.Tip.TheVariants.{Token}
use Rattle.orc_checker.specs.Checker.{State}
use Rattle.orc_checker.proofs.Offered.{has_at, token_stands}
use Rattle.orc_checker.proofs.marked.Marked.awaited.Goals as goal

pub returns-in-Some-Cell : goal.returns-in-Some-Cell
returns-in-Some-Cell c x p own sp =
    let l = c.args.program.now in
    let s = c.args.self.now in
    let t = c.in-Ok.spot in
    let o = c.in_ok-operand.operand in
    let env = env_of s.cells s.scopes t.scope in
    let means =
    subst (λ ss. Means s.cells ss t.scope o c.in-Some-Cell.field-0) (c.deref.ensures.value ∙ ap State.scopes c.self.view_is)
    (subst (λ cs. Means cs c.deref.result.now t.scope o c.in-Some-Cell.field-0) (c.deref-2.ensures.value ∙ ap State.cells c.self.view_is) c.in-Some-Cell.ensures.bound) in (
      close env (code l t.node),
      token_stands x l s p sp t.parent t.at (Token c.args.token t.node t.scope) c.in-Ok.ensures.there refl c.args.token (close env (code l t.node)) refl,
      has_at s.cells s.scopes t.scope (code l t.node) c.args.position o c.in-Some-Cell.cell c.in_ok-operand.ensures (subst (λ b. Means s.cells s.scopes t.scope o b) c.in-Some-Cell.field-0-is means sp.scopes),
    )
