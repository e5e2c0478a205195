use Rattle.std.proofs.Common.{◌≡◌, ◌∙◌, List, ap, sym, map, refl}
use Rattle.orc_rules.specs.declared.param.Operand.{Operand}
use Rattle.orc_rules.specs.Nodes.{Listing, code, definitions, param_of}
use Rattle.orc_rules.specs.Term.{site}
use Rattle.orc_env.specs.Scopes.{close}
use Rattle.orc_env.proofs.Scopes.{close-site}
use Rattle.orc_ledger_spec.specs.Records.{its_env, its_path}
use Rattle.orc_frames.specs.Paths.{standing}
use Rattle.orc_frames.specs.Doing.{closed, what_by}
use Rattle.orc_ledger_spec.proofs.Asked.{taken-not, site-only, site-called}
use Rattle.orc_ledger.proofs.ledger.Ledger.ask.Goals as goal

pub unreachable-requires : goal.unreachable-requires
unreachable-requires g c =
    let l = g.P.Run.listing in
    let s = c.args.self.now in
    let t = c.args.token in
    let p = its_path (code l) s t.step in
    taken-not c.in_default.field-0 p (sym (ap (λ z. what_by (definitions l) p (standing (code l) (its_env (code l) s) z)) c.in_default.is) ∙ c.requires.calls)

pub unreachable-requires-in_default-node : goal.unreachable-requires-in_default-node
unreachable-requires-in_default-node g c =
    let l = g.P.Run.listing in
    let s = c.args.self.now in
    let t = c.args.token in
    let p = its_path (code l) s t.step in
    let node = c.in-At.node in
    let env = its_env (code l) s c.in-At.scope in
    let now = c.args.inputs.now.graph.now in
    site-only (definitions l) p env (code now) now.lists c.node.result (code now node) c.node.ensures.term
    (ap (λ (z : Listing). what_by (definitions l) p (close env (code z node))) c.args.inputs.now.its_graph ∙ sym (ap (λ z. what_by (definitions l) p (standing (code l) (its_env (code l) s) z)) c.in-At.is) ∙ c.requires.calls)
    c.in_default-node.not-Site

pub unreachable-requires-then-not-take_values : goal.unreachable-requires-then-not-take_values
unreachable-requires-then-not-take_values g c =
    let l = g.P.Run.listing in
    let s = c.args.self.now in
    let p = its_path (code l) s c.args.token.step in
    let env = its_env (code l) s c.in-At.scope in
    let node = c.in-At.node in
    let now = c.args.inputs.now.graph.now in
    let ops = c.operands.result.now in
    let form : code now node ≡ site c.in-Site.site (map param_of ops) = c.in-Site.ensures.term ∙ ap (λ (z : List Operand). site c.in-Site.site (map param_of z)) (sym c.operands.ensures.value) in
    let word = ap (λ (z : Listing). what_by (definitions l) p (close env (code z node))) c.args.inputs.now.its_graph ∙ sym (ap (λ z. what_by (definitions l) p (standing (code l) (its_env (code l) s) z)) c.in-At.is) ∙ c.requires.calls in
    let got = site-called (definitions l) p env (code now node) c.in-Site.site ops form word in
    c.if-not-take_values.ensures.none refl got.0 got.1

pub returns : goal.returns
returns g c =
    let l = g.P.Run.listing in
    let s = c.args.self.now in
    let env = its_env (code l) s c.in-At.scope in
    let node = c.in-At.node in
    let ops = c.operands.result.now in
    let form : code c.args.inputs.now.graph.now node ≡ site c.in-Site.site (map param_of ops) = c.in-Site.ensures.term ∙ ap (λ (z : List Operand). site c.in-Site.site (map param_of z)) (sym c.operands.ensures.value) in (
      closed env ops,
      c.if-not-take_values.ensures.values refl,
      ap (standing (code l) (its_env (code l) s)) c.in-At.is ∙ ap (λ (z : Listing). close env (code z node)) (sym c.args.inputs.now.its_graph) ∙ ap (close env) form ∙ close-site env c.in-Site.site (map param_of ops),
    )
