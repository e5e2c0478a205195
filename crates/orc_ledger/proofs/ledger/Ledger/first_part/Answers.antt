use Rattle.std.proofs.Common.{◌≡◌, ap, sym, subst, ◌∙◌, true}
use Rattle.orc_rules.specs.Idle.{can_move}
use Rattle.orc_rules.specs.Nodes.{Listing, code, definitions}
use Rattle.orc_env.specs.Scopes.{close}
use Rattle.orc_frames.specs.Paths.{standing}
use Rattle.orc_ledger_spec.specs.Records.{its_env}
use Rattle.orc_tables.specs.declared.records.Standing.{Standing}
use Rattle.orc_ledger.proofs.Reaching.{par_first, seq_first, other_first}
use Rattle.orc_ledger.proofs.ledger.Ledger.first_part.Goals as goal

pub returns-in-Par : goal.returns-in-Par
returns-in-Par g c m =
    let l = g.P.Run.listing in
    let a = c.args in
    let env = its_env (code l) a.self.now c.in-At.scope in
    let m' = subst (λ (z : Listing). can_move (definitions l) (close env (code z c.in-Par.first)) ≡ true) (sym c.args.inputs.now.its_graph) m in
    ap (λ (w : Standing). can_move (definitions l) (standing (code l) (its_env (code l) a.self.now) w)) c.in-At.is ∙
    par_first (definitions l) env (code l c.in-At.node) (code a.inputs.now.graph.now c.in-Par.first) m' _ (ap (λ (z : Listing). code z c.in-At.node) (sym c.args.inputs.now.its_graph) ∙ c.in-Par.ensures.term)

pub returns-in-Par-2 : goal.returns-in-Par-2
returns-in-Par-2 g c m =
    let l = g.P.Run.listing in
    let a = c.args in
    let env = its_env (code l) a.self.now c.in-At.scope in
    let m' = subst (λ (z : Listing). can_move (definitions l) (close env (code z c.in-Par.first)) ≡ true) (sym c.args.inputs.now.its_graph) m in
    ap (λ (w : Standing). can_move (definitions l) (standing (code l) (its_env (code l) a.self.now) w)) c.in-At.is ∙
    seq_first (definitions l) env (code l c.in-At.node) (code a.inputs.now.graph.now c.in-Par.first) m' _ _ (ap (λ (z : Listing). code z c.in-At.node) (sym c.args.inputs.now.its_graph) ∙ c.in-Par.ensures.term)

pub returns-in-Par-3 : goal.returns-in-Par-3
returns-in-Par-3 g c m =
    let l = g.P.Run.listing in
    let a = c.args in
    let env = its_env (code l) a.self.now c.in-At.scope in
    let m' = subst (λ (z : Listing). can_move (definitions l) (close env (code z c.in-Par.first)) ≡ true) (sym c.args.inputs.now.its_graph) m in
    ap (λ (w : Standing). can_move (definitions l) (standing (code l) (its_env (code l) a.self.now) w)) c.in-At.is ∙
    other_first (definitions l) env (code l c.in-At.node) (code a.inputs.now.graph.now c.in-Par.first) m' _ (ap (λ (z : Listing). code z c.in-At.node) (sym c.args.inputs.now.its_graph) ∙ c.in-Par.ensures.term)
