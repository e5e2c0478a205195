use Rattle.std.proofs.Common.{◌≡◌, List, [], map, ap, sym, refl, ◌∙◌}
use Rattle.std.specs.Prelude.{slice_index_or}
use Rattle.std.proofs.lemmas.Result.{on_ok_weaker}
use Rattle.orc_rules.specs.declared.param.Param.TheVariants as is
use Rattle.orc_rules.specs.declared.param.Operand.{Operand}
use Rattle.orc_rules.specs.Term.{param, site}
use Rattle.orc_rules.specs.Nodes.{Listing, code, param_of}
use Rattle.orc_ledger_spec.specs.Records.{its_env}
use Rattle.orc_frames.specs.Paths.{standing}
use Rattle.orc_frames.specs.Doing.{closed}
use Rattle.orc_frames.specs.Awaiting.{cells_among, cells_of}
use Rattle.orc_tables.specs.declared.records.Standing.{Standing}
use Rattle.orc_ledger_spec.specs.Moves.{StandsAt}
use Rattle.orc_ledger_spec.proofs.Advancing.{stands-param, stands-site}
use Rattle.orc_frames.proofs.Waiting.{none-at, none-on}
use Rattle.orc_ledger.proofs.ledger.Ledger.awaited.Goals as goal
use Rattle.orc_ledger.proofs.ledger.Ledger.awaited.Goals.{in-At+in_default-node, in_default}

pub returns-in-Name-clause-listed : goal.returns-in-Name-clause-listed
returns-in-Name-clause-listed g c =
    let l = g.P.Run.listing in
    let a = c.args in
    let at : StandsAt l a.token.now c.in-At.scope (param (is.Name c.in-Name.name)) = (c.in-At.node, c.in-At.is, ap (λ (z : Listing). code z c.in-At.node) (sym c.args.inputs.now.its_graph) ∙ c.in-Name.ensures.term) in
    on_ok_weaker c.list_awaited.result (λ e. e ∙ sym (ap cells_of (stands-param l a.self.now a.token.now c.in-At.scope (is.Name c.in-Name.name) _ at refl))) c.list_awaited.ensures.listed

pub returns-in-Site-clause-listed : goal.returns-in-Site-clause-listed
returns-in-Site-clause-listed g c =
    let l = g.P.Run.listing in
    let a = c.args in
    let list = c.in-Site.list in
    let ops : List Operand = slice_index_or l.lists list [] in
    let env = its_env (code l) a.self.now c.in-At.scope in
    let same : c.operands.result.now ≡ ops = c.operands.ensures.value ∙ ap (λ (z : Listing). slice_index_or z.lists list []) c.args.inputs.now.its_graph in
    let at : StandsAt l a.token.now c.in-At.scope (site c.in-Site.field-0 (map param_of ops)) = (c.in-At.node, c.in-At.is, ap (λ (z : Listing). code z c.in-At.node) (sym c.args.inputs.now.its_graph) ∙ c.in-Site.ensures.term ∙ ap (λ (z : Listing). site c.in-Site.field-0 (map param_of (slice_index_or z.lists list []))) c.args.inputs.now.its_graph) in
    on_ok_weaker c.list_awaited-in-Site.result
    (λ e. e ∙ ap (λ (z : List Operand). cells_among (closed env z)) same ∙ sym (ap cells_of (stands-site l a.self.now a.token.now c.in-At.scope c.in-Site.field-0 ops at)))
    c.list_awaited-in-Site.ensures.listed

pub returns-clause-listed : goal.returns-clause-listed
returns-clause-listed g c =
    let l = g.P.Run.listing in
    let a = c.args in
    let env = its_env (code l) a.self.now in
    elim c.match-token.branch [
      | in-At+in_default-node w ↦ c.clear.ensures.items ∙ sym (ap (λ (z : Standing). cells_of (standing (code l) env z)) w.in-At.is ∙ none-at (env w.in-At.scope) (code a.inputs.now.graph.now) a.inputs.now.graph.now.lists (code l w.in-At.node) w.node.result (ap (λ (z : Listing). code z w.in-At.node) (sym c.args.inputs.now.its_graph) ∙ w.node.ensures.term) w.in_default-node.not-Name w.in_default-node.not-Site)
      | in_default w ↦ c.clear.ensures.items ∙ sym (none-on (code l) env a.token.now.standing w.in_default.not-At)
    ]
