use Rattle.std.proofs.Common.{◌≡◌, ◌∙◌, List, ap, sym, map, refl}
use Rattle.orc_rules.specs.declared.param.Operand.{Operand}
use Rattle.orc_rules.specs.Nodes.{Listing, code, param_of}
use Rattle.orc_rules.specs.Term.{call}
use Rattle.orc_ledger_spec.specs.Records.{its_env}
use Rattle.orc_frames.specs.Paths.{standing}
use Rattle.orc_ledger_spec.proofs.Apart.{called}
use Rattle.orc_ledger.proofs.ledger.Ledger.task.Goals as goal

pub returns-clause-stands : goal.returns-clause-stands
returns-clause-stands g c =
    let l = g.P.Run.listing in
    let s = c.args.self.now in
    let t = c.args.token.now in
    let ops = c.operands.result.now in
    let node = c.in-At.node in
    let env = its_env (code l) s c.in-At.scope in
    let form : code l node ≡ call c.in-Call.definition (map param_of ops) = ap (λ (z : Listing). code z node) (sym c.args.inputs.now.its_graph) ∙ c.in-Call.ensures.term ∙ ap (λ (z : List Operand). call c.in-Call.definition (map param_of z)) (sym c.operands.ensures.value) in
    ap (standing (code l) (its_env (code l) s)) c.in-At.is ∙ called env (code l node) c.in-Call.definition ops c.take_values.new.args form (c.if-not-take_values.ensures.values refl)
