use Rattle.std.proofs.Common.{◌≡◌, ◌∙◌, List, [], map, ap, sym, refl}
use Rattle.std.specs.Prelude.{slice_index_or}
use Rattle.orc_rules.specs.declared.param.Operand.{Operand}
use Rattle.orc_rules.specs.Nodes.{Listing, code, param_of}
use Rattle.orc_rules.specs.Term.{values_of}
use Rattle.orc_env.specs.Scopes.{close}
use Rattle.orc_env.proofs.Scopes.{close-site}
use Rattle.orc_ledger_spec.specs.Records.{its_env}
use Rattle.orc_frames.specs.Doing.{closed}
use Rattle.orc_frames.specs.Paths.{standing}
use Rattle.orc_ledger.proofs.ledger.Ledger.call_at.Goals as goal

pub answer_through-requires-clause-asks : goal.answer_through-requires-clause-asks
answer_through-requires-clause-asks g c =
    let l = g.P.Run.listing in
    let a = c.args in
    let ops : List Operand = slice_index_or l.lists a.list [] in
    let env = its_env (code l) a.self.now a.scope in
    let same : c.operands.result.now ≡ ops = c.operands.ensures.value ∙ ap (λ (z : Listing). slice_index_or z.lists a.list []) c.args.inputs.now.its_graph in
    let at = c.requires.at in (
      closed env ops,
      sym (ap (λ (z : List Operand). values_of (closed env z)) same) ∙ c.if-take_values.ensures.values refl,
      ap (standing (code l) (its_env (code l) a.self.now)) at.1 ∙ ap (close env) at.2 ∙ close-site env a.site (map param_of ops),
    )
