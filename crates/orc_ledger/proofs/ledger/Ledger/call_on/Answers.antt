use Rattle.std.proofs.Common.{◌≡◌, ◌∙◌, List, [], map, ap, sym, refl}
use Rattle.std.specs.Prelude.{slice_index_or}
use Rattle.orc_rules.specs.declared.param.Operand.{Operand}
use Rattle.orc_rules.specs.Nodes.{Listing, code, param_of}
use Rattle.orc_rules.specs.Term.{values_of}
use Rattle.orc_env.specs.Scopes.{close}
use Rattle.orc_env.proofs.Scopes.{close-site}
use Rattle.orc_ledger_spec.specs.Records.{Records, its_env}
use Rattle.orc_ledger_spec.specs.AtOnce.{IsCalled}
use Rattle.orc_ledger_spec.specs.declared.results.Called.TheVariants.{Answered}
use Rattle.orc_frames.specs.Doing.{closed}
use Rattle.orc_frames.specs.Paths.{standing}
use Rattle.orc_tables.specs.Tokens.{live}
use Rattle.orc_tables.specs.declared.records.Standing.TheVariants.{On}
use Rattle.orc_ledger_spec.proofs.AtOnce.{answered-held}
use Rattle.orc_ledger.proofs.ledger.Ledger.call_on.Goals as goal

pub answer_through-requires-clause-asks : goal.answer_through-requires-clause-asks
answer_through-requires-clause-asks g c =
    let l = g.P.Run.listing in
    let a = c.args in
    let ops : List Operand = slice_index_or l.lists a.list [] in
    let env = its_env (code l) a.self.now a.scope in
    let same : c.operands.result.now ≡ ops = c.operands.ensures.value ∙ ap (λ (z : Listing). slice_index_or z.lists a.list []) c.args.inputs.now.its_graph in
    let at = c.requires.at in (
      closed env ops,
      sym (ap (λ (z : List Operand). values_of (closed env z)) same) ∙ c.if-take_values.ensures.values refl,
      ap (standing (code l) (its_env (code l) a.self.now)) at.1 ∙ ap (close env) at.2 ∙ close-site env a.site (map param_of ops),
    )

pub returns-then-send_on-clause-goes : goal.returns-then-send_on-clause-goes
returns-then-send_on-clause-goes g c =
    let b = c.self.inside in
    let a = c.args in
    let l = g.P.Run.listing in
    let sites = g.P.Run.sites in
    let s : Records = record { limit = b.limit; journal = b.journal.entries; entries = b.entries; next_mark = b.next_mark; now = b.time; made = b.calls.made; tokens = live b.tokens.items; slots = b.tokens.items; calls = b.calls.items; scopes = b.scopes.items; steps = b.steps.items; groups = b.groups.items; cells = b.cells.items } in
    let v = c.in-Ok-Answered.value in
    let s2 = c.answer_through.new.self in
    let said = rw c.in-Ok-Answered.field-0-is at c.in-Ok-Answered.ensures.done in
    let answered : IsCalled l sites s a.slot a.token (Answered v) s2 = rw (← c.self.view_is) at said in
    let sent = c.if-send_on.ensures.sent refl in
    rw (← c.self.view_is) (s2, record { serial = b.next_mark; standing = On v; step = a.token.step }, v, sent.0, answered, answered-held l sites s a.slot a.token v s2 answered, refl, sent.1)
