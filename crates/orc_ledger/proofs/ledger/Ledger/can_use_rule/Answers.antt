use Rattle.std.proofs.Common.{◌≡◌, [], ap, subst, ◌∙◌, refl, get_or}
use Rattle.orc_rules.specs.Nodes.{source}
use Rattle.orc_rules.specs.Timed.{IsIn, IsIdle}
use Rattle.orc_rules.specs.Journal.{begin, moment}
use Rattle.orc_ledger_spec.specs.Records.{Records, context}
use Rattle.orc_ledger_spec.specs.Kept.{Kept}
use Rattle.orc_tables.specs.Tokens.{live}
use Rattle.orc_tables.specs.declared.records.Token.{Token}
use Rattle.orc_ledger_spec.proofs.Keeping.{journal_one}
use Rattle.orc_tables.proofs.Placed.{there}
use Rattle.orc_tables.proofs.Slots.{live-in}
use Rattle.orc_ledger.proofs.Reaching.{moves_on}
use Rattle.orc_ledger.proofs.ledger.Ledger.can_use_rule.Goals as goal

pub returns-then-uses_rule : goal.returns-then-uses_rule
returns-then-uses_rule g c e p at quiet =
    let l = g.P.Run.listing in
    let sites = g.P.Run.sites in
    let s : Records = c.args.self.now in
    let K = subst (λ (z : Records). Kept l sites c.self.inside.counts c.self.inside.groups.sizes z) c.self.view_is c.self.invariant.kept in
    let L = K.lawful in
    let tokens = c.slots-token-items.result.now in
    let slots : tokens ≡ s.slots = c.slots-token-items.ensures ∙ ap (λ (z : Records). z.slots) c.self.view_is in
    let t : Token = get_or tokens c.loop-token.token-index _ in
    let i : IsIn t s.tokens = subst (λ z. IsIn t z) (ap live c.slots-token-items.ensures ∙ ap (λ (z : Records). z.tokens) c.self.view_is)
    (live-in tokens c.loop-token.token-index t (there tokens c.loop-token.token-index _ c.loop-token-test.true, c.uses_rule.ensures.there c.if-uses_rule.true)) in
    moves_on l sites s L t i (c.uses_rule.ensures.rule c.if-uses_rule.true) (subst (λ q. IsIdle (context l sites) (moment q)) (journal_one (context l sites) (source l) [] (begin (source l)) p L.place s.journal refl at L.leads) quiet.idle)
