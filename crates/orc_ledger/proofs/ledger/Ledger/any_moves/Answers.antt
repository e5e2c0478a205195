use Rattle.std.proofs.Common.{◌≡◌, ℕ, arith, ap, sym, ◌∙◌, cond, subst}
use Rattle.orc_rules.specs.Nodes.{code, definitions}
use Rattle.orc_rules.specs.Timed.{IsIn}
use Rattle.orc_tables.specs.Tokens.{live, IsHeld}
use Rattle.orc_tables.proofs.Slots.{live-in}
use Rattle.orc_indexes.proofs.Weight.{weight-in}
use Rattle.orc_ledger_spec.specs.Records.{Records}
use Rattle.orc_ledger_spec.specs.Next.{ready_one}
use Rattle.orc_tables.specs.declared.records.Token.{Token}
use Rattle.orc_ledger_spec.proofs.Scans.{the-found}
use Rattle.orc_ledger.proofs.ledger.Ledger.any_moves.Goals as goal

-- a token that moves is ready
pub returns-clause-some : goal.returns-clause-some
returns-clause-some g c e =
    let s : Records = c.args.self.now in
    let l = g.P.Run.listing in
    let w : Token → ℕ = ready_one (code l) (definitions l) s in
    let f = the-found _ _ c.movable.result c.movable.ensures (sym c.is_some.ensures ∙ e) in
    let slots : c.self.inside.tokens.items ≡ s.slots = ap (λ (z : Records). z.slots) c.self.view_is in
    let tokens : live c.self.inside.tokens.items ≡ s.tokens = ap (λ (z : Records). z.tokens) c.self.view_is in
    let held : IsHeld c.self.inside.tokens.items f.0.0 f.0.1 = subst (λ z. IsHeld z f.0.0 f.0.1) (sym slots) f.1.0 in
    let there : IsIn f.0.1 s.tokens = subst (IsIn f.0.1) tokens (live-in c.self.inside.tokens.items f.0.0 f.0.1 held) in
    let one : w f.0.1 ≡ 1 = ap (λ b. cond {A = ℕ} b 0 1) f.1.1 in
    omega (arith, weight-in w s.tokens f.0.1 there, one)
