use Rattle.std.proofs.Common.{eq-eqb, sym, ◌∙◌}
use Rattle.std.proofs.lemmas.Bool.{eqb-true}
use Rattle.orc_ledger.proofs.ledger.Ledger.is_empty.Goals as goal

pub returns : goal.returns
returns g c =
    let many = c.member_count.ensures in
    let count = c.member_count.result in
    (λ e. sym many ∙ eqb-true count 0 e, λ e. eq-eqb count 0 (many ∙ e))
