use Rattle.std.proofs.Common.{sym, ap, ◌∙◌, arith}
use Rattle.orc_word.proofs.Deeds.{takes}
use Rattle.orc_word.proofs.supply.Supply.take.Goals as goal

pub split_seat-seat-requires : goal.split_seat-seat-requires
split_seat-seat-requires g c =
    let here = c.self.invariant in
    let named = ap (λ t. t.table_id) c.shared.ensures ∙ c.args.groups.now.named in
    (here.0 ∙ sym named, omega (arith, c.args.groups.now.planned.1, ap (λ t. t.words) named), takes _ _ _ _ here.2 (omega (arith, c.if-self-eq0.false)))
