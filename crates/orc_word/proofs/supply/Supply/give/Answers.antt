use Rattle.std.proofs.Common.{sym, ap, ◌∙◌, arith}
use Rattle.orc_word.specs.Words.{group_in}
use Rattle.orc_word.specs.Steps.{one_more}
use Rattle.orc_word.proofs.Keeps.{pass_idle}
use Rattle.orc_word.proofs.Deeds.{gives, bounds}
use Rattle.orc_word.proofs.supply.Supply.give.Goals as goal

pub join_seat-requires : goal.join_seat-requires
join_seat-requires g c =
    let here = c.self.invariant in
    let pass = c.pass.invariant in
    let shared = c.shared-shared.ensures in
    let named = ap (λ t. t.table_id) shared ∙ c.args.groups.now.named in
    (here.0 ∙ sym named, pass.0 ∙ sym named, pass.1, omega (arith, c.args.groups.now.planned.1, ap (λ t. t.words) named), gives _ _ _ _ _ _ here.2 (pass_idle _ _ _ pass.2 (ap (λ v. group_in v.stance) c.pass.view_is ∙ c.requires)))

pub load-requires : goal.load-requires
load-requires g c =
    let here = c.self.invariant in
    let shared = c.shared-shared.ensures in
    let named = ap (λ t. t.table_id) shared ∙ c.args.groups.now.named in
    let planned = ap (λ t. t.key.groups) shared ∙ c.args.groups.now.planned.0 in
    let joined = c.join_seat.ensures in
    (joined.0 ∙ here.0 ∙ sym named, omega (arith, c.args.groups.now.planned.1, ap (λ t. t.words) named), bounds _ _ _ _ _ _ (ap (λ m. m.0.stance) joined.2 ∙ ap one_more here.2) (omega (arith, c.args.groups.now.planned.1, planned)))
