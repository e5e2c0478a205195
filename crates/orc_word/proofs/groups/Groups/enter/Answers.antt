use Rattle.std.proofs.Common.{sym, ap, ◌∙◌, arith}
use Rattle.orc_word.specs.Words.{group_in, no_bits}
use Rattle.orc_word.proofs.Keeps.{pass_idle, pass_names}
use Rattle.orc_word.proofs.Deeds.{enters}
use Rattle.orc_word.proofs.groups.Groups.enter.Goals as goal

pub fetch_add-requires : goal.fetch_add-requires
fetch_add-requires g c =
    let here = c.idle.invariant in
    let within = pass_names _ _ _ _ c.with.invariant.2 c.in-Some.is in
    let named = c.args.self.now.named in
    (here.0 ∙ sym named, omega (arith, within.0, ap (λ t. t.words) named), enters _ _ _ _ _ (pass_idle _ _ _ here.2 (ap (λ v. group_in v.stance) c.idle.view_is ∙ c.requires.idle)) (omega (arith, within.0, c.args.self.now.planned.0)))

pub invariant_of-result-2 : goal.invariant_of-result-2
invariant_of-result-2 g c =
    let here = c.idle.invariant in
    let within = pass_names _ _ _ _ c.with.invariant.2 c.in-Some.is in
    let told = c.fetch_add.ensures in
    (told.0 ∙ here.0, ap (λ m. m.1) told.2.0 ∙ here.1, (within.0, (no_bits, no_bits, ap (λ m. m.0) told.2.0)))
