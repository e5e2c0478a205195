use Rattle.std.proofs.Common.{sym, ap, ◌∙◌, subst, arith}
use Rattle.orc_word.specs.Words.{IsIdle, group_in}
use Rattle.orc_word.proofs.Keeps.{pass_idle}
use Rattle.orc_word.proofs.Deeds.{peeks_idle, opens}
use Rattle.orc_word.proofs.groups.Groups.open.Goals as goal

pub load-found-requires : goal.load-found-requires
load-found-requires g c =
    let here = c.idle.invariant in
    let named = c.args.self.now.named in
    (here.0 ∙ sym named, omega (arith, c.requires.group, ap (λ t. t.words) named), peeks_idle _ _ _ _ _ (pass_idle _ _ _ here.2 (ap (λ v. group_in v.stance) c.idle.view_is ∙ c.requires.idle)) (omega (arith, c.requires.group, c.args.self.now.planned.0)))

pub compare_exchange-requires : goal.compare_exchange-requires
compare_exchange-requires g c =
    let here = c.idle.invariant in
    let named = c.args.self.now.named in
    let told = c.load-found.ensures in
    (told.0 ∙ here.0 ∙ sym named, omega (arith, c.requires.group, ap (λ t. t.words) named), opens _ _ _ _ _ _ (subst IsIdle (sym (ap (λ m. m.0) told.2.0)) (pass_idle _ _ _ here.2 (ap (λ v. group_in v.stance) c.idle.view_is ∙ c.requires.idle))) (omega (arith, c.requires.group, c.args.self.now.planned.0)) c.if-is_left.true)
