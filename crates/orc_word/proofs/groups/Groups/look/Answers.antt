use Rattle.std.proofs.Common.{sym, ap, ◌∙◌, arith}
use Rattle.orc_word.proofs.Keeps.{pass_names}
use Rattle.orc_word.proofs.Deeds.{looks}
use Rattle.orc_word.proofs.groups.Groups.look.Goals as goal

pub load-found-requires : goal.load-found-requires
load-found-requires g c =
    let here = c.pass.invariant in
    let within = pass_names _ _ _ _ here.2 c.in-Some.is in
    let named = c.args.self.now.named in
    (here.0 ∙ sym named, omega (arith, within.0, ap (λ t. t.words) named), looks _ _ _ _ _ _ _ within.1.2 (omega (arith, within.0, c.args.self.now.planned.0)))
