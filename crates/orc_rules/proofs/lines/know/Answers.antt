use Rattle.std.proofs.Common.{◌≡◌, true, refl, sym, subst}
use Rattle.orc_rules.specs.Lines.{is_among, Keeps}
use Rattle.orc_rules.proofs.Places.{known_last, keeps_more}
use Rattle.orc_rules.proofs.lines.know.Goals as goal

pub returns-in_ok-push-clause-known : goal.returns-in_ok-push-clause-known
returns-in_ok-push-clause-known c = subst (λ ss. is_among c.args.shape.items ss ≡ true) (sym c.in_ok-push.ensures.items) (known_last c.args.shape.items c.args.shapes.now.items c.args.shape refl)

pub returns-in_ok-push-clause-kept : goal.returns-in_ok-push-clause-kept
returns-in_ok-push-clause-kept c = subst (Keeps c.args.shapes.now.items) (sym c.in_ok-push.ensures.items) (keeps_more c.args.shapes.now.items c.args.shape)
