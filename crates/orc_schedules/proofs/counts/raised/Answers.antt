use Rattle.std.proofs.Common.{◌≡◌, ℕ, suc, Bool, sym, ap, ◌∙◌, arith}
use Rattle.std.specs.Prelude.{cond}
use Rattle.orc_schedules.proofs.Raised.{raised_parts}
use Rattle.orc_schedules.proofs.counts.raised.Goals as goal
use Rattle.orc_schedules.proofs.counts.raised.Goals.{then-place, else-place}

pub returns : goal.returns
returns c =
    let at : ℕ = c.args.place.at in
    let rest : c.if-place.rest ≡ cond c.args.place.again (suc at) at = elim c.if-place.branch [
      | then-place w ↦ let next : c.if-place.rest ≡ suc at = omega (arith, w.rest-is) in next ∙ ap (λ (b : Bool). cond b (suc at) at) (sym w.if-place.true)
      | else-place w ↦ w.rest-is ∙ ap (λ (b : Bool). cond b (suc at) at) (sym w.if-place.false)
    ] in
    raised_parts c.args.made.now c.args.calls at c.if-place.rest c.args.place.again c.new-list.result.items c.push_copies.new.list.items c.push.new.self.items c.push_copies-2.new.list.items
    c.new-list.ensures.items c.in_ok-push_copies.ensures c.in_ok-push.ensures.items c.in_ok-push_copies-2.ensures rest
