use Rattle.std.proofs.Common.{◌≡◌, ◌<◌, ◌≤◌, ℕ, List, length, map, take, ◌+◌, sym, ap, subst, ◌∙◌, arith}
use Rattle.orc_schedules.specs.declared.ended.Ended.{Ended}
use Rattle.orc_schedules.specs.Adding.{outcome_of, shown_of}
use Rattle.orc_schedules.specs.declared.told.Told.{Told}
use Rattle.orc_schedules.specs.Tables.{outcome_at}
use Rattle.orc_schedules.proofs.Whole.{told_next, all_told}
use Rattle.orc_schedules.proofs.tables.Tables.ended.Goals as goal

pub loop-told-preserved : goal.loop-told-preserved
loop-told-preserved c =
    let t = c.args.self.now in
    let told = c.as_slice-told-items.result.now in
    let at : ℕ = c.loop-told.told-index in
    let lt : at < length told = omega arith in
    subst (λ (es : List Ended). map outcome_of es ≡ map (λ (x : Told). shown_of (outcome_at t x)) (take (at + 1) told)) (sym c.in_ok-push.ensures.items)
    (told_next t told c.loop-told.ended.items at _ c.in_ok-end.end lt c.loop-told.invariant c.in_ok-end.ensures)

pub returns : goal.returns
returns c =
    let told = c.as_slice-told-items.result.now in
    let le : length told ≤ c.loop-told.told-index = omega arith in
    all_told c.args.self.now told c.loop-told.ended.items c.loop-told.told-index le c.loop-told.invariant ∙ ap (λ (ends : List Told). map shown_of (map (outcome_at c.args.self.now) ends)) c.as_slice-told-items.ensures
