use Rattle.std.proofs.Common.{◌≡◌, ◌<◌, ◌++◌, ◌∷◌, [], List, length, sym, subst}
use Rattle.orc_schedules.specs.declared.lists.Longer.{Longer}
use Rattle.orc_schedules.specs.Lists.{Linked, lists, AreBehind, AreMade, IsMade}
use Rattle.orc_schedules.proofs.Longer.{behind_last, made_last}
use Rattle.orc_schedules.proofs.lists.Lists.add.Goals as goal

pub invariant_of-self-2 : goal.invariant_of-self-2
invariant_of-self-2 c =
    let calls = c.self.inside.calls in
    let longer = c.self.inside.longer.items in
    let x : Longer = c.args.longer in
    let more : c.push.new.self.items ≡ longer ++ x ∷ [] = c.in_ok-push.ensures.items in
    let before : x.before < length (lists (record { calls = calls; longer = longer })) = subst (λ (l : Linked). x.before < length (lists l)) (sym c.self.view_is) c.requires.before in
    let made : IsMade (length calls) x.what = subst (λ (l : Linked). IsMade (length l.calls) x.what) (sym c.self.view_is) c.requires.made in
    (subst (λ (xs : List Longer). AreBehind xs) (sym more) (behind_last calls longer x c.self.invariant.0 before), subst (λ (xs : List Longer). AreMade calls xs) (sym more) (made_last calls longer x c.self.invariant.1 made))
