use Rattle.std.proofs.Common.{◌≡◌, ◌-◌, List, ap, subst, ◌∙◌, arith}
use Rattle.std.specs.Prelude.{slice_get}
use Rattle.orc_schedules.specs.declared.lists.Longer.{Longer}
use Rattle.orc_schedules.specs.Lists.{Linked, list_at, lists, AreBehind}
use Rattle.orc_schedules.proofs.Longer.{empty_made, some_made, else_made}
use Rattle.orc_schedules.proofs.lists.Lists.made_of.Goals as goal

pub returns-then-at-eq0-clause-none : goal.returns-then-at-eq0-clause-none
returns-then-at-eq0-clause-none c = ap (list_at (lists c.args.self.now)) c.if-at-eq0.true ∙ empty_made c.args.self.now.calls c.args.self.now.longer

pub returns-clause-some : goal.returns-clause-some
returns-clause-some c =
    let l = c.args.self.now in
    let is : c.longer_at.result ≡ slice_get l.longer (c.args.at - 1) = c.longer_at.ensures ∙ ap (λ (xs : List Longer). slice_get xs (c.args.at - 1)) (c.deref.ensures.value ∙ ap (λ (m : Linked). m.longer) c.self.view_is) in
    some_made l.calls l.longer c.args.at c.longer_at.result (subst (λ (m : Linked). AreBehind m.longer) c.self.view_is c.self.invariant.0) (λ e. omega (arith, e)) is

pub returns-clause-none : goal.returns-clause-none
returns-clause-none c =
    let l = c.args.self.now in
    let is : c.longer_at.result ≡ slice_get l.longer (c.args.at - 1) = c.longer_at.ensures ∙ ap (λ (xs : List Longer). slice_get xs (c.args.at - 1)) (c.deref.ensures.value ∙ ap (λ (m : Linked). m.longer) c.self.view_is) in
    else_made l.calls l.longer c.args.at c.longer_at.result (λ e. omega (arith, e)) is
