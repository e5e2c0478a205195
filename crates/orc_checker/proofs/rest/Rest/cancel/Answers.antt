use Rattle.std.proofs.Common.{◌≡◌, ◌-◌, ◌∙◌, sym, ap, length, arith, List, ℕ, Some}
use Rattle.std.specs.Prelude.{slice_get, vec_len}
use Rattle.std.specs.Option.{option_copied}
use Rattle.orc_checker.specs.Calls.{Rest}
use Rattle.orc_checker.proofs.Cancelling.{last_popped}
use Rattle.orc_checker.proofs.rest.Rest.cancel.Goals as goal

pub returns-clause-done : goal.returns-clause-done
returns-clause-done c =
    let old = c.self.inside in
    let due = old.to_cancel.items in
    let len : vec_len old.to_cancel ≡ length due = omega arith in
    let e = c.deref.ensures.value in
    let last : slice_get due (vec_len old.to_cancel - 1) ≡ Some c.args.k =
    ap (λ n. slice_get due (n - 1)) len ∙ (λ j. slice_get (sym e j) (length (sym e j) - 1)) ∙ sym c.last.ensures.value ∙ ap option_copied c.in-Some.is ∙ ap Some c.if-next-k.true in
    let same = last_popped due c.pop-cancelled.new.self.items c.pop-cancelled.result (vec_len old.to_cancel) c.args.k len last c.pop-cancelled.ensures.value c.pop-cancelled.ensures.items in
    let rest : List ℕ → Rest = λ z. record { calls = old.calls.items; counts = old.counts; time = old.time; to_cancel = z; cancels = old.cancels } in
    sym c.self.view_is ∙ ap rest same
