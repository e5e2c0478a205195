use Rattle.std.proofs.Common.{◌∙◌, ap, sym, Result, Ok, Err, IfOk, OnOk}
use Rattle.orc_rules.specs.Nodes.{code}
use Rattle.orc_checker.specs.Checker.{State}
use Rattle.orc_checker.proofs.Cancelling.{cancel-enters}
use Rattle.orc_rules.specs.declared.entry.Entry.TheVariants as entry
use Rattle.std.specs.Prelude.{slice_get}
use Rattle.orc_rules.specs.declared.entry.RuleFault.TheVariants as reason
use Rattle.orc_checker.proofs.Refusing.{cancel_other, err_map, refused_for}
use Rattle.orc_checker.proofs.marked.Marked.cancel.Goals as goal

by_case : {X Y A B : Type 0} (r : Result X Y) → OnOk r A → (A → B) → IfOk r (λ _. B)
by_case (Ok x) h f = f h
by_case (Err y) h f = tt

pub returns-clause-done : goal.returns-clause-done
returns-clause-done c =
    let v = c.self.view_is in
    by_case c.cancel.result c.cancel.ensures.done
    (λ e. cancel-enters (code c.args.program.now) c.args.self.now _ c.args.k (ap State.nodes v) (ap State.scopes v) (ap State.cells v) (ap State.marks v) (ap State.halts v) (ap State.flags v) (ap State.asked v) (sym (ap State.rest v) ∙ e))

pub returns-clause-reason : goal.returns-clause-reason
returns-clause-reason c =
    let a = c.args in
    err_map c.cancel.result
    (λ why h t. refused_for a.program.now t (entry.Cancel a.k) a.self.now why reason.Cancel h.0 (cancel_other a.program.now t a.self.now a.k (λ e. h.1 (ap (λ (z : State). slice_get z.rest.to_cancel 0) c.self.view_is ∙ e))))
    c.cancel.ensures.why
