use Rattle.std.proofs.Common.{◌∙◌, ◌≡◌, ap, sym, subst}
use Rattle.std.specs.Prelude.{slice_get}
use Rattle.std.specs.Bool.{Decides}
use Rattle.orc_verdict.proofs.Entries.{as_turn}
use Rattle.orc_verdict.proofs.reasons.is_in_turn.Goals as goal

pub returns : goal.returns
returns c cancels p r sp =
    as_turn p c.args.entry.now c.are_same.result c.next_cancel.result (c.next_cancel.ensures ∙ ap (λ z. slice_get z 0) (sym sp.rest.due))
    (subst (λ z. Decides c.are_same.result (z ≡ c.next_cancel.result)) c.cancel_named.ensures c.are_same.ensures)
