use Rattle.std.proofs.Common.{◌≡◌, sym, ◌∙◌, arith}
use Rattle.orc_claims.specs.declared.happening.Occurrence.TheVariants as what
use Rattle.orc_search.proofs.Nodes.{values_same}
use Rattle.orc_schedules.proofs.calls.is_same.Goals as goal

pub returns-else-not-is_same_phase : goal.returns-else-not-is_same_phase
returns-else-not-is_same_phase c = λ same.
    let p = c.in-Call-Call in
    let site : p.site ≡ p.called = omega arith in
    let phase : p.phase ≡ p.became = c.is_same_phase.ensures c.if-not-is_same_phase.false in
    let args : p.args ≡ p.others = sym c.as_slice.ensures.value ∙ values_same c.as_slice.result.now c.as_slice-in-Call-Call.result.now (sym c.are_same.ensures ∙ same) ∙ c.as_slice-in-Call-Call.ensures.value in
    p.is-0 ∙ (λ i. what.Call (site i) (args i) (phase i)) ∙ sym p.is-1
