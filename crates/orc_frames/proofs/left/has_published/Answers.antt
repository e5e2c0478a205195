use Rattle.std.proofs.Common.{◌≡◌, ◌+◌, suc, List, sym, ap, ◌∙◌, arith, drop, true, false}
use Rattle.std.specs.Prelude.{slice_get, ◌||◌}
use Rattle.orc_tables.specs.declared.records.Step.{Step}
use Rattle.orc_tables.specs.Steps.{step_at}
use Rattle.orc_frames.specs.Paths.{has_published_at, has_published}
use Rattle.orc_frames.proofs.Growth.{left-next}
use Rattle.orc_frames.proofs.left.has_published.Goals as goal

pub returns-then-has_published_at : goal.returns-then-has_published_at
returns-then-has_published_at c =
    let ss : List Step = c.args.steps.now.items in
    let at = c.loop-at.at in
    let n = c.args.number in
    let next : at + 1 ≡ suc at = omega arith in
    let here : has_published_at n (slice_get ss at) ≡ true = ap (λ i. has_published_at n (step_at ss i)) (sym next) ∙ sym c.has_published_at.ensures ∙ c.if-has_published_at.true in
    sym (c.loop-at.invariant.rest ∙ left-next ss at n (omega (arith, c.loop-at-test.true, c.len.ensures.count)) ∙ ap (λ b. b || has_published (drop (suc at) ss) n) here)

pub loop-at-preserved : goal.loop-at-preserved
loop-at-preserved c =
    let ss : List Step = c.args.steps.now.items in
    let at = c.loop-at.at in
    let n = c.args.number in
    let next : at + 1 ≡ suc at = omega arith in
    let here : has_published_at n (slice_get ss at) ≡ false = ap (λ i. has_published_at n (step_at ss i)) (sym next) ∙ sym c.has_published_at.ensures ∙ c.if-has_published_at.false in
    record {
      within = omega (arith, c.loop-at-test.true, c.len.ensures.count);
      rest = c.loop-at.invariant.rest ∙ left-next ss at n (omega (arith, c.loop-at-test.true, c.len.ensures.count)) ∙ ap (λ b. b || has_published (drop (suc at) ss) n) here ∙ ap (λ i. has_published (drop i ss) n) (sym next);
    }
