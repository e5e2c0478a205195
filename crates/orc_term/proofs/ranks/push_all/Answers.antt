use Rattle.std.proofs.Common.{◌≡◌, ◌<◌, ◌++◌, ◌∷◌, [], ◌∙◌, arith, ap, sym, subst, length, length-append, ⊎_elim}
use Rattle.orc_term.specs.Ranks.{rank, IsIn}
use Rattle.orc_term.proofs.Hints.{next_or}
use Rattle.orc_term.proofs.Ranking.{in_first, in_last, zeros_more}
use Rattle.orc_term.proofs.ranks.push_all.Goals as goal

pub loop-i-preserved : goal.loop-i-preserved
loop-i-preserved c =
    let ranks = c.loop-i.numbers.items in
    let late = c.loop-i.late.items in
    let i = c.loop-i.i in
    let more = c.in_ok-push.ensures.items in
    let longer = c.in_ok-push-2.ensures.items in (
      λ none.
          let before = c.loop-i.invariant.0 none in
          (omega (arith, ap length more, length-append ranks (0 ∷ []), before.0), λ k. ap (λ z. rank z k) more ∙ zeros_more ranks k (before.1 k)),
      λ k lt.
          subst (IsIn k) (sym longer) (
          ⊎_elim
          (λ (a : k < i). in_first k late (i ∷ []) (c.loop-i.invariant.1 k a))
          (λ (e : k ≡ i). subst (λ z. IsIn k (late ++ z ∷ [])) e (in_last k late))
          (next_or k i lt)
          ),
    )

pub returns-clause-each : goal.returns-clause-each
returns-clause-each c i lt =
    let late = c.loop-i.late.items in
    subst (IsIn i) (sym c.in_ok-push-3.ensures.items) (in_first i late (0 ∷ []) (c.loop-i.invariant.1 i (omega (arith, lt, c.loop-i-test.false))))
