use Rattle.std.proofs.Common.{ℕ, List, [], ◌++◌, take, sym, ap, subst, ◌∙◌, length-append, arith}
use Rattle.std.proofs.KnownBytes.{Consumes-nil, Consumes-trans}
use Rattle.std.proofs.lemmas.Result.{err_from_is_err_and}
use Rattle.std.specs.Io.KnownBytes.{Consumes}
use Rattle.orc_journal_text.specs.Pieces.{Coming}
use Rattle.orc_journal_text.proofs.Arriving.{unfilled_more, whole_has_come}
use Rattle.orc_journal_text.proofs.Coming.{may_come, some_may_come, still_first}
use Rattle.orc_journal_text.proofs.pieces.Pieces.skip.Goals as goal

pub loop-self-init : goal.loop-self-init
loop-self-init g c =
    let kept = c.keep_first.ensures in (
      [],
      subst (λ o. Consumes c.args.self.now.left o []) (sym (ap (λ (z : Coming). z.left) kept)) (Consumes-nil c.args.self.now.left),
      ap (λ (z : Coming). z.rest) kept,
      omega (arith, ap (λ (z : Coming). z.came) kept),
    )

pub loop-self-preserved : goal.loop-self-preserved
loop-self-preserved g c =
    let (piece, p, first, came) = c.loop-self.invariant in
    let (next, q, grew, some, end) = c.in_ok-fill.ensures.came in
    let kept = c.keep_first-in-loop-self.ensures in
    let before = c.args.self.now in (
      piece ++ next,
      subst (λ o. Consumes before.left o (piece ++ next)) (sym (ap (λ (z : Coming). z.left) kept)) (Consumes-trans _ _ _ piece next p q),
      ap (λ (z : Coming). z.rest) kept ∙ ap (λ (z : Coming). take 1 z.rest) grew ∙ ap (λ (t : List ℕ). take 1 (t ++ next)) first ∙ still_first before.rest next c.requires,
      omega (arith, came, ap (λ (z : Coming). z.came) kept, ap (λ (z : Coming). z.came) grew, length-append piece next),
    )

pub loop-self-smaller : goal.loop-self-smaller
loop-self-smaller g c =
    let (next, q, grew, some, end) = c.in_ok-fill.ensures.came in
    omega (arith, some c.if-branch.true, ap (λ (z : Coming). z.came) c.keep_first-in-loop-self.ensures, ap (λ (z : Coming). z.came) grew, c.in_ok-fill.ensures.few)

pub returns-in_err-fill-clause-fault : goal.returns-in_err-fill-clause-fault
returns-in_err-fill-clause-fault g c =
    let (y, is, from) = err_from_is_err_and c.from_residual.result c.from_residual.ensures.1 in
    let (piece, p, first, came) = c.loop-self.invariant in
    let (bytes, may) = some_may_come c.loop-self.self.left in
    rw (is, from) (piece ++ bytes, may_come _ _ piece bytes p may, unfilled_more _ _ c.in_err-fill.field-0.0 (omega (arith, came, length-append piece bytes)) c.in_err-fill.ensures.fault)

pub returns-clause-end : goal.returns-clause-end
returns-clause-end g c =
    let (piece, p, first, came) = c.loop-self.invariant in
    let (next, q, grew, some, end) = c.in_ok-fill.ensures.came in
    let (empty, over) = end c.if-branch.false in
    (piece, whole_has_come c.args.self.now.left c.loop-self.self.left c.fill.new.self.left piece next p q empty over, omega (arith, came, c.in_ok-fill.ensures.fits))
