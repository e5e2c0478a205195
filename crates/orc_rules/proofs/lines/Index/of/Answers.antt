use Rattle.std.proofs.Common.{◌≡◌, ◌++◌, ◌∷◌, [], ◌+◌, suc, take, arith, sym, ap, ◌∙◌}
use Rattle.std.proofs.Math.Seq.{take-suc}
use Rattle.std.proofs.lemmas.List.{length-take-le}
use Rattle.orc_rules.proofs.Places.{one_more}
use Rattle.orc_rules.proofs.lines.Index.of.Goals as goal

pub loop-place-preserved : goal.loop-place-preserved
loop-place-preserved c =
    let lines = c.args.lines.now in
    let place = c.loop-place.place in
    let line = c.index-lines-place.result in
    let next : place + 1 ≡ suc place = omega arith in
    let more : take (place + 1) lines ≡ take place lines ++ line ∷ [] = ap (λ n. take n lines) next ∙ take-suc lines place line c.loop-place-test.true ∙ ap (λ l. take place lines ++ l ∷ []) (sym c.index-lines-place.is) in
    one_more (take (place + 1) lines) (take place lines) line _ _ _ _ _ place more (c.deref.ensures.value ∙ ap (λ l. l.patterns.items) (sym c.index-lines-place.is)) (sym (length-take-le place lines (omega (arith, c.loop-place-test.true)))) c.loop-place.invariant c.in_ok-enter.ensures.entered
