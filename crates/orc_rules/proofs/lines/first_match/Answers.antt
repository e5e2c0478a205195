use Rattle.std.proofs.Common.{◌≡◌, true, false, arith, sym, ap, ◌∙◌}
use Rattle.orc_rules.specs.Sites.{matches}
use Rattle.orc_rules.proofs.Places.{match_here, match_later}
use Rattle.orc_rules.proofs.lines.first_match.Goals as goal

pub returns-then-is_match : goal.returns-then-is_match
returns-then-is_match c =
    let lines = c.args.lines.now in
    let args = c.args.args.now in
    let place = c.loop-place.place in
    let line = c.index-lines-place.result in
    let is : matches line.patterns.items args ≡ true = ap (λ l. matches l.patterns.items args) c.index-lines-place.is ∙ ap (λ ps. matches ps args) (sym c.deref.ensures.value) ∙ sym c.is_match.ensures ∙ c.if-is_match.true in
    omega (arith, c.loop-place.invariant, match_here lines place line args c.loop-place-test.true c.index-lines-place.is is)

pub loop-place-preserved : goal.loop-place-preserved
loop-place-preserved c =
    let lines = c.args.lines.now in
    let args = c.args.args.now in
    let place = c.loop-place.place in
    let line = c.index-lines-place.result in
    let not : matches line.patterns.items args ≡ false = ap (λ l. matches l.patterns.items args) c.index-lines-place.is ∙ ap (λ ps. matches ps args) (sym c.deref.ensures.value) ∙ sym c.is_match.ensures ∙ c.if-is_match.false in
    omega (arith, c.loop-place.invariant, match_later lines place line args c.loop-place-test.true c.index-lines-place.is not)
