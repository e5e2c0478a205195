use Rattle.std.proofs.Common.{◌≡◌, ◌<◌, ◌++◌, ◌∷◌, [], true, cond, length, arith, sym, ap, subst, ◌∙◌}
use Rattle.std.specs.Result.{is_ok}
use Rattle.orc_rules.specs.Lines.{lines_of, Indexes}
use Rattle.orc_rules.proofs.Places.{one_more}
use Rattle.orc_rules.proofs.lines.Lines.push.Goals as goal
use Rattle.orc_rules.proofs.lines.Lines.push.Goals.{then-len-eq-FEW_LINES+in_ok-self-inside, else-len-eq-FEW_LINES}

pub invariant_of-self-2 : goal.invariant_of-self-2
invariant_of-self-2 c many =
    let was = c.self.inside in
    let now = c.if-len-eq-FEW_LINES.self-inside in
    let line = c.args.line in
    let kept : now.lines ≡ was.lines = elim c.if-len-eq-FEW_LINES.branch [
      | then-len-eq-FEW_LINES+in_ok-self-inside w ↦ ap (λ s. s.lines) w.self-inside-is
      | else-len-eq-FEW_LINES w ↦ ap (λ s. s.lines) w.self-inside-is
    ] in
    let finds : Indexes (lines_of was.lines.items) now.index.places.entries now.index.shapes.items = elim c.if-len-eq-FEW_LINES.branch [
      | then-len-eq-FEW_LINES+in_ok-self-inside w ↦
          let made : Indexes (lines_of was.lines.items) w.in_ok-self-inside.field-0.places.entries w.in_ok-self-inside.field-0.shapes.items = subst (λ ls. Indexes (lines_of ls) w.in_ok-self-inside.field-0.places.entries w.in_ok-self-inside.field-0.shapes.items) w.deref.ensures.value w.in_ok-self-inside.ensures in
          subst (λ s. Indexes (lines_of was.lines.items) s.index.places.entries s.index.shapes.items) (sym w.self-inside-is) made
      | else-len-eq-FEW_LINES w ↦
          let over : 8 < length was.lines.items = omega (arith, c.if-len-lt-FEW_LINES.false, c.len.ensures, c.len-2.ensures, w.if-len-eq-FEW_LINES.false, was.lines.ok.0) in
          subst (λ s. Indexes (lines_of was.lines.items) s.index.places.entries s.index.shapes.items) (sym w.self-inside-is) (c.self.invariant over)
    ] in
    let there : c.try_reserve.new.self.items ≡ was.lines.items = c.in_ok-try_reserve.ensures.items ∙ ap (λ l. l.items) kept in
    let pushed : is_ok c.push-pushed.result ≡ true = sym c.is_ok.ensures.value ∙ c.if-prove.false in
    let more : c.push-pushed.new.self.items ≡ was.lines.items ++ line ∷ [] = c.push-pushed.ensures.items ∙ (λ i. cond (pushed i) (there i ++ line ∷ []) (there i)) in
    let place : c.len-3.result ≡ length was.lines.items = c.len-3.ensures ∙ c.in_ok-try_reserve.ensures.len ∙ ap (λ l. l.len) kept ∙ was.lines.ok.0 in
    one_more c.push-pushed.new.self.items was.lines.items line _ _ _ _ _ c.len-3.result more c.deref-2.ensures.value place finds c.in_ok-enter.ensures.entered
