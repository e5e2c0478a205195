use Rattle.std.proofs.Common.{◌≡◌, ◌++◌, ◌∷◌, [], ℕ, map, reverse, take, sym, ap, subst, ◌∙◌, arith, rules, Option}
use Rattle.orc_syntax.specs.Ast.{item}
use Rattle.orc_syntax.specs.Backward.{back, waiting, said, visits, visit, OnNone, IfNext}
use Rattle.orc_syntax.proofs.Backward.{back_end, back_turn, back_step}
use Rattle.orc_syntax.proofs.printer.Printer.print.Goals as goal

pub returns-in_default : goal.returns-in_default
returns-in_default c =
    let s = c.loop-count.self in
    back_end (waiting s.tasks.items) (reverse (map item (take c.loop-count.count c.args.nodes.now))) (said s.pieces.items) (said c.next.new.self.pieces.items) _
    (subst (λ (o : Option ℕ). OnNone (visits (waiting s.tasks.items) ≡ []) o) c.in_default.is c.in_ok-level.ensures.none) c.in_ok-level.ensures.pieces c.loop-count.invariant.0

pub loop-count-preserved : goal.loop-count-preserved
loop-count-preserved c =
    let s = c.loop-count.self in
    let i = c.loop-count.invariant in (
      back_turn (waiting s.tasks.items) (waiting c.parts.new.self.tasks.items) (waiting c.next.new.self.tasks.items) c.in-Some.level _ (reverse (map item (take c.loop-count.count c.args.nodes.now))) _ (said s.pieces.items) (said c.parts.new.self.pieces.items) _
          (subst (λ (o : Option ℕ). IfNext (λ n. visits (waiting s.tasks.items) ≡ visit n ∷ waiting c.next.new.self.tasks.items) o) c.in-Some.is c.in_ok-level.ensures.some)
          (back_step c.args.nodes.now c.loop-count.count _ (search rules) i.1)
          c.in_ok-parts.ensures.tasks
          (ap (λ z. said z.items) c.in_ok-parts.ensures.pieces ∙ c.in_ok-level.ensures.pieces)
          i.0,
      omega (arith, i.1),
    )

pub returns : goal.returns
unfolding back
returns c =
    let s = c.loop-count.self in
    let zero : c.loop-count.count ≡ 0 = search rules in
    c.in_ok-next.ensures.pieces
    ∙ ap (λ (n : ℕ). back (waiting s.tasks.items) (reverse (map item (take n c.args.nodes.now))) ++ said s.pieces.items) (sym zero)
    ∙ c.loop-count.invariant.0
