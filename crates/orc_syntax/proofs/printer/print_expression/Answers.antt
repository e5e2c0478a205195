use Rattle.std.proofs.Common.{◌≡◌, ◌++◌, ◌∷◌, [], List, ℕ, ap, ◌∙◌, subst}
use Rattle.std.specs.Prelude.{OnOk}
use Rattle.orc_syntax.specs.Backward.{waiting, said, visit}
use Rattle.orc_syntax.proofs.Backward.{whole_said}
use Rattle.orc_syntax.proofs.printer.print_expression.Goals as goal

pub returns : goal.returns
returns c = λ t e.
    let w : waiting c.visit.new.self.tasks.items ≡ visit 0 ∷ [] = c.in_ok-visit.ensures.tasks ∙ ap (λ l. visit 0 ∷ waiting l) c.new.ensures.items in
    let p = ap (λ z. z.items) c.in_ok-visit.ensures.pieces ∙ c.new-2.ensures.items in
    let is = whole_said c.visit.new.self.tasks.items c.visit.new.self.pieces.items c.print.new.self.pieces.items c.args.nodes.now t e w p c.in_ok-print.ensures in
    subst (λ (l : List ℕ). OnOk c.push_pieces.result (c.push_pieces.new.out.items ≡ c.args.out.now.items ++ l)) (ap said c.deref.ensures.value ∙ is) c.push_pieces.ensures
