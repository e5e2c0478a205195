use Rattle.std.proofs.Common.{◌++◌, ap, sym, subst, ◌∙◌, map}
use Rattle.orc_syntax.specs.Ast.{label, IsExpr}
use Rattle.orc_syntax.specs.Printing.{names}
use Rattle.orc_syntax.proofs.Backward.{line_joins}
use Rattle.orc_syntax.proofs.printer.print_definition.Goals as goal

pub returns : goal.returns
returns c = λ t e.
    let a₁ = c.in_ok-extend_from_slice.ensures.items in
    let a₂ = c.in_ok-extend_from_slice-2.ensures.items in
    let a₃ = c.in_ok-push.ensures.items in
    let a₄ = c.in_ok-print_names.ensures ∙ ap (λ ns. c.push.new.self.items ++ names (map label ns)) c.deref.ensures.value in
    let a₅ = c.in_ok-extend_from_slice-3.ensures.items in
    let a₆ = c.in_ok-print_expression.ensures t (subst (λ ns. IsExpr ns t) (sym c.deref-2.ensures.value) e) in
    c.in_ok-extend_from_slice-4.ensures.items ∙ line_joins _ _ _ _ _ _ _ _ _ _ _ _ _ _ a₁ a₂ a₃ a₄ a₅ a₆
