use Rattle.std.proofs.Common.{◌++◌, ◌+◌, List, ℕ, drop, sym, ap, subst, ◌∙◌, rules, append_assoc}
use Rattle.std.proofs.lemmas.List.{append-nil}
use Rattle.orc_syntax.specs.declared.tree.Definition.{Definition}
use Rattle.orc_syntax.specs.Tree.{Define}
use Rattle.orc_syntax.specs.Ast.{IsDefinition}
use Rattle.orc_syntax.specs.Printing.{definition, definitions}
use Rattle.orc_syntax.proofs.Backward.{definition_next, definitions_end, definition_same}
use Rattle.orc_syntax.proofs.printer.print_definitions.Goals as goal

pub loop-d-preserved : goal.loop-d-preserved
loop-d-preserved c = λ es h.
    let i = c.loop-d.d-index in
    let n = definition_next c.args.ds.now es i c.d-item.result c.loop-d-test.true h in
    let is = subst (λ (d : Definition). IsDefinition d n.0) (sym c.d-item.is) n.1 in
    let out = c.loop-d.out.items in
    let more = definitions (drop (i + 1) es) in
    ap (λ (l : List ℕ). l ++ more) (c.in_ok-print_definition.ensures n.0.body is.body ∙ ap (λ (l : List ℕ). out ++ l) (definition_same c.d-item.result n.0 is))
    ∙ append_assoc out (definition n.0) more
    ∙ ap (λ (l : List Define). out ++ definitions l) (sym n.2)
    ∙ c.loop-d.invariant es h

pub returns : goal.returns
returns c = λ es h.
    sym (append-nil c.loop-d.out.items)
    ∙ ap (λ (l : List Define). c.loop-d.out.items ++ definitions l) (sym (definitions_end c.args.ds.now es c.loop-d.d-index (search rules) h))
    ∙ c.loop-d.invariant es h
