use Rattle.std.proofs.Common.{rules, ◌≡◌, ◌≤◌, ◌++◌, List, length, get_or, map, sym, ap, ◌∙◌}
use Rattle.std.proofs.lemmas.List.{take_all}
use Rattle.orc_syntax.specs.Ast.{item, label}
use Rattle.orc_scope.specs.Program.{text, bound_names, variables_of}
use Rattle.orc_scope.proofs.Bound.{variables_step}
use Rattle.orc_scope.proofs.Programs.{defines_length}
use Rattle.orc_scope.proofs.definitions.variables.Goals as goal

pub loop-definition-preserved : goal.loop-definition-preserved
loop-definition-preserved c = λ es are.
    let d = c.definition-item.result in
    let here : get_or c.args.ast.now.definitions.items c.loop-definition.definition-index d ≡ d = search rules in
    variables_step c.args.ast.now.definitions.items es c.loop-definition.definition-index d c.loop-definition.names c.parameter_names.new.names _ (search rules) are
    (c.in_ok-parameter_names.ensures ∙ ap (λ l. c.loop-definition.names ++ map text (map label l)) (c.deref.ensures.value ∙ ap (λ x. x.parameters.items) (sym here)))
    (λ t e. c.in_ok-bound_names.ensures t (ap (map item) (c.deref-in-loop-definition.ensures.value ∙ ap (λ x. x.body.nodes.items) (sym here)) ∙ e))
    (c.loop-definition.invariant es are)

pub returns : goal.returns
returns c = λ s is.
    let end : length s.definitions ≤ c.loop-definition.definition-index = rw (sym (defines_length c.args.ast.now.definitions.items s.definitions is.definitions)) (search rules) in
    let all = c.loop-definition.invariant s.definitions is.definitions ∙ ap variables_of (take_all c.loop-definition.definition-index s.definitions end) in
    c.in_ok-bound_names-2.ensures s.main (ap (map item) c.deref-2.ensures.value ∙ is.main) ∙ ap (λ (l : List (List _)). l ++ bound_names s.main) all
