use Rattle.std.proofs.Common.{rules, ◌≡◌, ◌≤◌, List, length, get_or, map, sym, ap, ◌∙◌}
use Rattle.std.proofs.lemmas.List.{take_all, map-append}
use Rattle.orc_rules.specs.Nodes.{Routine, Terms, source, definitions}
use Rattle.orc_rules.specs.Programs.{routine_of, listing}
use Rattle.orc_syntax.specs.Tree.{Define}
use Rattle.orc_syntax.specs.Ast.{item, label}
use Rattle.orc_scope.specs.Listed.{terms}
use Rattle.orc_scope.specs.Program.{written_define}
use Rattle.orc_scope.specs.Written.{number}
use Rattle.orc_scope.proofs.Output.{output_step, same_definitions}
use Rattle.orc_scope.proofs.Programs.{defines_length}
use Rattle.orc_scope.proofs.checker.write_out.Goals as goal

pub loop-definition-preserved : goal.loop-definition-preserved
loop-definition-preserved c = λ es are small.
    let k = c.args.numbers.now.known in
    let names = c.args.numbers.now.names in
    let d = c.definition-item.result in
    let here : get_or c.args.ast.now.definitions.items c.loop-definition.definition-index d ≡ d = search rules in
    let r : Routine = record { params = c.in_ok-params.params.items; body = c.in_ok-body.body } in
    output_step k names c.args.ast.now.definitions.items es c.loop-definition.definition-index d (terms c.loop-definition.writing.nodes) (terms c.expression.new.self.nodes) (map routine_of c.loop-definition.definitions.items) (map routine_of c.push.new.self.items) r (search rules) are small
    c.in_ok-body.ensures.keeps
    (c.in_ok-params.ensures ∙ ap (λ l. map (λ x. number names x.text) (map label l)) (c.deref.ensures.value ∙ ap (λ x. x.parameters.items) (sym here)))
    (λ t e few. c.in_ok-body.ensures.term t (ap (map item) (c.deref-in-loop-definition.ensures.value ∙ ap (λ x. x.body.nodes.items) (sym here)) ∙ e) few)
    (ap (map routine_of) c.in_ok-push.ensures.items ∙ map-append routine_of c.loop-definition.definitions.items _)
    (c.loop-definition.invariant es are small)

pub returns : goal.returns
returns c = λ s is small.
    let k = c.args.numbers.now.known in
    let names = c.args.numbers.now.names in
    let end : length s.definitions ≤ c.loop-definition.definition-index = rw (sym (defines_length c.args.ast.now.definitions.items s.definitions is.definitions)) (search rules) in
    let i = c.loop-definition.invariant s.definitions is.definitions small.0 in
    let main = c.in_ok-source.ensures.term s.main (ap (map item) c.deref-2.ensures.value ∙ is.main) small.1 in
    let ds = c.loop-definition.definitions.items in
    let l : c.new-3.result ≡ listing c.expression-2.new.self.nodes ds c.in_ok-source.source = c.new-3.ensures ∙ ap (λ (t : Terms). listing t ds c.in_ok-source.source) c.finish.ensures in
    record {
      source = ap source l ∙ main.0;
      definitions = ap definitions l ∙ same_definitions (terms c.loop-definition.writing.nodes) (terms c.expression-2.new.self.nodes) (map routine_of ds) c.in_ok-source.ensures.keeps i.0 ∙ i.1 ∙ ap (λ (l : List Define). map (written_define k names) l) (take_all c.loop-definition.definition-index s.definitions end);
    }
