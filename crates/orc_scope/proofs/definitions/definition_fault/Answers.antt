use Rattle.std.proofs.Common.{rules, ◌-◌, [], List, map, take, ap, subst, ◌∙◌}
use Rattle.orc_syntax.specs.Tree.{Label}
use Rattle.orc_syntax.specs.Ast.{label, item}
use Rattle.orc_scope.specs.declared.fault.FaultKind.TheVariants.{DefinedTwice}
use Rattle.orc_scope.specs.Scope.{IsLeast, position, faults}
use Rattle.orc_scope.specs.Looking.{known_of}
use Rattle.orc_scope.specs.Program.{text, repeated, parameter_faults, size_of_define}
use Rattle.orc_scope.proofs.definitions.definition_fault.Goals as goal

pub returns-clause-least : goal.returns-clause-least
returns-clause-least c = λ e is.
    let k = known_of c.args.known.now in
    let seen = take c.args.number c.args.known.now.definitions in
    let own : IsLeast c.repeated-own.result (repeated DefinedTwice (position seen e.name.text) e.name.span) =
    subst (λ (x : Label). IsLeast c.repeated-own.result (repeated DefinedTwice (position seen x.text) x.span)) is.name (search rules) in
    let parameters : IsLeast c.in_ok-parameters.parameters (parameter_faults [] 1 e.parameters) = subst (λ (xs : List Label). IsLeast c.in_ok-parameters.parameters (parameter_faults [] 1 xs)) (ap (map label) c.deref.ensures.value ∙ is.parameters) c.in_ok-parameters.ensures.least in
    let body : IsLeast c.in_ok-body.body (faults k (map text e.parameters) e.body) =
    subst (λ (l : List (List _)). IsLeast c.in_ok-body.body (faults k l e.body)) (c.in_ok-parameters.ensures.scope ∙ ap (map text) (ap (map label) c.deref.ensures.value ∙ is.parameters)) (c.in_ok-body.ensures.least e.body (ap (map item) c.deref-2.ensures.value ∙ is.body)) in
    c.lesser-2.ensures _ _ own (c.lesser.ensures _ _ parameters body)

pub returns-clause-room : goal.returns-clause-room
returns-clause-room c = λ e k names is. c.in_ok-body.ensures.room e.body k names (ap (map item) c.deref-2.ensures.value ∙ is.body) ∙ ap (λ n. n - size_of_define k names e) (search rules)
