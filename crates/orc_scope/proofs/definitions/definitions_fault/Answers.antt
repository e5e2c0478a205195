use Rattle.std.proofs.Common.{rules, ◌≡◌, ◌≤◌, ◌++◌, [], List, length, get_or, map, take, drop, refl, sym, ap, subst, ◌∙◌, arith}
use Rattle.std.proofs.lemmas.List.{append-nil, drop_all}
use Rattle.orc_syntax.specs.Tree.{Define}
use Rattle.orc_syntax.specs.Ast.{IsDefinition}
use Rattle.orc_scope.specs.declared.fault.ScopeFault.{ScopeFault}
use Rattle.orc_scope.specs.Scope.{IsLeast}
use Rattle.orc_scope.specs.Looking.{known_of}
use Rattle.orc_scope.specs.Program.{name_of, definition_faults, definitions_faults, sizes_of}
use Rattle.orc_scope.proofs.Programs.{definitions_step, sizes_step, defines_length}
use Rattle.orc_scope.proofs.definitions.definitions_fault.Goals as goal

pub loop-number-init : goal.loop-number-init
loop-number-init c = record {
  least = λ es are names. ([], refl, refl);
  room = λ es k names are. refl;
}

pub loop-number-preserved : goal.loop-number-preserved
loop-number-preserved c = record {
  least = λ es are names.
      let i = c.loop-number.invariant.least es are names in
      let k = known_of c.args.known.now in
      let d = c.index-definitions-number.result in
      let here : get_or c.args.definitions.now c.loop-number.number d ≡ d = search rules in
      definitions_step k c.args.definitions.now es c.loop-number.number d c.loop-number.least c.in_ok-own.own c.lesser-least.result i.0 _ (search rules) are i.1
      (λ e is. subst (λ (l : List (List _)). IsLeast c.in_ok-own.own (definition_faults k (take c.loop-number.number l) e)) names (c.in_ok-own.ensures.least e (subst (λ d. IsDefinition d e) here is))) c.lesser-least.ensures i.2;
  room = λ es k names are.
      let d = c.index-definitions-number.result in
      let here : get_or c.args.definitions.now c.loop-number.number d ≡ d = search rules in
      sizes_step k names c.args.definitions.now es c.loop-number.number d c.loop-number.looking.room _ _ (search rules) are (λ e is. c.in_ok-own.ensures.room e k names (subst (λ d. IsDefinition d e) here is)) (c.loop-number.invariant.room es k names are);
}

pub returns-clause-least : goal.returns-clause-least
returns-clause-least c = λ es are names.
    let i = c.loop-number.invariant.least es are names in
    let k = known_of c.args.known.now in
    let end : length es ≤ c.loop-number.number = rw (sym (defines_length c.args.definitions.now es are)) (search rules) in
    let e : i.0 ≡ definitions_faults k [] es =
    sym (append-nil i.0) ∙ sym (ap (λ (l : List Define). i.0 ++ definitions_faults k (take c.loop-number.number (map name_of es)) l) (drop_all c.loop-number.number es end)) ∙ i.2 in
    subst (λ (l : List ScopeFault). IsLeast c.loop-number.least l) e i.1

pub returns-clause-room : goal.returns-clause-room
returns-clause-room c = λ es k names are.
    let end : length es ≤ c.loop-number.number = rw (sym (defines_length c.args.definitions.now es are)) (search rules) in
    let none : sizes_of k names (drop c.loop-number.number es) ≡ 0 = ap (λ (l : List Define). sizes_of k names l) (drop_all c.loop-number.number es end) in
    let room = c.loop-number.invariant.room es k names are in
    omega (arith, none, room)
