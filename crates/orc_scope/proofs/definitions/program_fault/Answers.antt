use Rattle.std.proofs.Common.{[], List, map, sym, ap, subst, ◌∙◌, arith}
use Rattle.orc_syntax.specs.declared.tree.Definition.{Definition}
use Rattle.orc_syntax.specs.Ast.{item, AreDefinitions}
use Rattle.orc_scope.specs.Scope.{IsLeast, faults}
use Rattle.orc_scope.specs.Looking.{known_of}
use Rattle.orc_scope.proofs.definitions.program_fault.Goals as goal

pub returns-clause-least : goal.returns-clause-least
returns-clause-least c = λ s is names.
    let k = known_of c.args.known.now in
    let main : IsLeast c.in_ok-main.main (faults k [] s.main) = subst (λ (l : List (List _)). IsLeast c.in_ok-main.main (faults k l s.main)) c.truncate.ensures (c.in_ok-main.ensures.least s.main (ap (map item) c.deref-2.ensures.value ∙ is.main)) in
    c.lesser.ensures _ _ (c.in_ok-definitions.ensures.least s.definitions (subst (λ (l : List Definition). AreDefinitions l s.definitions) (sym c.deref.ensures.value) is.definitions) names) main

pub returns-clause-room : goal.returns-clause-room
returns-clause-room c = λ s k names is.
    let a = c.in_ok-definitions.ensures.room s.definitions k names (subst (λ (l : List Definition). AreDefinitions l s.definitions) (sym c.deref.ensures.value) is.definitions) in
    let b = c.in_ok-main.ensures.room s.main k names (ap (map item) c.deref-2.ensures.value ∙ is.main) in
    omega (arith, a, b)
