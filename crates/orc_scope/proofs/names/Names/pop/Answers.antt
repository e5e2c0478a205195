use Rattle.std.proofs.Common.{rules, ◌≡◌, ◌≤◌, ◌<◌, ◌++◌, ◌∷◌, [], map, length, bytes_eq, Some, sym, ap, ◌∙◌}
use Rattle.std.proofs.lemmas.List.{map-append, length-map}
use Rattle.std.specs.HashMap.{get_by}
use Rattle.orc_syntax.specs.Ast.{text_of}
use Rattle.orc_scope.specs.Scope.{position}
use Rattle.orc_scope.specs.Names.{late}
use Rattle.orc_scope.specs.declared.names.TheConstants.{EARLY}
use Rattle.orc_scope.proofs.Places.{changed, popped_twin}
use Rattle.orc_scope.proofs.Early.{late_above, late_is, late_push, late_popped}
use Rattle.orc_scope.proofs.names.Names.pop.Goals as goal

pub invariant_of-self-then-eq : goal.invariant_of-self-then-eq
invariant_of-self-then-eq c = λ text.
    let x = c.in-Some.text.now in
    let ts = map text_of c.pop.new.self.items in
    let us = map text_of c.self.inside.texts.items in
    let u : us ≡ ts ++ x ∷ [] = ap (map text_of) c.in-Some.ensures.items ∙ map-append text_of c.pop.new.self.items (c.in-Some.text ∷ []) in
    let last : position us x ≡ Some (length ts) = late_is EARLY (length ts) (position us x) (sym (c.self.invariant x) ∙ sym (c.get.ensures.value) ∙ sym c.copied.ensures ∙ search (rules, length-map)) in
    late_popped EARLY ts us x text _ u last (changed x c.self.inside.places c.remove.new.self _ text c.remove.ensures.updates ∙ search (rules, c.self.invariant text))

pub invariant_of-self-else-eq : goal.invariant_of-self-else-eq
invariant_of-self-else-eq c = λ text.
    let x = c.in-Some.text.now in
    let ts = map text_of c.pop.new.self.items in
    let us = map text_of c.self.inside.texts.items in
    let u : us ≡ ts ++ x ∷ [] = ap (map text_of) c.in-Some.ensures.items ∙ map-append text_of c.pop.new.self.items (c.in-Some.text ∷ []) in
    let le : EARLY ≤ length ts = search (rules, length-map) in
    c.self.invariant text ∙ ap (late EARLY) (popped_twin ts us x text u (λ last.
    let there : get_by (λ k. bytes_eq x k.now) c.self.inside.places ≡ Some (length ts) = c.self.invariant x ∙ ap (late EARLY) last ∙ late_above EARLY (length ts) le in
    search (rules, length-map, there)))

pub invariant_of-self-else-at-ge-EARLY : goal.invariant_of-self-else-at-ge-EARLY
invariant_of-self-else-at-ge-EARLY c = λ text.
    let x = c.in-Some.text.now in
    let ts = map text_of c.pop.new.self.items in
    let us = map text_of c.self.inside.texts.items in
    let u : us ≡ ts ++ x ∷ [] = ap (map text_of) c.in-Some.ensures.items ∙ map-append text_of c.pop.new.self.items (c.in-Some.text ∷ []) in
    let lt : length ts < EARLY = search (rules, length-map) in
    c.self.invariant text ∙ sym (late_push EARLY ts us x text u lt)
