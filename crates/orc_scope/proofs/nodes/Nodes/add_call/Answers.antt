use Rattle.std.proofs.Common.{◌≡◌, ◌≤◌, ◌<◌, ◌++◌, ◌∷◌, [], List, length, map, sym, ap, subst, ◌∙◌, arith, slice_index_or}
use Rattle.std.proofs.lemmas.List.{length-append}
use Rattle.orc_rules.specs.declared.param.Operand.{Operand}
use Rattle.orc_rules.specs.Nodes.{Terms, param_of}
use Rattle.orc_rules.specs.Term.{Term, stop}
use Rattle.orc_scope.specs.Listed.{terms, term_of, HaveLists}
use Rattle.orc_scope.specs.Scope.{outer_meaning, position}
use Rattle.orc_scope.specs.Written.{called}
use Rattle.orc_scope.proofs.Listed.{from_list, have_more, list_last}
use Rattle.orc_scope.proofs.nodes.Nodes.add_call.Goals as goal

pub invariant_of-self-2 : goal.invariant_of-self-2
invariant_of-self-2 c =
    let l = c.self.inside.terms in
    let le : length l.lists ≤ length (l.lists ++ c.args.operands ∷ []) = rw (length-append l.lists (c.args.operands ∷ [])) (omega arith) in
    subst (λ (m : Terms). HaveLists (length m.lists) m.nodes) (sym c.in_ok-list.ensures.added) (have_more (length l.lists) (length (l.lists ++ c.args.operands ∷ [])) l.nodes le c.self.invariant)

pub add-requires-clause-parts : goal.add-requires-clause-parts
add-requires-clause-parts c = c.called.ensures.parts _

pub add-requires-clause-list : goal.add-requires-clause-list
add-requires-clause-list c =
    let l = c.self.inside.terms in
    let lt : c.in_ok-list.list < length (l.lists ++ c.args.operands ∷ []) = rw (length-append l.lists (c.args.operands ∷ [])) (omega (arith, c.in_ok-list.ensures.number)) in
    c.called.ensures.list _ (subst (λ (m : Terms). c.in_ok-list.list < length m.lists) (sym c.in_ok-list.ensures.added) lt)

pub returns-clause-number : goal.returns-clause-number
returns-clause-number c =
    let l = c.self.inside.terms in
    c.in_ok-at.ensures.number ∙ ap (λ (m : Terms). length (terms m)) c.in_ok-list.ensures.added ∙ ap (λ (fs : List Term). length fs) (from_list l.lists c.args.operands [] l.nodes c.self.invariant) ∙ ap (λ (m : Terms). length (terms m)) c.self.view_is

pub returns-clause-added : goal.returns-clause-added
returns-clause-added c =
    let l = c.self.inside.terms in
    let k = c.args.numbers.now.known in
    let m = outer_meaning (position k.definitions c.args.text.now) (position k.sites c.args.text.now) in
    let same : terms c.push_list.new.self ≡ terms c.args.self.now = ap terms c.in_ok-list.ensures.added ∙ from_list l.lists c.args.operands [] l.nodes c.self.invariant ∙ ap terms c.self.view_is in
    let last = ap (λ (ps : List Operand). called m (map param_of ps)) (ap (λ (t : Terms). slice_index_or t.lists c.in_ok-list.list []) c.in_ok-list.ensures.added ∙ ap (λ n. slice_index_or (l.lists ++ c.args.operands ∷ []) n []) c.in_ok-list.ensures.number ∙ list_last l.lists c.args.operands) in
    c.in_ok-at.ensures.added
    ∙ ap (λ (fs : List Term). fs ++ term_of c.push_list.new.self c.called.result ∷ []) same
    ∙ ap (λ (t : Term). terms c.args.self.now ++ t ∷ []) (c.called.ensures.term (λ i. slice_index_or (terms c.push_list.new.self) i stop) c.push_list.new.self.lists ∙ last)
