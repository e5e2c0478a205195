use Rattle.std.proofs.Common.{◌++◌, ◌∷◌, [], length, sym, ap, subst, ◌∙◌}
use Rattle.orc_rules.specs.Nodes.{Terms, HasParts}
use Rattle.orc_scope.specs.Listed.{terms, term_of, HasList, HaveLists}
use Rattle.orc_scope.proofs.Listed.{from_push, terms_length, have_push}
use Rattle.orc_scope.proofs.nodes.Nodes.add.Goals as goal

pub push-requires : goal.push-requires
push-requires c = subst (λ n. HasParts n c.args.node) (terms_length c.args.self.now ∙ ap (λ (l : Terms). length l.nodes) (sym c.self.view_is)) c.requires.parts

pub invariant_of-self-2 : goal.invariant_of-self-2
invariant_of-self-2 c =
    let l = c.self.inside.terms in
    subst (λ (m : Terms). HaveLists (length m.lists) m.nodes) (sym c.in_ok-at.ensures.added) (have_push (length l.lists) l.nodes c.args.node c.self.invariant (subst (λ (m : Terms). HasList (length m.lists) c.args.node) (sym c.self.view_is) c.requires.list))

pub returns-clause-number : goal.returns-clause-number
returns-clause-number c = c.in_ok-at.ensures.number ∙ sym (terms_length c.self.inside.terms) ∙ ap (λ (m : Terms). length (terms m)) c.self.view_is

pub returns-clause-added : goal.returns-clause-added
returns-clause-added c = ap terms c.in_ok-at.ensures.added ∙ from_push c.self.inside.terms.lists [] c.self.inside.terms.nodes c.args.node ∙ ap (λ (m : Terms). terms m ++ term_of m c.args.node ∷ []) c.self.view_is
