use Rattle.std.proofs.Common.{◌≡◌, ◌++◌, ◌∷◌, [], List, sym, subst, ◌∙◌}
use Rattle.std.specs.Prelude.{slice_get}
use Rattle.orc_search.specs.declared.node.Node.{Node}
use Rattle.orc_search.specs.Nodes.{smalls, Extends}
use Rattle.orc_search.proofs.Nodes.{extends_last, last_term}
use Rattle.orc_search.proofs.terms.Terms.number_of.Goals as goal

pub returns-in_err-remember-clause-kept : goal.returns-in_err-remember-clause-kept
returns-in_err-remember-clause-kept c =
    let more : c.remember.new.self ≡ c.args.self.now ++ c.args.node ∷ [] = c.remember.ensures ∙ c.in_ok-at.ensures.added in
    subst (λ (ns : List Node). Extends (smalls c.args.self.now) (smalls ns)) (sym more) (extends_last c.args.self.now c.args.node)

pub returns-clause-number : goal.returns-clause-number
returns-clause-number c =
    let more : c.remember.new.self ≡ c.args.self.now ++ c.args.node ∷ [] = c.remember.ensures ∙ c.in_ok-at.ensures.added in
    (λ i. slice_get (smalls (more i)) (c.in_ok-at.ensures.number i)) ∙ last_term c.args.self.now c.args.node

pub returns-clause-kept : goal.returns-clause-kept
returns-clause-kept c =
    let more : c.remember.new.self ≡ c.args.self.now ++ c.args.node ∷ [] = c.remember.ensures ∙ c.in_ok-at.ensures.added in
    subst (λ (ns : List Node). Extends (smalls c.args.self.now) (smalls ns)) (sym more) (extends_last c.args.self.now c.args.node)
