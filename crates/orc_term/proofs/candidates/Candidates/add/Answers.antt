use Rattle.std.proofs.Common.{◌≡◌, ◌++◌, ◌∷◌, [], ◌∙◌, ap, sym, subst, inl, inr, ⊎_elim}
use Rattle.orc_rules.specs.Timed.{IsIn}
use Rattle.orc_term.specs.Sides.{Places}
use Rattle.orc_term.proofs.KeptSides.{in_end, in_more}
use Rattle.orc_term.proofs.candidates.Candidates.add.Goals as goal

pub returns-clause-added : goal.returns-clause-added
returns-clause-added c = inr (subst (IsIn c.args.place) (sym c.push_back_reserved.ensures.items) (in_end c.try_reserve.new.self.items c.args.place))

pub returns-clause-kept : goal.returns-clause-kept
returns-clause-kept c p m =
    let items : c.push_back_reserved.new.self.items ≡ c.self.inside.places.items ++ c.args.place ∷ [] = c.push_back_reserved.ensures.items ∙ ap (λ z. z ++ c.args.place ∷ []) c.try_reserve.ensures.items in
    ⊎_elim
    (λ a. inl (ap (λ (z : Places). z.all) c.self.view_is ∙ a))
    (λ a. inr (subst (IsIn p) (sym items) (in_more c.self.inside.places.items c.args.place p (subst (λ (z : Places). IsIn p z.listed) (sym c.self.view_is) a))))
    m
