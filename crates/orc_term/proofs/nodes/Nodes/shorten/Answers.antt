use Rattle.std.proofs.Common.{◌≡◌, ◌∙◌, sym, subst, get_or, Some}
use Rattle.std.specs.Prelude.{slice_get}
use Rattle.orc_term.specs.Hints.{Stock, AreHints, IsHintBelow}
use Rattle.orc_term.proofs.Hints.{hints_shorter}
use Rattle.orc_term.proofs.nodes.Nodes.shorten.Goals as goal

pub invariant_of-self : goal.invariant_of-self
invariant_of-self c =
    let n = c.self.inside in
    let h = c.stored_hint-hint.ensures in
    let there : slice_get n.items.items (get_or n.hints.items c.args.i c.args.i) ≡ Some c.in-Some.node = (λ j. slice_get (Stock.items (c.self.view_is j)) (sym h j)) ∙ sym c.get.ensures ∙ c.in-Some.is in (
      subst (AreHints n.items.items) (sym c.set_hint.ensures.items)
          (hints_shorter n.items.items n.hints.items c.args.i c.hint_below-further.result c.in-Some.node there (subst (λ z. IsHintBelow n.items.items n.hints.items z c.in-Some.node.parent c.hint_below-further.result) h c.hint_below-further.ensures) c.self.invariant.0),
      c.self.invariant.1,
      c.self.invariant.2,
    )
