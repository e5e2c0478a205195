use Rattle.std.proofs.Common.{◌∙◌, ◌++◌, ◌∷◌, [], ap, sym, subst}
use Rattle.orc_term.specs.Hints.{AreHints, IsHintBelow}
use Rattle.orc_term.specs.Asking.{AreNoted}
use Rattle.orc_term.proofs.Hints.{hints_more}
use Rattle.orc_term.proofs.Asking.{noted_more}
use Rattle.orc_term.specs.Ranks.{AreKept}
use Rattle.orc_term.proofs.nodes.Nodes.push_within.Goals as goal

pub invariant_of-self : goal.invariant_of-self
invariant_of-self c =
    let n = c.self.inside in
    let added = c.push_within.ensures.items ∙ ap (λ z. n.items.items ++ z ∷ []) c.new.ensures in
    let its = subst (λ z. IsHintBelow n.items.items n.hints.items z c.args.node.parent c.hint_below-hint.result) (c.len-number.ensures ∙ n.items.ok.0) c.hint_below-hint.ensures in (
      subst (λ z. AreHints z c.push_within-2.new.items.items) (sym added) (subst (AreHints _) (sym c.push_within-2.ensures.items) (hints_more n.items.items n.hints.items c.args.node c.hint_below-hint.result c.self.invariant.0 its)),
      subst (λ z. AreNoted z n.restless) (sym added) (noted_more n.items.items c.args.node n.restless c.self.invariant.1),
      subst (λ z. AreKept z c.add.new.self) (sym added) (c.add.ensures c.self.invariant.2),
    )
