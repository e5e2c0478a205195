use Rattle.std.proofs.Common.{◌≡◌, ◌++◌, ◌∷◌, [], true, cond, List, length, map, sym, ap, subst, ◌∙◌}
use Rattle.std.specs.Result.{is_ok}
use Rattle.orc_search.specs.declared.node.Node.{Node}
use Rattle.orc_search.specs.declared.node.Summary.{Summary}
use Rattle.orc_search.specs.Nodes.{smalls, small_of_node, HasParts, ArePartsFirst, summary_of}
use Rattle.orc_search.specs.Changes.{AreImages}
use Rattle.orc_search.proofs.Changes.{kept_images}
use Rattle.orc_search.proofs.Nodes.{extends_last, first_last, summaries_last}
use Rattle.orc_search.proofs.terms.Terms.push.Goals as goal

pub invariant_of-self-2 : goal.invariant_of-self-2
invariant_of-self-2 c =
    let nodes = c.self.inside.nodes.items in
    let node : Node = c.args.node in
    let summaries = c.self.inside.summaries.items in
    let summary : Summary = c.summary_of-summary.result in
    let there : c.try_reserve.new.self.items ≡ summaries = c.in_ok-try_reserve.ensures.items in
    let pushed : is_ok c.push-pushed.result ≡ true = sym c.is_ok.ensures.value ∙ c.if-prove.false in
    let items : c.push-pushed.new.self.items ≡ summaries ++ summary ∷ [] = c.push-pushed.ensures.items ∙ (λ i. cond (pushed i) (there i ++ summary ∷ []) (there i)) in
    let more : c.push.new.self.items ≡ nodes ++ node ∷ [] = c.in_ok-push.ensures.items in
    let parts : HasParts (length nodes) node = subst (λ (ns : List Node). HasParts (length ns) node) (sym c.self.view_is) c.requires in
    let is : summary ≡ summary_of (small_of_node (smalls nodes) node) = c.summary_of-summary.ensures ∙ ap (λ (ns : List Node). summary_of (small_of_node (smalls ns) node)) (sym c.self.view_is) in (
      subst (λ (ns : List Node). ArePartsFirst ns) (sym more) (first_last nodes node c.self.invariant.0 parts),
      items ∙ summaries_last nodes node summaries summary c.self.invariant.1 is ∙ ap (λ (ns : List Node). map summary_of (smalls ns)) (sym more),
      subst (λ (ns : List Node). AreImages (smalls ns) c.self.inside.images) (sym more) (kept_images (smalls nodes) (smalls (nodes ++ node ∷ [])) c.self.inside.images (extends_last nodes node) c.self.invariant.2),
    )

pub invariant_of-self-in_err-push : goal.invariant_of-self-in_err-push
invariant_of-self-in_err-push c =
    let same : c.push.new.self.items ≡ c.self.inside.nodes.items = c.in_err-push.ensures.items in
    let there : c.try_reserve.new.self.items ≡ c.self.inside.summaries.items = c.in_ok-try_reserve.ensures.items in (
      subst (λ (ns : List Node). ArePartsFirst ns) (sym same) c.self.invariant.0,
      there ∙ c.self.invariant.1 ∙ ap (λ (ns : List Node). map summary_of (smalls ns)) (sym same),
      subst (λ (ns : List Node). AreImages (smalls ns) c.self.inside.images) (sym same) c.self.invariant.2,
    )
