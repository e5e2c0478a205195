use Rattle.std.proofs.Common.{map, ap, sym, ◌∙◌}
use Rattle.orc_search.specs.declared.change.Change.{Change}
use Rattle.orc_search.specs.declared.node.Tip.{Tip}
use Rattle.orc_search.specs.Small.{asks, enters}
use Rattle.orc_search.specs.Nodes.{tip_of}
use Rattle.orc_search.specs.Changes.{changed, changed_param}
use Rattle.orc_search.proofs.Changes.{changed_asks, changed_enters}
use Rattle.orc_search.proofs.change.changed_tip.Goals as goal

pub returns-in_ok-params-in-Asks : goal.returns-in_ok-params-in-Asks
returns-in_ok-params-in-Asks c =
    let change : Change = c.args.change in
    ap (asks c.in-Asks.site) (c.in_ok-params-in-Asks.ensures ∙ ap (map (changed_param change)) c.deref.ensures.value)
    ∙ changed_asks change c.in-Asks.site c.in-Asks.params.items ∙ ap (λ (t : Tip). changed change (tip_of t)) (sym c.in-Asks.is)

pub returns-in_ok-params-in-Enters : goal.returns-in_ok-params-in-Enters
returns-in_ok-params-in-Enters c =
    let change : Change = c.args.change in
    ap (enters c.in-Enters.definition) (c.in_ok-params-in-Enters.ensures ∙ ap (map (changed_param change)) c.deref-in-Enters.ensures.value)
    ∙ changed_enters change c.in-Enters.definition c.in-Enters.params.items ∙ ap (λ (t : Tip). changed change (tip_of t)) (sym c.in-Enters.is)
