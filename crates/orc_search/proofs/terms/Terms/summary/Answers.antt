use Rattle.std.proofs.Common.{◌∙◌}
use Rattle.orc_search.proofs.Nodes.{summary_get}
use Rattle.orc_search.proofs.terms.Terms.summary.Goals as goal

pub returns : goal.returns
returns c = c.summary_in.ensures ∙ summary_get c.self.inside.nodes.items c.args.self.now c.self.inside.summaries.items c.args.at c.self.view_is c.self.invariant.1
