use Rattle.orc_search.specs.Nodes.{small_at, smalls}
use Rattle.orc_search.proofs.terms.Terms.summary_of.Goals as goal

pub returns-in-Pair : goal.returns-in-Pair
returns-in-Pair c =
    let terms = smalls c.args.self.now in
    rw c.in-Pair.is (c.joined_summary.ensures (small_at terms c.in-Pair.f) (small_at terms c.in-Pair.g) c.summary.ensures c.summary-in-Pair.ensures)
