use Rattle.std.proofs.Common.{◌≤◌, ℕ}
use Rattle.orc_indexes.specs.Same.{weight}
use Rattle.orc_indexes.specs.Same.{is_this}
use Rattle.orc_indexes.proofs.Chained.{rank_at}
use Rattle.orc_indexes.proofs.chains.Chains.list.Given as goal

abbrev pub invariant-loop-link : goal.invariant-loop-link
invariant-loop-link l = record {
  once : (k : ℕ) → weight (is_this k) l.places.items ≤ 1;
  later : (k : ℕ) → 1 ≤ weight (is_this k) l.places.items → l.rank ≤ rank_at l.self.links.items k;
}

abbrev pub decreases-loop-link : goal.decreases-loop-link
decreases-loop-link l = l.rank
