use Rattle.std.proofs.Common.{◌++◌, ◌∙◌, sym, ap, subst}
use Rattle.orc_calls.specs.Counting.{bare_entries, AreFromOne, HasNoBare}
use Rattle.orc_calls.proofs.Copies.{same_entries}
use Rattle.orc_calls.proofs.counts.Counts.copy.Goals as goal

pub invariant_of-result : goal.invariant_of-result
invariant_of-result c = subst (λ z. AreFromOne z × HasNoBare z) (sym (same_entries c.self.inside.next.entries c.in_ok-next.next.entries c.in_ok-next.ensures.cases)) c.self.invariant

pub returns : goal.returns
returns c = (λ i. bare_entries 0 (c.in_ok-bare.ensures i) ++ same_entries c.self.inside.next.entries c.in_ok-next.next.entries c.in_ok-next.ensures.cases i) ∙ c.self.view_is
