use Rattle.std.proofs.Common.{◌≡◌, length}
use Rattle.orc_search.specs.Nodes.{smalls, Extends}
use Rattle.orc_search.specs.Sources.{AreNumbered}
use Rattle.orc_search.proofs.source.numbered.Given as goal

abbrev pub invariant-loop-at : goal.invariant-loop-at
invariant-loop-at l = Extends (smalls l.fn.terms) (smalls l.terms) × AreNumbered (smalls l.terms) l.program l.numbers.items × (length l.numbers.items ≡ l.at)
