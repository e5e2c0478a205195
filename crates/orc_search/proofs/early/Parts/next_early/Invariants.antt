use Rattle.std.proofs.Common.{◌≡◌}
use Rattle.orc_search.specs.Nodes.{smalls, Extends}
use Rattle.orc_search.specs.Parts.{AreParts}
use Rattle.orc_search.proofs.early.Parts.next_early.Given as goal

abbrev pub invariant-loop-part : goal.invariant-loop-part
invariant-loop-part l = Extends (smalls l.fn.terms) (smalls l.terms) × AreParts (smalls l.terms) l.self.root l.self.list.items × (l.self.root ≡ l.fn.self.root)
