use Rattle.std.proofs.Common.{◌≡◌}
use Rattle.orc_search.specs.Nodes.{smalls}
use Rattle.orc_search.specs.Parts.{AreParts}
use Rattle.orc_schedules.specs.Tables.{AreKnown, Keeps}
use Rattle.orc_schedules.proofs.tables.Tables.early_term.Given as goal

abbrev pub invariant-loop-early : goal.invariant-loop-early
invariant-loop-early l = AreKnown l.self × Keeps l.fn.self l.self × (l.self.states ≡ l.fn.self.states) × (l.self.ends ≡ l.fn.self.ends) × AreParts (smalls l.self.terms) l.parts.root l.parts.list.items × (l.parts.root ≡ l.from.term)
