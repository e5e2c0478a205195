use Rattle.std.proofs.Common.{◌≡◌, drop}
use Rattle.orc_rules.specs.Lines.{lines_of, match_place}
use Rattle.orc_rules.proofs.Places.{first_among}
use Rattle.orc_rules.proofs.lines.Index.first.Given as goal

-- what the other shapes have still to give
abbrev pub invariant-loop-shape : goal.invariant-loop-shape
invariant-loop-shape l = first_among l.self.places.entries (drop l.shape-index l.self.shapes.items) l.args l.first ≡ match_place (lines_of l.lines) l.args
