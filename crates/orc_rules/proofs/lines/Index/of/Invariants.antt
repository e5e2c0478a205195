use Rattle.std.proofs.Common.{take}
use Rattle.orc_rules.specs.Lines.{lines_of, Indexes}
use Rattle.orc_rules.proofs.lines.Index.of.Given as goal

-- the lines so far are in it
abbrev pub invariant-loop-place : goal.invariant-loop-place
invariant-loop-place l = Indexes (lines_of (take l.place l.lines)) l.index.places.entries l.index.shapes.items
