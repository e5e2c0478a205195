use Rattle.std.proofs.Common.{◌≡◌, ◌++◌, drop}
use Rattle.orc_rules.specs.Lines.{shape_of}
use Rattle.orc_rules.proofs.lines.shape.Given as goal

abbrev pub invariant-loop-pattern : goal.invariant-loop-pattern
invariant-loop-pattern l = l.shape.items ++ shape_of (drop l.pattern-index l.patterns) ≡ shape_of l.patterns
