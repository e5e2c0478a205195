-- No line before has a range.
use Rattle.std.proofs.Common.{◌≡◌, ◌+◌, length}
use Rattle.orc_cases.specs.Digits.{way_at}
use Rattle.orc_cases.specs.Failing.{has_ranged}
use Rattle.orc_cases.specs.Values.{all_choices_of, lines_from}
use Rattle.orc_cases.proofs.frame.Frame.has_range.Given as goal

abbrev pub decreases-loop-rest : goal.decreases-loop-rest
decreases-loop-rest l = length l.rest

abbrev pub invariant-loop-rest : goal.invariant-loop-rest
invariant-loop-rest l = record {
  place : l.place + length l.rest ≡ length l.fn.self.lines.items;
  so_far : has_ranged l.place (lines_from l.rest) (way_at (all_choices_of l.fn.self.lines.items) l.fn.number) ≡ has_ranged 0 (lines_from l.fn.self.lines.items) (way_at (all_choices_of l.fn.self.lines.items) l.fn.number);
}
