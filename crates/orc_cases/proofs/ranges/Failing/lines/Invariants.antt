-- What is left gives the rest of the text.
use Rattle.std.proofs.Common.{◌≡◌, ◌+◌, ◌++◌, length, map}
use Rattle.orc_cases.specs.Digits.{way_at}
use Rattle.orc_cases.specs.Failing.{failing_lines}
use Rattle.orc_cases.specs.Values.{all_choices_of, lines_from}
use Rattle.orc_cases.proofs.ranges.Failing.lines.Given as goal

abbrev pub decreases-loop-rest : goal.decreases-loop-rest
decreases-loop-rest l = length l.rest

abbrev pub invariant-loop-rest : goal.invariant-loop-rest
invariant-loop-rest l = record {
  place : l.place + length l.rest ≡ length l.fn.self.frame.now.lines.items;
  so_far : l.text.items ++ failing_lines l.place (lines_from l.rest) (way_at (all_choices_of l.fn.self.frame.now.lines.items) l.fn.number) (map (way_at (all_choices_of l.fn.self.frame.now.lines.items)) l.fn.self.numbers.now) l.fn.self.fails.now ≡ failing_lines 0 (lines_from l.fn.self.frame.now.lines.items) (way_at (all_choices_of l.fn.self.frame.now.lines.items) l.fn.number) (map (way_at (all_choices_of l.fn.self.frame.now.lines.items)) l.fn.self.numbers.now) l.fn.self.fails.now;
}
