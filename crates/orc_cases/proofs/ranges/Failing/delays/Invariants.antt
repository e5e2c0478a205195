-- What is left has the other delays.
use Rattle.std.proofs.Common.{◌≡◌, ◌++◌, length, map}
use Rattle.orc_cases.specs.Digits.{way_at}
use Rattle.orc_cases.specs.Places.{AreBelow}
use Rattle.orc_cases.specs.Ranges.{delays}
use Rattle.orc_cases.specs.Values.{all_choices_of}
use Rattle.orc_cases.proofs.ranges.Failing.delays.Given as goal

abbrev pub decreases-loop-numbers : goal.decreases-loop-numbers
decreases-loop-numbers l = length l.numbers

abbrev pub invariant-loop-numbers : goal.invariant-loop-numbers
invariant-loop-numbers l = record {
  below : AreBelow l.fn.self.frame.now.count l.numbers;
  so_far : l.delays.items ++ delays l.fn.line l.fn.place l.fn.answer (map (way_at (all_choices_of l.fn.self.frame.now.lines.items)) l.numbers) l.fails ≡ delays l.fn.line l.fn.place l.fn.answer (map (way_at (all_choices_of l.fn.self.frame.now.lines.items)) l.fn.self.numbers.now) l.fn.self.fails.now;
}
