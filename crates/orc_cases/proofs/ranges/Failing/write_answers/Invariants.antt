-- What is left gives the rest of the text.
use Rattle.std.proofs.Common.{◌≡◌, ◌+◌, ◌++◌, length, map}
use Rattle.orc_cases.specs.Digits.{way_at}
use Rattle.orc_cases.specs.Failing.{failing_answers}
use Rattle.orc_cases.specs.Values.{all_choices_of}
use Rattle.orc_cases.proofs.ranges.Failing.write_answers.Given as goal

abbrev pub decreases-loop-rest : goal.decreases-loop-rest
decreases-loop-rest l = length l.rest

abbrev pub invariant-loop-rest : goal.invariant-loop-rest
invariant-loop-rest l = record {
  place : l.place + length l.rest ≡ length l.fn.answers;
  so_far : l.text.items ++ failing_answers l.fn.line l.place l.rest (map (way_at (all_choices_of l.fn.self.frame.now.lines.items)) l.fn.self.numbers.now) l.fn.self.fails.now ≡ l.fn.text.items ++ failing_answers l.fn.line 0 l.fn.answers (map (way_at (all_choices_of l.fn.self.frame.now.lines.items)) l.fn.self.numbers.now) l.fn.self.fails.now;
}
