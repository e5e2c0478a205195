-- What is left gives the other scripts.
use Rattle.std.proofs.Common.{◌≡◌, ◌++◌, length, map}
use Rattle.orc_cases.specs.Digits.{way_at}
use Rattle.orc_cases.specs.Places.{AreBelow}
use Rattle.orc_cases.specs.Values.{all_choices_of, ways_from}
use Rattle.orc_cases.specs.Ways.{script_text}
use Rattle.orc_cases.proofs.frame.Frame.scripts.Given as goal

abbrev pub decreases-loop-rest : goal.decreases-loop-rest
decreases-loop-rest l = length l.rest

abbrev pub invariant-loop-rest : goal.invariant-loop-rest
invariant-loop-rest l = record {
  within : AreBelow l.fn.self.count l.rest;
  so_far : map (λ t. t.items) l.scripts.items ++ map (λ n. script_text (ways_from l.fn.self) l.fn.behind (way_at (all_choices_of l.fn.self.lines.items) n)) l.rest ≡ map (λ n. script_text (ways_from l.fn.self) l.fn.behind (way_at (all_choices_of l.fn.self.lines.items) n)) l.fn.numbers;
}
