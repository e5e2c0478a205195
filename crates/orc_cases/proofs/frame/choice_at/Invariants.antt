-- What is left has the same at the place that is left.
use Rattle.std.proofs.Common.{◌≡◌, ◌<◌, length, drop}
use Rattle.std.specs.Prelude.{slice_get}
use Rattle.orc_cases.specs.Digits.{way_at}
use Rattle.orc_cases.specs.Values.{all_choices_of}
use Rattle.orc_cases.specs.Ways.{combinations}
use Rattle.orc_cases.proofs.frame.choice_at.Given as goal

abbrev pub invariant-loop-line : goal.invariant-loop-line
invariant-loop-line l = record {
  counted : l.left ≡ length (combinations (all_choices_of (drop l.line-index l.lines)));
  within : l.digits < l.left;
  so_far : slice_get (way_at (all_choices_of (drop l.line-index l.lines)) l.digits) l.before ≡ slice_get (way_at (all_choices_of l.lines) l.fn.number) l.fn.place;
}
