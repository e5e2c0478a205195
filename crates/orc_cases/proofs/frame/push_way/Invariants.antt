-- What is left gives the rest of the text.
use Rattle.std.proofs.Common.{◌≡◌, ◌++◌, ◌<◌, length, drop}
use Rattle.orc_cases.specs.Digits.{way_at}
use Rattle.orc_cases.specs.Values.{all_choices_of, lines_from}
use Rattle.orc_cases.specs.Ways.{combinations, lines_text}
use Rattle.orc_cases.proofs.frame.push_way.Given as goal

abbrev pub invariant-loop-line : goal.invariant-loop-line
invariant-loop-line l = record {
  counted : l.left ≡ length (combinations (all_choices_of (drop l.line-index l.lines)));
  within : l.digits < l.left;
  so_far : l.text.items ++ lines_text l.only_telling (lines_from (drop l.line-index l.lines)) (way_at (all_choices_of (drop l.line-index l.lines)) l.digits) ≡ l.fn.text.items ++ lines_text l.only_telling (lines_from l.lines) (way_at (all_choices_of l.lines) l.fn.number);
}
