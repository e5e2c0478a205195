-- The number at a place is that of a way.
use Rattle.std.proofs.Common.{◌<◌, ◌≤◌, ℕ, List, ap, ◌∙◌, length, map, get_or, arith}
use Rattle.std.proofs.lemmas.List.{get_or_default}
use Rattle.orc_cases.specs.Digits.{way_at}
use Rattle.orc_cases.specs.Failing.{failing_lines, failing_ranges}
use Rattle.orc_cases.specs.Values.{all_choices_of, lines_from}
use Rattle.orc_cases.specs.Ways.{CaseWays}
use Rattle.orc_cases.proofs.Limit.{number_within}
use Rattle.orc_cases.proofs.Ranged.{none_failing, some_failing}
use Rattle.orc_cases.proofs.ways.Ways.failing_ranges.Goals as goal

pub returns-then-place-numbers : goal.returns-then-place-numbers
returns-then-place-numbers c =
    let same = ap length c.as_slice-numbers.ensures.value in
    let le : length c.self.inside.numbers.items ≤ c.args.number = omega (arith, same, c.if-place-numbers.true) in
    c.new.ensures.items
    ∙ none_failing c.self.inside.frame c.self.inside.numbers.items c.self.invariant c.args.number c.args.fails.now le
    ∙ ap (λ (w : CaseWays). failing_ranges w c.args.number c.args.fails.now) c.self.view_is

pub lines-requires-clause-within : goal.lines-requires-clause-within
lines-requires-clause-within c =
    let same = ap length c.as_slice-numbers.ensures.value in
    let lt : c.args.number < length c.self.inside.numbers.items = omega (arith, same, c.if-place-numbers.false) in
    rw c.as_slice-numbers.ensures.value (number_within c.self.inside.frame c.self.inside.numbers.items c.self.invariant c.args.number (get_or c.self.inside.numbers.items c.args.number 0) lt (get_or_default c.self.inside.numbers.items c.args.number 0 (get_or c.self.inside.numbers.items c.args.number 0) lt))

pub returns : goal.returns
returns c =
    let same = ap length c.as_slice-numbers.ensures.value in
    let lt : c.args.number < length c.self.inside.numbers.items = omega (arith, same, c.if-place-numbers.false) in
    c.in_ok-lines.ensures
    ∙ ap (λ (ns : List ℕ). failing_lines 0 (lines_from c.self.inside.frame.lines.items) (way_at (all_choices_of c.self.inside.frame.lines.items) (get_or ns c.args.number 0)) (map (way_at (all_choices_of c.self.inside.frame.lines.items)) ns) c.args.fails.now) c.as_slice-numbers.ensures.value
    ∙ some_failing c.self.inside.frame c.self.inside.numbers.items c.self.invariant c.args.number (get_or c.self.inside.numbers.items c.args.number 0) c.args.fails.now lt (get_or_default c.self.inside.numbers.items c.args.number 0 (get_or c.self.inside.numbers.items c.args.number 0) lt)
    ∙ ap (λ (w : CaseWays). failing_ranges w c.args.number c.args.fails.now) c.self.view_is
