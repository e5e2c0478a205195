-- The number at a place is that of the way there.
use Rattle.std.proofs.Common.{◌<◌, ◌≤◌, ℕ, List, true, ap, ◌∙◌, length, get_or, arith}
use Rattle.std.proofs.lemmas.List.{get_or_default}
use Rattle.orc_cases.specs.Digits.{way_at}
use Rattle.orc_cases.specs.Values.{all_choices_of, lines_from}
use Rattle.orc_cases.specs.Ways.{CaseWays, lines_text, unusual}
use Rattle.orc_cases.proofs.Limit.{none_unusual, number_within, some_unusual}
use Rattle.orc_cases.proofs.ways.Ways.unusual.Goals as goal

pub returns-then-place-numbers : goal.returns-then-place-numbers
returns-then-place-numbers c =
    let same = ap length c.as_slice-numbers.ensures.value in
    let le : length c.self.inside.numbers.items ≤ c.args.number = omega (arith, same, c.if-place-numbers.true) in
    c.new.ensures.items
    ∙ none_unusual c.self.inside.frame c.self.inside.numbers.items c.self.invariant c.args.number le
    ∙ ap (λ (w : CaseWays). unusual w c.args.number) c.self.view_is

pub way-requires-clause-within : goal.way-requires-clause-within
way-requires-clause-within c =
    let same = ap length c.as_slice-numbers.ensures.value in
    let lt : c.args.number < length c.self.inside.numbers.items = omega (arith, same, c.if-place-numbers.false) in
    rw c.as_slice-numbers.ensures.value (number_within c.self.inside.frame c.self.inside.numbers.items c.self.invariant c.args.number (get_or c.self.inside.numbers.items c.args.number 0) lt (get_or_default c.self.inside.numbers.items c.args.number 0 (get_or c.self.inside.numbers.items c.args.number 0) lt))

pub returns : goal.returns
returns c =
    let same = ap length c.as_slice-numbers.ensures.value in
    let lt : c.args.number < length c.self.inside.numbers.items = omega (arith, same, c.if-place-numbers.false) in
    c.in_ok-way.ensures
    ∙ ap (λ (ns : List ℕ). lines_text true (lines_from c.self.inside.frame.lines.items) (way_at (all_choices_of c.self.inside.frame.lines.items) (get_or ns c.args.number 0))) c.as_slice-numbers.ensures.value
    ∙ some_unusual c.self.inside.frame c.self.inside.numbers.items c.self.invariant c.args.number (get_or c.self.inside.numbers.items c.args.number 0) lt (get_or_default c.self.inside.numbers.items c.args.number 0 (get_or c.self.inside.numbers.items c.args.number 0) lt)
    ∙ ap (λ (w : CaseWays). unusual w c.args.number) c.self.view_is
