-- The number at a place is that of a way.
use Rattle.std.proofs.Common.{◌<◌, ◌≤◌, ℕ, List, ap, sym, ◌∙◌, length, get_or, arith}
use Rattle.std.proofs.lemmas.List.{get_or_default}
use Rattle.orc_cases.specs.Digits.{way_at}
use Rattle.orc_cases.specs.Failing.{has_range, has_ranged}
use Rattle.orc_cases.specs.Values.{all_choices_of, lines_from}
use Rattle.orc_cases.specs.Ways.{CaseWays}
use Rattle.orc_cases.proofs.Limit.{number_within}
use Rattle.orc_cases.proofs.Ranged.{no_range, none_ranged, some_ranged}
use Rattle.orc_cases.proofs.ways.Ways.has_range.Goals as goal

pub returns-then-place-numbers-clause-exact : goal.returns-then-place-numbers-clause-exact
returns-then-place-numbers-clause-exact c =
    let same = ap length c.as_slice-numbers.ensures.value in
    let le : length c.self.inside.numbers.items ≤ c.args.number = omega (arith, same, c.if-place-numbers.true) in
    none_ranged c.self.inside.frame c.self.inside.numbers.items c.self.invariant c.args.number le
    ∙ ap (λ (w : CaseWays). has_range w c.args.number) c.self.view_is

pub returns-then-place-numbers-clause-none : goal.returns-then-place-numbers-clause-none
returns-then-place-numbers-clause-none c e = no_range c.args.self.now c.args.number (sym (returns-then-place-numbers-clause-exact c) ∙ e)

pub has_range-requires-clause-within : goal.has_range-requires-clause-within
has_range-requires-clause-within c =
    let same = ap length c.as_slice-numbers.ensures.value in
    let lt : c.args.number < length c.self.inside.numbers.items = omega (arith, same, c.if-place-numbers.false) in
    rw c.as_slice-numbers.ensures.value (number_within c.self.inside.frame c.self.inside.numbers.items c.self.invariant c.args.number (get_or c.self.inside.numbers.items c.args.number 0) lt (get_or_default c.self.inside.numbers.items c.args.number 0 (get_or c.self.inside.numbers.items c.args.number 0) lt))

pub returns-clause-exact : goal.returns-clause-exact
returns-clause-exact c =
    let same = ap length c.as_slice-numbers.ensures.value in
    let lt : c.args.number < length c.self.inside.numbers.items = omega (arith, same, c.if-place-numbers.false) in
    c.has_range.ensures
    ∙ ap (λ (ns : List ℕ). has_ranged 0 (lines_from c.self.inside.frame.lines.items) (way_at (all_choices_of c.self.inside.frame.lines.items) (get_or ns c.args.number 0))) c.as_slice-numbers.ensures.value
    ∙ some_ranged c.self.inside.frame c.self.inside.numbers.items c.self.invariant c.args.number (get_or c.self.inside.numbers.items c.args.number 0) lt (get_or_default c.self.inside.numbers.items c.args.number 0 (get_or c.self.inside.numbers.items c.args.number 0) lt)
    ∙ ap (λ (w : CaseWays). has_range w c.args.number) c.self.view_is

pub returns-clause-none : goal.returns-clause-none
returns-clause-none c e = no_range c.args.self.now c.args.number (sym (returns-clause-exact c) ∙ e)
