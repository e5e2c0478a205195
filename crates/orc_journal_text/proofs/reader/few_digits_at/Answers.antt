use Rattle.std.proofs.Common.{◌-◌, ◌≤◌, slice_index_or, arith, sym}
use Rattle.orc_journal_text.proofs.Few.{next_fits, one_digit_more, read_one, read_all}
use Rattle.orc_journal_text.proofs.reader.few_digits_at.Goals as goal
use Rattle.orc_journal_text.proofs.reader.few_digits_at.Goals.{then-loop-at-test+else-is_ascii_digit, else-loop-at-test}

pub overflow_mul-number : goal.overflow_mul-number
overflow_mul-number c = omega (arith, next_fits c.loop-at.number 0 c.loop-at.at c.loop-at-test.true c.loop-at.invariant.small (omega arith))

pub overflow_add-number : goal.overflow_add-number
overflow_add-number c =
    let digit : slice_index_or c.args.bytes.now c.loop-at.at 0 - 48 ≤ 9 = omega (arith, c.if-is_ascii_digit.ensures.cases) in
    omega (arith, next_fits c.loop-at.number (slice_index_or c.args.bytes.now c.loop-at.at 0 - 48) c.loop-at.at c.loop-at-test.true c.loop-at.invariant.small digit)

pub loop-at-preserved : goal.loop-at-preserved
loop-at-preserved c =
    let digit : slice_index_or c.args.bytes.now c.loop-at.at 0 - 48 ≤ 9 = omega (arith, c.if-is_ascii_digit.ensures.cases) in
    record {
      within = omega (arith, c.loop-at-test.true);
      same = read_one c.args.bytes.now c.loop-at.at c.loop-at.number (omega (arith, c.if-bytes-lt-FEW.false)) c.loop-at-test.true (sym c.if-is_ascii_digit.ensures.value) c.loop-at.invariant.same;
      small = one_digit_more c.loop-at.number (slice_index_or c.args.bytes.now c.loop-at.at 0 - 48) c.loop-at.at c.loop-at.invariant.small digit;
    }

pub returns : goal.returns
returns c = elim c.loop-at-test.branch [
  | then-loop-at-test+else-is_ascii_digit w ↦ read_all c.args.bytes.now c.loop-at.at c.loop-at.number c.loop-at.invariant.within c.if-at-eq-FEW.false (λ _. sym w.if-is_ascii_digit.ensures.value) c.loop-at.invariant.same c.loop-at.invariant.small
  | else-loop-at-test w ↦ read_all c.args.bytes.now c.loop-at.at c.loop-at.number c.loop-at.invariant.within c.if-at-eq-FEW.false (λ lt. absurd (omega (arith, lt, w.loop-at-test.false))) c.loop-at.invariant.same c.loop-at.invariant.small
]
