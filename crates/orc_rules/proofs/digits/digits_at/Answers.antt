use Rattle.std.proofs.Common.{arith, sym}
use Rattle.orc_rules.proofs.Numerals.{too_great, ended, all_read}
use Rattle.orc_rules.proofs.digits.digits_at.Goals as goal

pub returns-then-not-is_ascii_digit : goal.returns-then-not-is_ascii_digit
returns-then-not-is_ascii_digit c = ended c.loop-rest.number c.loop-rest.rest.now c.args.bytes.now c.in-len1-up.len_at_least (sym c.if-not-is_ascii_digit.ensures.value) c.loop-rest.invariant.same c.loop-rest.invariant.small

pub returns-in_err-checked_mul : goal.returns-in_err-checked_mul
returns-in_err-checked_mul c = rw c.from_residual.ensures (too_great c.loop-rest.number c.loop-rest.rest.now c.args.bytes.now c.in-len1-up.len_at_least (sym c.if-not-is_ascii_digit.ensures.value) c.loop-rest.invariant.same (omega (arith, c.in_err-checked_mul.ensures)))

pub returns-in_err-number : goal.returns-in_err-number
returns-in_err-number c = rw c.from_residual-in_err-number.ensures (too_great c.loop-rest.number c.loop-rest.rest.now c.args.bytes.now c.in-len1-up.len_at_least (sym c.if-not-is_ascii_digit.ensures.value) c.loop-rest.invariant.same (omega (arith, c.in_err-number.ensures, c.in_ok-checked_mul.ensures)))

pub returns : goal.returns
returns c = all_read c.loop-rest.number c.loop-rest.rest.now c.args.bytes.now c.in_default.len_below c.loop-rest.invariant.same c.loop-rest.invariant.small
