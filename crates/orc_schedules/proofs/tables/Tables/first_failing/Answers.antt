use Rattle.std.proofs.Common.{◌<◌, ◌≤◌, ℕ, length, arith}
use Rattle.orc_schedules.proofs.Failing.{all_next, all_held, first_there, none_held}
use Rattle.orc_schedules.proofs.tables.Tables.first_failing.Goals as goal

pub returns-in-Some-clause-some : goal.returns-in-Some-clause-some
returns-in-Some-clause-some c =
    let told = c.as_slice-told-items.result.now in
    let at : ℕ = c.loop-told.told-index in
    let lt : at < length told = omega arith in
    first_there c.args.self.now c.args.claim.now told at _ c.in_ok-seen.field-0 c.in-Some.seen c.as_slice-told-items.ensures lt c.in-Some.is c.in_ok-seen.ensures.some

pub loop-told-preserved : goal.loop-told-preserved
loop-told-preserved c =
    let told = c.as_slice-told-items.result.now in
    let at : ℕ = c.loop-told.told-index in
    let lt : at < length told = omega arith in
    all_next c.args.self.now c.args.claim.now told at _ lt c.loop-told.invariant (none_held _ c.in_ok-seen.field-0 c.in-None.is c.in_ok-seen.ensures.none)

pub returns-clause-none : goal.returns-clause-none
returns-clause-none c =
    let told = c.as_slice-told-items.result.now in
    let le : length told ≤ c.loop-told.told-index = omega arith in
    all_held c.args.self.now c.args.claim.now told c.loop-told.told-index c.as_slice-told-items.ensures le c.loop-told.invariant
