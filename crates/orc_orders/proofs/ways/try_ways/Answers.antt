use Rattle.std.proofs.Common.{◌≡◌, ◌≤◌, ◌+◌, arith, length, max}
use Rattle.std.proofs.lemmas.Grind.{common_steps}
use Rattle.std.proofs.lemmas.Result.{err_from_is_err_and}
use Rattle.orc_orders.proofs.Adding.{more_added, more_break, part_long}
use Rattle.orc_orders.proofs.ways.try_ways.Goals as goal

pub returns-in_err-mean-clause-cause : goal.returns-in_err-mean-clause-cause
returns-in_err-mean-clause-cause g c =
    let p = err_from_is_err_and c.from_residual.result c.from_residual.ensures.1 in
    rw (p.1, p.2) (more_break c.args.trials.now c.args.scripts.now c.args.told.now c.loop-next.told c.loop-next.next c.min-number.result c.in_err-mean.field-0.0 c.loop-next.invariant.0 c.in_err-mean.ensures.cause)

pub loop-next-preserved-then-saturating_mul-lt-WORTH :
    goal.loop-next-preserved-then-saturating_mul-lt-WORTH
loop-next-preserved-then-saturating_mul-lt-WORTH g c =
    let most : c.max-number.result ≡ max 64 c.args.workers = c.max-number.ensures in
    let within : c.loop-next.next + c.min-number.result ≤ length c.args.scripts.now = grind (arith, common_steps, c.min-number.ensures, c.loop-next-test.true) in (
      more_added c.args.trials.now c.args.scripts.now c.args.told.now c.loop-next.told c.loop-next.next c.min-number.result c.tell.new.told c.loop-next.invariant.0 c.in_ok-mean.ensures.told,
      omega (arith, c.in_ok-mean.ensures.ways, part_long c.args.scripts.now c.loop-next.next c.min-number.result within, c.loop-next.invariant.1),
      within,
      omega (arith, most),
      omega arith,
    )

pub loop-next-preserved : goal.loop-next-preserved
loop-next-preserved g c =
    let most : c.max-number.result ≡ max 64 c.args.workers = c.max-number.ensures in
    let within : c.loop-next.next + c.min-number.result ≤ length c.args.scripts.now = grind (arith, common_steps, c.min-number.ensures, c.loop-next-test.true) in (
      more_added c.args.trials.now c.args.scripts.now c.args.told.now c.loop-next.told c.loop-next.next c.min-number.result c.tell.new.told c.loop-next.invariant.0 c.in_ok-mean.ensures.told,
      omega (arith, c.in_ok-mean.ensures.ways, part_long c.args.scripts.now c.loop-next.next c.min-number.result within, c.loop-next.invariant.1),
      within,
      omega (arith, most),
      c.if-workers-lt1.false,
    )
