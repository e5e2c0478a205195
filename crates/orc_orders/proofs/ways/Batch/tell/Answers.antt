use Rattle.std.proofs.Common.{◌≡◌, ◌<◌, ◌+◌, arith, length, subst, sym}
use Rattle.orc_orders.proofs.Adding.{in_range, one_added, one_breaks}
use Rattle.orc_orders.specs.Trying.{CameOf}
use Rattle.orc_orders.specs.declared.ways.Tried.{Tried}
use Rattle.orc_orders.proofs.ways.Batch.tell.Goals as goal

pub returns-in-Err-clause-cause : goal.returns-in-Err-clause-cause
returns-in-Err-clause-cause g c =
    let b = c.args.self.now in
    let at = c.loop-at.at in
    let within : at < length c.in_ok-tried.tried.items = omega (arith, c.loop-at-test.true, c.in_ok-tried.ensures.all) in
    let came = subst (λ (x : Tried). CameOf b.trials.now b.scripts.now at (b.first + at) x.came) (sym c.index.ensures) (c.in_ok-tried.ensures.tried at c.index.result.now within) in
    one_breaks b.trials.now b.scripts.now c.args.told.now c.loop-at.told at (b.first + at) c.index.result.now.came c.in-Err.fault c.loop-at-test.true c.loop-at.invariant.0 came c.in-Err.is

pub returns-in-Err-clause-range : goal.returns-in-Err-clause-range
returns-in-Err-clause-range g c =
    let b = c.args.self.now in
    let at = c.loop-at.at in
    let within : at < length c.in_ok-tried.tried.items = omega (arith, c.loop-at-test.true, c.in_ok-tried.ensures.all) in
    let came = subst (λ (x : Tried). CameOf b.trials.now b.scripts.now at (b.first + at) x.came) (sym c.index.ensures) (c.in_ok-tried.ensures.tried at c.index.result.now within) in
    in_range b.trials.now b.scripts.now at (b.first + at) c.index.result.now.came c.in-Err.fault c.loop-at-test.true came c.in-Err.is

pub loop-at-preserved : goal.loop-at-preserved
loop-at-preserved g c =
    let b = c.args.self.now in
    let at = c.loop-at.at in
    let within : at < length c.in_ok-tried.tried.items = omega (arith, c.loop-at-test.true, c.in_ok-tried.ensures.all) in
    let came = subst (λ (x : Tried). CameOf b.trials.now b.scripts.now at (b.first + at) x.came) (sym c.index.ensures) (c.in_ok-tried.ensures.tried at c.index.result.now within) in
    let number : b.first + at ≡ c.loop-at.told.ways = omega (arith, c.loop-at.invariant.1, c.requires.first) in (
      one_added b.trials.now b.scripts.now c.args.told.now c.loop-at.told at (b.first + at) c.join.new.self c.index.result.now.came c.in-Ok.way c.loop-at-test.true c.loop-at.invariant.0 came c.in-Ok.is number c.in_ok-join.ensures,
      omega (arith, c.in_ok-join.ensures.ways, c.loop-at.invariant.1),
    )
