-- All cases were searched.
use Rattle.std.proofs.Common.{◌≤◌, arith, length}
use Rattle.orc_run.proofs.Schedules.{all_said}
use Rattle.orc_run.proofs.searched.Searcher.search.Goals as goal

pub returns : goal.returns
returns c =
    let all : length c.args.self.now.cases.now ≤ c.loop-case.case = omega (arith, c.loop-case-test.false) in
    all_said c.args.self.now c.loop-case.case c.loop-case.said.items all c.loop-case.invariant
