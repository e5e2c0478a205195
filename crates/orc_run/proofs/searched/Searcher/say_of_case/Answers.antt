-- One way more was searched.
use Rattle.std.proofs.Common.{◌≡◌, ◌≤◌, ◌+◌, arith, length, refl, subst, suc}
use Rattle.std.proofs.lemmas.List.{length-map}
use Rattle.orc_orders.specs.Trials.{texts}
use Rattle.orc_run.specs.Whole.{AreSoFar}
use Rattle.orc_run.proofs.Schedules.{one_case_more, one_way_more}
use Rattle.orc_run.proofs.Testing.{script_there, stands_there}
use Rattle.orc_run.proofs.searched.Searcher.say_of_case.Goals as goal

pub loop-way-preserved : goal.loop-way-preserved
loop-way-preserved c =
    let me = c.args.self.now in
    let way = c.loop-way.way in
    let scripts = c.args.ways.now.scripts.items in
    let there = stands_there scripts way c.index.result.now (omega (arith, c.loop-way-test.true, c.len-way-end.ensures)) c.index.ensures in
    let script = script_there me.cases.now c.args.case way c.args.ways.now scripts c.index.result.now c.as_slice.result.now c.requires.ways refl there c.as_slice.ensures.value in
    let next : suc way ≡ way + 1 = omega arith in
    subst (λ n. AreSoFar me c.args.case n c.in_ok-said.said.items) next (one_way_more me (record { case = c.args.case; way = way }) c.as_slice.result.now c.loop-way.said.items c.in_ok-said.said.items script c.loop-way.invariant c.in_ok-said.ensures)

pub returns : goal.returns
returns c =
    let its = c.args.ways.now in
    let as_long : length (texts its.scripts.items) ≡ length its.scripts.items = length-map its.scripts.items (λ s. s.items) in
    let all : length (texts its.scripts.items) ≤ c.loop-way.way = omega (arith, as_long, c.loop-way-test.false, c.len-way-end.ensures) in
    one_case_more c.args.self.now c.args.case c.loop-way.way its c.loop-way.said.items c.requires.ways all c.loop-way.invariant
