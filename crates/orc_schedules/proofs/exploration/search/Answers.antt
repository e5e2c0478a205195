use Rattle.std.proofs.Common.{◌<◌, ◌≤◌, ◌*◌, ◌^◌, ℕ, suc, [], length, subst, arith}
use Rattle.std.proofs.Math.Nat.{mul-le-mul_right}
use Rattle.orc_rules.specs.Nodes.{Listing}
use Rattle.orc_rules.specs.Sites.{Table}
use Rattle.orc_schedules.specs.declared.sieve.Sieve.TheVariants.{Publications}
use Rattle.orc_schedules.specs.Explored.{answers_of, IsExplored}
use Rattle.orc_schedules.specs.Seen.{kept_by}
use Rattle.orc_schedules.specs.Watch.{publications}
use Rattle.orc_schedules.proofs.Exact.{of_runs}
use Rattle.orc_schedules.proofs.Whole.{whole, whole_shown}
use Rattle.orc_schedules.proofs.exploration.search.Goals as goal

pub returns : goal.returns
returns c =
    let l = c.args.program.now in
    let a = c.args.answers.now in
    let limit : ℕ = c.args.limit in
    let e = c.in_ok-explorer.explorer in
    let u = c.explore.new.self.tables in
    let is : IsExplored l a (kept_by Publications) u c.in_ok-all.all =
    subst (λ (b : Table). IsExplored l b (kept_by Publications) u c.in_ok-all.all) c.in_ok-explorer.ensures.answers
    (subst (λ (m : Listing). IsExplored m (answers_of e) (kept_by Publications) u c.in_ok-all.all) c.in_ok-explorer.ensures.program c.in_ok-all.ensures.explored) in
    let time = c.is_in_time.ensures c.if-not-is_in_time.false in
    let most = c.max-steps.ensures in
    let limit_fits : suc limit * u.longest < 2 ^ 64 = let le : limit ≤ c.max-steps.result = omega (arith, most) in omega (arith, time, mul-le-mul_right u.longest le) in
    let states_fit : length u.states * u.longest < 2 ^ 64 = let len = c.len-states.ensures in let le : length u.states ≤ c.max-steps.result = omega (arith, most, len) in omega (arith, time, mul-le-mul_right u.longest le) in
    let all = whole l a publications [] 0 limit u (is.done c.if-not-all.false) is.there limit_fits in
    record { all = (whole_shown l a limit u c.in_ok-ended.ended.items all c.in_ok-ended.ensures, of_runs l a u c.in_ok-ended.ended.items is.found states_fit c.in_ok-ended.ensures) }
