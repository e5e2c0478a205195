-- What stands below each failure.
use Rattle.std.proofs.Common.{◌≡◌, ◌+◌, ◌++◌, ◌∷◌, [], arith, length, rules, suc}
use Rattle.orc_run.proofs.Detailing.{next_detail, none_left}
use Rattle.orc_run.proofs.test_command.Tester.all_details.Goals as goal

pub loop-rest-preserved-else-is_err : goal.loop-rest-preserved-else-is_err
loop-rest-preserved-else-is_err g c =
    let text = c.in_ok-details-in-len1-up.details in
    let pushed : c.push.new.self.items ≡ c.loop-rest.all.items ++ text ∷ [] = search rules in
    let number : c.len-number.result + 1 ≡ suc (length c.loop-rest.all.items) = omega (arith, c.len-number.ensures) in
    next_detail c.args.self.now.trials.now c.args.self.now.explains c.args.ways.now c.args.cases.now c.args.rows.now c.loop-rest.rest.now _ c.in-Fails.claim c.in-Fails.found (c.len-number.result + 1) c.loop-rest.all.items c.push.new.self.items text c.in-len1-up.len_at_least c.in-Fails.is number c.loop-rest.invariant c.in_ok-details-in-len1-up.ensures.detail pushed

pub returns-in-empty-clause-details : goal.returns-in-empty-clause-details
returns-in-empty-clause-details g c = none_left c.args.self.now.trials.now c.args.self.now.explains c.args.ways.now c.args.cases.now c.args.rows.now _ _ c.in-empty.len_below c.loop-rest.invariant
