-- The report of what was tried.
use Rattle.std.proofs.Common.{◌≡◌, refl, rules, subst, sym}
use Rattle.std.specs.List.{AllZip}
use Rattle.std.proofs.lemmas.Result.{err_from_is_err_and}
use Rattle.orc_tally.specs.declared.table.Report.{Report}
use Rattle.orc_run.specs.Tested.{IsTried}
use Rattle.orc_run.specs.TestFaults.{AreReported}
use Rattle.orc_run.proofs.Untold.{unwritten_untold}
use Rattle.orc_run.specs.Whole.{AreSaid}
use Rattle.orc_run.proofs.test_command.Tester.try_and_write.Goals as goal

pub returns-clause-tested : goal.returns-clause-tested
returns-clause-tested g c = (
  record { test = c.args.test; cases = c.as_slice-tried.result; orders = c.args.self.now.options.now.orders; searched = c.as_slice-found.result },
  refl,
  subst (AllZip (IsTried c.args.self.now.trials.now) c.args.cases.now) (sym c.as_slice-tried.ensures.value) c.in_ok-reports.ensures.tried,
  refl,
  subst (AreSaid c.args.self.now.trials.now c.args.test.now.claim_lines.items c.args.cases.now c.as_slice-tried.result.now) (sym c.as_slice-found.ensures.value) c.in_ok-searched.ensures.said,
  c.in_ok-number.ensures.ok,
  c.in_ok-number.ensures.number,
)

-- all was tried, and what is wanted of it wasn't written
pub returns-in_err-number-clause-cause : goal.returns-in_err-number-clause-cause
returns-in_err-number-clause-cause g c =
    let t = c.args.self.now.trials.now in
    let report : Report = record { test = c.args.test; cases = c.as_slice-tried.result; orders = c.args.self.now.options.now.orders; searched = c.as_slice-found.result } in
    let reported : AreReported t c.args.test.now c.args.self.now.options.now.orders c.args.cases.now report = record {
      of_test = refl;
      tried = subst (AllZip (IsTried t) c.args.cases.now) (sym c.as_slice-tried.ensures.value) c.in_ok-reports.ensures.tried;
      each = refl;
      schedules = subst (AreSaid t c.args.test.now.claim_lines.items c.args.cases.now c.as_slice-tried.result.now) (sym c.as_slice-found.ensures.value) c.in_ok-searched.ensures.said;
    } in
    let limit : t.limit ≡ c.args.self.now.options.now.limit = search rules in
    let p = err_from_is_err_and c.from_residual-in_err-number.result c.from_residual-in_err-number.ensures.1 in
    rw (p.1, p.2) (unwritten_untold t c.args.test.now c.args.self.now.options.now c.args.cases.now report c.in_err-number.field-0.0 reported limit c.in_err-number.ensures.cause)
