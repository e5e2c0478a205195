-- What is said of the claim says that it fails.
use Rattle.std.proofs.Common.{◌∙◌, List, ap, map}
use Rattle.orc_rules.specs.declared.entry.Entry.{Entry}
use Rattle.orc_claims.specs.Happenings.{begin, told_all}
use Rattle.orc_tally.specs.Sight.{renumbered}
use Rattle.orc_run.proofs.FailingRuns.{failing}
use Rattle.orc_run.proofs.failing_run.fails_in.Goals as goal

pub returns : goal.returns
returns c = λ fails.
    let (v, some, not_so) = c.is_failing.ensures fails in
    let es : List Entry = c.args.journal.now.entries in
    failing c.args.trials.now c.args.way.now c.args.claim es c.args.summary.end c.args.summary.now c.as_slice-happened.result.now c.state_at-state.result c.in_ok-verdict.verdict v c.requires
    (c.as_slice-happened.ensures ∙ ap (λ h. h.happened) c.in_ok-happenings.ensures ∙ ap (λ ss. (told_all begin (map (renumbered ss) es)).happened) c.as_slice-sites.ensures.value)
    c.state_at-state.ensures c.in_ok-verdict.ensures some not_so
