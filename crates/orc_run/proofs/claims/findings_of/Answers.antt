-- What the claims say of the happenings of the journal.
use Rattle.std.proofs.Common.{◌≡◌, ◌∙◌, ap, map, subst, IfOk}
use Rattle.orc_claims.specs.Happenings.{happenings}
use Rattle.orc_tally.specs.Sight.{renumbered}
use Rattle.orc_orders.specs.Trials.{claim_sites}
use Rattle.orc_ways.specs.Values.{sites_of}
use Rattle.orc_findings.specs.Findings.{findings_text}
use Rattle.orc_run.proofs.claims.findings_of.Goals as goal

pub returns-clause-text : goal.returns-clause-text
returns-clause-text c =
    let test = c.args.test.now in
    let judged = c.args.judged.now in
    let sites = c.as_slice-2.ensures.value ∙ c.in_ok-sites.ensures ∙ ap (λ ns. claim_sites judged.answers (sites_of ns)) c.as_slice.ensures.value in
    let happened = c.as_slice-3.ensures ∙ ap (λ t. t.happened) c.in_ok-happenings.ensures ∙ ap (λ ss. happenings (map (renumbered ss) judged.journal.entries)) sites in
    subst (λ hs. IfOk c.find.result (λ f. f.text.items ≡ findings_text test (record { happened = hs; state = judged.state; now = judged.time }))) happened c.find.ensures.text
