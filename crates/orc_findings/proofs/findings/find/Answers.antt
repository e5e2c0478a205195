use Rattle.std.proofs.Common.{◌∙◌, ◌++◌, ap, map}
use Rattle.std.specs.List.{count_by}
use Rattle.orc_tally.specs.Sight.{said}
use Rattle.orc_tally.specs.Table.{sum_text}
use Rattle.orc_findings.specs.Findings.{failing, is_always, rows_text, sight_of, unsaid}
use Rattle.orc_findings.proofs.Counted.{unsaid_fail}
use Rattle.orc_findings.proofs.findings.find.Goals as goal

-- what is said of the claims counts those that fail
pub returns-clause-failing : goal.returns-clause-failing
returns-clause-failing c =
    let s = sight_of c.args.seen.now in
    c.count_failing-failing.ensures
    ∙ ap (λ ls. unsaid ls c.as_slice-2.result.now) c.as_slice-lines.ensures.value
    ∙ ap (unsaid c.args.test.now.claim_lines.items) (c.as_slice-2.ensures.value ∙ c.in_ok-judged.ensures.judged ∙ ap (map (λ c. said c s)) c.as_slice.ensures.value)
    ∙ unsaid_fail s c.args.test.now.claim_lines.items c.args.test.now.claims.items

-- their rows come first, and the sum last
pub returns-clause-text : goal.returns-clause-text
returns-clause-text c =
    let s = sight_of c.args.seen.now in
    let t = c.args.test.now in
    let rows = rows_text t.sites.items s t.claim_lines.items (map (λ c. said c s) t.claims.items) in
    c.in_ok-write_sum.ensures
    ∙ ap (λ told. told ++ sum_text c.count_failing-failing.result c.count_always.result) (
    c.in_ok-write_rows.ensures
    ∙ ap (λ before. before ++ rows_text c.as_slice-3.result.now s c.as_slice-lines.result.now c.as_slice-4.result.now) c.new-text.ensures.items
    ∙ ap (λ ss. rows_text ss s c.as_slice-lines.result.now c.as_slice-4.result.now) c.as_slice-3.ensures.value
    ∙ ap (λ ls. rows_text t.sites.items s ls c.as_slice-4.result.now) c.as_slice-lines.ensures.value
    ∙ ap (rows_text t.sites.items s t.claim_lines.items) (c.as_slice-4.ensures.value ∙ c.in_ok-judged.ensures.judged ∙ ap (map (λ c. said c s)) c.as_slice.ensures.value))
    ∙ ap (λ n. rows ++ sum_text n c.count_always.result) (returns-clause-failing c)
    ∙ ap (λ m. rows ++ sum_text (failing t s) m) (c.count_always.ensures ∙ ap (count_by is_always) c.as_slice-lines.ensures.value)
