-- The journal of a run in which a claim fails.
use Rattle.std.proofs.Common.{◌≡◌, ◌∙◌, ℕ, List, Option, Some, None, ap, map, not, refl, subst, sym}
use Rattle.std.specs.Prelude.{IfSome, false, true}
use Rattle.std.specs.List.{slice_get}
use Rattle.std.specs.Io.KnownBytes.{Appends}
use Rattle.orc_rules.specs.declared.entry.Entry.{Entry}
use Rattle.orc_rules.specs.declared.entry.State.{State}
use Rattle.orc_journal.specs.Written.{Written}
use Rattle.orc_journal.specs.declared.journal.Version.TheVariants.{Two}
use Rattle.orc_journal_text.specs.Texts.{AreOf, journal_text}
use Rattle.orc_site.specs.Script.{Says}
use Rattle.orc_claims.specs.Happenings.{happenings}
use Rattle.orc_claims.specs.Verdicts.{says_so}
use Rattle.orc_claims.specs.declared.claim.Claim.{Claim}
use Rattle.orc_claims.specs.declared.happening.Happening.{Happening}
use Rattle.orc_claims.specs.declared.verdict.Judged.{Judged}
use Rattle.orc_claims.specs.declared.verdict.Verdict.{Verdict}
use Rattle.orc_ways.specs.Values.{sites_of}
use Rattle.orc_outcome.specs.Outcome.{IsPlayed}
use Rattle.orc_outcome.specs.declared.end.End.{End}
use Rattle.orc_outcome.specs.declared.played.Played.{Played}
use Rattle.orc_tally.specs.Sight.{Sight, fails, renumbered, said, sight}
use Rattle.orc_tally.specs.declared.sight.ClaimSite.{ClaimSite}
use Rattle.orc_tally.proofs.Noting.{fails_as}
use Rattle.orc_findings.specs.Findings.{verdict_in}
use Rattle.orc_orders.specs.Trials.{claim_sites, state_at}
use Rattle.orc_orders.specs.declared.trials.Trials.{Trials}
use Rattle.orc_run.specs.FailingRuns.{FailsIn, HasShownFailure}
use Rattle.orc_run.specs.Whole.{IsWay}
use Rattle.orc_run.specs.declared.searched.Way.{Way}

-- a claim of which this is said fails
said_to_fail : (c : Claim) (o : Sight) (v : Verdict) → Judged.verdict (said c o) ≡ v → says_so v ≡ false → fails c o ≡ true
said_to_fail c o v is not_so = ap not (sym (fails_as c o) ∙ ap says_so is ∙ not_so)

-- what is said of a claim in what is seen of a run of a way
pub failing : (t : Trials) (w : Way) (claim : ℕ) (es : List Entry) (end : End) (now : ℕ) (happened : List Happening) (state : State) (found : Option Verdict) (v : Verdict)
    → IsWay t w → happened ≡ happenings (map (renumbered w.sites.items) es) → state ≡ state_at end → found ≡ verdict_in (slice_get t.claims.now claim) (record { happened = happened; state = state; now = now }) → found ≡ Some v → says_so v ≡ false
    → FailsIn t w.loaded.answers claim es end now
failing t w claim es end now happened state found v way same_happened same_state is some not_so = go (slice_get t.claims.now claim) refl
  where
    seen : Sight
    seen = record { happened = happened; state = state; now = now }

    at_sites : sight (claim_sites w.loaded.answers (sites_of t.sites.now)) es (state_at end) now ≡ seen
    at_sites =
        let here : sight w.sites.items es (state_at end) now ≡ record { happened = happened; state = state; now = now } = cc in
        ap (λ (ss : List ClaimSite). sight ss es (state_at end) now) (sym way.sites) ∙ here

    go : (o : Option Claim) → slice_get t.claims.now claim ≡ o → FailsIn t w.loaded.answers claim es end now
    go None there = absurd (cc (sym some ∙ is ∙ ap (λ (o : Option Claim). verdict_in o seen) there))
    go (Some c) there =
        let said_is : Some (Judged.verdict (said c seen)) ≡ Some v = sym (is ∙ ap (λ (o : Option Claim). verdict_in o seen) there) ∙ some in
        let verdict : Judged.verdict (said c seen) ≡ v = cc said_is in
        record { its = c; is_its = there; breaks = ap (fails c) at_sites ∙ said_to_fail c seen v verdict not_so }

-- its journal was written
pub shown_failure : (t : Trials) (w : Way) (script : List ℕ) (p : Played) (j : Written) (claim : ℕ) (old new : Option (List ℕ))
    → IsWay t w → w.script.now ≡ script → IsPlayed w.loaded.program w.loaded.answers t.limit p.summary p.published.items p.journal → p.journal ≡ Some j → FailsIn t w.loaded.answers claim j.entries p.summary.end p.summary.now
    → (j.version ≡ Two → AreOf w.loaded.answers.names Two j.entries) → (j.version ≡ Two → Appends old new (journal_text w.loaded.answers.names j)) → HasShownFailure t script claim old new
shown_failure t w script p j claim old new way same played there broken fits written =
    let names = w.loaded.answers.names in
    let is : j ≡ record { version = Two; entries = played.outcome.journal } = subst (λ (o : Option Written). IfSome o (λ j. j ≡ record { version = Two; entries = played.outcome.journal })) there played.is_its in
    let two : j.version ≡ Two = ap (λ (k : Written). k.version) is in
    let entries : j.entries ≡ played.outcome.journal = ap (λ (k : Written). k.entries) is in (
      journal_text names j,
      record {
        table = w.loaded.answers;
        says = subst (λ (x : List ℕ). Says x w.loaded.answers) same way.says;
        listing = w.loaded.program;
        spells = way.spells;
        outcome = played.outcome;
        run = played.is_run;
        breaks = subst (λ (es : List Entry). FailsIn t w.loaded.answers claim es played.outcome.end played.outcome.now) entries
            (subst (λ (e : End). FailsIn t w.loaded.answers claim j.entries e played.outcome.now) played.tells.end
            (subst (λ (n : ℕ). FailsIn t w.loaded.answers claim j.entries p.summary.end n) played.tells.now broken));
        lines = ap (journal_text names) is;
        fits = subst (λ (es : List Entry). AreOf names Two es) entries (fits two);
      },
      written two,
    )
