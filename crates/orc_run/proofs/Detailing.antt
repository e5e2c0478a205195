-- What stands below each failure.
use Rattle.std.proofs.Common.{◌≡◌, ◌≤◌, ◌<◌, ◌-◌, ◌∙◌, ◌++◌, ◌∷◌, ℕ, suc, List, [], Some, ap, arith, drop, get_or, length, subst, sym, take}
use Rattle.std.specs.Prelude.{Bool, Option, false}
use Rattle.std.specs.Global.{Vec}
use Rattle.std.specs.List.{slice_get}
use Rattle.std.proofs.lemmas.List.{append-nil, append_assoc, length-append, map-append, take_all}
use Rattle.orc_site.specs.Script.{Says}
use Rattle.orc_rules.specs.declared.entry.State.{State}
use Rattle.orc_claims.specs.declared.claim.Claim.{Claim}
use Rattle.orc_claims.specs.declared.happening.Happening.{Happening}
use Rattle.orc_claims.specs.declared.verdict.Verdict.{Verdict}
use Rattle.orc_cases.specs.Ways.{CaseWays}
use Rattle.orc_findings.specs.Below.{way_text}
use Rattle.orc_findings.specs.Findings.{verdict_in}
use Rattle.orc_orders.specs.Trials.{IsMadeAgain, state_at, texts}
use Rattle.orc_orders.specs.declared.trials.Run.{Run}
use Rattle.orc_orders.specs.declared.trials.Trials.{Trials}
use Rattle.orc_schedules.specs.Claimed.{FailsInOne, IsClaimSearched}
use Rattle.orc_schedules.specs.Watch.{IsWatchOf, Watched}
use Rattle.orc_schedules.specs.declared.claimed.ClaimSearched.{ClaimSearched}
use Rattle.orc_schedules.specs.declared.claimed.ClaimSearched.TheVariants.{Fails}
use Rattle.orc_tally.specs.declared.told.Failure.{Failure}
use Rattle.orc_tally.specs.declared.table.Counterexample.{Counterexample}
use Rattle.orc_tally.specs.declared.table.Row.{Row}
use Rattle.orc_tally.specs.declared.table.Row.TheVariants as row
use Rattle.orc_ways.specs.Values.{sites_of}
use Rattle.orc_run.specs.Details.{AreDetails, FailsAt, IsBelow, IsDetail, IsTrialDetail, IsSighted, failing_in, sight_in}
use Rattle.orc_run.specs.Whole.{IsWay}
use Rattle.orc_run.specs.declared.scripts.CaseScripts.{CaseScripts}
use Rattle.orc_run.specs.declared.searched.Sighted.{Sighted}
use Rattle.orc_run.specs.declared.searched.Way.{Way}

-- ---- a run

-- the claim fails in it where it was seen to
pub fails_at : (t : Trials) (script : List ℕ) (claim : ℕ) (said : Option Verdict) (found wanted : Verdict) (r : Run) (happened : List Happening) (state : State) (now : ℕ) → IsMadeAgain t.source.now (sites_of t.sites.now) t.limit script r
    → happened ≡ r.happenings.happened → state ≡ state_at r.played.summary.end → now ≡ r.played.summary.now → said ≡ verdict_in (slice_get t.claims.now claim) (record { happened = happened; state = state; now = now }) → said ≡ Some found → found ≡ wanted → FailsAt t script claim wanted r
fails_at t script claim said found wanted r happened state now made same_happened same_state same_now is some same =
    let seen : sight_in r ≡ record { happened = happened; state = state; now = now } = cc in
    record { made = made; place = ap (verdict_in (slice_get t.claims.now claim)) seen ∙ (sym is ∙ (some ∙ ap Some same)) }

-- what stands below the lines of its way
pub of_trial : (t : Trials) (explains : Bool) (script lines : List ℕ) (number claim : ℕ) (f : Failure) (r : Run) (head text behind more : List ℕ) → FailsAt t script claim f.verdict r
    → head ≡ way_text number lines ++ failing_in t r f → (explains ≡ false → more ≡ []) → behind ≡ more → text ≡ head ++ behind → IsTrialDetail t explains script lines number claim f text
of_trial t explains script lines number claim f r head text behind more fails first unasked same is = record {
  run = r;
  fails = fails;
  more = more;
  unasked = unasked;
  is = is ∙ ap (λ x. x ++ behind) first ∙ ap (λ x. (way_text number lines ++ failing_in t r f) ++ x) same;
}

-- ---- a schedule

-- what a search sees in a way
pub sighted : (t : Trials) (script : List ℕ) (claim limit : ℕ) (w : Way) (its : Claim) (known : Option Watched) (watch : Watched) (found : ClaimSearched) (s : Sighted) → IsWay t w → w.script.now ≡ script → slice_get t.claims.now claim ≡ Some its
    → IsWatchOf its known → known ≡ Some watch → IsClaimSearched w.loaded.program w.loaded.answers w.sites.items its limit found → found ≡ Fails s.seen → s.latest ≡ watch.latest → IsSighted t script claim s
sighted t script claim limit w its known watch found s way same there watches is_known searched is_found latest = record {
  its = its;
  is_its = there;
  table = w.loaded.answers;
  says = subst (λ x. Says x w.loaded.answers) same way.says;
  listing = w.loaded.program;
  spells = way.spells;
  fails = subst (λ ss. FailsInOne w.loaded.program w.loaded.answers ss its s.seen) way.sites (subst (IsClaimSearched w.loaded.program w.loaded.answers w.sites.items its limit) is_found searched);
  latest = latest ∙ (subst (IsWatchOf its) is_known watches).2;
}

-- ---- all failures

-- of a failure that is known, by the lines of its way
pub below_it : (t : Trials) (explains : Bool) (script lines same : List ℕ) (number claim : ℕ) (x y : Counterexample) (text : List ℕ) → lines ≡ same → x ≡ y → IsBelow t explains script lines number claim y text → IsBelow t explains script same number claim x text
below_it t explains script lines same number claim x y text is known below = subst (λ z. IsBelow t explains script same number claim z text) (sym known) (subst (λ ls. IsBelow t explains script ls number claim y text) is below)

module _ (t : Trials) (explains : Bool) (ways : List CaseWays) (scripts : List CaseScripts) (rows : List Row) where
  -- the details of the failures that are left stand behind those of the others
  abbrev pub AreLeft : List Row → List (Vec ℕ) → Type 0
  AreLeft rest all = (ds : List (List ℕ)) → AreDetails t explains ways scripts (suc (length all)) rest ds → AreDetails t explains ways scripts 1 rows (texts all ++ ds)

  -- so it is with one failure more,
  one_detail : (claim : ℕ) (x : Counterexample) (more : List Row) (all : List (Vec ℕ)) (d : Vec ℕ) → AreLeft (row.Fails claim x ∷ more) all → IsDetail t explains ways scripts (suc (length all)) claim x d.items → AreLeft more (all ++ d ∷ [])
  one_detail claim x more all d left is = λ ds are.
      let here : length (all ++ d ∷ []) ≡ suc (length all) = let long = length-append all (d ∷ []) in omega (arith, long) in
      let there : texts (all ++ d ∷ []) ++ ds ≡ texts all ++ (d.items ∷ ds) = ap (λ xs. xs ++ ds) (map-append (λ (s : Vec ℕ). s.items) all (d ∷ [])) ∙ append_assoc (texts all) (d.items ∷ []) ds in
      subst (AreDetails t explains ways scripts 1 rows) (sym there) (left (d.items ∷ ds) (is, subst (λ n. AreDetails t explains ways scripts (suc n) more ds) here are))

  -- which stands first of those that are left
  pub next_detail : (rest : List Row) (d : Row) (claim : ℕ) (found : Counterexample) (number : ℕ) (all new : List (Vec ℕ)) (text : Vec ℕ) → 1 ≤ length rest → get_or rest 0 d ≡ row.Fails claim found → number ≡ suc (length all) → AreLeft rest all → IsDetail t explains ways scripts number claim found text.items → new ≡ all ++ text ∷ []
      → AreLeft (take (length rest - 1) (drop 1 rest)) new
  next_detail [] d claim found number all new text some is from left detail pushed = absurd (omega (arith, some))
  next_detail (x ∷ rest) d claim found number all new text some is from left detail pushed =
      let few : length rest ≤ length (x ∷ rest) - 1 = omega arith in
      let here : take (length (x ∷ rest) - 1) rest ≡ rest = take_all (length (x ∷ rest) - 1) rest few in
      subst (λ xs. AreLeft xs new) (sym here) (subst (AreLeft rest) (sym pushed)
      (one_detail claim found rest all text (subst (λ y. AreLeft (y ∷ rest) all) is left) (subst (λ n. IsDetail t explains ways scripts n claim found text.items) from detail)))

  -- and none is left behind the last row
  pub none_left : (rest : List Row) (all : List (Vec ℕ)) → length rest < 1 → AreLeft rest all → AreDetails t explains ways scripts 1 rows (texts all)
  none_left [] all few left = subst (AreDetails t explains ways scripts 1 rows) (append-nil (texts all)) (left [] tt)
  none_left (x ∷ rest) all few left = absurd (omega (arith, few))
