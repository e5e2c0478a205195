-- The ends that a search lists are those of runs.
use Rattle.std.proofs.Common.{◌≡◌, ◌<◌, ◌*◌, ◌^◌, ℕ, List, [], ◌∷◌, ◌++◌, length, map, Some, ◌⊎◌, refl, sym, ap, ◌∙◌, subst, inl, arith}
use Rattle.std.specs.Prelude.{slice_get}
use Rattle.std.proofs.lemmas.List.{length-map}
use Rattle.orc_claims.specs.declared.claim.Simple.{Simple}
use Rattle.orc_tally.specs.declared.sight.ClaimSite.{ClaimSite}
use Rattle.orc_rules.specs.Nodes.{Listing, source}
use Rattle.orc_rules.specs.Sites.{Table}
use Rattle.orc_rules.specs.Timed.{IsIn}
use Rattle.orc_search.specs.Asked.{coming_of_made}
use Rattle.orc_search.specs.Moves.{SmallDefinition}
use Rattle.orc_search.specs.Nodes.{smalls}
use Rattle.orc_search.specs.Programs.{small, small_definitions}
use Rattle.orc_search.specs.Small.{nothing}
use Rattle.orc_search.specs.States.{State}
use Rattle.orc_schedules.specs.declared.ended.Ended.{Ended}
use Rattle.orc_schedules.specs.declared.told.Told.{Told}
use Rattle.orc_schedules.specs.declared.states.Key.{Key}
use Rattle.orc_schedules.specs.declared.tables.Tables.{Tables}
use Rattle.orc_schedules.specs.Adding.{Outcome, outcome_of, shown_of, AreFound}
use Rattle.orc_schedules.specs.Counts.{made_at}
use Rattle.orc_schedules.specs.Ends.{AreOfRuns, ComesFrom, IsSaid, IsSeenOfRun}
use Rattle.orc_schedules.specs.Growing.{Grows}
use Rattle.orc_schedules.specs.Lists.{list_at, lists}
use Rattle.orc_schedules.specs.Reached.{Reached, EndSeen, first}
use Rattle.orc_schedules.specs.Seen.{Kept, Past, kept, nothing_yet, values_of}
use Rattle.orc_schedules.specs.Tables.{reached, reached_at, outcome_at, outcomes}
use Rattle.orc_schedules.specs.Watch.{publications}
use Rattle.orc_schedules.proofs.Adding.{get_map}
use Rattle.orc_schedules.proofs.Ends.{found_are_of_runs}
use Rattle.orc_schedules.proofs.Growing.{get_or_is, grows_or, in_map, of_map, each_added, none_get}
use Rattle.orc_schedules.proofs.Journals.{published_seen}

-- with the first state alone
pub first_found : (defs : List SmallDefinition) (keep : Kept) (l : Listing) (a : Table) (t : Tables) (old : List Key) (term : ℕ) → Grows ([] ∷ []) t.counts → t.lists ≡ record { calls = []; longer = [] } → t.ends ≡ [] → old ≡ [] → (t.states ≡ old) ⊎ (t.states ≡ old ++ record { term = term; made = 0; seen = 0 } ∷ [])
    → slice_get (smalls t.terms) term ≡ Some (small (source l)) → AreFound defs keep (first l a) a.sites t
first_found defs keep l a t old term counts values ends none added is = record { states = each; ends = λ o there. no_end o (of_map (outcome_at t) o t.ends there) } where
  key : Key
  key = record { term = term; made = 0; seen = 0 }

  no_calls : made_at t.counts 0 ≡ []
  no_calls = grows_or ([] ∷ []) t.counts 0 [] counts (omega arith)

  begins : reached_at a.sites t key ≡ (first l a, nothing_yet)
  begins = λ i. (record { term = get_or_is (smalls t.terms) term (small (source l)) nothing is i; coming = coming_of_made a.sites (no_calls i) }, list_at (lists (values i)) 0)

  each : (i : ℕ) (s : State) (vs : Past) → slice_get (reached a.sites t) i ≡ Some (s, vs) → ((s ≡ first l a) × (vs ≡ nothing_yet)) ⊎ ComesFrom defs keep t.longest (reached a.sites t) i s vs
  each i s vs h =
      let m = get_map (reached_at a.sites t) t.states i (s, vs) h in
      let only : m.by ≡ key = each_added (λ (k : Key). k ≡ key) old t.states key added (λ j k there. absurd (none_get old j k none there)) refl i m.by m.there in
      let same : (s, vs) ≡ (first l a, nothing_yet) = sym m.is ∙ ap (reached_at a.sites t) only ∙ begins in
      inl (ap (λ (r : Reached). r.0) same, ap (λ (r : Reached). r.1) same)

  no_end : (o : EndSeen) → (x : Told) × IsIn x t.ends × (o ≡ outcome_at t x) → IsSaid defs keep (reached a.sites t) o
  no_end o m = let none_in : IsIn m.0 [] = subst (λ (es : List Told). IsIn m.0 es) ends m.1 in elim none_in [ ]

-- each end that a search tells is that of a run, where all that it found comes from the first state
pub end_of_run : (l : Listing) (a : Table) (names : List Simple) (sites : List ClaimSite) (last : ℕ) (t : Tables) → AreFound (small_definitions l) (kept names sites last) (first l a) a.sites t → length t.states * t.longest < 2 ^ 64
    → (o : EndSeen) → IsIn o (outcomes t) → IsSeenOfRun l a names sites last o
end_of_run l a names sites last t found fits o is =
    let many : length (reached a.sites t) ≡ length t.states = length-map t.states (reached_at a.sites t) in
    let fits' : length (reached a.sites t) * t.longest < 2 ^ 64 = subst (λ (n : ℕ). n * t.longest < 2 ^ 64) (sym many) fits in
    found_are_of_runs l a names sites last t.longest (reached a.sites t) o found.states fits' (found.ends o is)

-- so are those that it lists
pub of_runs : (l : Listing) (a : Table) (t : Tables) (es : List Ended) → AreFound (small_definitions l) (kept publications [] 0) (first l a) a.sites t → length t.states * t.longest < 2 ^ 64 → map outcome_of es ≡ map shown_of (outcomes t)
    → AreOfRuns l a es
of_runs l a t es found fits told e is =
    let there : IsIn {X = Outcome} (outcome_of e) (map shown_of (outcomes t)) = subst (λ (os : List Outcome). IsIn {X = Outcome} (outcome_of e) os) told (in_map outcome_of e es is) in
    let m = of_map shown_of (outcome_of e) (outcomes t) there in
    let r = end_of_run l a publications [] 0 t found fits m.0 m.1 in
    record {
      limit = r.limit;
      outcome = r.outcome;
      run = r.run;
      end = r.end ∙ sym (ap (λ (o : Outcome). o.0) m.2);
      shows = sym (published_seen [] 0 r.outcome.journal r.outcome.now) ∙ ap values_of r.shows ∙ sym (ap (λ (o : Outcome). o.1) m.2);
    }
