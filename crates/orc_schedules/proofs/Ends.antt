-- The end that a state says is that of a run: the way on which the state was found is a path.
use Rattle.std.proofs.Common.{◌≡◌, ◌<◌, ◌≤◌, ℕ, zero, suc, ◌+◌, ◌*◌, ◌^◌, List, [], ◌∷◌, ◌++◌, length, true, Some, ◌⊎◌, refl, sym, ap, ◌∙◌, subst, inl, inr, arith}
use Rattle.std.specs.Prelude.{slice_get}
use Rattle.std.proofs.Math.Nat.{mul-le-mul_right}
use Rattle.orc_rules.specs.declared.entry.Entry.{Entry}
use Rattle.orc_rules.specs.Journal.{Place, moment, Journal, begin, AreEventsOf}
use Rattle.orc_rules.specs.Lost.{IsSource, AreSource}
use Rattle.orc_rules.specs.Nodes.{Listing, source}
use Rattle.orc_rules.specs.Sites.{Table}
use Rattle.orc_rules.specs.Term.{Term}
use Rattle.orc_rules.specs.Timed.{Context, Moment, IsIn, start}
use Rattle.orc_rules.proofs.Listed.{program_is_source}
use Rattle.orc_rules.proofs.Runs.{run_is_journal}
use Rattle.orc_claims.specs.declared.claim.Simple.{Simple}
use Rattle.orc_tally.specs.declared.sight.ClaimSite.{ClaimSite}
use Rattle.orc_journal.specs.Written.{count}
use Rattle.orc_outcome.specs.Outcome.{context, EndsAt}
use Rattle.orc_search.specs.Early.{IsAhead, AreHidden}
use Rattle.orc_search.specs.Moves.{unseen, SmallDefinition}
use Rattle.orc_search.specs.Moments.{small_of}
use Rattle.orc_search.specs.Graphs.{Ending, halted, quiet, ending}
use Rattle.orc_search.specs.Programs.{small_definitions}
use Rattle.orc_search.specs.Paths.{time_in, plain, IsOrderly, IsRunOf}
use Rattle.orc_search.specs.Runs.{IsWell}
use Rattle.orc_search.specs.States.{State, Sight, happens, waits, Goes, Path, state_of}
use Rattle.orc_search.proofs.Ahead.{ahead_is_reached}
use Rattle.orc_search.proofs.Begun.{source_holds}
use Rattle.orc_search.proofs.Paths.{path_is_run, ending_is_halted, ending_is_quiet}
use Rattle.orc_search.proofs.Programs.{program_is_ready}
use Rattle.orc_schedules.specs.Reached.{Reached, EndSeen, first, end_of}
use Rattle.orc_schedules.specs.Ends.{IsSeenOfRun, ComesFrom, AreFoundFrom, FoundAreOfRuns, time_of}
use Rattle.orc_schedules.specs.Seen.{Kept, Past, is_unkept, kept, nothing_yet, seen_after, seen_of, seen_on}
use Rattle.orc_schedules.proofs.Found.{begins_there, unkept_after}
use Rattle.orc_schedules.proofs.Journals.{journal_seen, run_counted}

module _ {X : Type 0} where
  -- where an element stands
  record At (x : X) (xs : List X) : Type 0 where
    at : ℕ
    is : slice_get xs at ≡ Some x
    within : at < length xs

  place_of : (x : X) (xs : List X) → IsIn x xs → At x xs
  place_of x [] i = elim i [ ]
  place_of x (y ∷ xs) (inl e) = record { at = 0; is = ap Some (sym e); within = omega arith }
  place_of x (y ∷ xs) (inr i) = let p = place_of x xs i in record { at = suc p.at; is = p.is; within = omega (arith, p.within) }

takes_more : (vs : List Sight) (v : Sight) → time_in (vs ++ v ∷ []) ≡ time_in vs + time_of v
takes_more [] (happens h) = refl
takes_more [] (waits by) = omega arith
takes_more (happens h ∷ vs) v = takes_more vs v
takes_more (waits by ∷ vs) v = omega (arith, takes_more vs v)

goes_on : (defs : List SmallDefinition) (s : State) (vs : List Sight) (t : State) (v : Sight) (u : State) → Path defs s vs t → Goes defs t v u → Path defs s (vs ++ v ∷ []) u
goes_on defs s [] t v u p g = (u, subst (λ (w : State). Goes defs w v u) (sym p) g, refl)
goes_on defs s (w ∷ vs) t v u p g = (p.0, p.1, goes_on defs p.0 vs t v u p.2 g)

-- a path, and another one from its end
path_both : (defs : List SmallDefinition) (s : State) (vs : List Sight) (t : State) (ws : List Sight) (u : State) → Path defs s vs t → Path defs t ws u → Path defs s (vs ++ ws) u
path_both defs s [] t ws u p q = subst (λ (r : State). Path defs r ws u) (sym p) q
path_both defs s (v ∷ vs) t ws u p q = (p.0, p.1, path_both defs p.0 vs t ws u p.2 q)

seen_both : (keep : Kept) (p : Past) (vs ws : List Sight) → seen_on keep p (vs ++ ws) ≡ seen_on keep (seen_on keep p vs) ws
seen_both keep p [] ws = refl
seen_both keep p (v ∷ vs) ws = seen_both keep (seen_after keep p v) vs ws

takes_both : (vs ws : List Sight) → time_in (vs ++ ws) ≡ time_in vs + time_in ws
takes_both [] ws = omega arith
takes_both (happens h ∷ vs) ws = takes_both vs ws
takes_both (waits by ∷ vs) ws = omega (arith, takes_both vs ws)

-- on which nothing is kept
unkept_seen : (keep : Kept) (p : Past) (vs : List Sight) → AreHidden (is_unkept keep) vs → seen_on keep p vs ≡ p
unkept_seen keep p [] h = refl
unkept_seen keep p (v ∷ vs) h =
    let u = h.0 in
    ap (λ (w : Sight). seen_on keep (seen_after keep p w) vs) u.1 ∙ ap (λ (q : Past). seen_on keep q vs) (unkept_after keep p u.0 u.2) ∙ unkept_seen keep p vs h.1

unkept_takes : (keep : Kept) (vs : List Sight) → AreHidden (is_unkept keep) vs → time_in vs ≡ 0
unkept_takes keep [] h = refl
unkept_takes keep (v ∷ vs) h = let u = h.0 in ap (λ (w : Sight). time_in (w ∷ vs)) u.1 ∙ unkept_takes keep vs h.1

module _ (defs : List SmallDefinition) (keep : Kept) (silent : is_unkept keep unseen ≡ true) (begin : State) (longest : ℕ) (rs : List Reached) (found : AreFoundFrom defs keep longest begin rs) where
  -- a path to a state, on which this is seen
  record IsWay (s : State) (p : Past) (time : ℕ) : Type 0 where
    seen : List Sight
    path : Path defs begin seen s
    shows : seen_on keep nothing_yet seen ≡ p
    early : time_in seen ≤ time

  -- and on to a state that is ahead
  way_on : (s ahead : State) (p : Past) (time : ℕ) → IsAhead defs (is_unkept keep) s ahead → IsWay s p time → IsWay ahead p time
  way_on s ahead p time is w =
      let a = ahead_is_reached defs (is_unkept keep) s ahead silent is in
      record {
        seen = w.seen ++ a.0;
        path = path_both defs begin w.seen s a.0 ahead w.path a.1;
        shows = seen_both keep nothing_yet w.seen a.0 ∙ unkept_seen keep (seen_on keep nothing_yet w.seen) a.0 a.2 ∙ w.shows;
        early = omega (arith, takes_both w.seen a.0, unkept_takes keep a.0 a.2, w.early);
      }

  way : (n i : ℕ) → i < n → (s : State) (ws : Past) → slice_get rs i ≡ Some (s, ws) → IsWay s ws (i * longest)
  way zero i lt s ws at = absurd (omega (arith, lt))
  way (suc n) i lt s ws at = go (found i s ws at) (way n) where
    go : ((s ≡ begin) × (ws ≡ nothing_yet)) ⊎ ComesFrom defs keep longest rs i s ws → ((j : ℕ) → j < n → (s : State) (ws : Past) → slice_get rs j ≡ Some (s, ws) → IsWay s ws (j * longest)) → IsWay s ws (i * longest)
    go (inl e) before = record { seen = []; path = sym e.0; shows = sym e.1; early = omega arith }
    go (inr f) before =
        let r : Reached = f.from in
        let w = way_on r.0 f.ahead r.1 (f.at * longest) f.is (before f.at (omega (arith, lt, f.before)) r.0 r.1 f.there) in
        record {
          seen = w.seen ++ f.sight ∷ [];
          path = goes_on defs begin w.seen f.ahead f.sight s w.path f.goes;
          shows = seen_both keep nothing_yet w.seen (f.sight ∷ []) ∙ ap (λ (p : Past). seen_after keep p f.sight) w.shows ∙ f.shows;
          early = omega (arith, takes_more w.seen f.sight, w.early, f.short, mul-le-mul_right longest f.before);
        }

-- a journal of a program of which this is named, and that comes to this state with no cancel due
record IsSeen (names : List Simple) (sites : List ClaimSite) (last : ℕ) (x : Context) (t : Term) (vs : List Sight) (end : State) : Type 0 where
  entries : List Entry
  place : Place
  leads : Journal x (begin t) entries place
  shows : seen_of names sites last entries place.now ≡ seen_on (kept names sites last) nothing_yet vs
  early : place.now < 2 ^ 64
  is : state_of x (moment place) ≡ end
  well : IsWell (moment place)
  paid : place.to_cancel ≡ []

module _ (names : List Simple) (sites : List ClaimSite) (last : ℕ) where
  -- each path is that of a journal
  journal_of : (x : Context) (source : Term) (vs : List Sight) (t : State) → AreSource x.definitions → IsSource source → IsRunOf x (start source) vs t → IsSeen names sites last x source vs t
  journal_of x source vs t ds is_source r =
      let j = run_is_journal x source r.events r.end ds is_source r.run in
      made j.0 j.1 j.2 j.3 j.4
    where
      made : (es : List Entry) (q : Place) → Journal x (begin source) es q → AreEventsOf es r.events → moment q ≡ r.end → IsSeen names sites last x source vs t
      made es q leads named same = record {
        entries = es;
        place = q;
        leads = leads;
        shows = ap (λ (m : Moment). seen_of names sites last es m.now) same ∙ journal_seen names sites last x r.end source es r.events named (run_counted x (start source) r.events r.end r.run) (plain x (start source) r.events r.end r.run) ∙ ap (seen_on (kept names sites last) nothing_yet) r.shows;
        early = subst (λ (m : Moment). m.now < 2 ^ 64) (sym same) r.orderly.fits;
        is = ap (state_of x) same ∙ r.is;
        well = subst IsWell (sym same) r.orderly.well;
        paid = ap Moment.to_cancel same ∙ r.orderly.free;
      }

  -- the first moment
  begins : (x : Context) (source : Term) → IsSource source → IsWell (start source) → IsOrderly x (start source)
  begins x source is_source well = record {
    well = well;
    holds = source_holds source is_source;
    calls = λ k i. elim i [ ];
    cells = λ c i. elim i [ ];
    in_time = λ c a delay i. elim i [ ];
    fits = omega arith;
    free = refl;
  }

  path_is_seen : (l : Listing) (t : Table) (vs : List Sight) (u : State) → time_in vs < 2 ^ 64 → Path (small_definitions l) (state_of (context l t) (start (source l))) vs u → IsSeen names sites last (context l t) (source l) vs u
  path_is_seen l t vs u fits p =
      let x : Context = context l t in
      let ready = program_is_ready l t.sites true in
      let sources = program_is_source l in
      let is_source : IsSource (source l) = sources.0 l.root in
      let r = path_is_run x (small_definitions l) (start (source l)) vs u ready.0 (begins x (source l) is_source ready.1) p (omega (arith, fits)) in
      journal_of x (source l) vs u sources.1 is_source r

  -- where the way is a journal's
  module _ (l : Listing) (t : Table) (s : State) (vs : List Sight) (j : IsSeen names sites last (context l t) (source l) vs s) where
    ends_so : (d : Ending) → ending (small_definitions l) s.term ≡ Some d → EndsAt (context l t) (count j.entries) j.entries j.place (end_of d)
    ends_so d says = go d (ap (λ (u : State). ending (small_definitions l) u.term) j.is ∙ says) where
      go : (d : Ending) → ending (small_definitions l) (small_of (context l t) (moment j.place)) ≡ Some d → EndsAt (context l t) (count j.entries) j.entries j.place (end_of d)
      go halted e = ending_is_halted (context l t) (small_definitions l) (moment j.place) e
      go quiet e = let ready = program_is_ready l t.sites true in ending_is_quiet (context l t) (small_definitions l) (moment j.place) ready.0 j.well e

    end_of_run : (o : EndSeen) (d : Ending) → ending (small_definitions l) s.term ≡ Some d → o.0 ≡ end_of d → seen_on (kept names sites last) nothing_yet vs ≡ o.1 → IsSeenOfRun l t names sites last o
    end_of_run o d says end shows = record {
      limit = count j.entries;
      outcome = record { journal = j.entries; end = end_of d; now = j.place.now };
      run = record { place = j.place; leads = j.leads; ends = ends_so d says; paid = j.paid; now = refl; within = omega arith };
      end = sym end;
      shows = j.shows ∙ shows;
      early = j.early;
    }

pub found_are_of_runs : FoundAreOfRuns
found_are_of_runs l t names sites last longest rs o found fits k =
    let defs : List SmallDefinition = small_definitions l in
    let keep : Kept = kept names sites last in
    let p = place_of {X = Reached} (k.state, o.1) rs k.is in
    let w = way_on defs keep refl (first l t) longest rs found k.state k.ahead o.1 (p.at * longest) k.leads (way defs keep refl (first l t) longest rs found (suc p.at) p.at (omega arith) k.state o.1 p.is) in
    let early : time_in w.seen < 2 ^ 64 = omega (arith, w.early, fits, mul-le-mul_right longest p.within) in
    let path : Path defs (state_of (context l t) (start (source l))) w.seen k.ahead = subst (λ (b : State). Path defs b w.seen k.ahead) (begins_there l t) w.path in
    let j = path_is_seen names sites last l t w.seen k.ahead early path in
    end_of_run names sites last l t k.ahead w.seen j o k.ending k.says k.end w.shows
