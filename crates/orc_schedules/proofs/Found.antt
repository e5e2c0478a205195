-- Each run of a program stands where a state that was looked at is ahead, and ends as that one says.
use Rattle.std.proofs.Common.{◌≡◌, ◌<◌, ◌≤◌, ℕ, zero, suc, ◌+◌, ◌-◌, ◌*◌, ◌^◌, List, [], ◌∷◌, ◌++◌, map, true, false, Some, ◌⊎◌, refl, sym, ap, ◌∙◌, subst, inl, inr, arith}
use Rattle.std.specs.Prelude.{if◌then◌else◌}
use Rattle.std.specs.Option.{option_to_list}
use Rattle.std.proofs.Math.Nat.{mul-le-mul_right}
use Rattle.std.proofs.lemmas.List.{append-nil}
use Rattle.orc_claims.specs.declared.happening.Occurrence.{Occurrence}
use Rattle.orc_rules.specs.declared.entry.Entry.{Entry}
use Rattle.orc_rules.specs.declared.entry.Entry.TheVariants.{End, Fork, Seq, Other, Def, Open, Send, Call, Return, ReturnHalt, Bind, Lost, Right, Publish, Tick, Cancel}
use Rattle.orc_rules.specs.declared.entry.Entry.TheVariants as entry
use Rattle.orc_rules.specs.Nodes.{Listing, code, definitions, source}
use Rattle.orc_rules.specs.Sites.{Table, find}
use Rattle.orc_rules.specs.Timed.{Context, Moment, Event, does, ticks, cancels, Does, IsIn, IsQuiet, Run, start}
use Rattle.orc_rules.specs.Journal.{begin, moment, event_of, AreEventsOf}
use Rattle.orc_rules.specs.Lost.{IsSource, AreSource}
use Rattle.orc_rules.specs.Trace.{IsExplained}
use Rattle.orc_rules.proofs.Settled.{journal_is_explained}
use Rattle.orc_rules.proofs.Tests.{idle_by}
use Rattle.orc_rules.proofs.Listed.{program_is_source}
use Rattle.orc_journal.specs.Written.{counts, count}
use Rattle.orc_claims.specs.Happenings.{happenings}
use Rattle.orc_tally.specs.Sight.{renumbered}
use Rattle.orc_tally.specs.declared.sight.ClaimSite.{ClaimSite}
use Rattle.orc_outcome.specs.Outcome.{context, EndsAt, IsRun, Outcome}
use Rattle.orc_outcome.specs.declared.end.End.{End as HowEnded}
use Rattle.orc_outcome.specs.declared.end.End.TheVariants as ends
use Rattle.orc_search.specs.Early.{IsAhead, Follows, stands, goes}
use Rattle.orc_search.specs.Moves.{Happening, unseen, SmallDefinition}
use Rattle.orc_search.specs.Seen.{happening}
use Rattle.orc_search.specs.Moments.{out_of, small_of}
use Rattle.orc_search.specs.Ticks.{moves_now, pass, Passes}
use Rattle.orc_search.specs.Graphs.{Ending, halted, quiet, ending, IsBeyond}
use Rattle.orc_search.specs.Programs.{small_definitions}
use Rattle.orc_search.specs.Runs.{IsWell}
use Rattle.orc_search.specs.States.{State, Sight, happens, waits, Goes, sights, state_of, AreOf}
use Rattle.orc_search.specs.Successors.{some_time}
use Rattle.orc_search.proofs.Ahead.{ahead_both, ahead_ends, ahead_follows}
use Rattle.orc_search.proofs.Graphs.{halted_is_ending, quiet_is_ending}
use Rattle.orc_search.proofs.Programs.{program_is_ready}
use Rattle.orc_search.proofs.Runs.{run_is_well}
use Rattle.orc_search.proofs.States.{run_is_path}
use Rattle.orc_search.proofs.Successors.{passes_by_wait}
use Rattle.orc_search.proofs.Ticks.{moves_same}
use Rattle.orc_schedules.specs.Reached.{Reached, EndSeen, end_of, first, HasEnded}
use Rattle.orc_schedules.specs.Found.{AllAreFound}
use Rattle.orc_schedules.specs.Seen.{Kept, Past, is_nothing, is_unkept, kept, nothing_yet, seen_after, seen_of, seen_on}
use Rattle.orc_schedules.specs.Watch.{HappenedBy, all_at}
use Rattle.orc_schedules.specs.Tables.{IsDone, IsLookedAt}
use Rattle.orc_schedules.proofs.Adding.{wait_passes}
use Rattle.orc_schedules.proofs.Journals.{journal_by, journal_counted, journal_seen}

-- how many ticks there are in a run
abbrev ticks_in : List Event → ℕ
ticks_in [] = 0
ticks_in (ticks t ∷ es) = suc (ticks_in es)
ticks_in (does a ∷ es) = ticks_in es
ticks_in (cancels k ∷ es) = ticks_in es

one_counts : (e : Entry) (cs : List ℕ) (rest : List Event) (n : ℕ) → ticks_in rest ≤ n → ticks_in (option_to_list (event_of e cs) ++ rest) ≤ (if counts e then suc n else n)
one_counts (End s) cs rest n le = omega (arith, le)
one_counts (Fork s a b) cs rest n le = omega (arith, le)
one_counts (Seq s a) cs rest n le = omega (arith, le)
one_counts (Other s a) cs rest n le = omega (arith, le)
one_counts (Def s a) cs rest n le = omega (arith, le)
one_counts (entry.Void s) cs rest n le = omega (arith, le)
one_counts (Open s c a b) cs rest n le = omega (arith, le)
one_counts (Send s a v) cs rest n le = omega (arith, le)
one_counts (Call s k m args) cs rest n le = omega (arith, le)
one_counts (Return k a v) cs rest n le = omega (arith, le)
one_counts (ReturnHalt k) cs rest n le = omega (arith, le)
one_counts (Bind s c v) cs rest n le = omega (arith, le)
one_counts (Lost c) cs rest n le = omega (arith, le)
one_counts (Right s a) cs rest n le = omega (arith, le)
one_counts (Publish s v) cs rest n le = omega (arith, le)
one_counts (Tick t) cs rest n le = omega (arith, le)
one_counts (Cancel k) cs rest n le = le

-- each is an entry that counts
ticks_count : (es : List Entry) (events : List Event) → AreEventsOf es events → ticks_in events ≤ count es
ticks_count [] events h = subst (λ (w : List Event). ticks_in w ≤ 0) (sym h) (omega arith)
ticks_count (e ∷ es) events (cs, rest, h, more) = subst (λ (w : List Event). ticks_in w ≤ count (e ∷ es)) (sym h) (one_counts e cs rest (count es) (ticks_count es rest more))

pub nothing_is : (ws : List Occurrence) → is_nothing ws ≡ true → ws ≡ []
nothing_is [] e = refl
nothing_is (w ∷ ws) e = cc e

-- where nothing is kept all stays as it was
pub unkept_after : (keep : Kept) (p : Past) (h : Happening) → is_unkept keep h ≡ true → seen_after keep p (happens h) ≡ p
unkept_after keep p h unkept = λ i. record { happened = ((λ j. p.happened ++ all_at p.now (nothing_is (keep.of h) unkept j)) ∙ append-nil p.happened) i; now = p.now }

module _ (x : Context) (smalls : List SmallDefinition) (of : AreOf smalls x) (keep : Kept) (silent : is_unkept keep unseen ≡ true) (longest : ℕ) (rs : List Reached) (os : List EndSeen) (looked : (r : Reached) → IsIn r rs → IsLookedAt smalls keep rs longest os r) where
  -- a state that was looked at, with this seen, is ahead of another one
  record Stands (s : State) (vs : Past) : Type 0 where
    ahead : State
    is : IsAhead smalls (is_unkept keep) s ahead
    done : IsDone smalls keep rs longest os (ahead, vs)

  stands_there : (s : State) (vs : Past) → IsIn {X = Reached} (s, vs) rs → Stands s vs
  stands_there s vs is = let k = looked (s, vs) is in record { ahead = k.ahead; is = k.is; done = k.done }

  -- wherever a state goes, one is ahead of the next state again
  stands_on : (s t : State) (v : Sight) (vs : Past) → Stands s vs → Goes smalls s v t → Stands t (seen_after keep vs v)
  stands_on s t v vs st g = go (ahead_follows x smalls (is_unkept keep) s st.ahead t v of silent st.is g) where
    go : Follows smalls (is_unkept keep) st.ahead v t → Stands t (seen_after keep vs v)
    go (stands h e unkept is) =
        let same : seen_after keep vs v ≡ vs = ap (seen_after keep vs) e ∙ unkept_after keep vs h unkept in
        record { ahead = st.ahead; is = is; done = subst (λ (ws : Past). IsDone smalls keep rs longest os (st.ahead, ws)) (sym same) st.done }
    go (goes u to is) =
        let k = looked (u, seen_after keep vs v) (st.done.followed v u to) in
        record { ahead = k.ahead; is = ahead_both smalls (is_unkept keep) t u k.ahead is k.is; done = k.done }

  -- no wait is longer than the longest
  short : (s t : State) (by : ℕ) (vs : Past) → Stands s vs → Goes smalls s (waits by) t → by ≤ longest
  short s t by vs st g = go (ahead_follows x smalls (is_unkept keep) s st.ahead t (waits by) of silent st.is g) where
    go : Follows smalls (is_unkept keep) st.ahead (waits by) t → by ≤ longest
    go (stands h e unkept is) = cc e
    go (goes u to is) = st.done.waits by (passes_by_wait smalls (State.term st.ahead) (State.term u) by to.0).0

  -- where a run has come to, with this seen, at this time or before
  record Comes (s : Moment) (vs : Past) (time : ℕ) : Type 0 where
    stood : Stands (state_of x s) vs
    now : s.now ≤ time

  comes : (s : Moment) (es : List Event) (s' : Moment) (vs : Past) → IsWell s → Stands (state_of x s) vs → (r : Run x s es s') → Comes s' (seen_on keep vs (sights x s es s' r)) (s.now + ticks_in es * longest)
  comes s [] s' vs w st r = record {
    stood = subst (λ (m : Moment). Stands (state_of x m) vs) r st;
    now = omega (arith, ap Moment.now r);
  }
  comes s (does a ∷ es) s' vs w st r =
      let v : Sight = happens (happening (out_of x.sites s.now s.calls) a) in
      let run : Run x s (does a ∷ []) r.0 = (r.0, r.1, refl) in
      let p = run_is_path x smalls s r.0 (does a ∷ []) of w run in
      let there : Stands (state_of x r.0) (seen_after keep vs v) = subst (λ (t : State). Stands t (seen_after keep vs v)) p.2 (stands_on (state_of x s) p.0 v vs st p.1) in
      let rest = comes r.0 es s' (seen_after keep vs v) (run_is_well x s r.0 (does a ∷ []) of.bodies of.closed w run) there r.2 in
      let d : Does x s a r.0 = r.1 in
      record {
        stood = rest.stood;
        now = omega (arith, rest.now, d.now);
      }
  comes s (ticks t ∷ es) s' vs w st r =
      let run : Run x s (ticks t ∷ []) r.0 = (r.0, r.1, refl) in
      let p = run_is_path x smalls s r.0 (ticks t ∷ []) of w run in
      let passed : Past = seen_after keep vs (waits (t - s.now)) in
      let there : Stands (state_of x r.0) passed = subst (λ (u : State). Stands u passed) p.2 (stands_on (state_of x s) p.0 (waits (t - s.now)) vs st p.1) in
      let rest = comes r.0 es s' passed (run_is_well x s r.0 (ticks t ∷ []) of.bodies of.closed w run) there r.2 in
      let le : t - s.now ≤ longest = short (state_of x s) p.0 (t - s.now) vs st p.1 in
      let h = r.1 in
      let now : Moment.now r.0 ≡ t = ap Moment.now h.2 in
      record {
        stood = rest.stood;
        now = omega (arith, rest.now, le, now);
      }
  comes s (cancels k ∷ es) s' vs w st r =
      let run : Run x s (cancels k ∷ []) r.0 = (r.0, r.1, refl) in
      let h = r.1 in
      let same : state_of x r.0 ≡ state_of x s = ap (state_of x) h.1 in
      let there : Stands (state_of x r.0) vs = subst (λ (u : State). Stands u vs) (sym same) st in
      let rest = comes r.0 es s' vs (run_is_well x s r.0 (cancels k ∷ []) of.bodies of.closed w run) there r.2 in
      let now : Moment.now r.0 ≡ s.now = ap Moment.now h.1 in
      record {
        stood = rest.stood;
        now = omega (arith, rest.now, now);
      }

  -- within the limit a quiet run waits for nothing
  not_beyond : (limit : ℕ) (s : Moment) (vs : Past) → IsWell s → Stands (state_of x s) vs → IsQuiet x s → s.now ≤ limit * longest → suc limit * longest < 2 ^ 64 → IsBeyond x s → ⊥
  not_beyond limit s vs w st q early fits (zero, left, late) = omega (arith, early, fits, late)
  not_beyond limit s vs w st q early fits (suc by, left, late) =
      let still : moves_now smalls (small_of x s) ≡ false = moves_same x.definitions smalls of.there (out_of x.sites s.now s.calls) [] s.term w.1 ∙ ((idle_by x s).0 q.idle).0 in
      let p : Passes smalls (small_of x s) (suc by) (pass (suc by) (small_of x s)) = wait_passes smalls (small_of x s) (suc by) still (ap some_time left) in
      let after : State = record { term = pass (suc by) (small_of x s); coming = State.coming (state_of x s) } in
      omega (arith, early, fits, late, short (state_of x s) after (suc by) vs st (p, refl))

  -- the end of a run is told
  tells : (s : Moment) (vs : Past) (e : Ending) → Stands (state_of x s) vs → ending smalls (small_of x s) ≡ Some e → IsIn {X = EndSeen} (end_of e, vs) os
  tells s vs e st h = st.done.told e (ahead_ends smalls (is_unkept keep) (state_of x s) st.ahead e st.is h)

pub begins_there : (l : Listing) (t : Table) → first l t ≡ state_of (context l t) (start (source l))
begins_there l t = λ i. record { term = small_of (context l t) (start (source l)); coming = λ m args n. find t.sites m args (one n i) }
  where
    one : (n : ℕ) → suc (n + 0) ≡ n + 1
    one n = omega arith

-- what is told of a run's journal happened by its end
pub happened_by : (sites : List ClaimSite) (l : Listing) (t : Table) (limit : ℕ) (o : Outcome) → IsRun l t limit o → HappenedBy o.now (happenings (map (renumbered sites) o.journal))
happened_by sites l t limit o run =
    let x : Context = context l t in
    let sources = program_is_source l in
    let explained = journal_is_explained x (source l) o.journal run.place sources.1 (sources.0 l.root) run.leads in
    subst (λ (n : ℕ). HappenedBy n (happenings (map (renumbered sites) o.journal))) (sym run.now)
    (journal_by [] sites 0 x (moment run.place) (source l) o.journal explained.events explained.named (journal_counted x (begin (source l)) o.journal explained.events run.place run.leads explained.named) explained.run)

pub all_are_found : AllAreFound
all_are_found l t names sites latest limit longest rs os looked begins fits o run ended = (go o.end run.ends ended, omega (arith, early, fits, at_end))
  where
    x : Context
    x = context l t

    smalls : List SmallDefinition
    smalls = small_definitions l

    keep : Kept
    keep = kept names sites latest

    ready : AreOf smalls x × IsWell (start (source l))
    ready = program_is_ready l t.sites true

    sources : ((i : ℕ) → IsSource (code l i)) × AreSource (definitions l)
    sources = program_is_source l

    explained : IsExplained x (source l) o.journal run.place
    explained = journal_is_explained x (source l) o.journal run.place sources.1 (sources.0 l.root) run.leads

    last : Moment
    last = moment run.place

    well : IsWell last
    well = run_is_well x (start (source l)) last explained.events ready.0.bodies ready.0.closed ready.1 explained.run

    begun : Stands x smalls ready.0 keep refl longest rs os looked (state_of x (start (source l))) nothing_yet
    begun = stands_there x smalls ready.0 keep refl longest rs os looked (state_of x (start (source l))) nothing_yet (subst (λ (s : State). IsIn {X = Reached} (s, nothing_yet) rs) (begins_there l t) begins)

    seen : Past
    seen = seen_on keep nothing_yet (sights x (start (source l)) explained.events last explained.run)

    at : Comes x smalls ready.0 keep refl longest rs os looked last seen (0 + ticks_in explained.events * longest)
    at = comes x smalls ready.0 keep refl longest rs os looked (start (source l)) explained.events last nothing_yet ready.1 begun explained.run

    at_end : o.now ≡ last.now
    at_end = run.now

    shown : Past
    shown = seen_of names sites latest o.journal o.now

    named : shown ≡ seen
    named =
        ap (seen_of names sites latest o.journal) at_end
        ∙ journal_seen names sites latest x last (source l) o.journal explained.events explained.named (journal_counted x (begin (source l)) o.journal explained.events run.place run.leads explained.named) explained.run

    stood : Stands x smalls ready.0 keep refl longest rs os looked (state_of x last) shown
    stood = subst (λ (p : Past). Stands x smalls ready.0 keep refl longest rs os looked (state_of x last) p) (sym named) at.stood

    early : last.now ≤ limit * longest
    early = omega (arith, at.now, mul-le-mul_right longest (ticks_count o.journal explained.events explained.named), mul-le-mul_right longest run.within)

    go : (e : HowEnded) → EndsAt x limit o.journal run.place e → HasEnded e → IsIn {X = EndSeen} (e, shown) os
    go ends.Halted h ended = tells x smalls ready.0 keep refl longest rs os looked last shown halted stood (halted_is_ending x smalls last h)
    go ends.Quiet q ended = either (quiet_is_ending x smalls last ready.0 well q)
      where
        either : (ending smalls (small_of x last) ≡ Some quiet) ⊎ IsBeyond x last → IsIn {X = EndSeen} (ends.Quiet, shown) os
        either (inl e) = tells x smalls ready.0 keep refl longest rs os looked last shown quiet stood e
        either (inr b) = absurd (not_beyond x smalls ready.0 keep refl longest rs os looked limit last shown well stood q early fits b)
    go ends.Limit h ended = elim ended [ ]
    go ends.Full h ended = elim ended [ ]
    go ends.Memory h ended = elim ended [ ]
