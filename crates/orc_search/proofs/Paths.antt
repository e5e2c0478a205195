-- Each path of the small system is that of a run, and of a journal.
use Rattle.std.proofs.Common.{◌≡◌, ◌<◌, ◌≤◌, ℕ, ◌+◌, ◌-◌, ◌^◌, List, [], ◌∷◌, ◌++◌, map, Bool, true, false, Option, Some, None, ◌⊎◌, refl, sym, ap, ◌∙◌, subst, inl, inr, arith}
use Rattle.std.specs.Prelude.{cond}
use Rattle.std.specs.Option.{option_to_list}
use Rattle.orc_rules.specs.declared.value.Value.{Value}
use Rattle.orc_rules.specs.declared.value.Answer.{Answer}
use Rattle.orc_rules.specs.declared.value.Found.{Found}
use Rattle.orc_rules.specs.declared.value.Found.TheVariants.{After, Never}
use Rattle.orc_rules.specs.declared.entry.Entry.{Entry}
use Rattle.orc_rules.specs.declared.entry.Entry.TheVariants.{End, Fork, Seq, Other, Def, Open, Send, Call, Return, ReturnHalt, Bind, Lost, Right, Publish, Tick, Cancel}
use Rattle.orc_rules.specs.declared.entry.Entry.TheVariants as entry
use Rattle.orc_rules.specs.Term.{Term, pending_of}
use Rattle.orc_rules.specs.Step.{Act, calls, returns, binds, loses, publishes, silent, opens, IsNew}
use Rattle.orc_rules.specs.Timed.{Context, CallMade, Moment, number_of, used, says_of, IsIn, IsDue, IsTimely, IsTick, Event, does, ticks, cancels, Does, Run, calls_after, cells_after, start}
use Rattle.orc_rules.specs.Journal.{Place, next, moment, Journal, begin, event_of, AreEventsOf}
use Rattle.orc_rules.specs.Lost.{IsSource, AreSource}
use Rattle.orc_rules.specs.Nodes.{definitions, source}
use Rattle.orc_rules.specs.Pending.{PendsDue}
use Rattle.orc_rules.specs.Runs.{IsCountedOn, CountedRun}
use Rattle.orc_rules.specs.Trace.{publications}
use Rattle.orc_rules.specs.Trace as journal
use Rattle.orc_rules.proofs.Dropped.{cancels_exist}
use Rattle.orc_rules.proofs.Idle.{halted_test, test_halted}
use Rattle.orc_rules.proofs.Listed.{program_is_source}
use Rattle.orc_rules.proofs.Runs.{run_is_journal}
use Rattle.orc_rules.proofs.Tests.{idle_by}
use Rattle.orc_search.specs.Small.{Out, Small}
use Rattle.orc_search.specs.Moves.{Happening, SmallDefinition, Moves}
use Rattle.orc_search.specs.Seen.{happening}
use Rattle.orc_search.specs.Moments.{left, out_of, ask_of, small_of}
use Rattle.orc_search.specs.Ticks.{Passes, pass, is_over, moves_now}
use Rattle.orc_search.specs.Graphs.{halted, quiet, quiet_if}
use Rattle.orc_search.specs.Programs.{small_definitions}
use Rattle.orc_search.specs.Runs.{IsWell}
use Rattle.orc_search.specs.States.{State, Sight, happens, waits, next_call, Path, coming_of, coming_after, state_of, sights, AreOf}
use Rattle.orc_search.specs.Successors.{least_left}
use Rattle.orc_search.specs.Paths.{Takes, IsAnswered, IsStepFor, IsOrderly, IsMove, MoveIsStep, WaitIsTick, time_in, published_in, plain, IsRunOf, PathIsRun, IsJournalOf, PathIsJournal, EndingIsHalted, EndingIsQuiet}
use Rattle.orc_search.proofs.Begun.{source_holds, holds_after, Makes, pends}
use Rattle.orc_search.proofs.Moments.{is_number, finds, fresh_call, asked, stays}
use Rattle.orc_search.proofs.Programs.{program_is_ready}
use Rattle.orc_search.proofs.Runs.{run_is_well}
use Rattle.orc_search.proofs.States.{same_ask, coming_next}
use Rattle.orc_search.proofs.Steps.{is_step}
use Rattle.orc_search.proofs.Successors.{at_most}
use Rattle.orc_search.proofs.Ticks.{over_same, moves_same, is_out, whose, call_of, pass_seen}

-- numbers below the next one
new_above : (n : ℕ) (us : List ℕ) → ((u : ℕ) → IsIn u us → u < n) → IsNew n us
new_above n [] below = tt
new_above n (u ∷ us) below = (λ e. omega (arith, e, below u (inl refl)), new_above n us (λ v i. below v (inr i)))

counted_on : (s : Moment) (a : Act) → Takes (next s.calls) (next s.cells) a → IsCountedOn s (does a)
counted_on s (calls k m args cs) h = h
counted_on s (returns k a) h = tt
counted_on s (binds c v) h = tt
counted_on s (loses c) h = tt
counted_on s (publishes v) h = tt
counted_on s silent h = tt
counted_on s (opens c) h = h

module _ (s : Moment) (below_calls : (k : ℕ) → IsIn k (map number_of s.calls) → k < next s.calls) (below_cells : (c : ℕ) → IsIn c s.cells → c < next s.cells) where
  calls_below : (a : Act) → Takes (next s.calls) (next s.cells) a → (k : ℕ) → IsIn k (map number_of (calls_after s a)) → k < next (calls_after s a)
  calls_below (calls j m args cs) takes k (inl e) = omega (arith, e, takes)
  calls_below (calls j m args cs) takes k (inr i) = omega (arith, below_calls k i)
  calls_below (returns j a) takes k i = below_calls k i
  calls_below (binds c v) takes k i = below_calls k i
  calls_below (loses c) takes k i = below_calls k i
  calls_below (publishes v) takes k i = below_calls k i
  calls_below silent takes k i = below_calls k i
  calls_below (opens c) takes k i = below_calls k i

  cells_below : (a : Act) → Takes (next s.calls) (next s.cells) a → (c : ℕ) → IsIn c (cells_after s a) → c < next (cells_after s a)
  cells_below (opens d) takes c (inl e) = omega (arith, e, takes)
  cells_below (opens d) takes c (inr i) = omega (arith, below_cells c i)
  cells_below (calls j m args cs) takes c i = below_cells c i
  cells_below (returns j a) takes c i = below_cells c i
  cells_below (binds d v) takes c i = below_cells c i
  cells_below (loses d) takes c i = below_cells c i
  cells_below (publishes v) takes c i = below_cells c i
  cells_below silent takes c i = below_cells c i

module _ (x : Context) (s : Moment) (o : IsOrderly x s) where
  abbrev out : ℕ → Out
  out = out_of x.sites s.now s.calls

  rest_of : (c : CallMade) → IsIn c s.calls → Out.rest (out c.number) ≡ left s.now c.at (says_of x.sites c)
  rest_of c is_made = ap Out.rest (finds x.sites s.now s.calls c o.well.2 is_made)

  -- a call that pends and has so much time left is due then
  due_in : (k : ℕ) (a : Answer) (by : ℕ) → IsIn k (pending_of s.term) → IsIn k (map number_of s.calls) → Out.rest (out k) ≡ After a by → s.now + by < 2 ^ 64 → IsDue x.sites s.calls k a (s.now + by)
  due_in k a by pending made rest fits =
      let m = call_of s.calls k made in
      let its : left s.now m.by.at (says_of x.sites m.by) ≡ After a by = sym (rest_of m.by m.is_made) ∙ ap (λ (j : ℕ). Out.rest (out j)) m.is_k ∙ rest in
      go m.by m.is_made m.is_k (says_of x.sites m.by) refl its
    where
      go : (c : CallMade) → IsIn c s.calls → c.number ≡ k → (says : Found) → says_of x.sites c ≡ says → left s.now c.at (says_of x.sites c) ≡ After a by → IsDue x.sites s.calls k a (s.now + by)
      go c is_made is_k Never e r =
          let no : Never ≡ After a by = ap (left s.now c.at) (sym e) ∙ r in
          cc no
      go c is_made is_k (After b delay) e r =
          let same : After b (c.at + delay - s.now) ≡ After a by = ap (left s.now c.at) (sym e) ∙ r in
          let answer : b ≡ a = cc same in
          let time : c.at + delay - s.now ≡ by = cc same in
          let early : s.now ≤ c.at + delay = o.in_time c b delay is_made (subst (λ (j : ℕ). IsIn j (pending_of s.term)) (sym is_k) pending) e in
          record { by = c; is_made = is_made; is_k = is_k; delay = delay; says = e ∙ ap (λ (z : Answer). After z delay) answer; sum = omega (arith, time, early); fits = fits }

  timely : (a : Act) → IsAnswered (used s) out s.term a → IsTimely x.sites s a
  timely (returns k a) h = subst (IsDue x.sites s.calls k a) (omega arith) (due_in k a 0 h.0 h.1 h.2 (omega (arith, o.fits)))
  timely (calls k m args cs) h = tt
  timely (binds c v) h = tt
  timely (loses c) h = tt
  timely (publishes v) h = tt
  timely silent h = tt
  timely (opens c) h = tt

  -- after a step no call that pends is late either
  in_time_after : (a : Act) (u : Term) → Takes (next s.calls) (next s.cells) a → ((j : ℕ) → IsIn j (pending_of u) → IsIn j (pending_of s.term) ⊎ Makes a j)
      → (c : CallMade) (b : Answer) (delay : ℕ) → IsIn c (calls_after s a) → IsIn c.number (pending_of u) → says_of x.sites c ≡ After b delay → s.now ≤ c.at + delay
  in_time_after (calls k m args cs) u takes from c b delay (inl e) i says = let at : c.at ≡ s.now = ap CallMade.at e in omega (arith, at)
  in_time_after (calls k m args cs) u takes from c b delay (inr is_made) i says = go (from c.number i) where
    go : IsIn c.number (pending_of s.term) ⊎ (c.number ≡ k) → s.now ≤ c.at + delay
    go (inl p) = o.in_time c b delay is_made p says
    go (inr e) = absurd (omega (arith, e, takes, o.calls c.number (is_number c s.calls is_made)))
  in_time_after (returns k a) u takes from c b delay is_made i says = go (from c.number i) where
    go : IsIn c.number (pending_of s.term) ⊎ ⊥ → s.now ≤ c.at + delay
    go (inl p) = o.in_time c b delay is_made p says
    go (inr n) = elim n [ ]
  in_time_after (binds d v) u takes from c b delay is_made i says = go (from c.number i) where
    go : IsIn c.number (pending_of s.term) ⊎ ⊥ → s.now ≤ c.at + delay
    go (inl p) = o.in_time c b delay is_made p says
    go (inr n) = elim n [ ]
  in_time_after (loses d) u takes from c b delay is_made i says = go (from c.number i) where
    go : IsIn c.number (pending_of s.term) ⊎ ⊥ → s.now ≤ c.at + delay
    go (inl p) = o.in_time c b delay is_made p says
    go (inr n) = elim n [ ]
  in_time_after (publishes v) u takes from c b delay is_made i says = go (from c.number i) where
    go : IsIn c.number (pending_of s.term) ⊎ ⊥ → s.now ≤ c.at + delay
    go (inl p) = o.in_time c b delay is_made p says
    go (inr n) = elim n [ ]
  in_time_after silent u takes from c b delay is_made i says = go (from c.number i) where
    go : IsIn c.number (pending_of s.term) ⊎ ⊥ → s.now ≤ c.at + delay
    go (inl p) = o.in_time c b delay is_made p says
    go (inr n) = elim n [ ]
  in_time_after (opens d) u takes from c b delay is_made i says = go (from c.number i) where
    go : IsIn c.number (pending_of s.term) ⊎ ⊥ → s.now ≤ c.at + delay
    go (inl p) = o.in_time c b delay is_made p says
    go (inr n) = elim n [ ]

  module _ (smalls : List SmallDefinition) (of : AreOf smalls x) where
    -- the step of a move
    taken : (h : Happening) (g : Small) → IsStepFor x.definitions (used s) (ask_of x.sites s.now s.calls) out (next s.calls) (next s.cells) [] s.term h g → IsMove x s h g
    taken h g b =
        let drops = cancels_exist x b.act s.term b.term in
        let after : Moment = record { term = b.term; now = s.now; calls = calls_after s b.act; cells = cells_after s b.act; to_cancel = drops.0 } in
        let on_time : IsTimely x.sites s b.act = timely b.act b.answered in
        let step : Does x s b.act after = record { step = b.step; timely = on_time; now = refl; calls = refl; cells = refl; free = o.free; to_cancel = drops.1 } in
        let small : small_of x after ≡ g = b.is (out_of x.sites s.now (calls_after s b.act)) (stays x s b.act (fresh_call b.step)) (asked x s b.act o.well.2 on_time) in
        record {
          act = b.act;
          after = after;
          done = step;
          counted = counted_on s b.act b.takes;
          shows = b.shows;
          small = small;
          orderly = record {
            well = run_is_well x s after (does b.act ∷ []) of.bodies of.closed o.well (after, step, refl);
            holds = holds_after x.definitions (used s) of.bodies o.holds b.step;
            calls = calls_below s o.calls o.cells b.act b.takes;
            cells = cells_below s o.calls o.cells b.act b.takes;
            in_time = in_time_after b.act b.term b.takes (λ j i. pends x.definitions (used s) of.bodies j o.holds b.step i);
            fits = o.fits;
            free = refl;
          };
        }

    done : (h : Happening) (g : Small) → Moves smalls (next_call (coming_of x.sites s.calls)) 0 (small_of x s) h g → IsMove x s h g
    done h g m =
        let ask : ℕ → List Value → Out = ask_of x.sites s.now s.calls in
        let asks : ask ≡ next_call (coming_of x.sites s.calls) = λ i n args. same_ask x.sites s.now s.calls n args i in
        let move : Moves smalls ask 0 (small_of x s) h g = subst (λ (f : ℕ → List Value → Out). Moves smalls f 0 (small_of x s) h g) (sym asks) m in
        let new_call : IsNew (next s.calls) (map number_of s.calls) = new_above (next s.calls) (map number_of s.calls) o.calls in
        let new_cell : IsNew (next s.cells) s.cells = new_above (next s.cells) s.cells o.cells in
        taken h g (is_step x.definitions smalls (used s) ask out (next s.calls) (next s.cells) of.seen of.there new_call new_cell [] s.term o.well.0 o.well.1 h g move)

    -- time passes
    module _ (by : ℕ) (g : Small) (p : Passes smalls (small_of x s) by g) (fits : s.now + by < 2 ^ 64) where
      not_before : (c : CallMade) (a : Answer) (delay : ℕ) → IsIn c s.calls → IsIn c.number (pending_of s.term) → says_of x.sites c ≡ After a delay → s.now + by ≤ c.at + delay
      not_before c a delay is_made pending says =
          let rest : Out.rest (out c.number) ≡ After a (c.at + delay - s.now) = rest_of c is_made ∙ ap (left s.now c.at) says in
          let least : by ≤ c.at + delay - s.now = p.least (out c.number) a (c.at + delay - s.now) (is_out out [] s.term c.number pending) rest in
          omega (arith, least, p.some)

      not_due_before : (k : ℕ) (a : Answer) (t : ℕ) → IsIn k (pending_of s.term) → IsDue x.sites s.calls k a t → s.now + by ≤ t
      not_due_before k a t pending due =
          let c = due.by in
          omega (arith, due.sum, not_before c a due.delay due.is_made (subst (λ (j : ℕ). IsIn j (pending_of s.term)) (sym due.is_k) pending) due.says)

      tick : IsTick x s (s.now + by)
      tick =
          let r = p.reached in
          let w = whose (used s) out [] s.term r.0 o.well.0 r.2 in
          record {
            idle = (idle_by x s).1 (sym (moves_same x.definitions smalls of.there out [] s.term o.well.1) ∙ p.still, λ t due. omega (arith, p.some, not_due_before due.0 due.1 t due.2 due.3));
            later = omega (arith, p.some);
            reached = (w.call, r.1, w.pends, due_in w.call r.1 by w.pends w.made (ap Out.rest (sym w.is) ∙ r.3) fits);
            least = λ k a t pending due. not_due_before k a t pending due;
          }

      seen_then : small_of x (record s { now = s.now + by }) ≡ g
      seen_then =
          let time : s.now + by - s.now ≡ by = omega arith in
          pass_seen x.sites s.now (s.now + by) s.calls [] s.term (omega arith) ∙ ap (λ (n : ℕ). pass n (small_of x s)) time ∙ sym p.after

      orderly_then : IsOrderly x (record s { now = s.now + by })
      orderly_then = record { well = o.well; holds = o.holds; calls = o.calls; cells = o.cells; in_time = not_before; fits = fits; free = o.free }

pub move_is_step : MoveIsStep
move_is_step x smalls s h g of o m = done x s o smalls of h g m

pub wait_is_tick : WaitIsTick
wait_is_tick x smalls s by g of o p fits = (tick x s o smalls of by g p fits, seen_then x s o smalls of by g p fits, orderly_then x s o smalls of by g p fits)

-- the cancels that are due, and then a run
module _ (x : Context) where
  record Paid (u : Moment) (drops : List ℕ) (es : List Event) (s' : Moment) (vs : List Sight) : Type 0 where
    run : CountedRun x (record u { to_cancel = drops }) (map cancels drops ++ es) s'
    shows : sights x (record u { to_cancel = drops }) (map cancels drops ++ es) s' (plain x (record u { to_cancel = drops }) (map cancels drops ++ es) s' run) ≡ vs

  pays : (u : Moment) (drops : List ℕ) (es : List Event) (s' : Moment) (vs : List Sight) (r : CountedRun x (record u { to_cancel = [] }) es s')
      → sights x (record u { to_cancel = [] }) es s' (plain x (record u { to_cancel = [] }) es s' r) ≡ vs → Paid u drops es s' vs
  pays u [] es s' vs r e = record { run = r; shows = e }
  pays u (k ∷ drops) es s' vs r e =
      let p = pays u drops es s' vs r e in
      record { run = (record u { to_cancel = drops }, (refl, refl), tt, p.run); shows = p.shows }

  module _ (smalls : List SmallDefinition) (of : AreOf smalls x) (t : State) where
    path : (s : Moment) (vs : List Sight) → IsOrderly x s → Path smalls (state_of x s) vs t → s.now + time_in vs < 2 ^ 64 → IsRunOf x s vs t
    path s [] o p fits = record { events = []; end = s; run = refl; is = p; shows = refl; orderly = o }
    path s (happens h ∷ vs) o p fits =
        let d = move_is_step x smalls s h (State.term p.0) of o p.1.0 in
        let after : Moment = d.after in
        let u : Moment = record after { to_cancel = [] } in
        let coming : coming_of x.sites after.calls ≡ State.coming p.0
        = ap (coming_of x.sites) d.done.calls ∙ coming_next x s d.act ∙ ap (λ (z : Happening). coming_after z (coming_of x.sites s.calls)) d.shows ∙ sym p.1.1 in
        let to : state_of x u ≡ p.0 = λ i. record { term = d.small i; coming = coming i } in
        let now : after.now ≡ s.now = d.done.now in
        let rest = path u vs d.orderly (subst (λ (m : State). Path smalls m vs t) (sym to) p.2) (omega (arith, now, fits)) in
        let paid = pays after after.to_cancel rest.events rest.end vs rest.run rest.shows in
        record {
          events = does d.act ∷ (map cancels after.to_cancel ++ rest.events);
          end = rest.end;
          run = (after, d.done, d.counted, paid.run);
          is = rest.is;
          shows = λ i. happens (d.shows i) ∷ paid.shows i;
          orderly = rest.orderly;
        }
    path s (waits by ∷ vs) o p fits =
        let k = wait_is_tick x smalls s by (State.term p.0) of o p.1.0 (omega (arith, fits)) in
        let u : Moment = record s { now = s.now + by } in
        let to : state_of x u ≡ p.0 = λ i. record { term = k.1 i; coming = sym p.1.1 i } in
        let rest = path u vs k.2 (subst (λ (m : State). Path smalls m vs t) (sym to) p.2) (omega (arith, fits)) in
        let time : s.now + by - s.now ≡ by = omega arith in
        record {
          events = ticks (s.now + by) ∷ rest.events;
          end = rest.end;
          run = (u, (o.free, k.0, refl), tt, rest.run);
          is = rest.is;
          shows = λ i. waits (time i) ∷ rest.shows i;
          orderly = rest.orderly;
        }

pub path_is_run : PathIsRun
path_is_run x smalls s vs t of o p fits = path x smalls of t s vs o p fits

-- what a run publishes is seen
shown_act : (x : Context) (s : Moment) (a : Act) (es : List Event) (vs : List Sight) → publications es ≡ published_in vs → publications (does a ∷ es) ≡ published_in (happens (happening (out_of x.sites s.now s.calls) a) ∷ vs)
shown_act x s (calls k m args cs) es vs e = e
shown_act x s (returns k a) es vs e = e
shown_act x s (binds c v) es vs e = e
shown_act x s (loses c) es vs e = e
shown_act x s (publishes v) es vs e = ap (λ (r : List Value). v ∷ r) e
shown_act x s silent es vs e = e
shown_act x s (opens c) es vs e = e

shown : (x : Context) (s : Moment) (es : List Event) (s' : Moment) (r : Run x s es s') → publications es ≡ published_in (sights x s es s' r)
shown x s [] s' r = refl
shown x s (does a ∷ es) s' r = shown_act x s a es (sights x r.0 es s' r.2) (shown x r.0 es s' r.2)
shown x s (ticks t ∷ es) s' r = shown x r.0 es s' r.2
shown x s (cancels k ∷ es) s' r = shown x r.0 es s' r.2

one_shown : (e : Entry) (cs : List ℕ) (es : List Entry) (rest : List Event) → journal.published es ≡ publications rest → journal.published (e ∷ es) ≡ publications (option_to_list (event_of e cs) ++ rest)
one_shown (End s) cs es rest h = h
one_shown (Fork s a b) cs es rest h = h
one_shown (Seq s a) cs es rest h = h
one_shown (Other s a) cs es rest h = h
one_shown (Def s a) cs es rest h = h
one_shown (entry.Void s) cs es rest h = h
one_shown (Open s c a b) cs es rest h = h
one_shown (Send s a v) cs es rest h = h
one_shown (Call s k m args) cs es rest h = h
one_shown (Return k a v) cs es rest h = h
one_shown (ReturnHalt k) cs es rest h = h
one_shown (Bind s c v) cs es rest h = h
one_shown (Lost c) cs es rest h = h
one_shown (Right s a) cs es rest h = h
one_shown (Publish s v) cs es rest h = ap (λ (r : List Value). v ∷ r) h
one_shown (Tick t) cs es rest h = h
one_shown (Cancel k) cs es rest h = h

entries_shown : (es : List Entry) (events : List Event) → AreEventsOf es events → journal.published es ≡ publications events
entries_shown [] events h = ap publications (sym h)
entries_shown (e ∷ es) events (cs, rest, h, more) = one_shown e cs es rest (entries_shown es rest more) ∙ ap publications (sym h)

journal_of : (x : Context) (source : Term) (vs : List Sight) (t : State) → AreSource x.definitions → IsSource source → IsRunOf x (start source) vs t → IsJournalOf x source vs t
journal_of x source vs t ds is_source r =
    let j = run_is_journal x source r.events r.end ds is_source r.run in
    made j.0 j.1 j.2 j.3 j.4
  where
    made : (es : List Entry) (q : Place) → Journal x (begin source) es q → AreEventsOf es r.events → moment q ≡ r.end → IsJournalOf x source vs t
    made es q leads named same =
        let run : publications r.events ≡ published_in vs = shown x (start source) r.events r.end (plain x (start source) r.events r.end r.run) ∙ ap published_in r.shows in
        record {
          entries = es;
          place = q;
          leads = leads;
          shows = entries_shown es r.events named ∙ run;
          is = ap (state_of x) same ∙ r.is;
          well = subst IsWell (sym same) r.orderly.well;
          paid = ap Moment.to_cancel same ∙ r.orderly.free;
        }

-- the first moment
begins : (x : Context) (source : Term) → IsSource source → IsWell (start source) → IsOrderly x (start source)
begins x source is_source well = record {
  well = well;
  holds = source_holds source is_source;
  calls = λ k i. elim i [ ];
  cells = λ c i. elim i [ ];
  in_time = λ c a delay i. elim i [ ];
  fits = omega arith;
  free = refl;
}

pub path_is_journal : PathIsJournal
path_is_journal l sites cancelled vs t fits p =
    let x : Context = record { definitions = definitions l; sites = sites; cancels = cancelled } in
    let ready = program_is_ready l sites cancelled in
    let sources = program_is_source l in
    let is_source : IsSource (source l) = sources.0 l.root in
    let r = path_is_run x (small_definitions l) (start (source l)) vs t ready.0 (begins x (source l) is_source ready.1) p (omega (arith, fits)) in
    journal_of x (source l) vs t sources.1 is_source r

-- how a path ends
end_is : (over still : Bool) (least : Option ℕ) → cond over (Some halted) (quiet_if still least) ≡ Some halted → over ≡ true
end_is true still least e = refl
end_is false false None e = let no : Some quiet ≡ Some halted = e in cc no
end_is false false (Some n) e = cc e
end_is false true least e = cc e

pub ending_is_halted : EndingIsHalted
ending_is_halted x smalls s e =
    let small : Small = small_of x s in
    test_halted s.term (sym (over_same (out_of x.sites s.now s.calls) [] s.term) ∙ end_is (is_over small) (moves_now smalls small) (least_left small) e)

record Still (over moves : Bool) (least : Option ℕ) : Type 0 where
  running : over ≡ false
  still : moves ≡ false
  none : least ≡ None

still_at : (over moves : Bool) (least : Option ℕ) → cond over (Some halted) (quiet_if moves least) ≡ Some quiet → Still over moves least
still_at true moves least e = let no : Some halted ≡ Some quiet = e in cc no
still_at false false None e = record { running = refl; still = refl; none = refl }
still_at false false (Some n) e = cc e
still_at false true least e = cc e

pub ending_is_quiet : EndingIsQuiet
ending_is_quiet x smalls s of w e = record {
  running = λ h.
      let no : true ≡ false = sym (over_same out [] s.term ∙ halted_test s.term h) ∙ at.running in
      cc no;
  idle = (idle_by x s).1 (sym (moves_same x.definitions smalls of.there out [] s.term w.1) ∙ at.still, λ t due. absurd (never t due));
  no_tick = λ t tick. never t tick.reached;
}
  where
    out : ℕ → Out
    out = out_of x.sites s.now s.calls

    at : Still (is_over (small_of x s)) (moves_now smalls (small_of x s)) (least_left (small_of x s))
    at = still_at (is_over (small_of x s)) (moves_now smalls (small_of x s)) (least_left (small_of x s)) e

    never : (t : ℕ) → PendsDue x s t → ⊥
    never t due =
        let d = due.3 in
        let c = d.by in
        let rest : Out.rest (out due.0) ≡ After due.1 (c.at + d.delay - s.now)
        = ap (λ (j : ℕ). Out.rest (out j)) (sym d.is_k) ∙ ap Out.rest (finds x.sites s.now s.calls c w.2 d.is_made) ∙ ap (left s.now c.at) d.says in
        let m = at_most (small_of x s) (out due.0) due.1 (c.at + d.delay - s.now) (is_out out [] s.term due.0 due.2) rest in
        let no : None ≡ Some m.time = sym at.none ∙ m.is in
        cc no
