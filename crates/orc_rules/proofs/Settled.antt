-- After a cell is bound or lost, a run never comes back to it.
use Rattle.std.proofs.Common.{◌≡◌, ◌≢◌, ◌<◌, ◌≤◌, ◌+◌, ℕ, zero, suc, List, [], ◌∷◌, ◌++◌, ◌∙◌, refl, sym, ap, subst, inl, inr, ◌⊎◌, ⊎_elim, arith}
use Rattle.orc_rules.specs.Term.{Term}
use Rattle.orc_rules.specs.Step.{Act, calls, returns, binds, loses, publishes, silent, opens}
use Rattle.orc_rules.specs.Timed.{Context, Moment, IsIn, Event, does, ticks, cancels, Does, Happens, Run, start, used, cells_after}
use Rattle.std.specs.Option.{option_to_list}
use Rattle.orc_rules.specs.declared.entry.Entry.{Entry}
use Rattle.orc_rules.specs.declared.entry.Entry.TheVariants.{End, Fork, Seq, Other, Def, Open, Send, Call, Return, ReturnHalt, Bind, Lost, Right, Publish, Tick, Cancel}
use Rattle.orc_rules.specs.declared.entry.Entry.TheVariants as entry
use Rattle.orc_rules.specs.Journal.{moment, event_of, AreEventsOf}
use Rattle.orc_rules.specs.Lost.{IsSource, AreSource}
use Rattle.orc_rules.specs.Numbered.{cell, once}
use Rattle.orc_rules.specs.Trace.{IsOutside, LeavesAlone, AreInside, RunsAreInside, publications, published, JournalIsExplained}
use Rattle.orc_rules.proofs.Numbered.{index, name_is, once_same, once_other, once_least}
use Rattle.orc_rules.proofs.Explained.{journal_is_timed_run}
use Rattle.orc_rules.proofs.Inside.{IsRunning, open_times, source_runs, source_opens, gains, sheds, IsWithin, step_runs, step_opens, step_within, step_new}

-- a moment of a run: each cell is open at most once, and those that are were opened
record IsHeld (s : Moment) : Type 0 where
  runs : IsRunning s.term
  single : (c : ℕ) → open_times c s.term ≤ 1
  opened : (c : ℕ) → 0 < open_times c s.term → IsIn c s.cells

kept_cells : (s : Moment) (a : Act) (c : ℕ) → IsIn c s.cells → IsIn c (cells_after s a)
kept_cells s (opens d) c h = inr h
kept_cells s (calls k m args cs) c h = h
kept_cells s (returns k v) c h = h
kept_cells s (binds d v) c h = h
kept_cells s (loses d) c h = h
kept_cells s (publishes v) c h = h
kept_cells s silent c h = h

gained_cell : (s : Moment) (a : Act) (c : ℕ) → 0 < gains c a → IsIn c (cells_after s a)
gained_cell s (opens d) c lt = ⊎_elim (λ y. inl (ap index y.0)) (λ y. absurd (omega (arith, lt, once_other (cell c) (cell d) y.0))) (name_is (cell c) (cell d))
gained_cell s (calls k m args cs) c lt = absurd (omega (arith, lt))
gained_cell s (returns k v) c lt = absurd (omega (arith, lt))
gained_cell s (binds d v) c lt = absurd (omega (arith, lt))
gained_cell s (loses d) c lt = absurd (omega (arith, lt))
gained_cell s (publishes v) c lt = absurd (omega (arith, lt))
gained_cell s silent c lt = absurd (omega (arith, lt))

gains_least : (c : ℕ) (a : Act) → gains c a ≤ 1
gains_least c (opens d) = once_least (cell c) (cell d)
gains_least c (calls k m args cs) = omega arith
gains_least c (returns k v) = omega arith
gains_least c (binds d v) = omega arith
gains_least c (loses d) = omega arith
gains_least c (publishes v) = omega arith
gains_least c silent = omega arith

zero_or : (m : ℕ) → (m ≡ 0) ⊎ (0 < m)
zero_or zero = inl refl
zero_or (suc m) = inr (omega arith)

module _ (x : Context) (ds : AreSource x.definitions) where
  -- a cell that was opened stands no more often after a step
  no_more : (s s' : Moment) (a : Act) → IsHeld s → Does x s a s' → (c : ℕ) → IsIn c s.cells → open_times c s'.term + sheds c a ≤ open_times c s.term
  no_more s s' a held d c i =
      ⊎_elim (λ y. omega (arith, y, step_opens x.definitions (used s) ds c d.step held.runs)) (λ y. absurd (step_new x.definitions (used s) ds c d.step y i)) (zero_or (gains c a))

  held_after : (s s' : Moment) (a : Act) → IsHeld s → Does x s a s' → IsHeld s'
  held_after s s' a held d = record {
    runs = step_runs x.definitions (used s) ds d.step held.runs;
    single = λ c. ⊎_elim (λ y. omega (arith, y, gains_least c a, count c)) (λ y. omega (arith, no_more s s' a held d c (held.opened c y), held.single c)) (zero_or (open_times c s.term));
    opened = λ c lt. subst (IsIn c) (sym d.cells)
        (⊎_elim (λ y. gained_cell s a c (omega (arith, y, lt, count c))) (λ y. kept_cells s a c (held.opened c y)) (zero_or (open_times c s.term)));
  }
    where
      count : (c : ℕ) → open_times c s'.term + sheds c a ≤ open_times c s.term + gains c a
      count c = step_opens x.definitions (used s) ds c d.step held.runs

  -- what an event leaves
  held_next : (s s' : Moment) (e : Event) → IsHeld s → Happens x s e s' → IsHeld s'
  held_next s s' (does a) held h = held_after s s' a held h
  held_next s s' (ticks t) held h = subst IsHeld (sym h.2) (record { runs = held.runs; single = held.single; opened = held.opened })
  held_next s s' (cancels k) held h = subst IsHeld (sym h.1) (record { runs = held.runs; single = held.single; opened = held.opened })

  -- a cell that was opened and is open no more
  record IsGone (c : ℕ) (s : Moment) : Type 0 where
    closed : open_times c s.term ≡ 0
    was : IsIn c s.cells

  gone_next : (c : ℕ) (s s' : Moment) (e : Event) → IsHeld s → IsGone c s → Happens x s e s' → IsGone c s'
  gone_next c s s' (does a) held g h = record {
    closed = omega (arith, g.closed, no_more s s' a held h c g.was);
    was = subst (IsIn c) (sym (Does.cells h)) (kept_cells s a c g.was);
  }
  gone_next c s s' (ticks t) held g h = subst (IsGone c) (sym h.2) (record { closed = g.closed; was = g.was })
  gone_next c s s' (cancels k) held g h = subst (IsGone c) (sym h.1) (record { closed = g.closed; was = g.was })

  -- no later act is one of its
  abbrev Leaves : ℕ → Event → Type 0
  Leaves c (does a) = (IsWithin c a → ⊥) × (sheds c a ≡ 0)
  Leaves c _ = Unit {0}

  leaves_gone : (c : ℕ) (s s' : Moment) (e : Event) → IsHeld s → IsGone c s → Happens x s e s' → Leaves c e
  leaves_gone c s s' (does a) held g h =
      (λ i. omega (arith, g.closed, step_within x.definitions (used s) ds c (Does.step h) i), omega (arith, g.closed, no_more s s' a held h c g.was))
  leaves_gone c s s' (ticks t) held g h = tt
  leaves_gone c s s' (cancels k) held g h = tt

  differs : (c d : ℕ) → once (cell c) (cell d) ≡ 0 → c ≢ d
  differs c d h e = omega (arith, h, once_same (cell c) (cell d) (ap cell e))

  outside_more : (c : ℕ) (e : Event) (es : List Event) → Leaves c e → IsOutside c es → IsOutside c (e ∷ es)
  outside_more c (does (calls k m args cs)) es l o = (l.0, o)
  outside_more c (does (returns k v)) es l o = o
  outside_more c (does (binds d v)) es l o = o
  outside_more c (does (loses d)) es l o = o
  outside_more c (does (publishes v)) es l o = o
  outside_more c (does silent) es l o = o
  outside_more c (does (opens d)) es l o = o
  outside_more c (ticks t) es l o = o
  outside_more c (cancels k) es l o = o

  settled_more : (c : ℕ) (e : Event) (es : List Event) → Leaves c e → LeavesAlone c es → LeavesAlone c (e ∷ es)
  settled_more c (does (calls k m args cs)) es l o = o
  settled_more c (does (returns k v)) es l o = o
  settled_more c (does (binds d v)) es l o = (differs c d l.1, o)
  settled_more c (does (loses d)) es l o = (differs c d l.1, o)
  settled_more c (does (publishes v)) es l o = o
  settled_more c (does silent) es l o = o
  settled_more c (does (opens d)) es l o = o
  settled_more c (ticks t) es l o = o
  settled_more c (cancels k) es l o = o

  stays_gone : (c : ℕ) (s s' : Moment) (es : List Event) → IsHeld s → IsGone c s → Run x s es s' → IsOutside c es × LeavesAlone c es
  stays_gone c s s' [] held g r = (tt, tt)
  stays_gone c s s' (e ∷ es) held g (mid, h, r) =
      let l = leaves_gone c s mid e held g h in
      let rest = stays_gone c mid s' es (held_next s mid e held h) (gone_next c s mid e held g h) r in
      (outside_more c e es l rest.0, settled_more c e es l rest.1)

  -- an act that settles a cell leaves it gone
  settles : (c : ℕ) (s s' : Moment) (a : Act) → IsHeld s → 0 < sheds c a → Does x s a s' → IsGone c s'
  settles c s s' a held lt d =
      let was : IsIn c s.cells = held.opened c (omega (arith, lt, none_gained c a lt, step_opens x.definitions (used s) ds c d.step held.runs)) in
      record { closed = omega (arith, lt, no_more s s' a held d c was, held.single c); was = subst (IsIn c) (sym d.cells) (kept_cells s a c was) }
    where
      none_gained : (c : ℕ) (a : Act) → 0 < sheds c a → gains c a ≡ 0
      none_gained c (binds e v) lt = refl
      none_gained c (loses e) lt = refl
      none_gained c (opens e) lt = absurd (omega (arith, lt))
      none_gained c (calls k m args cs) lt = refl
      none_gained c (returns k v) lt = refl
      none_gained c (publishes v) lt = refl
      none_gained c silent lt = refl

  inside_more : (e : Event) (es : List Event) (s mid s' : Moment) → IsHeld s → Happens x s e mid → Run x mid es s' → AreInside es → AreInside (e ∷ es)
  inside_more (does (binds c v)) es s mid s' held h r i =
      let g = stays_gone c mid s' es (held_next s mid (does (binds c v)) held h) (settles c s mid (binds c v) held (omega (arith, once_same (cell c) (cell c) refl)) h) r in
      (g.0, g.1, i)
  inside_more (does (loses c)) es s mid s' held h r i =
      let g = stays_gone c mid s' es (held_next s mid (does (loses c)) held h) (settles c s mid (loses c) held (omega (arith, once_same (cell c) (cell c) refl)) h) r in
      (g.0, g.1, i)
  inside_more (does (calls k m args cs)) es s mid s' held h r i = i
  inside_more (does (returns k v)) es s mid s' held h r i = i
  inside_more (does (publishes v)) es s mid s' held h r i = i
  inside_more (does silent) es s mid s' held h r i = i
  inside_more (does (opens d)) es s mid s' held h r i = i
  inside_more (ticks t) es s mid s' held h r i = i
  inside_more (cancels k) es s mid s' held h r i = i

  run_inside : (s s' : Moment) (es : List Event) → IsHeld s → Run x s es s' → AreInside es
  run_inside s s' [] held r = tt
  run_inside s s' (e ∷ es) held (mid, h, r) = inside_more e es s mid s' held h r (run_inside mid s' es (held_next s mid e held h) r)

start_held : (t : Term) → IsSource t → IsHeld (start t)
start_held t s = record { runs = source_runs t s; single = λ c. omega (arith, source_opens c t s); opened = λ c lt. absurd (omega (arith, lt, source_opens c t s)) }

pub runs_are_inside : RunsAreInside
runs_are_inside x t es s ds src r = run_inside x ds (start t) s es (start_held t src) r

-- the entries publish what their events do
published_events : (es : List Entry) (events : List Event) → AreEventsOf es events → published es ≡ publications events
published_events [] events h = sym (ap publications h)
published_events (e ∷ es) events (cs, rest, h, more) = shown e (published_events es rest more) ∙ sym (ap publications h)
  where
    shown : (e : Entry) → published es ≡ publications rest → published (e ∷ es) ≡ publications (option_to_list (event_of e cs) ++ rest)
    shown (End s) h = h
    shown (Fork s a b) h = h
    shown (Seq s a) h = h
    shown (Other s a) h = h
    shown (Def s a) h = h
    shown (entry.Void s) h = h
    shown (Open s c a b) h = h
    shown (Send s a v) h = h
    shown (Call s k m args) h = h
    shown (Return k a v) h = h
    shown (ReturnHalt k) h = h
    shown (Bind s c v) h = h
    shown (Lost c) h = h
    shown (Right s a) h = h
    shown (Publish s v) h = ap (λ l. v ∷ l) h
    shown (Tick u) h = h
    shown (Cancel k) h = h

pub journal_is_explained : JournalIsExplained
journal_is_explained x t es q ds src h =
    let run = journal_is_timed_run x t es q h in
    record { events = run.0; named = run.1; run = run.2; shown = published_events es run.0 run.1; inside = runs_are_inside x t run.0 (moment q) ds src run.2 }
