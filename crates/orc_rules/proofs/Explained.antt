-- A journal is a timed run.
use Rattle.std.proofs.Common.{◌≡◌, ℕ, ◌<◌, List, [], ◌∷◌, ◌++◌, length, Option, Some, None, refl, sym, ap, ◌∙◌, subst, inl, inr, ◌⊎◌, ⊎_elim, map, arith}
use Rattle.std.specs.Option.{option_to_list}
use Rattle.orc_rules.specs.declared.param.Param.TheVariants.{Void}
use Rattle.orc_rules.specs.declared.value.Answer.TheVariants.{Value as Gives, Halt}
use Rattle.orc_rules.specs.declared.entry.Entry.{Entry}
use Rattle.orc_rules.specs.declared.entry.Entry.TheVariants.{End, Fork, Seq, Other, Def, Open, Send, Call, Return, ReturnHalt, Bind, Lost, Right, Publish, Tick, Cancel}
use Rattle.orc_rules.specs.declared.entry.Entry.TheVariants as entry
use Rattle.orc_rules.specs.Term.{Term, stop, param, site, call, par, seq, prune, other, pending, opened, Halted}
use Rattle.orc_rules.specs.Step.{Act, calls, returns, binds, loses, publishes, silent, opens, IsInner, IsNew, Rule, ValueRule, VoidValue, SiteCall, VoidCall, ReturnRule, DefRule, SeqValue, PruneOpen, PruneBind, PruneLost, OtherHalt, StepBy, void_value, site_call, void_call, return_rule, def_rule, prune_open, prune_lost, other_halt}
use Rattle.orc_rules.specs.Marked.{Marked, erase, fill_marked, Replaces}
use Rattle.orc_rules.specs.Timed.{Context, Moment, IsTimely, Event, does, ticks, cancels, Run, used, number_of}
use Rattle.orc_rules.specs.Journal.{Place, moment, next, Moves, Acts, IsVoid, Enters, IsCancel, Journal, event_of, begin, IsTimedRun, JournalIsTimedRun, IsRuleOf, Shows, EntryIsItsStep}
use Rattle.std.proofs.lemmas.List.{length-map}
use Rattle.orc_rules.specs.Numbered.{AreCounted, IsNumbered}
use Rattle.orc_rules.proofs.Numbered.{entered_numbered, begin_numbered, journal_is_numbered}
use Rattle.orc_rules.proofs.Lift.{within_all, within_silent, within_opens, within_loses, within_returns, within_calls, erase-fill, replaced_named, replaced_same, emits_named}

none_or : {A : Type 0} → ⊥ ⊎ A → A
none_or o = ⊎_elim (λ h. absurd h) (λ a. a) o

-- the next number is new
counted_below : (n : ℕ) (us : List ℕ) → length us < n → AreCounted us → IsNew n us
counted_below n [] lt c = tt
counted_below n (u ∷ us) lt c = (λ e. omega (arith, lt, c.0, e), counted_below n us (omega (arith, lt)) c.1)

new_call : (p : Place) (k : ℕ) → IsNumbered p → k ≡ next p.calls → IsNew k (map number_of p.calls)
new_call p k n e = counted_below k (map number_of p.calls) (omega (arith, e, length-map p.calls number_of)) n.calls

new_cell : (p : Place) (c : ℕ) → IsNumbered p → c ≡ next p.cells → IsNew c p.cells
new_cell p c n e = counted_below c p.cells (omega (arith, e)) n.cells

module _ (x : Context) where
  -- what one entry shows: its event, or that nothing changed
  record Explained (p : Place) (e : Entry) (q : Place) : Type 0 where
    inside : List ℕ
    shows : Shows x (moment p) e (event_of e inside) (moment q)

  run_of : (s s' : Moment) (e : Entry) (o : Option Event) → Shows x s e o s' → Run x s (option_to_list o) s'
  run_of s s' e None h = h
  run_of s s' e (Some (does a)) h = (s', h.0, refl)
  run_of s s' e (Some (ticks t)) h = (s', h, refl)
  run_of s s' e (Some (cancels k)) h = (s', h, refl)

  moved : (p q : Place) (y z : Marked) (new : ℕ) → erase y ≡ erase z → Moves p y z new q → moment p ≡ moment q
  moved p q y z new e m =
      let t : erase p.marked ≡ erase q.marked = replaced_same x.definitions (used (moment p)) e m.part in
      (λ i. record (moment p) { term = t i }) ∙ ap moment (sym m.same)

  acted : (p q : Place) (a : Act) (new : ℕ) → p.to_cancel ≡ [] → IsTimely x.sites (moment p) a → (e : Entry) (n : Rule) → IsRuleOf e n → StepBy x.definitions (used (moment p)) n (erase p.marked) a (erase q.marked) → Acts x p a new q → Shows x (moment p) e (Some (does a)) (moment q)
  acted p q a new free timely e n is s acts = (
    record {
      step = s.0;
      timely = timely;
      now = ap (λ (r : Place). r.now) acts.same;
      calls = ap (λ (r : Place). r.calls) acts.same;
      cells = ap (λ (r : Place). r.cells) acts.same;
      free = free;
      to_cancel = acts.to_cancel;
    },
    subst (IsRuleOf e) (sym s.1) is,
  )

  -- a step of one part, as a step of the whole that shows the act b
  whole : (p q : Place) (y z : Marked) (cs : List ℕ) (a b : Act) (n : Rule) → within_all cs a ≡ b → IsInner a → StepBy x.definitions (used (moment p)) n (erase y) a (erase z) → Replaces y z p.marked cs q.marked → StepBy x.definitions (used (moment p)) n (erase p.marked) b (erase q.marked)
  whole p q y z cs a b n e i s r =
      subst (λ w. StepBy x.definitions (used (moment p)) n (erase p.marked) w (erase q.marked)) e (replaced_named x.definitions (used (moment p)) n i s r)

  lost_step : (p : Place) (f g : Marked) (c : ℕ) → Halted (erase g) → StepBy x.definitions (used (moment p)) PruneLost (opened (erase f) c (erase g)) (loses c) (erase (fill_marked Void c f))
  lost_step p f g c h =
      subst (λ t. StepBy x.definitions (used (moment p)) PruneLost (opened (erase f) c (erase g)) (loses c) t) (sym (erase-fill Void c f)) (prune_lost h, refl)

  void_steps : (p : Place) (t : Term) → IsVoid t → (n : Rule) × ((n ≡ VoidValue) ⊎ (n ≡ VoidCall)) × StepBy x.definitions (used (moment p)) n t silent stop
  void_steps p (param v) h = (VoidValue, inl refl, subst (λ w. StepBy x.definitions (used (moment p)) VoidValue (param w) silent stop) (sym h) (void_value, refl))
  void_steps p (site m ps) h = (VoidCall, inr refl, (void_call h, refl))
  void_steps p (call e ps) h = elim h [ ]
  void_steps p stop h = elim h [ ]
  void_steps p (par f g) h = elim h [ ]
  void_steps p (seq f z g) h = elim h [ ]
  void_steps p (prune f z g) h = elim h [ ]
  void_steps p (other f g) h = elim h [ ]
  void_steps p (pending k) h = elim h [ ]
  void_steps p (opened f c g) h = elim h [ ]

  entered_shows : (p : Place) (e : Entry) (q : Place) → IsCancel e ⊎ (p.to_cancel ≡ []) → IsNumbered p → Enters x p e q → Explained p e q
  entered_shows p (End s) q o n h =
      record { inside = []; shows = moved p q _ _ _ refl h }
  entered_shows p (Fork s a b) q o n (f, g, ea, eb, h) =
      record { inside = []; shows = moved p q _ _ _ refl h }
  entered_shows p (Seq s a) q o n (f, g, z, ea, h) =
      record { inside = []; shows = moved p q _ _ _ refl h }
  entered_shows p (Other s a) q o n (f, g, ea, h) =
      record { inside = []; shows = moved p q _ _ _ refl h }
  entered_shows p (Def s a) q o n (e, ps, d, cs, ea, is, r, h) = record {
    inside = [];
    shows = acted p q silent _ (none_or o) tt (Def s a) DefRule refl (whole p q _ _ cs silent silent DefRule (within_silent cs) tt ((def_rule is), refl) r) h;
  }
  entered_shows p (entry.Void s) q o n (t, cs, is, r, h) = record {
    inside = [];
    shows = (let v = void_steps p t is in acted p q silent _ (none_or o) tt (entry.Void s) v.0 v.1 (whole p q _ _ cs silent silent v.0 (within_silent cs) tt v.2 r) h);
  }
  entered_shows p (Open s c a b) q o n (f, g, z, cs, ec, ea, eb, r, h) = record {
    inside = [];
    shows = acted p q (opens c) _ (none_or o) tt (Open s c a b) PruneOpen refl (whole p q _ _ cs (opens c) (opens c) PruneOpen (within_opens cs c) tt ((prune_open (new_cell p c n ec)), refl) r) h;
  }
  entered_shows p (Send s a v) q o n (ea, e, h) = record {
    inside = [];
    shows = acted p q silent _ (none_or o) tt (Send s a v) SeqValue refl (emits_named x.definitions (used (moment p)) e) h;
  }
  entered_shows p (Call s k m args) q o n (ps, cs, ek, is, r, h) = record {
    inside = cs;
    shows = acted p q (calls k m args cs) _ (none_or o) tt (Call s k m args) SiteCall refl (whole p q _ _ cs (calls k m args []) (calls k m args cs) SiteCall (within_calls cs k m args) tt ((site_call is (new_call p k n ek)), refl) r) h;
  }
  entered_shows p (Return k a v) q o n (cs, ea, due, r, h) = record {
    inside = [];
    shows = acted p q (returns k (Gives v)) _ (none_or o) due (Return k a v) ReturnRule refl (whole p q _ _ cs (returns k (Gives v)) (returns k (Gives v)) ReturnRule (within_returns cs k (Gives v)) tt (return_rule, refl) r) h;
  }
  entered_shows p (ReturnHalt k) q o n (cs, due, r, h) = record {
    inside = [];
    shows = acted p q (returns k Halt) _ (none_or o) due (ReturnHalt k) ReturnRule refl (whole p q _ _ cs (returns k Halt) (returns k Halt) ReturnRule (within_returns cs k Halt) tt (return_rule, refl) r) h;
  }
  entered_shows p (Bind s c v) q o n (e, h) = record {
    inside = [];
    shows = acted p q (binds c v) _ (none_or o) tt (Bind s c v) PruneBind refl (emits_named x.definitions (used (moment p)) e) h;
  }
  entered_shows p (Lost c) q o n (f, g, cs, halted, r, h) = record {
    inside = [];
    shows = acted p q (loses c) _ (none_or o) tt (Lost c) PruneLost refl (whole p q _ _ cs (loses c) (loses c) PruneLost (within_loses cs c) tt (lost_step p f g c halted) r) h;
  }
  entered_shows p (Right s a) q o n (f, g, cs, ea, halted, r, h) = record {
    inside = [];
    shows = acted p q silent _ (none_or o) tt (Right s a) OtherHalt refl (whole p q _ _ cs silent silent OtherHalt (within_silent cs) tt ((other_halt halted), refl) r) h;
  }
  entered_shows p (Publish s v) q o n (e, h) = record {
    inside = [];
    shows = acted p q (publishes v) _ (none_or o) tt (Publish s v) ValueRule refl (emits_named x.definitions (used (moment p)) e) h;
  }
  entered_shows p (Tick t) q o n (tick, same) = record {
    inside = [];
    shows = (none_or o, tick, ap moment same);
  }
  entered_shows p (Cancel k) q o n (due, same) = record {
    inside = [];
    shows = (due, ap moment same);
  }

  run_append : (s mid t : Moment) (es fs : List Event) → Run x s es mid → Run x mid fs t → Run x s (es ++ fs) t
  run_append s mid t [] fs r r' = subst (λ w. Run x w fs t) (sym r) r'
  run_append s mid t (e ∷ es) fs (w, h, r) r' = (w, h, run_append w mid t es fs r r')

  journal_run : (p q : Place) (es : List Entry) → IsNumbered p → Journal x p es q → IsTimedRun x p es q
  journal_run p q [] n h = ([], refl, ap moment h)
  journal_run p q (e ∷ es) n (mid, lead, h) =
      let here = entered_shows p e mid lead.0 n lead.1 in
      let rest = journal_run mid q es (entered_numbered x p e mid lead.1 n) h in
      (option_to_list (event_of e here.inside) ++ rest.0, (here.inside, rest.0, refl, rest.1), run_append (moment p) (moment mid) (moment q) _ rest.0 (run_of (moment p) (moment mid) e (event_of e here.inside) here.shows) rest.2)

-- from a program's term on, each entry is its step
pub entry_is_its_step : EntryIsItsStep
entry_is_its_step x t es p e q h lead =
    let s = entered_shows x p e q lead.0 (journal_is_numbered x t es p h) lead.1 in
    (s.inside, s.shows)

-- from a program's term on, each journal is a timed run
pub journal_is_timed_run : JournalIsTimedRun
journal_is_timed_run x t es q h = journal_run x (begin t) q es (begin_numbered t) h
