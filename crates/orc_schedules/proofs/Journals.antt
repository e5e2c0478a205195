-- What of a journal is named is what is seen on the path of its run.
use Rattle.std.proofs.Common.{◌≡◌, ◌≤◌, ◌<◌, ◌+◌, ◌-◌, ℕ, zero, suc, min, List, [], ◌∷◌, ◌++◌, length, map, Bool, true, false, Option, Some, None, refl, sym, ap, ◌∙◌, subst, inl, inr, arith, length-append}
use Rattle.std.specs.Prelude.{slice_get, nat_eq, ◌&&◌, ◌||◌}
use Rattle.std.specs.Option.{option_to_list}
use Rattle.std.proofs.lemmas.List.{append-nil, append_assoc}
use Rattle.orc_rules.specs.declared.value.Value.{Value}
use Rattle.orc_rules.specs.declared.value.Answer.{Answer}
use Rattle.orc_rules.specs.declared.value.Answer.TheVariants.{Value as Gives, Halt}
use Rattle.orc_rules.specs.declared.entry.Entry.{Entry}
use Rattle.orc_rules.specs.declared.entry.Entry.TheVariants.{End, Fork, Seq, Other, Def, Open, Send, Call, Return, ReturnHalt, Bind, Lost, Right, Publish, Tick, Cancel}
use Rattle.orc_rules.specs.declared.entry.Entry.TheVariants as entry
use Rattle.orc_rules.specs.Term.{Term}
use Rattle.orc_rules.specs.Step.{calls, returns, binds, loses, publishes, silent, opens, IsNew}
use Rattle.orc_rules.specs.Timed.{Context, CallMade, Moment, Event, does, ticks, cancels, Does, IsIn, IsDue, IsTick, Run, number_of, start}
use Rattle.orc_rules.specs.Journal.{Place, next, Leads, Enters, Journal, Moves, Acts, event_of, AreEventsOf}
use Rattle.orc_rules.specs.Runs.{CountedRun}
use Rattle.orc_rules.specs.Trace.{published}
use Rattle.orc_claims.specs.Claims.{published as all_published, published_by}
use Rattle.orc_claims.specs.Happenings.{Told, begin, made_as, told, told_all}
use Rattle.orc_claims.specs.Happenings as claims
use Rattle.orc_claims.specs.declared.claim.Simple.{Simple}
use Rattle.orc_claims.specs.declared.claim.Simple.TheVariants as simple
use Rattle.orc_claims.specs.declared.claim.Wanted.{Wanted}
use Rattle.orc_claims.specs.declared.claim.Wanted.TheVariants as wanted
use Rattle.orc_claims.specs.declared.happening.Happening.{Happening}
use Rattle.orc_claims.specs.declared.happening.Occurrence.{Occurrence}
use Rattle.orc_claims.specs.declared.happening.Occurrence.TheVariants as what
use Rattle.orc_claims.specs.declared.happening.Phase.{Phase}
use Rattle.orc_claims.specs.declared.happening.Phase.TheVariants as phase
use Rattle.orc_claims.specs.declared.happenings.Made.{Made}
use Rattle.orc_tally.specs.Sight.{number_from, renumbered}
use Rattle.orc_tally.specs.declared.sight.ClaimSite.{ClaimSite}
use Rattle.orc_search.specs.Small.{Out}
use Rattle.orc_search.specs.Moves.{answered, unseen}
use Rattle.orc_search.specs.Moments.{known, out_of, AreApart}
use Rattle.orc_search.specs.Seen.{happening}
use Rattle.orc_search.specs.States.{happens, sights}
use Rattle.orc_search.proofs.Moments.{finds, fresh_call}
use Rattle.orc_schedules.specs.Seen.{Kept, Past, becomes, kept, nothing_yet, past_of, phase_of, seen_after, seen_now, seen_of, seen_on, values_of}
use Rattle.orc_schedules.specs.Watch.{HappenedBy, add_happening, add_named, all_at, is_named, is_same_phase, named, named_until, names_it, publications, told_until}
use Rattle.orc_schedules.proofs.Growing.{grows_get}

-- ---- calls are numbered in their order

abbrev pub AreCounted : ℕ → List Event → Type 0
AreCounted n [] = Unit {0}
AreCounted n (does (calls k m args cs) ∷ es) = (k ≡ n) × AreCounted (suc n) es
AreCounted n (e ∷ es) = AreCounted n es

counted_from : (made made' : List CallMade) (es : List Event) → made ≡ made' → AreCounted (next made) es → AreCounted (next made') es
counted_from made made' es same = subst (λ (cs : List CallMade). AreCounted (next cs) es) same

module _ (x : Context) where
  pub run_counted : (s : Moment) (es : List Event) (s' : Moment) → CountedRun x s es s' → AreCounted (next s.calls) es
  run_counted s [] s' r = tt
  run_counted s (does (calls k m args cs) ∷ es) s' r = (r.2, counted_from (Moment.calls r.0) _ es (Does.calls r.1) (run_counted r.0 es s' r.3))
  run_counted s (does (returns k a) ∷ es) s' r = counted_from (Moment.calls r.0) s.calls es (Does.calls r.1) (run_counted r.0 es s' r.3)
  run_counted s (does (binds c v) ∷ es) s' r = counted_from (Moment.calls r.0) s.calls es (Does.calls r.1) (run_counted r.0 es s' r.3)
  run_counted s (does (loses c) ∷ es) s' r = counted_from (Moment.calls r.0) s.calls es (Does.calls r.1) (run_counted r.0 es s' r.3)
  run_counted s (does (publishes v) ∷ es) s' r = counted_from (Moment.calls r.0) s.calls es (Does.calls r.1) (run_counted r.0 es s' r.3)
  run_counted s (does silent ∷ es) s' r = counted_from (Moment.calls r.0) s.calls es (Does.calls r.1) (run_counted r.0 es s' r.3)
  run_counted s (does (opens c) ∷ es) s' r = counted_from (Moment.calls r.0) s.calls es (Does.calls r.1) (run_counted r.0 es s' r.3)
  run_counted s (ticks t ∷ es) s' r = let h = r.1 in counted_from (Moment.calls r.0) s.calls es (ap Moment.calls h.2) (run_counted r.0 es s' r.3)
  run_counted s (cancels k ∷ es) s' r = let h = r.1 in counted_from (Moment.calls r.0) s.calls es (ap Moment.calls h.1) (run_counted r.0 es s' r.3)

  one_counted : (p q : Place) (e : Entry) (cs : List ℕ) (rest : List Event) → Enters x p e q → AreCounted (next q.calls) rest → AreCounted (next p.calls) (option_to_list (event_of e cs) ++ rest)
  one_counted p q (End s) cs rest h c = counted_from q.calls p.calls rest (ap Place.calls (Moves.same h)) c
  one_counted p q (Fork s a b) cs rest h c = counted_from q.calls p.calls rest (ap Place.calls (Moves.same h.4)) c
  one_counted p q (Seq s a) cs rest h c = counted_from q.calls p.calls rest (ap Place.calls (Moves.same h.4)) c
  one_counted p q (Other s a) cs rest h c = counted_from q.calls p.calls rest (ap Place.calls (Moves.same h.3)) c
  one_counted p q (Def s a) cs rest h c = counted_from q.calls p.calls rest (ap Place.calls (Acts.same h.7)) c
  one_counted p q (entry.Void s) cs rest h c = counted_from q.calls p.calls rest (ap Place.calls (Acts.same h.4)) c
  one_counted p q (Open s d a b) cs rest h c = counted_from q.calls p.calls rest (ap Place.calls (Acts.same h.8)) c
  one_counted p q (Send s a v) cs rest h c = counted_from q.calls p.calls rest (ap Place.calls (Acts.same h.2)) c
  one_counted p q (Call s k m args) cs rest h c = (h.2, counted_from q.calls _ rest (ap Place.calls (Acts.same h.5)) c)
  one_counted p q (Return k a v) cs rest h c = counted_from q.calls p.calls rest (ap Place.calls (Acts.same h.4)) c
  one_counted p q (ReturnHalt k) cs rest h c = counted_from q.calls p.calls rest (ap Place.calls (Acts.same h.3)) c
  one_counted p q (Bind s d v) cs rest h c = counted_from q.calls p.calls rest (ap Place.calls (Acts.same h.1)) c
  one_counted p q (Lost d) cs rest h c = counted_from q.calls p.calls rest (ap Place.calls (Acts.same h.5)) c
  one_counted p q (Right s a) cs rest h c = counted_from q.calls p.calls rest (ap Place.calls (Acts.same h.6)) c
  one_counted p q (Publish s v) cs rest h c = counted_from q.calls p.calls rest (ap Place.calls (Acts.same h.1)) c
  one_counted p q (Tick t) cs rest h c = counted_from q.calls p.calls rest (ap Place.calls h.1) c
  one_counted p q (Cancel k) cs rest h c = counted_from q.calls p.calls rest (ap Place.calls h.1) c

  pub journal_counted : (p : Place) (es : List Entry) (events : List Event) (q : Place) → Journal x p es q → AreEventsOf es events → AreCounted (next p.calls) events
  journal_counted p [] events q j h = subst (AreCounted (next p.calls)) (sym h) tt
  journal_counted p (e ∷ es) events q j (cs, rest, h, more) =
      let leads : Leads x p e j.0 = j.1 in
      subst (AreCounted (next p.calls)) (sym h) (one_counted p j.0 e cs rest leads.1 (journal_counted j.0 es rest q j.2 more))

-- ---- what is named

and_false : (a b : Bool) → b ≡ false → (a && b) ≡ false
and_false true b h = h
and_false false b h = refl

same_cancel : (w : Wanted) → is_same_phase w phase.Cancelled ≡ false
same_cancel wanted.Called = refl
same_cancel (wanted.Answered s) = refl
same_cancel wanted.Halted = refl
same_cancel wanted.Cancelled = refl

or_false : (a b : Bool) → a ≡ false → b ≡ false → (a || b) ≡ false
or_false true b p q = p
or_false false b p q = q

no_cancel : (ss : List Simple) (m : ℕ) (args : List Value) → is_named ss (what.Call m args phase.Cancelled) ≡ false
no_cancel [] m args = refl
no_cancel (simple.Call n slots w ∷ ss) m args = or_false (names_it (simple.Call n slots w) (what.Call m args phase.Cancelled)) (is_named ss (what.Call m args phase.Cancelled)) (and_false (nat_eq n m) (is_same_phase w phase.Cancelled) (same_cancel w)) (no_cancel ss m args)
no_cancel (simple.Published s ∷ ss) m args = no_cancel ss m args

module _ (names : List Simple) (last : ℕ) where
  until_both : (xs ys : List Happening) → named_until names last (xs ++ ys) ≡ named_until names last xs ++ named_until names last ys
  until_both [] ys = refl
  until_both (h ∷ xs) ys = go (is_named names h.what) (until_both xs ys) where
    go : (b : Bool) → named_until names last (xs ++ ys) ≡ named_until names last xs ++ named_until names last ys → add_happening b (told_until last h) (named_until names last (xs ++ ys)) ≡ add_happening b (told_until last h) (named_until names last xs) ++ named_until names last ys
    go true rest = ap (λ (l : List Happening). told_until last h ∷ l) rest
    go false rest = rest

  until_one : (w : Occurrence) (time : ℕ) → named_until names last (record { time = time; what = w } ∷ []) ≡ all_at (min time last) (named names (w ∷ []))
  until_one w time = go (is_named names w) where
    go : (b : Bool) → add_happening b (record { time = min time last; what = w }) [] ≡ all_at (min time last) (add_named b w [])
    go true = refl
    go false = refl

  -- one happening more, at the time now
  one_more : (hs : List Happening) (w : Occurrence) (time now : ℕ) → time ≡ now → past_of names last (hs ++ record { time = time; what = w } ∷ []) now ≡ seen_now (past_of names last hs now) (named names (w ∷ []))
  one_more hs w time now is = λ i. record {
    happened = (until_both hs (record { time = time; what = w } ∷ []) ∙ ap (λ (l : List Happening). named_until names last hs ++ l) (until_one w time ∙ ap (λ (t : ℕ). all_at (min t last) (named names (w ∷ []))) is)) i;
    now = min now last;
  }

  -- nothing more
  none_more : (p : Past) (ws : List Occurrence) → ws ≡ [] → seen_now p ws ≡ p
  none_more p ws none = λ i. record { happened = (ap (λ (us : List Occurrence). p.happened ++ all_at p.now us) none ∙ append-nil p.happened) i; now = p.now }

-- the same, by a later time
happened_later : (a b : ℕ) (hs : List Happening) → a ≤ b → HappenedBy a hs → HappenedBy b hs
happened_later a b [] le all = tt
happened_later a b (h ∷ hs) le all = (let early = all.0 in omega (arith, early, le), happened_later a b hs le all.1)

happened_last : (now : ℕ) (hs : List Happening) (h : Happening) → HappenedBy now hs → h.time ≤ now → HappenedBy now (hs ++ h ∷ [])
happened_last now [] h all le = (le, tt)
happened_last now (x ∷ hs) h all le = (all.0, happened_last now hs h all.1 le)

module _ (names : List Simple) (sites : List ClaimSite) (last : ℕ) (x : Context) (s' : Moment) where
  abbrev made_of : CallMade → Made
  made_of c = record { site = number_from 0 sites c.site (length c.args); args = c.args }

  -- calls as they are told of, and as a run has them
  record Agrees (made : List Made) (cs : List CallMade) : Type 0 where
    many : length cs ≡ length made
    each : (c : CallMade) → IsIn c cs → made_as c.number made ≡ Some (made_of c)
    apart : AreApart (map number_of cs)

  made_front : (n : ℕ) (made more : List Made) (y : Made) → made_as n made ≡ Some y → made_as n (made ++ more) ≡ Some y
  made_front zero made more y h = cc h
  made_front (suc n) made more y h = grows_get made (made ++ more) n y (more, refl) h

  seam : (made : List Made) (y : Made) → slice_get (made ++ y ∷ []) (length made) ≡ Some y
  seam [] y = refl
  seam (z ∷ made) y = seam made y

  agrees_more : (made : List Made) (cs : List CallMade) (c : CallMade) → Agrees made cs → c.number ≡ next cs → IsNew c.number (map number_of cs) → Agrees (made ++ made_of c ∷ []) (c ∷ cs)
  agrees_more made cs c a number new = record {
    many = omega (arith, a.many, length-append made (made_of c ∷ []));
    each = each;
    apart = (new, a.apart);
  } where
    is : c.number ≡ suc (length made)
    is = omega (arith, number, a.many)

    each : (d : CallMade) → IsIn d (c ∷ cs) → made_as d.number (made ++ made_of c ∷ []) ≡ Some (made_of d)
    each d (inl same) = subst (λ (e : CallMade). made_as e.number (made ++ made_of c ∷ []) ≡ Some (made_of e)) (sym same) (ap (λ (n : ℕ). made_as n (made ++ made_of c ∷ [])) is ∙ seam made (made_of c))
    each d (inr later) = made_front d.number made (made_of c ∷ []) (made_of d) (a.each d later)

  abbrev keep : Kept
  keep = kept names sites last

  abbrev All_told : Told → List Entry → Told
  All_told t es = told_all t (map (renumbered sites) es)

  -- what is told of a journal by its end
  abbrev Says : Told → List Entry → Past → Type 0
  Says t es p = (p ≡ past_of names last (Told.happened (All_told t es)) s'.now) × HappenedBy s'.now (Told.happened (All_told t es))

  -- so far it is told at the time of the run
  record Agreed (t : Told) (s : Moment) : Type 0 where
    made : Agrees t.made s.calls
    time : t.time ≡ s.now
    by : HappenedBy s.now t.happened

  abbrev Told_all : List Entry → List Event → Type 0
  Told_all es events = (t : Told) (s : Moment) → AreCounted (next s.calls) events → (r : Run x s events s') → Agreed t s → Says t es (seen_on keep (past_of names last t.happened s.now) (sights x s events s' r))

  -- the calls and the time stay, and one thing more is told, or nothing
  stays : (es : List Entry) (rest : List Event) → Told_all es rest → (t u : Told) (s mid : Moment) (p : Past) → mid.calls ≡ s.calls → mid.now ≡ s.now → AreCounted (next s.calls) rest → (r : Run x mid rest s') → Agreed t s
      → u.made ≡ t.made → u.time ≡ t.time → HappenedBy s.now u.happened → p ≡ past_of names last u.happened s.now → Says u es (seen_on keep p (sights x mid rest s' r))
  stays es rest ih t u s mid p same now counted r a made time by is =
      let to = ih u mid (counted_from s.calls mid.calls rest (sym same) counted) r
      (record { made = subst (λ (cs : List CallMade). Agrees u.made cs) (sym same) (subst (λ (ms : List Made). Agrees ms s.calls) (sym made) a.made); time = time ∙ a.time ∙ sym now; by = subst (λ (n : ℕ). HappenedBy n u.happened) (sym now) by }) in
      (ap (λ (q : Past). seen_on keep q (sights x mid rest s' r)) (is ∙ ap (past_of names last u.happened) (sym now)) ∙ to.0, to.1)

  -- nothing is told of a step
  silently : (es : List Entry) (rest : List Event) → Told_all es rest → (t : Told) (s mid : Moment) → mid.calls ≡ s.calls → mid.now ≡ s.now → AreCounted (next s.calls) rest → (r : Run x mid rest s') → Agreed t s
      → Says t es (seen_on keep (seen_after keep (past_of names last t.happened s.now) (happens unseen)) (sights x mid rest s' r))
  silently es rest ih t s mid same now counted r a =
      let p = past_of names last t.happened s.now in
      stays es rest ih t t s mid (seen_after keep p (happens unseen)) same now counted r a refl refl a.by (none_more names last p [] refl)

  -- this became of a call, or was published
  told_one : (es : List Entry) (rest : List Event) → Told_all es rest → (w : Occurrence) (t : Told) (s mid : Moment) → mid.calls ≡ s.calls → mid.now ≡ s.now → AreCounted (next s.calls) rest → (r : Run x mid rest s') → Agreed t s
      → Says (record t { happened = t.happened ++ record { time = t.time; what = w } ∷ [] }) es (seen_on keep (seen_now (past_of names last t.happened s.now) (named names (w ∷ []))) (sights x mid rest s' r))
  told_one es rest ih w t s mid same now counted r a =
      let u : Told = record t { happened = t.happened ++ record { time = t.time; what = w } ∷ [] } in
      let time = a.time in
      stays es rest ih t u s mid (seen_now (past_of names last t.happened s.now) (named names (w ∷ []))) same now counted r a refl refl
      (happened_last s.now t.happened (record { time = t.time; what = w }) a.by (omega (arith, time))) (sym (one_more names last t.happened w t.time s.now a.time))

  -- a call is answered
  returned : (es : List Entry) (rest : List Event) → Told_all es rest → (k : ℕ) (b : Answer) (t : Told) (s mid : Moment) → mid.calls ≡ s.calls → mid.now ≡ s.now → IsDue x.sites s.calls k b s.now → AreCounted (next s.calls) rest → (r : Run x mid rest s') → Agreed t s
      → Says (claims.becomes t (made_as k t.made) (phase_of b)) es (seen_on keep (seen_after keep (past_of names last t.happened s.now) (happens (happening (out_of x.sites s.now s.calls) (returns k b)))) (sights x mid rest s' r))
  returned es rest ih k b t s mid same now due counted r a =
      let c : CallMade = due.by in
      let made : made_as k t.made ≡ Some (made_of c) = ap (λ (n : ℕ). made_as n t.made) (sym due.is_k) ∙ a.made.each c due.is_made in
      let out : out_of x.sites s.now s.calls k ≡ known x.sites s.now c = ap (out_of x.sites s.now s.calls) (sym due.is_k) ∙ finds x.sites s.now s.calls c a.made.apart due.is_made in
      let p : Past = past_of names last t.happened s.now in
      let main = told_one es rest ih (becomes sites c.site c.args (phase_of b)) t s mid same now counted r a in
      subst (λ (o : Option Made). Says (claims.becomes t o (phase_of b)) es (seen_on keep (seen_after keep p (happens (happening (out_of x.sites s.now s.calls) (returns k b)))) (sights x mid rest s' r))) (sym made)
      (subst (λ (o : Out). Says (claims.becomes t (Some (made_of c)) (phase_of b)) es (seen_on keep (seen_after keep p (happens (answered o.site o.args b))) (sights x mid rest s' r))) (sym out) main)

  -- a cancel isn't named
  cancelled : (es : List Entry) (rest : List Event) → Told_all es rest → (o : Option Made) (t : Told) (s mid : Moment) → mid.calls ≡ s.calls → mid.now ≡ s.now → AreCounted (next s.calls) rest → (r : Run x mid rest s') → Agreed t s
      → Says (claims.becomes t o phase.Cancelled) es (seen_on keep (past_of names last t.happened s.now) (sights x mid rest s' r))
  cancelled es rest ih None t s mid same now counted r a = stays es rest ih t t s mid (past_of names last t.happened s.now) same now counted r a refl refl a.by refl
  cancelled es rest ih (Some y) t s mid same now counted r a =
      let p : Past = past_of names last t.happened s.now in
      let w : Occurrence = what.Call y.site y.args phase.Cancelled in
      subst (λ (q : Past). Says (claims.becomes t (Some y) phase.Cancelled) es (seen_on keep q (sights x mid rest s' r))) (none_more names last p (named names (w ∷ [])) (ap (λ (b : Bool). add_named b w []) (no_cancel names y.site y.args)))
      (told_one es rest ih w t s mid same now counted r a)

  one_told : (e : Entry) (cs : List ℕ) (es : List Entry) (rest : List Event) → Told_all es rest → Told_all (e ∷ es) (option_to_list (event_of e cs) ++ rest)
  one_told (End s) cs es rest ih t m counted r agreed = ih t m counted r agreed
  one_told (Fork s a b) cs es rest ih t m counted r agreed = ih t m counted r agreed
  one_told (Seq s a) cs es rest ih t m counted r agreed = ih t m counted r agreed
  one_told (Other s a) cs es rest ih t m counted r agreed = ih t m counted r agreed
  one_told (Def s a) cs es rest ih t m counted r agreed = silently es rest ih t m r.0 (Does.calls r.1) (Does.now r.1) counted r.2 agreed
  one_told (entry.Void s) cs es rest ih t m counted r agreed = silently es rest ih t m r.0 (Does.calls r.1) (Does.now r.1) counted r.2 agreed
  one_told (Open s c a b) cs es rest ih t m counted r agreed = silently es rest ih t m r.0 (Does.calls r.1) (Does.now r.1) counted r.2 agreed
  one_told (Send s a v) cs es rest ih t m counted r agreed = silently es rest ih t m r.0 (Does.calls r.1) (Does.now r.1) counted r.2 agreed
  one_told (Call s k n args) cs es rest ih t m counted r agreed =
      let d : Does x m (calls k n args cs) r.0 = r.1 in
      let u : Told = claims.calls t (number_from 0 sites n (length args)) args in
      let w : Occurrence = becomes sites n args phase.Called in
      let made = agrees_more t.made m.calls _ agreed.made counted.0 (fresh_call d.step) in
      let time = agreed.time in
      let to = ih u r.0 (counted_from _ (Moment.calls r.0) rest (sym d.calls) counted.1) r.2
      (record {
        made = subst (Agrees u.made) (sym d.calls) made;
        time = agreed.time ∙ sym d.now;
        by = subst (λ (i : ℕ). HappenedBy i u.happened) (sym d.now) (happened_last m.now t.happened (record { time = t.time; what = w }) agreed.by (omega (arith, time)));
      }) in
      (ap (λ (q : Past). seen_on keep q (sights x r.0 rest s' r.2)) (sym (one_more names last t.happened w t.time m.now agreed.time) ∙ ap (past_of names last u.happened) (sym d.now)) ∙ to.0, to.1)
  one_told (Return k a v) cs es rest ih t m counted r agreed = returned es rest ih k (Gives v) t m r.0 (Does.calls r.1) (Does.now r.1) (Does.timely r.1) counted r.2 agreed
  one_told (ReturnHalt k) cs es rest ih t m counted r agreed = returned es rest ih k Halt t m r.0 (Does.calls r.1) (Does.now r.1) (Does.timely r.1) counted r.2 agreed
  one_told (Bind s c v) cs es rest ih t m counted r agreed = silently es rest ih t m r.0 (Does.calls r.1) (Does.now r.1) counted r.2 agreed
  one_told (Lost c) cs es rest ih t m counted r agreed = silently es rest ih t m r.0 (Does.calls r.1) (Does.now r.1) counted r.2 agreed
  one_told (Right s a) cs es rest ih t m counted r agreed = silently es rest ih t m r.0 (Does.calls r.1) (Does.now r.1) counted r.2 agreed
  one_told (Publish s v) cs es rest ih t m counted r agreed = told_one es rest ih (what.Published v) t m r.0 (Does.calls r.1) (Does.now r.1) counted r.2 agreed
  one_told (Tick now) cs es rest ih t m counted r agreed =
      let h = r.1 in
      let u : Told = record t { time = now } in
      let at : Moment.now r.0 ≡ now = ap Moment.now h.2 in
      let calls : Moment.calls r.0 ≡ m.calls = ap Moment.calls h.2 in
      let later = IsTick.later h.1 in
      let passed : min (min m.now last + (now - m.now)) last ≡ min (Moment.now r.0) last = omega (arith, at, later) in
      let to = ih u r.0 (counted_from m.calls (Moment.calls r.0) rest (sym calls) counted) r.2
      (record { made = subst (Agrees t.made) (sym calls) agreed.made; time = sym at; by = happened_later m.now (Moment.now r.0) t.happened (omega (arith, at, later)) agreed.by }) in
      (ap (λ (n : ℕ). seen_on keep (record { happened = named_until names last t.happened; now = n }) (sights x r.0 rest s' r.2)) passed ∙ to.0, to.1)
  one_told (Cancel k) cs es rest ih t m counted r agreed = let h = r.1 in cancelled es rest ih (made_as k t.made) t m r.0 (ap Moment.calls h.1) (ap Moment.now h.1) counted r.2 agreed

  all_told : (es : List Entry) (events : List Event) → AreEventsOf es events → Told_all es events
  all_told [] events h = subst (Told_all []) (sym h) (λ t s counted r a. (ap (λ (m : Moment). past_of names last t.happened m.now) r, subst (λ (m : Moment). HappenedBy m.now t.happened) r a.by))
  all_told (e ∷ es) events (cs, rest, h, more) = subst (Told_all (e ∷ es)) (sym h) (one_told e cs es rest (all_told es rest more))

  all_agreed : (source : Term) → Agreed begin (start source)
  all_agreed source = record { made = record { many = refl; each = λ c i. elim i [ ]; apart = tt }; time = refl; by = tt }

  pub journal_seen : (source : Term) (es : List Entry) (events : List Event) → AreEventsOf es events → AreCounted 1 events → (r : Run x (start source) events s') → seen_of names sites last es s'.now ≡ seen_on (kept names sites last) nothing_yet (sights x (start source) events s' r)
  journal_seen source es events are counted r =
      let zero_at : min 0 last ≡ 0 = omega arith in
      sym (all_told es events are begin (start source) counted r (all_agreed source)).0
      ∙ ap (λ (n : ℕ). seen_on (kept names sites last) (record { happened = []; now = n }) (sights x (start source) events s' r)) zero_at

  -- what is told of it happened by its end
  pub journal_by : (source : Term) (es : List Entry) (events : List Event) → AreEventsOf es events → AreCounted 1 events → Run x (start source) events s' → HappenedBy s'.now (Told.happened (All_told begin es))
  journal_by source es events are counted r = (all_told es events are begin (start source) counted r (all_agreed source)).1

-- ---- what is published

published_both : (xs ys : List Happening) → all_published (xs ++ ys) ≡ all_published xs ++ all_published ys
published_both [] ys = refl
published_both (h ∷ xs) ys = ap (λ (l : List Value). published_by h.what ++ l) (published_both xs ys) ∙ sym (append_assoc (published_by h.what) (all_published xs) (all_published ys))

shown_more : (hs : List Happening) (w : Occurrence) (time : ℕ) → all_published (hs ++ record { time = time; what = w } ∷ []) ≡ all_published hs ++ published_by w
shown_more hs w time = published_both hs (record { time = time; what = w } ∷ []) ∙ ap (λ (l : List Value). all_published hs ++ l) (append-nil (published_by w))

call_more : (hs : List Happening) (w : Occurrence) (time : ℕ) → published_by w ≡ [] → all_published (hs ++ record { time = time; what = w } ∷ []) ≡ all_published hs
call_more hs w time none = shown_more hs w time ∙ ap (λ (l : List Value). all_published hs ++ l) none ∙ append-nil (all_published hs)

became_more : (t : Told) (o : Option Made) (p : Phase) → all_published (Told.happened (claims.becomes t o p)) ≡ all_published t.happened
became_more t None p = refl
became_more t (Some y) p = call_more t.happened (what.Call y.site y.args p) t.time refl

module _ (sites : List ClaimSite) where
  told_shown : (t : Told) (es : List Entry) → all_published (Told.happened (told_all t (map (renumbered sites) es))) ≡ all_published t.happened ++ published es
  told_shown t [] = sym (append-nil (all_published t.happened))
  told_shown t (End s ∷ es) = told_shown t es
  told_shown t (Fork s a b ∷ es) = told_shown t es
  told_shown t (Seq s a ∷ es) = told_shown t es
  told_shown t (Other s a ∷ es) = told_shown t es
  told_shown t (Def s a ∷ es) = told_shown t es
  told_shown t (entry.Void s ∷ es) = told_shown t es
  told_shown t (Open s c a b ∷ es) = told_shown t es
  told_shown t (Send s a v ∷ es) = told_shown t es
  told_shown t (Call s k m args ∷ es) =
      told_shown (claims.calls t (number_from 0 sites m (length args)) args) es
      ∙ ap (λ (l : List Value). l ++ published es) (call_more t.happened (what.Call (number_from 0 sites m (length args)) args phase.Called) t.time refl)
  told_shown t (Return k a v ∷ es) = told_shown (claims.becomes t (made_as k t.made) (phase.Answered v)) es ∙ ap (λ (l : List Value). l ++ published es) (became_more t (made_as k t.made) (phase.Answered v))
  told_shown t (ReturnHalt k ∷ es) = told_shown (claims.becomes t (made_as k t.made) phase.Halted) es ∙ ap (λ (l : List Value). l ++ published es) (became_more t (made_as k t.made) phase.Halted)
  told_shown t (Bind s c v ∷ es) = told_shown t es
  told_shown t (Lost c ∷ es) = told_shown t es
  told_shown t (Right s a ∷ es) = told_shown t es
  told_shown t (Publish s v ∷ es) =
      told_shown (claims.publishes t v) es ∙ ap (λ (l : List Value). l ++ published es) (shown_more t.happened (what.Published v) t.time) ∙ append_assoc (all_published t.happened) (v ∷ []) (published es)
  told_shown t (Tick now ∷ es) = told_shown (record t { time = now }) es
  told_shown t (Cancel k ∷ es) = told_shown (claims.becomes t (made_as k t.made) phase.Cancelled) es ∙ ap (λ (l : List Value). l ++ published es) (became_more t (made_as k t.made) phase.Cancelled)

  values_named : (last : ℕ) (hs : List Happening) → all_published (named_until publications last hs) ≡ all_published hs
  values_named last [] = refl
  values_named last (h ∷ hs) = go h.what (values_named last hs) where
    go : (w : Occurrence) → all_published (named_until publications last hs) ≡ all_published hs → all_published (add_happening (is_named publications w) (record { time = min h.time last; what = w }) (named_until publications last hs)) ≡ published_by w ++ all_published hs
    go (what.Published v) rest = ap (λ (l : List Value). v ∷ l) rest
    go (what.Call m args p) rest = rest

  -- what is published is seen where publications are kept
  pub published_seen : (last : ℕ) (es : List Entry) (now : ℕ) → values_of (seen_of publications sites last es now) ≡ published es
  published_seen last es now = values_named last (Told.happened (told_all begin (map (renumbered sites) es))) ∙ told_shown begin es
