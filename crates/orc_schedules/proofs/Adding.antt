-- The states that a search adds come from those that were there, and states say the ends.
use Rattle.std.proofs.Common.{◌≡◌, ◌<◌, ◌≤◌, ℕ, zero, suc, List, [], ◌∷◌, ◌++◌, length, map, Bool, true, false, Option, Some, None, ◌⊎◌, refl, sym, ap, ◌∙◌, subst, inl, inr, arith}
use Rattle.std.specs.Prelude.{slice_get, cond, nat_lt, option_map, not}
use Rattle.std.specs.List.{AllZip}
use Rattle.std.proofs.lemmas.Bool.{ltb-true, ltb-false}
use Rattle.orc_rules.specs.declared.value.Answer.{Answer}
use Rattle.orc_rules.specs.declared.value.Found.TheVariants.{After}
use Rattle.orc_rules.specs.Sites.{Site}
use Rattle.orc_rules.specs.Timed.{IsIn}
use Rattle.orc_search.specs.declared.node.Node.{Node}
use Rattle.orc_search.specs.declared.node.Summary.{Summary}
use Rattle.orc_search.specs.declared.successor.Successor.{Successor}
use Rattle.orc_search.specs.Early.{Leads}
use Rattle.orc_search.specs.Graphs.{Ending, halted, quiet, quiet_if, ending}
use Rattle.orc_search.specs.Moves.{Happening, SmallDefinition, Moves}
use Rattle.orc_search.specs.Moving.{happening_of, IsSuccessor}
use Rattle.orc_search.specs.Nodes.{small_at, smalls, summary_of}
use Rattle.orc_search.specs.Small.{Out, Small, nothing}
use Rattle.orc_search.specs.States.{State, happens, waits, Coming, next_call}
use Rattle.orc_search.specs.Successors.{least_left, some_time, moves}
use Rattle.orc_search.specs.Ticks.{is_over, moves_now, pass, Passes, IsOut}
use Rattle.orc_search.proofs.Listed.{listed_are_moves}
use Rattle.orc_search.proofs.Nodes.{mapped_get, within, at_end}
use Rattle.orc_search.proofs.Successors as time
use Rattle.orc_schedules.specs.declared.states.Key.{Key}
use Rattle.orc_schedules.specs.declared.told.Told.{Told}
use Rattle.orc_schedules.specs.declared.tables.Tables.{Tables}
use Rattle.orc_schedules.specs.Adding.{AddsOnly, IsAfterOne, IsWaited, AddsEnd, ComesBy, AreFound}
use Rattle.orc_schedules.specs.Ends.{ComesFrom, AreFoundFrom, IsSaid}
use Rattle.orc_schedules.specs.Growing.{Grows}
use Rattle.orc_schedules.specs.Reached.{Reached, EndSeen, end_of}
use Rattle.orc_schedules.specs.Seen.{Kept, is_unkept, nothing_yet}
use Rattle.orc_schedules.specs.Tables.{IsKnown, AreKnown, Keeps, LeadsTo, outcomes, outcome_at, reached, reached_at, coming_at, seen_at, after, waited, ending_if}
use Rattle.orc_schedules.proofs.Growing.{or_else, grows_get, get_back, get_or_is, in_get, in_grows, in_map, of_map}
use Rattle.orc_schedules.proofs.Keeping.{coming_kept, keeps_both, reached_kept, reached_grow, after_kept, term_kept, seen_kept}
use Rattle.orc_schedules.proofs.Waits.{none_moves, still_ends}

-- what an element of a mapped list was made of
pub record Made {X Y : Type 0} (f : X → Y) (xs : List X) (i : ℕ) (y : Y) : Type 0 where
  pub by : X
  pub there : slice_get xs i ≡ Some by
  pub is : f by ≡ y

pub get_map : {X Y : Type 0} (f : X → Y) (xs : List X) (i : ℕ) (y : Y) → slice_get (map f xs) i ≡ Some y → Made f xs i y
get_map f [] i y h = cc h
get_map f (x ∷ xs) zero y h = record { by = x; there = refl; is = ap (or_else (f x)) h }
get_map f (x ∷ xs) (suc i) y h = let m = get_map f xs i y h in record { by = m.by; there = m.there; is = m.is }

map_get : {X Y : Type 0} (f : X → Y) (xs : List X) (i : ℕ) (x : X) → slice_get xs i ≡ Some x → slice_get (map f xs) i ≡ Some (f x)
map_get f xs i x h = mapped_get f xs i ∙ ap (option_map f) h

pub in_last : {X : Type 0} (x y : X) (xs : List X) → IsIn x (xs ++ y ∷ []) → IsIn x xs ⊎ (x ≡ y)
in_last x y [] (inl same) = inr same
in_last x y [] (inr later) = elim later [ ]
in_last x y (z ∷ xs) (inl same) = inl (inl same)
in_last x y (z ∷ xs) (inr later) = go (in_last x y xs later) where
  go : IsIn x xs ⊎ (x ≡ y) → IsIn x (z ∷ xs) ⊎ (x ≡ y)
  go (inl is) = inl (inr is)
  go (inr same) = inr same

-- what stands at the same place of the other list
record Beside {A B : Type 0} (R : A → B → Type 0) (ys : List B) (x : A) : Type 0 where
  to : B
  listed : IsIn to ys
  is : R x to

module _ {A B : Type 0} (R : A → B → Type 0) where
  zip_at : (xs : List A) (ys : List B) → AllZip R xs ys → (i : ℕ) (x : A) → slice_get xs i ≡ Some x → Beside R ys x
  zip_at [] ys z i x h = cc h
  zip_at (a ∷ xs) [] z i x h = elim z [ ]
  zip_at (a ∷ xs) (b ∷ ys) z zero x h = record { to = b; listed = inl refl; is = subst (λ (w : A). R w b) (ap (or_else a) h) z.0 }
  zip_at (a ∷ xs) (b ∷ ys) z (suc i) x h = let m = zip_at xs ys z.1 i x h in record { to = m.to; listed = inr m.listed; is = m.is }

  zip_empty : (xs : List A) (ys : List B) → AllZip R xs ys → xs ≡ [] → ys ≡ []
  zip_empty xs [] z e = refl
  zip_empty [] (b ∷ ys) z e = elim z [ ]
  zip_empty (a ∷ xs) (b ∷ ys) z e = cc e

is_left : (o : Option ℕ) (by : ℕ) → some_time o ≡ Some by → (o ≡ Some by) × (0 < by)
is_left None by e = cc e
is_left (Some zero) by e = cc e
is_left (Some (suc n)) by e = let same : suc n ≡ by = cc e in (e, omega (arith, same))

-- time passes as `wait` says
pub wait_passes : (defs : List SmallDefinition) (f : Small) (by : ℕ) → moves_now defs f ≡ false → some_time (least_left f) ≡ Some by → Passes defs f by (pass by f)
wait_passes defs f by still h =
    let left = is_left (least_left f) by h in
    let w = time.waits f by left.0 in
    record { still = still; some = left.1; reached = (w.call, w.answer, w.out, w.rest); least = λ o a delay out rest. at_least o a delay out rest left.0; after = refl }
  where
    at_least : (o : Out) (a : Answer) (delay : ℕ) → IsOut o f → o.rest ≡ After a delay → least_left f ≡ Some by → by ≤ delay
    at_least o a delay out rest left =
        let m = time.at_most f o a delay out rest in
        let is : Some by ≡ Some m.time = sym left ∙ m.is in
        let same : by ≡ m.time = cc is in
        omega (arith, same, m.within)

-- a term at which something can move says no end but that it has halted
pub moving_said : (defs : List SmallDefinition) (f : Small) (e : Ending) → ending_if false f ≡ Some e → ending defs f ≡ Some e
moving_said defs f e h = go (is_over f) (moves_now defs f) (least_left f) h where
  go : (over now : Bool) (o : Option ℕ) → cond over (Some halted) (quiet_if true o) ≡ Some e → cond over (Some halted) (quiet_if now o) ≡ Some e
  go true now o p = p
  go false now o p = cc p

-- how long a term waits, by its summary
pub time_waited : (f : Small) (s : Summary) (by : ℕ) → s ≡ summary_of f → s.left ≡ Some by → (by ≡ 0 → ⊥) → some_time (least_left f) ≡ Some by
time_waited f s by is left some = ap some_time (sym (ap Summary.left is) ∙ left) ∙ go by some where
  go : (n : ℕ) → (n ≡ 0 → ⊥) → some_time (Some n) ≡ Some n
  go zero ne = absurd (ne refl)
  go (suc n) ne = refl

pub said_halted : (still : Bool) (f : Small) (s : Summary) → s ≡ summary_of f → s.over ≡ true → ending_if still f ≡ Some halted
said_halted still f s is over = ap (λ (b : Bool). cond b (Some halted) (quiet_if (not still) (least_left f))) (sym (ap Summary.over is) ∙ over)

pub said_quiet : (still : Bool) (f : Small) (s : Summary) → s ≡ summary_of f → s.over ≡ false → still ≡ true → s.left ≡ None → ending_if still f ≡ Some quiet
said_quiet still f s is over now left = λ i. cond ((sym (ap Summary.over is) ∙ over) i) (Some halted) (quiet_if (not (now i)) ((sym (ap Summary.left is) ∙ left) i))

-- one state more
pub added_one : (sites : List Site) (Fits : Reached → Type 0) (t u : Tables) (key : Key) → (u.states ≡ t.states) ⊎ (u.states ≡ t.states ++ key ∷ []) → Fits (reached_at sites u key) → AddsOnly sites Fits t u
added_one sites Fits t u key (inl same) fits i k h = inl (ap (λ (l : List Key). slice_get l i) (sym same) ∙ h)
added_one sites Fits t u key (inr more) fits i k h = go (at_end t.states key k i (ap (λ (l : List Key). slice_get l i) (sym more) ∙ h)) where
  go : (slice_get t.states i ≡ Some k) ⊎ ((i ≡ length t.states) × (key ≡ k)) → (slice_get t.states i ≡ Some k) ⊎ Fits (reached_at sites u k)
  go (inl old) = inl old
  go (inr new) = inr (subst (λ (x : Key). Fits (reached_at sites u x)) new.1 fits)

-- what is added further, over one more successor
pub added_next : (keep : Kept) (sites : List Site) (t u v : Tables) (k : Key) (next : List Successor) (at : ℕ) (s : Successor) → Keeps t u → Keeps u v → AreKnown u → IsKnown t k → s.to < length (smalls t.terms) → slice_get next at ≡ Some s
    → AddsOnly sites (IsAfterOne keep sites t k next) t u → AddsOnly sites (λ r. r ≡ after keep sites u k s) u v → AddsOnly sites (IsAfterOne keep sites t k next) t v
added_next keep sites t u v k next at s keeps more known is lt here before adds i x h = go (adds i x h) where
  older : (slice_get u.states i ≡ Some x) → (slice_get t.states i ≡ Some x) ⊎ IsAfterOne keep sites t k next (reached_at sites u x) → (slice_get t.states i ≡ Some x) ⊎ IsAfterOne keep sites t k next (reached_at sites v x)
  older there (inl old) = inl old
  older there (inr m) = inr (m.0, m.1, m.2, reached_kept keep sites u v x more (known.0 i x there) ∙ m.3)

  go : (slice_get u.states i ≡ Some x) ⊎ (reached_at sites v x ≡ after keep sites u k s) → (slice_get t.states i ≡ Some x) ⊎ IsAfterOne keep sites t k next (reached_at sites v x)
  go (inl there) = older there (before i x there)
  go (inr new) = inr (at, s, here, new ∙ after_kept keep sites t u k s keeps is lt)

-- one end more
pub added_end : (t : Tables) (ends : List Told) (told : Told) (end : Option Ending) (e : Ending) → (ends ≡ t.ends) ⊎ (ends ≡ t.ends ++ told ∷ []) → end ≡ Some e → told.end ≡ end_of e
    → AddsEnd (outcomes t) end (seen_at t told.seen) (outcomes (record t { ends = ends }))
added_end t ends told end e added is how o there = go added (of_map (outcome_at t) o ends there) where
  old : (x : Told) → IsIn x t.ends → o ≡ outcome_at t x → IsIn o (outcomes t)
  old x in_ends same = subst (λ (p : EndSeen). IsIn {X = EndSeen} p (outcomes t)) (sym same) (in_map (outcome_at t) x t.ends in_ends)

  last : (x : Told) → o ≡ outcome_at t x → IsIn x t.ends ⊎ (x ≡ told) → IsIn o (outcomes t) ⊎ ((d : Ending) × (end ≡ Some d) × (o ≡ (end_of d, seen_at t told.seen)))
  last x same (inl in_ends) = inl (old x in_ends same)
  last x same (inr new) = inr (e, is, same ∙ ap (outcome_at t) new ∙ (λ i. (how i, seen_at t told.seen)))

  go : (ends ≡ t.ends) ⊎ (ends ≡ t.ends ++ told ∷ []) → (x : Told) × IsIn x ends × (o ≡ outcome_at t x) → IsIn o (outcomes t) ⊎ ((d : Ending) × (end ≡ Some d) × (o ≡ (end_of d, seen_at t told.seen)))
  go (inl same) m = inl (old m.0 (subst (λ (es : List Told). IsIn m.0 es) same m.1) m.2)
  go (inr more) m = last m.0 m.2 (in_last m.0 told t.ends (subst (λ (es : List Told). IsIn m.0 es) more m.1))

-- the same ends, with more lists of values
same_ends : (t u : Tables) → Keeps t u → AreKnown t → u.ends ≡ t.ends → (o : EndSeen) → IsIn o (outcomes u) → IsIn o (outcomes t)
same_ends t u keeps known same o is =
    let m = of_map (outcome_at u) o u.ends is in
    let there : IsIn m.0 t.ends = subst (λ (es : List Told). IsIn m.0 es) same m.1 in
    let at = in_get m.0 t.ends there in
    let kept : seen_at u m.0.seen ≡ seen_at t m.0.seen = seen_kept t u m.0.seen keeps (known.1 at.0 m.0 at.1) in
    let eq : o ≡ outcome_at t m.0 = m.2 ∙ (λ i. (m.0.end, kept i)) in
    subst (λ (p : EndSeen). IsIn {X = EndSeen} p (outcomes t)) (sym eq) (in_map (outcome_at t) m.0 t.ends there)

module _ (defs : List SmallDefinition) (keep : Kept) (sites : List Site) where
  -- the first state, or one that comes from one before it
  abbrev IsFound : ℕ → State → List Reached → ℕ → Reached → Type 0
  IsFound longest begin rs i r = ((r.0 ≡ begin) × (r.1 ≡ nothing_yet)) ⊎ ComesFrom defs keep longest rs i r.0 r.1

  found_kept : (a b : ℕ) → a ≤ b → (begin : State) (rs us : List Reached) (i : ℕ) (r : Reached) → Grows rs us → IsFound a begin rs i r → IsFound b begin us i r
  found_kept a b le begin rs us i r g (inl e) = inl e
  found_kept a b le begin rs us i r g (inr c) = inr (record { at = c.at; before = c.before; from = c.from; there = grows_get rs us c.at c.from g c.there; ahead = c.ahead; is = c.is; sight = c.sight; goes = c.goes; shows = c.shows; short = let short = c.short in omega (arith, short, le) })

  -- what is said of ends stays so with more states
  said_kept : (rs us : List Reached) (o : EndSeen) → Grows rs us → IsSaid defs keep rs o → IsSaid defs keep us o
  said_kept rs us o g s = record { state = s.state; ending = s.ending; is = in_grows (s.state, o.1) rs us g s.is; ahead = s.ahead; leads = s.leads; says = s.says; end = s.end }

  -- the same early steps, with more terms
  pub leads_kept : (t u : Tables) (k : Key) (term : ℕ) → Keeps t u → IsKnown t k → term < length (smalls t.terms) → LeadsTo defs keep sites t k term → LeadsTo defs keep sites u k term
  leads_kept t u k term keeps known lt l =
      subst (λ (c : Coming). Leads defs (is_unkept keep) c (small_at (smalls u.terms) k.term) (small_at (smalls u.terms) term)) (sym (coming_kept keep sites t u k.made keeps known.1))
      (subst (λ (f : Small). Leads defs (is_unkept keep) (coming_at sites t k.made) f (small_at (smalls u.terms) term)) (sym (term_kept t u k.term keeps known.0))
      (subst (λ (f : Small). Leads defs (is_unkept keep) (coming_at sites t k.made) (small_at (smalls t.terms) k.term) f) (sym (term_kept t u term keeps lt)) l))

  module _ (begin : State) (t u : Tables) (known : AreKnown t) (keeps : Keeps t u) where
    old_found : AreFoundFrom defs keep t.longest begin (reached sites t) → (i : ℕ) (k : Key) → slice_get t.states i ≡ Some k → IsFound u.longest begin (reached sites u) i (reached_at sites u k)
    old_found found i k h =
        let r = reached_at sites t k in
        subst (λ (x : Reached). IsFound u.longest begin (reached sites u) i x) (sym (reached_kept keep sites t u k keeps (known.0 i k h)))
        (found_kept t.longest u.longest keeps.longest begin (reached sites t) (reached sites u) i r (reached_grow keep sites t u keeps known) (found i r.0 r.1 (map_get (reached_at sites t) t.states i k h)))

    -- where new states come from one that was there
    found_more : (from : Key) (at : ℕ) → slice_get t.states at ≡ Some from → AddsOnly sites (ComesBy defs keep u.longest (reached_at sites t from)) t u → AreFoundFrom defs keep t.longest begin (reached sites t) → AreFoundFrom defs keep u.longest begin (reached sites u)
    found_more from at here adds found i s vs h =
        let m = get_map (reached_at sites u) u.states i (s, vs) h in
        subst (λ (r : Reached). IsFound u.longest begin (reached sites u) i r) m.is (go (nat_lt at i) refl m.by m.there (adds i m.by m.there))
      where
        new_found : (r : Reached) → at < i → ComesBy defs keep u.longest (reached_at sites t from) r → ComesFrom defs keep u.longest (reached sites u) i r.0 r.1
        new_found r lt c = record {
          at = at;
          before = lt;
          from = reached_at sites t from;
          there = grows_get (reached sites t) (reached sites u) at (reached_at sites t from) (reached_grow keep sites t u keeps known) (map_get (reached_at sites t) t.states at from here);
          ahead = c.ahead;
          is = c.is;
          sight = c.sight;
          goes = c.goes;
          shows = c.shows;
          short = c.short;
        }

        go : (b : Bool) → nat_lt at i ≡ b → (k : Key) → slice_get u.states i ≡ Some k → (slice_get t.states i ≡ Some k) ⊎ ComesBy defs keep u.longest (reached_at sites t from) (reached_at sites u k) → IsFound u.longest begin (reached sites u) i (reached_at sites u k)
        go b lt k there (inl old) = old_found found i k old
        go true lt k there (inr new) = inr (new_found (reached_at sites u k) (ltb-true at i lt) new)
        go false lt k there (inr new) = old_found found i k (get_back t.states u.states i k keeps.states (let le = ltb-false at i lt in omega (arith, le, within t.states at from here)) there)

    -- with more states
    states_found : (from : Key) → IsIn from t.states → AddsOnly sites (ComesBy defs keep u.longest (reached_at sites t from)) t u → u.ends ≡ t.ends → AreFound defs keep begin sites t → AreFound defs keep begin sites u
    states_found from is adds same found =
        let at = in_get from t.states is in
        record {
          states = found_more from at.0 at.1 adds found.states;
          ends = λ o there. said_kept (reached sites t) (reached sites u) o (reached_grow keep sites t u keeps known) (found.ends o (same_ends t u keeps known same o there));
        }

    -- with an end more, which one of the states says
    ends_found : (from : Key) (term : ℕ) (end : Option Ending) → IsIn from t.states → LeadsTo defs keep sites t from term → u.states ≡ t.states → AddsEnd (outcomes t) end (seen_at t from.seen) (outcomes u)
        → ((e : Ending) → end ≡ Some e → ending defs (small_at (smalls t.terms) term) ≡ Some e) → AreFound defs keep begin sites t → AreFound defs keep begin sites u
    ends_found from term end is leads same adds says found =
        let at = in_get from t.states is in
        record {
          states = found_more from at.0 at.1 (λ i k h. inl (ap (λ (l : List Key). slice_get l i) (sym same) ∙ h)) found.states;
          ends = λ o there. go o (adds o there);
        }
      where
        grown : Grows (reached sites t) (reached sites u)
        grown = reached_grow keep sites t u keeps known

        here : IsIn (reached_at sites t from) (reached sites u)
        here = in_grows (reached_at sites t from) (reached sites t) (reached sites u) grown (in_map (reached_at sites t) from t.states is)

        go : (o : EndSeen) → IsIn o (outcomes t) ⊎ ((e : Ending) × (end ≡ Some e) × (o ≡ (end_of e, seen_at t from.seen))) → IsSaid defs keep (reached sites u) o
        go o (inl old) = said_kept (reached sites t) (reached sites u) o grown (found.ends o old)
        go o (inr new) =
            let one : IsSaid defs keep (reached sites u) (end_of new.0, seen_at t from.seen) = record { state = (reached_at sites t from).0; ending = new.0; is = here; ahead = record { term = small_at (smalls t.terms) term; coming = coming_at sites t from.made }; leads = (leads, refl); says = says new.0 new.1; end = refl } in
            subst (λ (x : EndSeen). IsSaid defs keep (reached sites u) x) (sym new.2) one

  -- what comes of a state by the successors of its term
  pub after_comes : (t : Tables) (terms : List Node) (behind : ℕ) (k : Key) (next : List Successor) (u : Tables) → LeadsTo defs keep sites t (record k { term = behind }) k.term
      → AllZip (IsSuccessor (smalls terms)) next (moves defs (next_call (coming_at sites t k.made)) 0 (small_at (smalls t.terms) k.term))
      → AddsOnly sites (IsAfterOne keep sites (record t { terms = terms }) k next) (record t { terms = terms }) u → AddsOnly sites (ComesBy defs keep u.longest (reached_at sites t (record k { term = behind }))) t u
  after_comes t terms behind k next u leads all adds i x h = go (adds i x h) where
    from : Reached
    from = reached_at sites t (record k { term = behind })

    one : (j : ℕ) (s : Successor) → slice_get next j ≡ Some s → ComesBy defs keep u.longest from (after keep sites (record t { terms = terms }) k s)
    one j s is =
        let ask = next_call (coming_at sites t k.made) in
        let f = small_at (smalls t.terms) k.term in
        let z = zip_at (IsSuccessor (smalls terms)) next (moves defs ask 0 f) all j s is in
        let to : small_at (smalls terms) s.to ≡ z.to.1 = get_or_is (smalls terms) s.to z.to.1 nothing z.is.1 in
        let what : happening_of s.happening ≡ z.to.0 = z.is.0 in
        let move : Moves defs ask 0 f z.to.0 z.to.1 = listed_are_moves defs ask 0 f z.to.1 z.to.0 z.listed in
        record {
          ahead = (reached_at sites t k).0;
          is = (leads, refl);
          sight = happens (happening_of s.happening);
          goes = (subst (λ (g : Small). Moves defs ask 0 f (happening_of s.happening) g) (sym to) (subst (λ (w : Happening). Moves defs ask 0 f w z.to.1) (sym what) move), refl);
          shows = refl;
          short = omega arith;
        }

    go : (slice_get t.states i ≡ Some x) ⊎ IsAfterOne keep sites (record t { terms = terms }) k next (reached_at sites u x) → (slice_get t.states i ≡ Some x) ⊎ ComesBy defs keep u.longest from (reached_at sites u x)
    go (inl old) = inl old
    go (inr m) = inr (subst (λ (r : Reached). ComesBy defs keep u.longest from r) (sym m.3) (one m.0 m.1 m.2))

  -- and what comes of it where it waits
  pub waited_comes : (t u : Tables) (behind : ℕ) (k : Key) → LeadsTo defs keep sites t (record k { term = behind }) k.term → moves_now defs (small_at (smalls t.terms) k.term) ≡ false → AddsOnly sites (IsWaited keep sites t k u.longest) t u → AddsOnly sites (ComesBy defs keep u.longest (reached_at sites t (record k { term = behind }))) t u
  waited_comes t u behind k leads still adds i x h = go (adds i x h) where
    from : Reached
    from = reached_at sites t (record k { term = behind })

    one : (by : ℕ) → by ≤ u.longest → some_time (least_left (small_at (smalls t.terms) k.term)) ≡ Some by → ComesBy defs keep u.longest from (waited keep sites t k by)
    one by le left = record { ahead = (reached_at sites t k).0; is = (leads, refl); sight = waits by; goes = (wait_passes defs (small_at (smalls t.terms) k.term) by still left, refl); shows = refl; short = le }

    go : (slice_get t.states i ≡ Some x) ⊎ IsWaited keep sites t k u.longest (reached_at sites u x) → (slice_get t.states i ≡ Some x) ⊎ ComesBy defs keep u.longest from (reached_at sites u x)
    go (inl old) = inl old
    go (inr m) = inr (subst (λ (r : Reached). ComesBy defs keep u.longest from r) (sym m.2) (one m.0 m.3 m.1))

  -- a state at which something can move is looked at
  pub moving_found : (begin : State) (t u v : Tables) (behind : ℕ) (k : Key) (terms : List Node) (next : List Successor)
      → AllZip (IsSuccessor (smalls terms)) next (moves defs (next_call (coming_at sites t k.made)) 0 (small_at (smalls t.terms) k.term))
      → AreKnown t → Keeps t u → AreKnown u → Keeps u v → IsKnown t k → IsIn (record k { term = behind }) t.states → LeadsTo defs keep sites t (record k { term = behind }) k.term
      → AddsOnly sites (IsAfterOne keep sites (record t { terms = terms }) k next) (record t { terms = terms }) u → u.ends ≡ t.ends
      → v.states ≡ u.states → AddsEnd (outcomes u) (ending_if false (small_at (smalls u.terms) k.term)) (seen_at u k.seen) (outcomes v)
      → AreFound defs keep begin sites t → AreFound defs keep begin sites v
  moving_found begin t u v behind k terms next all known keeps known' keeps' is there leads adds ends states end found =
      let from : Key = record k { term = behind } in
      let at = in_get from t.states there in
      let there' : IsIn from u.states = in_grows from t.states u.states keeps.states there in
      let leads' : LeadsTo defs keep sites u from k.term = leads_kept t u from k.term keeps (known.0 at.0 from at.1) is.0 leads in
      let f = small_at (smalls u.terms) k.term in
      ends_found begin u v known' keeps' from k.term (ending_if false f) there' leads' states end (λ e h. moving_said defs f e h)
      (states_found begin t u known keeps from there (after_comes t terms behind k next u leads all adds) ends found)

  -- and one at which nothing can
  pub still_found : (begin : State) (t u w v : Tables) (behind : ℕ) (k : Key) (terms : List Node) (next : List Successor)
      → AllZip (IsSuccessor (smalls terms)) next (moves defs (next_call (coming_at sites t k.made)) 0 (small_at (smalls t.terms) k.term)) → next ≡ []
      → AreKnown t → Keeps t u → AreKnown u → Keeps u w → AreKnown w → Keeps w v → IsKnown t k → IsIn (record k { term = behind }) t.states → LeadsTo defs keep sites t (record k { term = behind }) k.term
      → AddsOnly sites (IsAfterOne keep sites (record t { terms = terms }) k next) (record t { terms = terms }) u → u.ends ≡ t.ends
      → AddsOnly sites (IsWaited keep sites u k w.longest) u w → w.ends ≡ u.ends
      → v.states ≡ w.states → AddsEnd (outcomes w) (ending_if true (small_at (smalls w.terms) k.term)) (seen_at w k.seen) (outcomes v)
      → AreFound defs keep begin sites t → AreFound defs keep begin sites v
  still_found begin t u w v behind k terms next all none known keeps known_u keeps_w known_w keeps_v is there leads adds ends waited ends_w states end found =
      let from : Key = record k { term = behind } in
      let at = in_get from t.states there in
      let ask = next_call (coming_at sites t k.made) in
      let f = small_at (smalls t.terms) k.term in
      let no_moves : moves defs ask 0 f ≡ [] = zip_empty (IsSuccessor (smalls terms)) next (moves defs ask 0 f) all none in
      let same_u : small_at (smalls u.terms) k.term ≡ f = term_kept t u k.term keeps is.0 in
      let same_w : small_at (smalls w.terms) k.term ≡ f = term_kept t w k.term (keeps_both t u w keeps keeps_w) is.0 in
      let still : moves_now defs (small_at (smalls u.terms) k.term) ≡ false = ap (moves_now defs) same_u ∙ none_moves defs ask 0 f no_moves in
      let there_u : IsIn from u.states = in_grows from t.states u.states keeps.states there in
      let there_w : IsIn from w.states = in_grows from u.states w.states keeps_w.states there_u in
      let leads_u : LeadsTo defs keep sites u from k.term = leads_kept t u from k.term keeps (known.0 at.0 from at.1) is.0 leads in
      let leads_w : LeadsTo defs keep sites w from k.term = leads_kept t w from k.term (keeps_both t u w keeps keeps_w) (known.0 at.0 from at.1) is.0 leads in
      ends_found begin w v known_w keeps_v from k.term (ending_if true (small_at (smalls w.terms) k.term)) there_w leads_w states end
      (λ e h. ap (λ (g : Small). ending defs g) same_w ∙ still_ends defs ask 0 f no_moves ∙ ap (λ (g : Small). ending_if true g) (sym same_w) ∙ h)
      (states_found begin u w known_u keeps_w from there_u (waited_comes u w behind k leads_u still waited) ends_w
      (states_found begin t u known keeps from there (after_comes t terms behind k next u leads all adds) ends found))

  -- with more terms, and no state and no end more
  pub found_kept_all : (begin : State) (t u : Tables) → AreKnown t → Keeps t u → u.states ≡ t.states → u.ends ≡ t.ends → (from : Key) → IsIn from t.states → AreFound defs keep begin sites t → AreFound defs keep begin sites u
  found_kept_all begin t u known keeps states ends from is found = states_found begin t u known keeps from is (λ i k h. inl (ap (λ (l : List Key). slice_get l i) (sym states) ∙ h)) ends found
