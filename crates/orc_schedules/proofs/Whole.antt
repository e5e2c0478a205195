-- All states are looked at, and all ends are told.
use Rattle.std.proofs.Common.{inl, inr, take, ◌≡◌, ◌<◌, ◌≤◌, ◌*◌, ◌^◌, ◌+◌, ℕ, suc, List, [], ◌∷◌, ◌++◌, length, map, Some, get_or, refl, sym, ap, ◌∙◌, subst, arith, below_more, ◌⊎◌}
use Rattle.std.specs.Prelude.{slice_get}
use Rattle.std.proofs.lemmas.List.{take_more, take_all}
use Rattle.orc_rules.specs.declared.value.Value.{Value}
use Rattle.orc_rules.specs.Nodes.{Listing, source}
use Rattle.orc_rules.specs.Sites.{Site, Table}
use Rattle.orc_rules.specs.Timed.{IsIn}
use Rattle.orc_rules.specs.Trace.{published}
use Rattle.orc_claims.specs.declared.claim.Simple.{Simple}
use Rattle.orc_tally.specs.declared.sight.ClaimSite.{ClaimSite}
use Rattle.orc_outcome.specs.declared.end.End.{End}
use Rattle.orc_search.specs.Moves.{SmallDefinition}
use Rattle.orc_search.specs.Asked.{coming_of_made}
use Rattle.orc_search.specs.Nodes.{smalls}
use Rattle.orc_search.specs.Programs.{small, small_definitions}
use Rattle.orc_search.specs.Small.{Small, nothing}
use Rattle.orc_search.proofs.Nodes.{within, map_last}
use Rattle.orc_schedules.specs.declared.ended.Ended.{Ended}
use Rattle.orc_schedules.specs.declared.told.Told.{Told}
use Rattle.orc_schedules.specs.declared.states.Key.{Key}
use Rattle.orc_schedules.specs.declared.tables.Tables.{Tables}
use Rattle.orc_schedules.specs.Growing.{Grows}
use Rattle.orc_schedules.specs.Lists.{list_at, lists}
use Rattle.orc_schedules.specs.Counts.{made_at}
use Rattle.orc_schedules.specs.Adding.{Outcome, outcome_of, shown_of}
use Rattle.orc_schedules.specs.Reached.{Reached, IsAmong, first, AreAll, AreAllSeen}
use Rattle.orc_schedules.specs.Seen.{Kept, kept, nothing_yet, seen_of, values_of}
use Rattle.orc_schedules.specs.Tables.{AreKnown, IsKnown, AreDone, IsLookedAt, Keeps, reached, reached_at, outcome_at, outcomes}
use Rattle.orc_schedules.specs.Watch.{publications}
use Rattle.orc_schedules.proofs.Journals.{published_seen}
use Rattle.orc_schedules.proofs.Growing.{in_get, in_map, of_map, grows_get, get_back, get_or_is, grows_len, grows_or, in_grows, each_added, none_get}
use Rattle.orc_schedules.proofs.Keeping.{looked_kept, reached_grow}
use Rattle.orc_schedules.proofs.Longer.{lists_len}
use Rattle.orc_schedules.proofs.Found.{all_are_found}

-- one end more is told
abbrev shown_at : Tables → Told → Outcome
shown_at t d = shown_of (outcome_at t d)

map_twice : {X Y Z : Type 0} (f : X → Y) (g : Y → Z) (xs : List X) → map (λ (x : X). g (f x)) xs ≡ map g (map f xs)
map_twice f g [] = refl
map_twice f g (x ∷ xs) = ap (λ zs. g (f x) ∷ zs) (map_twice f g xs)

pub told_next : (t : Tables) (ends : List Told) (es : List Ended) (at : ℕ) (d : Told) (e : Ended) → at < length ends → map outcome_of es ≡ map (shown_at t) (take at ends) → outcome_of e ≡ shown_of (outcome_at t (get_or ends at d))
    → map outcome_of (es ++ e ∷ []) ≡ map (shown_at t) (take (at + 1) ends)
told_next t ends es at d e lt so_far is =
    map_last outcome_of es e ∙ (λ i. so_far i ++ is i ∷ []) ∙ sym (map_last (shown_at t) (take at ends) (get_or ends at d)) ∙ ap (map (shown_at t)) (sym (take_more ends at d lt))

pub all_told : (t : Tables) (ends : List Told) (es : List Ended) (at : ℕ) → length ends ≤ at → map outcome_of es ≡ map (shown_at t) (take at ends) → map outcome_of es ≡ map shown_of (map (outcome_at t) ends)
all_told t ends es at le so_far = so_far ∙ ap (map (shown_at t)) (take_all at ends le) ∙ map_twice (outcome_at t) shown_of ends

among : (es : List Ended) (end : End) (vs : List Value) → IsIn {X = Outcome} (end, vs) (map outcome_of es) → IsAmong es end vs
among [] end vs is = elim is [ ]
among (e ∷ es) end vs (inl same) = (0, e, refl, sym (ap (λ (o : Outcome). o.0) same), sym (ap (λ (o : Outcome). o.1) same))
among (e ∷ es) end vs (inr later) = let a = among es end vs later in (suc a.0, a.1, a.2, a.3, a.4)

module _ (defs : List SmallDefinition) (keep : Kept) (sites : List Site) where
  -- one state more is looked at
  pub done_next : (t u : Tables) (at : ℕ) (k : Key) → Keeps t u → AreKnown t → slice_get t.states at ≡ Some k → AreDone defs keep sites t at
      → IsLookedAt defs keep (reached sites u) u.longest (outcomes u) (reached_at sites u k) → AreDone defs keep sites u (at + 1)
  done_next t u at k keeps known h before here i j lt g = below_more (λ (n : ℕ). (j : Key) → slice_get u.states n ≡ Some j → IsLookedAt defs keep (reached sites u) u.longest (outcomes u) (reached_at sites u j)) at
      (λ n l j q. old n l j q)
      (λ j q. let same : k ≡ j = some_key k j (sym (grows_get t.states u.states at k keeps.states h) ∙ q) in subst (λ (y : Key). IsLookedAt defs keep (reached sites u) u.longest (outcomes u) (reached_at sites u y)) same here)
      i lt j g
    where
      some_key : (a b : Key) → Some a ≡ Some b → a ≡ b
      some_key a b q = cc q

      old : (n : ℕ) → n < at → (j : Key) → slice_get u.states n ≡ Some j → IsLookedAt defs keep (reached sites u) u.longest (outcomes u) (reached_at sites u j)
      old n l j q =
          let is : slice_get t.states n ≡ Some j = get_back t.states u.states n j keeps.states (omega (arith, l, within t.states at k h)) q in
          looked_kept keep sites defs t u j keeps known (known.0 n j is) (before n j l is)

  pub all_done : (t : Tables) → AreDone defs keep sites t (length t.states) → (r : Reached) → IsIn r (reached sites t) → IsLookedAt defs keep (reached sites t) t.longest (outcomes t) r
  all_done t done r is =
      let o = of_map (reached_at sites t) r t.states is in
      let g = in_get o.0 t.states o.1 in
      subst (λ (x : Reached). IsLookedAt defs keep (reached sites t) t.longest (outcomes t) x) (sym o.2) (done g.0 o.0 (within t.states g.0 o.0 g.1) g.1)

-- so the ends are all that there are
pub whole : (l : Listing) (a : Table) (names : List Simple) (sites : List ClaimSite) (last limit : ℕ) (t : Tables) → AreDone (small_definitions l) (kept names sites last) a.sites t (length t.states) → IsIn {X = Reached} (first l a, nothing_yet) (reached a.sites t)
    → suc limit * t.longest < 2 ^ 64 → AreAllSeen l a names sites last limit (outcomes t)
whole l a names sites last limit t done there time =
    let each = all_done (small_definitions l) (kept names sites last) a.sites t done in
    all_are_found l a names sites last limit t.longest (reached a.sites t) (outcomes t) each there time

-- and what they published all that there is
pub whole_shown : (l : Listing) (a : Table) (limit : ℕ) (t : Tables) (es : List Ended) → AreAllSeen l a publications [] 0 limit (outcomes t) → map outcome_of es ≡ map shown_of (outcomes t) → AreAll l a limit es
whole_shown l a limit t es all told o run ended =
    let there : IsIn {X = Outcome} (o.end, values_of (seen_of publications [] 0 o.journal o.now)) (map shown_of (outcomes t)) = in_map shown_of (o.end, seen_of publications [] 0 o.journal o.now) (outcomes t) (all o run ended).0 in
    among es o.end (published o.journal) (subst (λ (vs : List Value). IsIn {X = Outcome} (o.end, vs) (map outcome_of es)) (published_seen [] 0 o.journal o.now)
    (subst (λ (os : List Outcome). IsIn {X = Outcome} (o.end, values_of (seen_of publications [] 0 o.journal o.now)) os) (sym told) there))

-- the first state is there
pub first_there : (keep : Kept) (l : Listing) (a : Table) (t u : Tables) (term : ℕ) → Grows ([] ∷ []) t.counts → t.lists ≡ record { calls = []; longer = [] } → slice_get (smalls t.terms) term ≡ Some (small (source l)) → IsIn (record { term = term; made = 0; seen = 0 }) t.states → Keeps t u → AreKnown t
    → IsIn {X = Reached} (first l a, nothing_yet) (reached a.sites u)
first_there keep l a t u term counts values is there keeps known =
    let key : Key = record { term = term; made = 0; seen = 0 } in
    let none : made_at t.counts 0 ≡ [] = grows_or ([] ∷ []) t.counts 0 [] counts (omega arith) in
    in_grows (first l a, nothing_yet) (reached a.sites t) (reached a.sites u) (reached_grow keep a.sites t u keeps known)
    (subst (λ (r : Reached). IsIn {X = Reached} r (reached a.sites t)) (λ i. (record { term = get_or_is (smalls t.terms) term (small (source l)) nothing is i; coming = coming_of_made a.sites (none i) }, list_at (lists (values i)) 0))
    (in_map (reached_at a.sites t) key t.states there))

-- and its numbers are known
pub first_known : (t : Tables) (old : List Key) (term : ℕ) (f : Small) → Grows ([] ∷ []) t.counts → t.ends ≡ [] → old ≡ [] → (t.states ≡ old) ⊎ (t.states ≡ old ++ record { term = term; made = 0; seen = 0 } ∷ []) → slice_get (smalls t.terms) term ≡ Some f → AreKnown t
first_known t old term f counts ends none added is =
    let key : Key = record { term = term; made = 0; seen = 0 } in
    let many = grows_len ([] ∷ []) t.counts counts in
    let lists_there = lists_len t.lists.calls t.lists.longer in
    (each_added (IsKnown t) old t.states key added (λ i k h. absurd (none_get old i k none h)) (within (smalls t.terms) term f is, omega (arith, many), omega (arith, lists_there)), λ i e h. absurd (none_get t.ends i e ends h))
