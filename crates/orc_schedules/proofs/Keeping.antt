-- What the tables of a search keep while more is added.
use Rattle.std.proofs.Common.{◌≡◌, ◌<◌, ◌≤◌, ℕ, zero, suc, List, [], ◌∷◌, ◌++◌, length, map, Some, None, ◌⊎◌, Bool, true, false, refl, sym, ap, ◌∙◌, subst, inl, inr, arith, below_more, ◌+◌}
use Rattle.std.specs.Prelude.{slice_get, cond, not}
use Rattle.std.specs.List.{AllZip}
use Rattle.orc_rules.specs.Sites.{Site}
use Rattle.orc_rules.specs.Timed.{IsIn}
use Rattle.orc_outcome.specs.declared.end.End.{End}
use Rattle.orc_outcome.specs.declared.end.End.TheVariants.{Halted, Quiet}
use Rattle.orc_search.specs.declared.node.Node.{Node}
use Rattle.orc_search.specs.declared.node.Summary.{Summary}
use Rattle.orc_search.specs.declared.successor.Successor.{Successor}
use Rattle.orc_search.specs.Asked.{coming_of_made}
use Rattle.orc_search.specs.Small.{Small, nothing}
use Rattle.orc_search.specs.Moves.{Happening, SmallDefinition, Moves}
use Rattle.orc_search.specs.Moving.{happening_of, IsSuccessor}
use Rattle.orc_search.specs.Nodes.{small_at, smalls, summary_of}
use Rattle.orc_search.specs.Graphs.{Ending, halted, quiet, quiet_if}
use Rattle.orc_search.specs.States.{State, Sight, happens, waits, coming_after, next_call, Goes}
use Rattle.orc_search.specs.Successors.{least_left, some_time, moves, wait}
use Rattle.orc_search.specs.Ticks.{is_over, pass}
use Rattle.orc_search.proofs.Successors.{moves_are_listed, passes_by_wait}
use Rattle.orc_schedules.specs.declared.states.Key.{Key}
use Rattle.orc_schedules.specs.declared.told.Told.{Told}
use Rattle.orc_schedules.specs.declared.tables.Tables.{Tables}
use Rattle.orc_schedules.specs.Growing.{Grows}
use Rattle.orc_schedules.specs.Lists.{lists}
use Rattle.orc_schedules.specs.Reached.{Reached, EndSeen, end_of}
use Rattle.orc_schedules.specs.Seen.{Kept, Past, nothing_yet, seen_after}
use Rattle.orc_schedules.specs.Tables.{IsKnown, AreKnown, seen_at, coming_at, reached_at, reached, outcome_at, outcomes, Keeps, after, IsDone, IsLookedAt, waited, ending_if}
use Rattle.orc_schedules.proofs.Growing.{or_else, grows_self, grows_both, grows_len, grows_or, get_or_is, in_grows, in_map, each_added}
use Rattle.orc_schedules.proofs.Waits.{moving_waits, moving_ends, still_waits, still_ends}

pub keeps_self : (t : Tables) → Keeps t t
keeps_self t = record { terms = grows_self (smalls t.terms); counts = grows_self t.counts; lists = grows_self (lists t.lists); states = grows_self t.states; ends = grows_self t.ends; longest = omega arith }

pub terms_keep : (t : Tables) (terms : List Node) → Grows (smalls t.terms) (smalls terms) → Keeps t (record t { terms = terms })
terms_keep t terms more = record { terms = more; counts = grows_self t.counts; lists = grows_self (lists t.lists); states = grows_self t.states; ends = grows_self t.ends; longest = omega arith }

pub keeps_both : (t u v : Tables) → Keeps t u → Keeps u v → Keeps t v
keeps_both t u v a b = record {
  terms = grows_both (smalls t.terms) (smalls u.terms) (smalls v.terms) a.terms b.terms;
  counts = grows_both t.counts u.counts v.counts a.counts b.counts;
  lists = grows_both (lists t.lists) (lists u.lists) (lists v.lists) a.lists b.lists;
  states = grows_both t.states u.states v.states a.states b.states;
  ends = grows_both t.ends u.ends v.ends a.ends b.ends;
  longest = let p = a.longest in let q = b.longest in omega (arith, p, q);
}

pub known_kept : (t u : Tables) (k : Key) → Keeps t u → IsKnown t k → IsKnown u k
known_kept t u k keeps known =
    let a = grows_len (smalls t.terms) (smalls u.terms) keeps.terms in
    let b = grows_len t.counts u.counts keeps.counts in
    let c = grows_len (lists t.lists) (lists u.lists) keeps.lists in
    (omega (arith, a, known.0), omega (arith, b, known.1), omega (arith, c, known.2))

-- with one state more
pub states_known : (a b c a' b' c' : ℕ) → a ≤ a' → b ≤ b' → c ≤ c' → (old new : List Key) (key : Key) → (new ≡ old) ⊎ (new ≡ old ++ key ∷ [])
    → ((i : ℕ) (k : Key) → slice_get old i ≡ Some k → (k.term < a) × (k.made < b) × (k.seen < c)) → (key.term < a') × (key.made < b') × (key.seen < c')
    → (i : ℕ) (k : Key) → slice_get new i ≡ Some k → (k.term < a') × (k.made < b') × (k.seen < c')
states_known a b c a' b' c' p q r old new key added all here = each_added (λ (k : Key). (k.term < a') × (k.made < b') × (k.seen < c')) old new key added
    (λ i k h. let known = all i k h in (omega (arith, p, known.0), omega (arith, q, known.1), omega (arith, r, known.2))) here

pub ends_known : (c c' : ℕ) → c ≤ c' → (ends : List Told) → ((i : ℕ) (e : Told) → slice_get ends i ≡ Some e → e.seen < c) → (i : ℕ) (e : Told) → slice_get ends i ≡ Some e → e.seen < c'
ends_known c c' r ends all i e h = let known = all i e h in omega (arith, r, known)

map_same : {X Y : Type 0} (f g : X → Y) (xs : List X) → ((i : ℕ) (x : X) → slice_get xs i ≡ Some x → f x ≡ g x) → map f xs ≡ map g xs
map_same f g [] same = refl
map_same f g (x ∷ xs) same = λ i. same 0 x refl i ∷ map_same f g xs (λ j y h. same (suc j) y h) i

map_both : {X Y : Type 0} (f : X → Y) (xs ys : List X) → map f (xs ++ ys) ≡ map f xs ++ map f ys
map_both f [] ys = refl
map_both f (x ∷ xs) ys = λ i. f x ∷ map_both f xs ys i

map_grows : {X Y : Type 0} (f : X → Y) (xs ys : List X) → Grows xs ys → Grows (map f xs) (map f ys)
map_grows f xs ys g = (map f g.0, ap (map f) g.1 ∙ map_both f xs g.0)

pub seen_kept : (t u : Tables) (i : ℕ) → Keeps t u → i < length (lists t.lists) → seen_at u i ≡ seen_at t i
seen_kept t u i keeps lt = grows_or (lists t.lists) (lists u.lists) i nothing_yet keeps.lists lt

pub term_kept : (t u : Tables) (i : ℕ) → Keeps t u → i < length (smalls t.terms) → small_at (smalls u.terms) i ≡ small_at (smalls t.terms) i
term_kept t u i keeps lt = grows_or (smalls t.terms) (smalls u.terms) i nothing keeps.terms lt

pub outcomes_grow : (t u : Tables) → Keeps t u → AreKnown t → Grows (outcomes t) (outcomes u)
outcomes_grow t u keeps known = subst (λ (os : List EndSeen). Grows os (outcomes u)) (map_same (outcome_at u) (outcome_at t) t.ends (λ i e h j. (e.end, seen_kept t u e.seen keeps (known.1 i e h) j))) (map_grows (outcome_at u) t.ends u.ends keeps.ends)

module _ (keep : Kept) (sites : List Site) where
  pub coming_kept : (t u : Tables) (i : ℕ) → Keeps t u → i < length t.counts → coming_at sites u i ≡ coming_at sites t i
  coming_kept t u i keeps lt = ap (coming_of_made sites) (grows_or t.counts u.counts i [] keeps.counts lt)

  pub reached_kept : (t u : Tables) (k : Key) → Keeps t u → IsKnown t k → reached_at sites u k ≡ reached_at sites t k
  reached_kept t u k keeps known = λ i. (record { term = term_kept t u k.term keeps known.0 i; coming = coming_kept t u k.made keeps known.1 i }, seen_kept t u k.seen keeps known.2 i)

  pub reached_grow : (t u : Tables) → Keeps t u → AreKnown t → Grows (reached sites t) (reached sites u)
  reached_grow t u keeps known = subst (λ (rs : List Reached). Grows rs (reached sites u)) (map_same (reached_at sites u) (reached_at sites t) t.states (λ i k h. reached_kept t u k keeps (known.0 i k h))) (map_grows (reached_at sites u) t.states u.states keeps.states)

  pub after_kept : (t u : Tables) (k : Key) (s : Successor) → Keeps t u → IsKnown t k → s.to < length (smalls t.terms) → after keep sites u k s ≡ after keep sites t k s
  after_kept t u k s keeps known lt = λ i. (record { term = term_kept t u s.to keeps lt i; coming = coming_after (happening_of s.happening) (coming_kept t u k.made keeps known.1 i) }, seen_after keep (seen_kept t u k.seen keeps known.2 i) (happens (happening_of s.happening)))

  done_more : (defs : List SmallDefinition) (t u : Tables) (r : Reached) → Keeps t u → AreKnown t → IsDone defs keep (reached sites t) t.longest (outcomes t) r → IsDone defs keep (reached sites u) u.longest (outcomes u) r
  done_more defs t u r keeps known done = record {
    followed = λ v s g. in_grows (s, seen_after keep r.1 v) (reached sites t) (reached sites u) (reached_grow t u keeps known) (done.followed v s g);
    waits = λ by h. let le = done.waits by h in let more = keeps.longest in omega (arith, le, more);
    told = λ e h. in_grows (end_of e, r.1) (outcomes t) (outcomes u) (outcomes_grow t u keeps known) (done.told e h);
  }

  pub looked_kept : (defs : List SmallDefinition) (t u : Tables) (k : Key) → Keeps t u → AreKnown t → IsKnown t k
      → IsLookedAt defs keep (reached sites t) t.longest (outcomes t) (reached_at sites t k) → IsLookedAt defs keep (reached sites u) u.longest (outcomes u) (reached_at sites u k)
  looked_kept defs t u k keeps known is looked = subst (λ (r : Reached). IsLookedAt defs keep (reached sites u) u.longest (outcomes u) r) (sym (reached_kept t u k keeps is)) (record {
    ahead = looked.ahead;
    is = looked.is;
    done = done_more defs t u (looked.ahead, seen_at t k.seen) keeps known looked.done;
  })

  -- what is followed further, over one more successor
  pub followed_next : (t u v : Tables) (k : Key) (next : List Successor) (at : ℕ) (s : Successor) → Keeps t u → Keeps u v → AreKnown u → IsKnown t k → ((i : ℕ) (s : Successor) → slice_get next i ≡ Some s → s.to < length (smalls t.terms))
      → slice_get next at ≡ Some s → ((i : ℕ) (s : Successor) → i < at → slice_get next i ≡ Some s → IsIn {X = Reached} (after keep sites t k s) (reached sites u)) → IsIn {X = Reached} (after keep sites u k s) (reached sites v)
      → (i : ℕ) (s : Successor) → i < at + 1 → slice_get next i ≡ Some s → IsIn {X = Reached} (after keep sites t k s) (reached sites v)
  followed_next t u v k next at s keeps more known is within h before here = λ i r lt g. below_more (λ (j : ℕ). (r : Successor) → slice_get next j ≡ Some r → IsIn {X = Reached} (after keep sites t k r) (reached sites v)) at
      (λ j l r q. in_grows (after keep sites t k r) (reached sites u) (reached sites v) (reached_grow u v more known) (before j r l q))
      (λ r q. let same : s ≡ r = some_same s r (sym h ∙ q) in
      subst (λ (x : Successor). IsIn {X = Reached} (after keep sites t k x) (reached sites v)) same
      (subst (λ (x : Reached). IsIn {X = Reached} x (reached sites v)) (after_kept t u k s keeps is (within at s h)) here))
      i lt r g
    where
      some_same : (a b : Successor) → Some a ≡ Some b → a ≡ b
      some_same a b e = ap (or_else a) e

module _ {A B : Type 0} (R : A → B → Type 0) where
  zip_in : (xs : List A) (ys : List B) → AllZip R xs ys → (y : B) → IsIn y ys → (i : ℕ) × (x : A) × (slice_get xs i ≡ Some x) × R x y
  zip_in [] [] z y is = elim is [ ]
  zip_in [] (b ∷ ys) z y is = elim z [ ]
  zip_in (x ∷ xs) [] z y is = elim z [ ]
  zip_in (x ∷ xs) (b ∷ ys) z y (inl same) = (0, x, refl, subst (λ (w : B). R x w) (sym same) z.0)
  zip_in (x ∷ xs) (b ∷ ys) z y (inr later) = let m = zip_in xs ys z.1 y later in (suc m.0, m.1, m.2, m.3)

  zip_none : (xs : List A) (ys : List B) → AllZip R xs ys → ys ≡ [] → xs ≡ []
  zip_none [] ys z e = refl
  zip_none (x ∷ xs) [] z e = elim z [ ]
  zip_none (x ∷ xs) (b ∷ ys) z e = cc e

  none_zip : (xs : List A) (ys : List B) → AllZip R xs ys → xs ≡ [] → ys ≡ []
  none_zip xs [] z e = refl
  none_zip [] (b ∷ ys) z e = elim z [ ]
  none_zip (x ∷ xs) (b ∷ ys) z e = cc e

  pub zip_each : (P : A → Type 0) → ((x : A) (y : B) → R x y → P x) → (xs : List A) (ys : List B) → AllZip R xs ys → (i : ℕ) (x : A) → slice_get xs i ≡ Some x → P x
  zip_each P all [] ys z i x h = cc h
  zip_each P all (a ∷ xs) [] z i x h = elim z [ ]
  zip_each P all (a ∷ xs) (b ∷ ys) z zero x h = subst P (ap (or_else a) h) (all a b z.0)
  zip_each P all (a ∷ xs) (b ∷ ys) z (suc i) x h = zip_each P all xs ys z.1 i x h

-- a state after which all successors were followed
module _ (defs : List SmallDefinition) (keep : Kept) (sites : List Site) (t : Tables) (terms : List Node) (k : Key) (next : List Successor)
    (all : AllZip (IsSuccessor (smalls terms)) next (moves defs (next_call (coming_at sites t k.made)) 0 (small_at (smalls t.terms) k.term))) where
  happens_in : (rs : List Reached) → ((i : ℕ) (s : Successor) → slice_get next i ≡ Some s → IsIn {X = Reached} (after keep sites (record t { terms = terms }) k s) rs)
      → (h : Happening) (s : State) → Moves defs (next_call (coming_at sites t k.made)) 0 (small_at (smalls t.terms) k.term) h s.term → s.coming ≡ coming_after h (coming_at sites t k.made)
      → IsIn {X = Reached} (s, seen_after keep (seen_at t k.seen) (happens h)) rs
  happens_in rs followed h s move coming =
      let ask = next_call (coming_at sites t k.made) in
      let f = small_at (smalls t.terms) k.term in
      let m = zip_in (IsSuccessor (smalls terms)) next (moves defs ask 0 f) all (h, s.term) (moves_are_listed defs ask 0 f s.term h move) in
      let to : small_at (smalls terms) m.1.to ≡ s.term = get_or_is (smalls terms) m.1.to s.term nothing m.3.1 in
      let what : happening_of m.1.happening ≡ h = m.3.0 in
      let later : coming_after (happening_of m.1.happening) (coming_at sites t k.made) ≡ s.coming = ap (λ (x : Happening). coming_after x (coming_at sites t k.made)) what ∙ sym coming in
      subst (λ (r : Reached). IsIn {X = Reached} r rs) (λ i. (record { term = to i; coming = later i }, seen_after keep (seen_at t k.seen) (happens (what i)))) (followed m.0 m.1 m.2)

  moving : (next ≡ [] → ⊥) → moves defs (next_call (coming_at sites t k.made)) 0 (small_at (smalls t.terms) k.term) ≡ [] → ⊥
  moving some e = some (zip_none (IsSuccessor (smalls terms)) next (moves defs (next_call (coming_at sites t k.made)) 0 (small_at (smalls t.terms) k.term)) all e)

  moving_followed : (u v : Tables) → (next ≡ [] → ⊥) → AreKnown u → Keeps u v → ((i : ℕ) (s : Successor) → slice_get next i ≡ Some s → IsIn {X = Reached} (after keep sites (record t { terms = terms }) k s) (reached sites u))
      → (x : Sight) (s : State) → Goes defs (reached_at sites t k).0 x s → IsIn {X = Reached} (s, seen_after keep (seen_at t k.seen) x) (reached sites v)
  moving_followed u v some known more followed (happens h) s g = in_grows (s, seen_after keep (seen_at t k.seen) (happens h)) (reached sites u) (reached sites v) (reached_grow keep sites u v more known) (happens_in (reached sites u) followed h s g.0 g.1)
  moving_followed u v some known more followed (waits by) s g =
      absurd (moving_waits defs (next_call (coming_at sites t k.made)) 0 (small_at (smalls t.terms) k.term) by (moving some) ((passes_by_wait defs (small_at (smalls t.terms) k.term) s.term by g.0).0))

  pub moving_done : (u v : Tables) → (next ≡ [] → ⊥) → Keeps t u → AreKnown u → IsKnown t k → Keeps u v
      → ((i : ℕ) (s : Successor) → slice_get next i ≡ Some s → IsIn {X = Reached} (after keep sites (record t { terms = terms }) k s) (reached sites u))
      → ((e : Ending) → ending_if false (small_at (smalls u.terms) k.term) ≡ Some e → IsIn {X = EndSeen} (end_of e, seen_at u k.seen) (outcomes v))
      → IsDone defs keep (reached sites v) v.longest (outcomes v) (reached_at sites t k)
  moving_done u v some keeps known is more followed told =
      let ask = next_call (coming_at sites t k.made) in
      let f = small_at (smalls t.terms) k.term in
      record {
        followed = moving_followed u v some known more followed;
        waits = λ by h. absurd (moving_waits defs ask 0 f by (moving some) h);
        told = λ e h. subst (λ (vs : Past). IsIn {X = EndSeen} (end_of e, vs) (outcomes v)) (seen_kept t u k.seen keeps is.2)
            (told e (ap (ending_if false) (term_kept t u k.term keeps is.0) ∙ moving_ends defs ask 0 f e (moving some) h));
      }

  still : next ≡ [] → moves defs (next_call (coming_at sites t k.made)) 0 (small_at (smalls t.terms) k.term) ≡ []
  still none = none_zip (IsSuccessor (smalls terms)) next (moves defs (next_call (coming_at sites t k.made)) 0 (small_at (smalls t.terms) k.term)) all none

  no_item : next ≡ [] → (i : ℕ) (s : Successor) → slice_get next i ≡ Some s → ⊥
  no_item none i s h = let e : slice_get [] i ≡ Some s = ap (λ (l : List Successor). slice_get l i) (sym none) ∙ h in cc e

  module _ (u w : Tables) (none : next ≡ []) (keeps : Keeps t u) (is : IsKnown t k)
      (waiting : (sites : List Site) (by : ℕ) → some_time (least_left (small_at (smalls u.terms) k.term)) ≡ Some by → (by ≤ w.longest) × IsIn {X = Reached} (waited keep sites u k by) (reached sites w)) where
    time_there : (by : ℕ) → wait defs (small_at (smalls t.terms) k.term) ≡ Some by → some_time (least_left (small_at (smalls u.terms) k.term)) ≡ Some by
    time_there by h =
        ap (λ (g : Small). some_time (least_left g)) (term_kept t u k.term keeps is.0)
        ∙ sym (still_waits defs (next_call (coming_at sites t k.made)) 0 (small_at (smalls t.terms) k.term) (still none)) ∙ h

    still_followed : (v : Tables) → AreKnown w → Keeps w v → (x : Sight) (s : State) → Goes defs (reached_at sites t k).0 x s → IsIn {X = Reached} (s, seen_after keep (seen_at t k.seen) x) (reached sites v)
    still_followed v known more (happens h) s g = happens_in (reached sites v) (λ i r q. absurd (no_item none i r q)) h s g.0 g.1
    still_followed v known more (waits by) s g =
        let f = small_at (smalls t.terms) k.term in
        let p = passes_by_wait defs f s.term by g.0 in
        let there = (waiting sites by (time_there by p.0)).1 in
        let term : pass by (small_at (smalls u.terms) k.term) ≡ s.term = ap (pass by) (term_kept t u k.term keeps is.0) ∙ sym p.1 in
        let coming : coming_at sites u k.made ≡ s.coming = coming_kept keep sites t u k.made keeps is.1 ∙ sym g.1 in
        in_grows (s, seen_after keep (seen_at t k.seen) (waits by)) (reached sites w) (reached sites v) (reached_grow keep sites w v more known)
        (subst (λ (r : Reached). IsIn {X = Reached} r (reached sites w)) (λ i. (record { term = term i; coming = coming i }, seen_after keep (seen_kept t u k.seen keeps is.2 i) (waits by))) there)

    pub still_done : (v : Tables) → Keeps t w → AreKnown w → Keeps w v → ((e : Ending) → ending_if true (small_at (smalls w.terms) k.term) ≡ Some e → IsIn {X = EndSeen} (end_of e, seen_at w k.seen) (outcomes v))
        → IsDone defs keep (reached sites v) v.longest (outcomes v) (reached_at sites t k)
    still_done v keeps' known more told = record {
      followed = still_followed v known more;
      waits = λ by h. let le = (waiting sites by (time_there by h)).0 in let further = more.longest in omega (arith, le, further);
      told = λ e h. subst (λ (vs : Past). IsIn {X = EndSeen} (end_of e, vs) (outcomes v)) (seen_kept t w k.seen keeps' is.2)
          (told e (ap (ending_if true) (term_kept t w k.term keeps' is.0) ∙ sym (still_ends defs (next_call (coming_at sites t k.made)) 0 (small_at (smalls t.terms) k.term) (still none)) ∙ h));
    }

-- the ends that are told
ends_same : (a e : Ending) → Some a ≡ Some e → end_of a ≡ end_of e
ends_same a e h = ap end_of (ap (or_else a) h)

pub halted_told : (still : Bool) (f : Small) (s : Summary) (e : Ending) → s ≡ summary_of f → s.over ≡ true → ending_if still f ≡ Some e → Halted ≡ end_of e
halted_told still f s e is over h =
    let o : is_over f ≡ true = sym (ap Summary.over is) ∙ over in
    ends_same halted e (ap (λ (b : Bool). cond b (Some halted) (quiet_if (not still) (least_left f))) (sym o) ∙ h)

pub quiet_told : (still : Bool) (f : Small) (s : Summary) (e : Ending) → s ≡ summary_of f → s.over ≡ false → still ≡ true → s.left ≡ None → ending_if still f ≡ Some e → Quiet ≡ end_of e
quiet_told still f s e is over now left h =
    let o : is_over f ≡ false = sym (ap Summary.over is) ∙ over in
    let l : least_left f ≡ None = sym (ap Summary.left is) ∙ left in
    ends_same quiet e ((λ i. cond (sym o i) (Some halted) (quiet_if (not (sym now i)) (sym l i))) ∙ h)

pub time_some : (f : Small) (s : Summary) (by by' : ℕ) → s ≡ summary_of f → s.left ≡ Some by → some_time (least_left f) ≡ Some by' → by ≡ by'
time_some f s by by' is left h = go by (ap some_time (sym left ∙ ap Summary.left is) ∙ h) where
  go : (n : ℕ) → some_time (Some n) ≡ Some by' → n ≡ by'
  go zero e = cc e
  go (suc n) e = cc e

pub told_in : (t : Tables) (ends : List Told) (end : End) (seen : ℕ) (how : End) → IsIn (record { end = end; seen = seen }) ends → end ≡ how → IsIn {X = EndSeen} (how, seen_at t seen) (outcomes (record t { ends = ends }))
told_in t ends end seen how there same = subst (λ (h : End). IsIn {X = EndSeen} (h, seen_at t seen) (outcomes (record t { ends = ends }))) same (in_map (outcome_at (record t { ends = ends })) (record { end = end; seen = seen }) ends there)
