-- The early steps that a search takes alone.
use Rattle.std.proofs.Common.{◌≡◌, ◌<◌, ℕ, List, [], ◌∷◌, ◌++◌, length, true, refl, sym, ap, ◌∙◌, subst, arith, length-append}
use Rattle.std.specs.Prelude.{slice_get}
use Rattle.orc_rules.specs.Sites.{Site}
use Rattle.orc_claims.specs.declared.happening.Happening.{Happening as Told_of}
use Rattle.orc_claims.specs.declared.happening.Occurrence.{Occurrence}
use Rattle.orc_search.specs.declared.successor.Successor.{Successor}
use Rattle.orc_search.specs.Asked.{coming_of_made}
use Rattle.orc_search.specs.Early.{IsHidden, stays, early}
use Rattle.orc_search.specs.Moves.{Happening, SmallDefinition}
use Rattle.orc_search.specs.Moving.{happening_of}
use Rattle.orc_search.specs.Nodes.{small_at, smalls}
use Rattle.orc_search.specs.Parts.{IsEarly}
use Rattle.orc_search.specs.States.{happens, coming_after, next_call}
use Rattle.orc_search.proofs.Ahead.{hidden_early, leads_both}
use Rattle.orc_schedules.specs.declared.states.Key.{Key}
use Rattle.orc_schedules.specs.declared.tables.Tables.{Tables}
use Rattle.orc_schedules.specs.declared.told.Told.{Told}
use Rattle.orc_schedules.specs.Counts.{made_at}
use Rattle.orc_schedules.specs.Lists.{list_at, lists}
use Rattle.orc_schedules.specs.Reached.{Reached}
use Rattle.orc_schedules.specs.Seen.{Kept, Past, is_nothing, is_unkept, seen_after}
use Rattle.orc_schedules.specs.Tables.{AreKnown, IsKnown, Keeps, IsDone, IsLookedAt, LeadsTo, coming_at, outcomes, reached, reached_at, seen_at}
use Rattle.orc_schedules.specs.Watch.{all_at}
use Rattle.orc_schedules.proofs.Adding.{leads_kept}
use Rattle.orc_schedules.proofs.Growing.{grows_len}
use Rattle.orc_schedules.proofs.Keeping.{coming_kept, known_kept, reached_kept, seen_kept}

adds_nothing : (hs : List Told_of) (now : ℕ) (us : List Occurrence) → hs ++ all_at now us ≡ hs → is_nothing us ≡ true
adds_nothing hs now [] e = refl
adds_nothing hs now (u ∷ us) e = let l = ap length e in absurd (omega (arith, l, length-append hs (all_at now (u ∷ us))))

-- the numbers of states and ends are known, where more was added to the other tables
pub known_all : (t u : Tables) → Keeps t u → u.states ≡ t.states → u.ends ≡ t.ends → AreKnown t → AreKnown u
known_all t u keeps states ends known = (
  λ i k h. known_kept t u k keeps (known.0 i k (ap (λ (ks : List Key). slice_get ks i) (sym states) ∙ h)),
  λ i e h. (let lt = known.1 i e (ap (λ (es : List Told). slice_get es i) (sym ends) ∙ h) in let more = grows_len (lists t.lists) (lists u.lists) keeps.lists in omega (arith, lt, more)),
)

module _ (keep : Kept) (sites : List Site) where
  -- where the numbers of what was seen and of the calls that were made stay, nothing is kept, and calls to come are answered as before
  pub is_hidden : (t u : Tables) (k : Key) (made seen : ℕ) (h : Happening) → Keeps t u → IsKnown t k → made ≡ k.made → seen ≡ k.seen
      → coming_of_made sites (made_at u.counts made) ≡ coming_after h (coming_at sites t k.made) → list_at (lists u.lists) seen ≡ seen_after keep (seen_at t k.seen) (happens h) → IsHidden (is_unkept keep) (coming_at sites t k.made) h
  is_hidden t u k made seen h keeps known same_made same_seen coming list = (
    adds_nothing (Past.happened (seen_at t k.seen)) (Past.now (seen_at t k.seen)) (keep.of h) (ap Past.happened (sym list ∙ ap (seen_at u) same_seen ∙ seen_kept t u k.seen keeps known.2)),
    sym coming ∙ ap (coming_at sites u) same_made ∙ coming_kept keep sites t u k.made keeps known.1,
  )

  module _ (defs : List SmallDefinition) where
    -- one early step
    pub leads_one : (t u : Tables) (k : Key) (s : Successor) → Keeps t u → IsKnown t k → IsEarly defs (next_call (coming_at sites t k.made)) (smalls t.terms) k.term s
        → IsHidden (is_unkept keep) (coming_at sites t k.made) (happening_of s.happening) → LeadsTo defs keep sites u k s.to
    leads_one t u k s keeps known is hidden =
        leads_kept defs keep sites t u k s.to keeps known is.0 (early (hidden_early defs (is_unkept keep) (coming_at sites t k.made) (happening_of s.happening) is.1 hidden) stays)

    -- and one more
    pub leads_next : (t u : Tables) (k : Key) (ahead term : ℕ) → Keeps t u → IsKnown t k → ahead < length (smalls t.terms) → LeadsTo defs keep sites t k ahead → LeadsTo defs keep sites u (record k { term = ahead }) term → LeadsTo defs keep sites u k term
    leads_next t u k ahead term keeps known lt l more = leads_both defs (is_unkept keep) (coming_at sites u k.made) (leads_kept defs keep sites t u k ahead keeps known lt l) more

    -- a state was looked at, where one that is ahead of it was
    pub looked_at : (t u v : Tables) (k : Key) (term : ℕ) → Keeps t u → IsKnown t k → LeadsTo defs keep sites u k term → IsDone defs keep (reached sites v) v.longest (outcomes v) (reached_at sites u (record k { term = term }))
        → IsLookedAt defs keep (reached sites v) v.longest (outcomes v) (reached_at sites t k)
    looked_at t u v k term keeps known l done = subst (λ (r : Reached). IsLookedAt defs keep (reached sites v) v.longest (outcomes v) r) (reached_kept keep sites t u k keeps known)
        (record { ahead = record { term = small_at (smalls u.terms) term; coming = coming_at sites u k.made }; is = (l, refl); done = done })
