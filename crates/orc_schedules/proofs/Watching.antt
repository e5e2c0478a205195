-- A claim that a search can watch for depends only on what its events name.
use Rattle.std.proofs.Common.{◌≡◌, ◌<◌, ◌≤◌, ◌-◌, ◌^◌, ℕ, min, ◌+◌, List, [], ◌∷◌, ◌++◌, Bool, true, false, cond, Option, Some, None, nat_eq, count_by, append-nil, refl, sym, ap, ◌∙◌, subst, arith}
use Rattle.std.specs.Prelude.{◌&&◌, ◌||◌, not, leb, is_some, option_and_then}
use Rattle.std.proofs.lemmas.Bool.{leb-true, leb-false}
use Rattle.std.proofs.lemmas.List.Sums.{sum_by-cons}
use Rattle.orc_rules.specs.Sites.{matches}
use Rattle.orc_rules.specs.declared.entry.State.{State}
use Rattle.orc_claims.specs.Claims.{any_forbids, any_meets, are_same_in_any_order, come_true, counts, each_is, holds_plain, if_met, is_allowed, is_followed, is_met_with, ends_so, is_one_of, is_prepared, number, published, published_by, up_to}
use Rattle.orc_claims.specs.Meets.{fit_all, fit_phase, first_of, meets, meets_any, meets_one}
use Rattle.orc_claims.specs.declared.claim.Condition.{Condition}
use Rattle.orc_claims.specs.declared.claim.Event.{Event}
use Rattle.orc_claims.specs.declared.claim.Plain.{Plain}
use Rattle.orc_claims.specs.declared.claim.Plain.TheVariants.{Count, AtOnce, OnlyAfter, NoneAfter, EachThen, Ends, InOrder, InAnyOrder, OneOf}
use Rattle.orc_claims.specs.declared.claim.Simple.{Simple}
use Rattle.orc_claims.specs.declared.claim.Simple.TheVariants as simple
use Rattle.orc_claims.specs.declared.claim.Wanted.{Wanted}
use Rattle.orc_claims.specs.declared.claim.Wanted.TheVariants as wanted
use Rattle.orc_claims.specs.declared.event_match.Bound.{Bound}
use Rattle.orc_claims.specs.declared.happening.Happening.{Happening}
use Rattle.orc_claims.specs.declared.happening.Occurrence.{Occurrence}
use Rattle.orc_claims.specs.declared.happening.Occurrence.TheVariants as what
use Rattle.orc_claims.specs.declared.happening.Phase.{Phase}
use Rattle.orc_claims.specs.declared.happening.Phase.TheVariants as phase
use Rattle.orc_schedules.specs.Watch.{HappenedBy, HoldsByWatched, add_happening, all_seen, counts_none_out, is_named, is_same_phase, is_seen, last_time, latest_by, latest_of, latest_of_plain, latest_within, named_until, names_it, publications, sees, told_until, watched, watched_conditions, watched_plain}
use Rattle.orc_schedules.proofs.WatchingNames.{named_both, seen_both}

-- ---- truth values

and_left : (a b : Bool) → (a && b) ≡ true → a ≡ true
and_left true b e = refl
and_left false b e = absurd (cc e)

and_right : (a b : Bool) → (a && b) ≡ true → b ≡ true
and_right true b e = e
and_right false b e = absurd (cc e)

or_left : (a b : Bool) → (a || b) ≡ false → a ≡ false
or_left true b e = absurd (cc e)
or_left false b e = refl

or_right : (a b : Bool) → (a || b) ≡ false → b ≡ false
or_right true b e = absurd (cc e)
or_right false b e = e

-- ---- what isn't named meets nothing

unfit_phase : (w : Wanted) (p : Phase) (given : List Bound) → is_seen w ≡ true → is_same_phase w p ≡ false → fit_phase w p given ≡ None
unfit_phase wanted.Called phase.Called given seen other = absurd (cc other)
unfit_phase wanted.Called (phase.Answered v) given seen other = refl
unfit_phase wanted.Called phase.Halted given seen other = refl
unfit_phase wanted.Called phase.Cancelled given seen other = refl
unfit_phase (wanted.Answered s) phase.Called given seen other = refl
unfit_phase (wanted.Answered s) (phase.Answered v) given seen other = absurd (cc other)
unfit_phase (wanted.Answered s) phase.Halted given seen other = refl
unfit_phase (wanted.Answered s) phase.Cancelled given seen other = refl
unfit_phase wanted.Halted phase.Called given seen other = refl
unfit_phase wanted.Halted (phase.Answered v) given seen other = refl
unfit_phase wanted.Halted phase.Halted given seen other = absurd (cc other)
unfit_phase wanted.Halted phase.Cancelled given seen other = refl
unfit_phase wanted.Cancelled p given seen other = absurd (cc seen)

unfit_then : (w : Wanted) (p : Phase) (fitted : Option (List Bound)) → is_seen w ≡ true → is_same_phase w p ≡ false → option_and_then (fit_phase w p) fitted ≡ None
unfit_then w p None seen other = refl
unfit_then w p (Some given) seen other = unfit_phase w p given seen other

unmet_call : (same : Bool) (w : Wanted) (p : Phase) (fitted : Option (List Bound)) → is_seen w ≡ true → (same && is_same_phase w p) ≡ false → cond same (option_and_then (fit_phase w p) fitted) None ≡ None
unmet_call false w p fitted seen other = refl
unmet_call true w p fitted seen other = unfit_then w p fitted seen other

unmet_one : (s : Simple) (w : Occurrence) (given : List Bound) → sees s ≡ true → names_it s w ≡ false → meets_one s w given ≡ None
unmet_one (simple.Call m slots wd) (what.Call n args p) given seen other = unmet_call (nat_eq m n) wd p (fit_all slots.items args given) seen other
unmet_one (simple.Call m slots wd) (what.Published v) given seen other = refl
unmet_one (simple.Published s) (what.Call n args p) given seen other = refl
unmet_one (simple.Published s) (what.Published v) given seen other = absurd (cc other)

unmet : (ss : List Simple) (w : Occurrence) (given : List Bound) → all_seen ss ≡ true → is_named ss w ≡ false → meets_any ss w given ≡ None
unmet [] w given seen other = refl
unmet (s ∷ ss) w given seen other =
    ap (λ o. first_of o (meets_any ss w given)) (unmet_one s w given (and_left (sees s) (all_seen ss) seen) (or_left (names_it s w) (is_named ss w) other))
    ∙ unmet ss w given (and_right (sees s) (all_seen ss) seen) (or_right (names_it s w) (is_named ss w) other)

-- the first list names all that the second one does, and the second sees no cancel
record Covers (ss es : List Simple) : Type 0 where
  seen : all_seen es ≡ true
  names : (w : Occurrence) → is_named ss w ≡ false → is_named es w ≡ false

all_covers : (ss : List Simple) → all_seen ss ≡ true → Covers ss ss
all_covers ss seen = record { seen = seen; names = λ w other. other }

covers_left : (ss xs ys : List Simple) → Covers ss (xs ++ ys) → Covers ss xs
covers_left ss xs ys c = record {
  seen = and_left (all_seen xs) (all_seen ys) (sym (seen_both xs ys) ∙ c.seen);
  names = λ w other. or_left (is_named xs w) (is_named ys w) (sym (named_both xs ys w) ∙ c.names w other);
}

covers_right : (ss xs ys : List Simple) → Covers ss (xs ++ ys) → Covers ss ys
covers_right ss xs ys c = record {
  seen = and_right (all_seen xs) (all_seen ys) (sym (seen_both xs ys) ∙ c.seen);
  names = λ w other. or_right (is_named xs w) (is_named ys w) (sym (named_both xs ys w) ∙ c.names w other);
}

-- ---- times

leb_by : (a b t : ℕ) → (a ≤ t → b ≤ t) → (b ≤ t → a ≤ t) → leb a t ≡ leb b t
leb_by a b t there back = go (leb a t) (leb b t) refl refl where
  go : (p q : Bool) → leb a t ≡ p → leb b t ≡ q → p ≡ q
  go true true p q = refl
  go false false p q = refl
  go true false p q = let no = leb-false b t q in let yes = there (leb-true a t p) in absurd (omega (arith, no, yes))
  go false true p q = let no = leb-false a t p in let yes = back (leb-true b t q) in absurd (omega (arith, no, yes))

module _ (now last : ℕ) (early : now < 2 ^ 64) where
  -- a time that isn't told apart is as much too late
  alike_by : (by : Option ℕ) → last ≡ latest_by by → (t : ℕ) → t ≤ now → up_to by t ≡ up_to by (min t last)
  alike_by None is t le = refl
  alike_by (Some by) is t le = leb_by t (min t last) by (λ p. omega (arith, p)) (λ p. omega (arith, p, is, le, early))

  alike_within : (within : Option ℕ) → last ≡ latest_within within → (t since : ℕ) → t ≤ now → since ≤ now → up_to within (t - since) ≡ up_to within (min t last - min since last)
  alike_within None is t since le before = refl
  alike_within (Some within) is t since le before =
      let same : min t last ≡ t = omega (arith, is, le, early) in
      let first : min since last ≡ since = omega (arith, is, before, early) in
      λ i. leb (sym same i - sym first i) within

counted : (p : Happening → Bool) (h : Happening) (hs : List Happening) → count_by p (h ∷ hs) ≡ cond (p h) 1 0 + count_by p hs
counted p h hs = sum_by-cons (λ x. cond (p x) 1 0) h hs

zero_more : (n : ℕ) → 0 + n ≡ n
zero_more n = omega arith

module _ (ss : List Simple) (last now : ℕ) where
  -- what is kept of happenings
  abbrev kept : List Happening → List Happening
  kept hs = named_until ss last hs

  abbrev told : Happening → Happening
  told h = told_until last h

  -- the same of one with those behind it, which is named or isn't
  abbrev kept_if : Bool → Happening → List Happening → List Happening
  kept_if b h hs = add_happening b (told h) (kept hs)

  kept_behind : (xs ys : List Happening) → kept (xs ++ ys) ≡ kept xs ++ kept ys
  kept_behind [] ys = refl
  kept_behind (x ∷ xs) ys = go (kept_behind xs ys) (is_named ss x.what)
    where
      go : kept (xs ++ ys) ≡ kept xs ++ kept ys → (b : Bool) → kept_if b x (xs ++ ys) ≡ kept_if b x xs ++ kept ys
      go rest true = ap (λ hs. told x ∷ hs) rest
      go rest false = rest

  named_last : (hs : List Happening) (h : Happening) → is_named ss h.what ≡ true → kept (hs ++ h ∷ []) ≡ kept hs ++ told h ∷ []
  named_last hs h e = kept_behind hs (h ∷ []) ∙ ap (λ b. kept hs ++ kept_if b h []) e

  other_last : (hs : List Happening) (h : Happening) → is_named ss h.what ≡ false → kept (hs ++ h ∷ []) ≡ kept hs
  other_last hs h e = kept_behind hs (h ∷ []) ∙ ap (λ b. kept hs ++ kept_if b h []) e ∙ append-nil (kept hs)

  hidden : (e : Event) → Covers ss e.alternatives.items → (h : Happening) (given : List Bound) → is_named ss h.what ≡ false → meets e h given ≡ None
  hidden e c h given other = unmet e.alternatives.items h.what given c.seen (c.names h.what other)

  -- ---- the forms of claims

  number_kept : (e : Event) (by : Option ℕ) → Covers ss e.alternatives.items → ((t : ℕ) → t ≤ now → up_to by t ≡ up_to by (min t last)) → (hs : List Happening) → HappenedBy now hs → number e by hs ≡ number e by (kept hs)
  number_kept e by c alike [] all = refl
  number_kept e by c alike (h ∷ hs) all = go (number_kept e by c alike hs all.1) (is_named ss h.what) refl
    where
      go : number e by hs ≡ number e by (kept hs) → (b : Bool) → is_named ss h.what ≡ b → number e by (h ∷ hs) ≡ number e by (kept_if b h hs)
      go rest true is = counted (counts e by) h hs ∙ (λ i. cond (is_some (meets e h []) && alike h.time all.0 i) 1 0 + rest i) ∙ sym (counted (counts e by) (told h) (kept hs))
      go rest false is = counted (counts e by) h hs ∙ ap (λ m. cond (is_some m && up_to by h.time) 1 0 + number e by hs) (hidden e c h [] is) ∙ zero_more (number e by hs) ∙ rest

  any_kept : (e : Event) → Covers ss e.alternatives.items → (given : List Bound) (since first : ℕ) (most : Option ℕ) → ((t : ℕ) → t ≤ now → up_to most (t - since) ≡ up_to most (min t last - first)) → (hs : List Happening) → HappenedBy now hs
      → any_meets e given since most hs ≡ any_meets e given first most (kept hs)
  any_kept e c given since first most alike [] all = refl
  any_kept e c given since first most alike (h ∷ hs) all = go (any_kept e c given since first most alike hs all.1) (is_named ss h.what) refl
    where
      go : any_meets e given since most hs ≡ any_meets e given first most (kept hs) → (b : Bool) → is_named ss h.what ≡ b → any_meets e given since most (h ∷ hs) ≡ any_meets e given first most (kept_if b h hs)
      go rest true is = λ i. (is_some (meets e h given) && alike h.time all.0 i) || rest i
      go rest false is = ap (λ m. (is_some m && up_to most (h.time - since)) || any_meets e given since most hs) (hidden e c h given is) ∙ rest

  met_with_told : (e : Event) (h : Happening) (given : Option (List Bound)) → is_met_with e h given ≡ is_met_with e (told h) given
  met_with_told e h None = refl
  met_with_told e h (Some given) = refl

  forbids_kept : (e f : Event) → Covers ss f.alternatives.items → (h : Happening) (hs : List Happening) → any_forbids e h f hs ≡ any_forbids e (told h) f (kept hs)
  forbids_kept e f c h [] = refl
  forbids_kept e f c h (x ∷ xs) = go (forbids_kept e f c h xs) (is_named ss x.what) refl
    where
      go : any_forbids e h f xs ≡ any_forbids e (told h) f (kept xs) → (b : Bool) → is_named ss x.what ≡ b → any_forbids e h f (x ∷ xs) ≡ any_forbids e (told h) f (kept_if b x xs)
      go rest true is = λ i. met_with_told e h (meets f x []) i || rest i
      go rest false is = ap (λ m. is_met_with e h m || any_forbids e h f xs) (hidden f c x [] is) ∙ rest

  unmet_with : (e : Event) → Covers ss e.alternatives.items → (h : Happening) (given : Option (List Bound)) → is_named ss h.what ≡ false → is_met_with e h given ≡ false
  unmet_with e c h None other = refl
  unmet_with e c h (Some given) other = ap is_some (hidden e c h given other)

  none_forbids : (e f : Event) → Covers ss e.alternatives.items → (h : Happening) (hs : List Happening) → is_named ss h.what ≡ false → any_forbids e h f hs ≡ false
  none_forbids e f c h [] other = refl
  none_forbids e f c h (x ∷ xs) other = λ i. unmet_with e c h (meets f x []) other i || none_forbids e f c h xs other i

  -- what is asked of a happening that is named depends on what is kept alone, and nothing is asked of another one
  record Asks (good : List Happening → Happening → List Happening → Bool) : Type 0 where
    named : (before : List Happening) (h : Happening) (behind : List Happening) → HappenedBy now before → h.time ≤ now → HappenedBy now behind → good before h behind ≡ good (kept before) (told h) (kept behind)
    other : (before : List Happening) (h : Happening) (behind : List Happening) → is_named ss h.what ≡ false → good before h behind ≡ true

  happened_last : (hs : List Happening) (h : Happening) → HappenedBy now hs → h.time ≤ now → HappenedBy now (hs ++ h ∷ [])
  happened_last [] h all le = (le, tt)
  happened_last (x ∷ hs) h all le = (all.0, happened_last hs h all.1 le)

  each_kept : (good : List Happening → Happening → List Happening → Bool) → Asks good → (before hs : List Happening) → HappenedBy now before → HappenedBy now hs → each_is good before hs ≡ each_is good (kept before) (kept hs)
  each_kept good asks before [] past all = refl
  each_kept good asks before (h ∷ hs) past all = go (each_kept good asks (before ++ h ∷ []) hs (happened_last before h past all.0) all.1) (is_named ss h.what) refl
    where
      go : each_is good (before ++ h ∷ []) hs ≡ each_is good (kept (before ++ h ∷ [])) (kept hs) → (b : Bool) → is_named ss h.what ≡ b → each_is good before (h ∷ hs) ≡ each_is good (kept before) (kept_if b h hs)
      go rest true is =
          let later = rest ∙ ap (λ xs. each_is good xs (kept hs)) (named_last before h is) in
          λ i. asks.named before h hs past all.0 all.1 i && later i
      go rest false is =
          ap (λ b. b && each_is good (before ++ h ∷ []) hs) (asks.other before h hs is)
          ∙ rest
          ∙ ap (λ xs. each_is good xs (kept hs)) (other_last before h is)

  asks_prepared : (e f : Event) → Covers ss e.alternatives.items → Covers ss f.alternatives.items → Asks (is_prepared e f)
  asks_prepared e f c d = record {
    named = λ before h behind past le all i. if_met (meets e h []) (λ given. any_kept f d given 0 0 None (λ t lt. refl) before past i);
    other = λ before h behind is. ap (λ m. if_met m (λ given. any_meets f given 0 None before)) (hidden e c h [] is);
  }

  asks_allowed : (e f : Event) → Covers ss e.alternatives.items → Covers ss f.alternatives.items → Asks (is_allowed e f)
  asks_allowed e f c d = record {
    named = λ before h behind past le all. ap not (forbids_kept e f d h before);
    other = λ before h behind is. ap not (none_forbids e f c h before is);
  }

  asks_followed : (e f : Event) (within : Option ℕ) → Covers ss e.alternatives.items → Covers ss f.alternatives.items → ((t since : ℕ) → t ≤ now → since ≤ now → up_to within (t - since) ≡ up_to within (min t last - min since last)) → Asks (is_followed e f within)
  asks_followed e f within c d alike = record {
    named = λ before h behind past le all i. if_met (meets e h []) (λ given. any_kept f d given h.time (min h.time last) within (λ t lt. alike t h.time lt le) behind all i);
    other = λ before h behind is. ap (λ m. if_met m (λ given. any_meets f given h.time within behind)) (hidden e c h [] is);
  }

  unpublished : Covers ss publications → (w : Occurrence) → is_named ss w ≡ false → published_by w ≡ []
  unpublished c (what.Call m args p) other = refl
  unpublished c (what.Published v) other = absurd (cc (c.names (what.Published v) other))

  published_kept : Covers ss publications → (hs : List Happening) → published hs ≡ published (kept hs)
  published_kept c [] = refl
  published_kept c (h ∷ hs) = go (published_kept c hs) (is_named ss h.what) refl
    where
      go : published hs ≡ published (kept hs) → (b : Bool) → is_named ss h.what ≡ b → published (h ∷ hs) ≡ published (kept_if b h hs)
      go rest true is = ap (λ vs. published_by h.what ++ vs) rest
      go rest false is = ap (λ vs. vs ++ published hs) (unpublished c h.what is) ∙ rest

  plain_kept : (p : Plain) → last ≡ latest_of_plain p → now < 2 ^ 64 → counts_none_out p ≡ true → Covers ss (watched_plain p) → (hs : List Happening) (end : State) → HappenedBy now hs → holds_plain p hs end now ≡ holds_plain p (kept hs) end (min now last)
  plain_kept (Count e low most by) is early counted c hs end all = ap (λ n. leb low n && up_to most n) (number_kept e by c (alike_by now last early by is) hs all)
  plain_kept (AtOnce e most) is early counted c hs end all = absurd (cc counted)
  plain_kept (OnlyAfter e f) is early counted c hs end all = each_kept (is_prepared e f) (asks_prepared e f (covers_left ss e.alternatives.items f.alternatives.items c) (covers_right ss e.alternatives.items f.alternatives.items c)) [] hs tt all
  plain_kept (NoneAfter e f) is early counted c hs end all = each_kept (is_allowed e f) (asks_allowed e f (covers_left ss e.alternatives.items f.alternatives.items c) (covers_right ss e.alternatives.items f.alternatives.items c)) [] hs tt all
  plain_kept (EachThen e f within) is early counted c hs end all =
      each_kept (is_followed e f within) (asks_followed e f within (covers_left ss e.alternatives.items f.alternatives.items c) (covers_right ss e.alternatives.items f.alternatives.items c) (alike_within now last early within is)) [] hs tt all
  plain_kept (Ends halted quiet by) is early counted c hs end all = ap (λ b. ends_so halted quiet end && b) (alike_by now last early by is now (omega arith))
  plain_kept (InOrder vs) is early counted c hs end all = ap (matches vs.items) (published_kept c hs)
  plain_kept (InAnyOrder vs) is early counted c hs end all = ap (are_same_in_any_order vs.items) (published_kept c hs)
  plain_kept (OneOf vs) is early counted c hs end all = ap (is_one_of vs.items) (published_kept c hs)

  conditions_kept : (cs : List Condition) → Covers ss (watched_conditions cs) → (hs : List Happening) → HappenedBy now hs → come_true cs hs ≡ come_true cs (kept hs)
  conditions_kept [] c hs all = refl
  conditions_kept (k ∷ cs) c hs all =
      let one = any_kept k.event (covers_left ss k.event.alternatives.items (watched_conditions cs) c) [] 0 0 None (λ t le. refl) hs all in
      let rest = conditions_kept cs (covers_right ss k.event.alternatives.items (watched_conditions cs) c) hs all in
      λ i. cond k.happens (one i) (not (one i)) && rest i

pub holds_by_watched : HoldsByWatched
holds_by_watched c hs end now watchable by early =
    let last : ℕ = latest_of c in
    let all = all_covers (watched c) (and_right (counts_none_out c.plain) (all_seen (watched c)) watchable) in
    let plain = plain_kept (watched c) last now c.plain refl early (and_left (counts_none_out c.plain) (all_seen (watched c)) watchable) (covers_left (watched c) (watched_plain c.plain) (watched_conditions c.conditions.items) all) hs end by in
    let conditions = conditions_kept (watched c) last now c.conditions.items (covers_right (watched c) (watched_plain c.plain) (watched_conditions c.conditions.items) all) hs by in
    λ i. not (conditions i) || plain i
