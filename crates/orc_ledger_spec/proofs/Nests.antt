-- The steps and the open groups: how a step that comes, a group that opens and groups that close keep them.
use Rattle.std.proofs.Common.{◌≡◌, ◌≤◌, ◌<◌, ℕ, zero, suc, ◌+◌, List, [], ◌∷◌, ◌++◌, refl, sym, ap, ◌∙◌, subst, arith, inl, inr, ◌⊎◌, ⊎_elim, Bool, true, false, cond, nat_eq, eq-eqb, not, Option, Some, None as Nothing, length, length-append, map}
use Rattle.std.proofs.lemmas.Bool.{eqb-true}
use Rattle.std.specs.Prelude.{slice_get, slice_index_or}
use Rattle.orc_indexes.specs.Same.{weight, only, but, None, is_this}
use Rattle.orc_tables.specs.Steps.{group_at, group_of}
use Rattle.orc_frames.specs.Taking.{bare}
use Rattle.orc_ledger_spec.specs.Homes.{home, home_by, AreHomes, Nest, AreNests}
use Rattle.orc_ledger_spec.specs.Next.{IsSide, opens}
use Rattle.orc_tables.specs.declared.records.Frame.{Frame}
use Rattle.orc_tables.specs.declared.records.Frame.TheVariants.{SeqLeft, PruneRight, OtherwiseLeft}
use Rattle.orc_tables.specs.declared.records.Step.{Step}
use Rattle.orc_tables.specs.declared.records.Group.{Group}
use Rattle.orc_indexes.proofs.Weight.{none-weaker, none-alike, weight-none, this_is, this_not}
use Rattle.orc_ledger_spec.proofs.Sound.{get_more, get_kept, get_end}
use Rattle.orc_ledger_spec.proofs.Leaves.{got_one}
use Rattle.orc_ledger_spec.proofs.Someone.{some_same}
use Rattle.orc_frames.proofs.Marking.{bare-length}
use Rattle.orc_ledger_spec.proofs.Places.{IsPlaced, IsSided, is_sided, test-sided, sided-test, not_false}

-- what the tables note of the steps and of the open groups
pub record AreNested (hs : List ℕ) (groups : ℕ → Option Nest) (ss : List Step) (gs : List Group) : Type 0 where
  pub homes : AreHomes hs ss
  pub nests : AreNests hs ss groups
  pub root : (w : Nest) × (groups 0 ≡ Some w) × (w.step ≡ 0)
  pub sides : None (λ g. not (is_sided groups ss g)) gs
  pub listed : (i : ℕ) (w : Nest) (k : ℕ) → groups i ≡ Some w → w.step ≡ suc k → 1 ≤ weight (λ (g : Group). is_this i g.number) gs
  pub once : (i : ℕ) → weight (λ (g : Group). is_this i g.number) gs ≤ 1
  pub feeds : (k : ℕ) (p : Step) → slice_get ss k ≡ Some p → opens p.entered ≡ false → p.group ≡ group_at ss p.outer

-- sides that are so stay so
sides-kept : (groups groups' : ℕ → Option Nest) (ss ss' : List Step) (gs : List Group) → ((g : Group) → IsSided groups ss g → IsSided groups' ss' g) → None (λ g. not (is_sided groups ss g)) gs → None (λ g. not (is_sided groups' ss' g)) gs
sides-kept groups groups' ss ss' gs keeps h = none-weaker (λ g. not (is_sided groups ss g)) (λ g. not (is_sided groups' ss' g)) gs h (λ g f. ap not (test-sided groups' ss' g (keeps g (sided-test groups ss g (not_false (is_sided groups ss g) f)))))

-- ---- the steps with other marks of publications

rest_of : {X : Type 0} → List X → List X
rest_of [] = []
rest_of (x ∷ xs) = xs

head_or : {X : Type 0} → X → List X → X
head_or d [] = d
head_or d (x ∷ xs) = x

pub alike-step : (ss ss' : List Step) → map bare ss ≡ map bare ss' → (k : ℕ) (p : Step) → slice_get ss k ≡ Some p → (q : Step) × (slice_get ss' k ≡ Some q) × (bare q ≡ bare p)
unfolding rest_of head_or
alike-step [] ss' e k p h = cc h
alike-step (x ∷ ss) [] e k p h = cc e
alike-step (x ∷ ss) (y ∷ ss') e zero p h = (y, refl, sym (ap (head_or (bare x)) e) ∙ ap (bare_or x) h)
  where
    bare_or : Step → Option Step → Step
    bare_or d (Some z) = bare z
    bare_or d Nothing = bare d
alike-step (x ∷ ss) (y ∷ ss') e (suc k) p h = alike-step ss ss' (ap rest_of e) k p h

pub alike-group : (ss ss' : List Step) → map bare ss ≡ map bare ss' → (i : ℕ) → group_at ss' i ≡ group_at ss i
unfolding rest_of head_or
alike-group ss ss' e zero = refl
alike-group ss ss' e (suc k) = by_step ss ss' e k
  where
    by_step : (ss ss' : List Step) → map bare ss ≡ map bare ss' → (k : ℕ) → group_of (slice_get ss' k) ≡ group_of (slice_get ss k)
    by_step [] [] e k = refl
    by_step [] (y ∷ ss') e k = cc e
    by_step (x ∷ ss) [] e k = cc e
    by_step (x ∷ ss) (y ∷ ss') e zero = sym (ap (λ (z : Step). z.group) (ap (head_or (bare x)) e))
    by_step (x ∷ ss) (y ∷ ss') e (suc k) = by_step ss ss' (ap rest_of e) k

module _ (hs : List ℕ) (groups : ℕ → Option Nest) (ss ss' : List Step) (e : map bare ss ≡ map bare ss') where
  pub placed-alike : (i : ℕ) → IsPlaced hs groups ss i → IsPlaced hs groups ss' i
  placed-alike i p = record { within = omega (arith, p.within, bare-length ss' ss e); nest = p.nest; found = ap groups (alike-group ss ss' e i) ∙ p.found; step = p.step }

  sided-alike : (g : Group) → IsSided groups ss g → IsSided groups ss' g
  sided-alike g d =
      let a = alike-step ss ss' e d.before d.step d.there in
      record { nest = d.nest; before = d.before; step = a.0; found = d.found; parent = d.parent ∙ sym (alike-group ss ss' e g.outer); at = d.at; there = a.1; outer = ap (λ (z : Step). z.outer) a.2 ∙ d.outer; fits = subst (λ z. IsSide z g.side) (sym (ap (λ (z : Step). z.entered) a.2)) d.fits }

  pub nested-alike : (gs : List Group) → AreNested hs groups ss gs → AreNested hs groups ss' gs
  nested-alike gs N =
      record {
        homes = λ k p h. let a = alike-step ss' ss (sym e) k p h in N.homes k a.0 a.1 ∙ home_by_same (suc k) a.0 p a.2;
        nests = record {
          root = N.nests.root;
          above = λ g n k p is at h. let a = alike-step ss' ss (sym e) k p h in let b = N.nests.above g n k a.0 is at a.1 in (b.0, b.1, b.2 ∙ ap (home hs) (ap (λ (z : Step). z.outer) a.2));
          there = λ g n k is at. let a = N.nests.there g n k is at in let b = alike-step ss ss' e k a.0 a.1 in (b.0, b.1);
        };
        root = N.root;
        sides = sides-kept groups groups ss ss' gs sided-alike N.sides;
        listed = N.listed;
        once = N.once;
        feeds = λ k p h off.
            let a = alike-step ss' ss (sym e) k p h in
            sym (ap (λ (z : Step). z.group) a.2) ∙ N.feeds k a.0 a.1 (ap (λ (z : Step). opens z.entered) a.2 ∙ off) ∙ sym (alike-group ss ss' e a.0.outer) ∙ ap (λ (z : Step). group_at ss' z.outer) a.2;
      }
    where
      home_by_same : (i : ℕ) (p q : Step) → bare p ≡ bare q → home_by hs i p p.entered ≡ home_by hs i q q.entered
      home_by_same i p q same = by_entered p.entered q.entered (ap (λ (z : Step). z.entered) same)
        where
          by_entered : (a b : Frame) → a ≡ b → home_by hs i p a ≡ home_by hs i q b
          by_entered (SeqLeft x g scope) b f = ap (λ (z : Step). home hs z.outer) same ∙ ap (home_by hs i q) f
          by_entered (PruneRight c) b f = ap (home_by hs i q) f
          by_entered (OtherwiseLeft n) b f = ap (home_by hs i q) f

-- ---- one more step

-- the homes with one more, which is the n-th
put_at : ℕ → ℕ → List ℕ → List ℕ
put_at zero x hs = x ∷ []
put_at (suc n) x [] = 0 ∷ put_at n x []
put_at (suc n) x (h ∷ hs) = h ∷ put_at n x hs

put_at-end : (n x : ℕ) (hs : List ℕ) → slice_index_or (put_at n x hs) n 0 ≡ x
unfolding put_at
put_at-end zero x hs = refl
put_at-end (suc n) x [] = put_at-end n x []
put_at-end (suc n) x (h ∷ hs) = put_at-end n x hs

put_at-before : (n x : ℕ) (hs : List ℕ) (k : ℕ) → k < n → slice_index_or (put_at n x hs) k 0 ≡ slice_index_or hs k 0
unfolding put_at
put_at-before zero x hs k lt = absurd (omega (arith, lt))
put_at-before (suc n) x [] zero lt = refl
put_at-before (suc n) x (h ∷ hs) zero lt = refl
put_at-before (suc n) x [] (suc k) lt = put_at-before n x [] k (omega (arith, lt)) ∙ nothing k
  where
    nothing : (k : ℕ) → slice_index_or {A = ℕ} [] k 0 ≡ slice_index_or {A = ℕ} [] (suc k) 0
    nothing k = refl
put_at-before (suc n) x (h ∷ hs) (suc k) lt = put_at-before n x hs k (omega (arith, lt))

get-below : {X : Type 0} (xs : List X) (k : ℕ) (x : X) → slice_get xs k ≡ Some x → k < length xs
get-below [] k x h = cc h
get-below (y ∷ xs) zero x h = omega arith
get-below (y ∷ xs) (suc k) x h = omega (arith, get-below xs k x h)

get-past : {X : Type 0} (xs : List X) (k : ℕ) (x : X) → length xs ≤ k → slice_get xs k ≡ Some x → ⊥
get-past xs k x le h = omega (arith, get-below xs k x h, le)

get-left : {X : Type 0} (xs ys : List X) (k : ℕ) → k < length xs → slice_get (xs ++ ys) k ≡ slice_get xs k
get-left [] ys k lt = absurd (omega (arith, lt))
get-left (x ∷ xs) ys zero lt = refl
get-left (x ∷ xs) ys (suc k) lt = get-left xs ys k (omega (arith, lt))

pub group-kept : (ss ps : List Step) (i : ℕ) → i ≤ length ss → group_at (ss ++ ps) i ≡ group_at ss i
group-kept ss ps zero le = refl
group-kept ss ps (suc k) le = ap group_of (get-left ss ps k (omega (arith, le)))

pub group-end : (ss : List Step) (p : Step) → group_at (ss ++ p ∷ []) (length ss + 1) ≡ p.group
group-end ss p = ap (group_at (ss ++ p ∷ [])) (let e : length ss + 1 ≡ suc (length ss) = omega arith in e) ∙ ap group_of (get_end ss p)

module _ (hs : List ℕ) (ss : List Step) (homes : AreHomes hs ss) (outwards : (k : ℕ) (p : Step) → slice_get ss k ≡ Some p → p.outer ≤ k) (p : Step) (out : p.outer ≤ length ss) where
  abbrev more : List Step
  more = ss ++ p ∷ []

  pub homes' : List ℕ
  homes' = put_at (length ss) (home_by hs (suc (length ss)) p p.entered) hs

  pub home-kept : (i : ℕ) → i ≤ length ss → home homes' i ≡ home hs i
  unfolding homes'
  home-kept zero le = refl
  home-kept (suc k) le = put_at-before (length ss) (home_by hs (suc (length ss)) p p.entered) hs k (omega (arith, le))

  pub home-end : home homes' (suc (length ss)) ≡ home_by hs (suc (length ss)) p p.entered
  unfolding homes'
  home-end = put_at-end (length ss) (home_by hs (suc (length ss)) p p.entered) hs

  by_kept : (i : ℕ) (q : Step) (e : Frame) → q.outer ≤ length ss → home_by homes' i q e ≡ home_by hs i q e
  by_kept i q (SeqLeft x g scope) le = home-kept q.outer le
  by_kept i q (PruneRight c) le = refl
  by_kept i q (OtherwiseLeft n) le = refl

  -- a step of those is one of the old or the new one
  pub either_step : (k : ℕ) (q : Step) → slice_get more k ≡ Some q → (slice_get ss k ≡ Some q) ⊎ ((k ≡ length ss) × (q ≡ p))
  either_step k q h =
      ⊎_elim (λ a. inl a) (λ b. let o = got_one b.0 p q b.2 in inr (omega (arith, b.1, o.0), sym o.1)) (get_more ss (p ∷ []) k q h)

  pub homes-more : AreHomes homes' more
  homes-more k q h =
      ⊎_elim
      (λ (a : slice_get ss k ≡ Some q). home-kept (suc k) (omega (arith, get-below ss k q a)) ∙ homes k q a ∙ sym (by_kept (suc k) q q.entered (omega (arith, outwards k q a, get-below ss k q a))))
      (λ (b : (k ≡ length ss) × (q ≡ p)). subst (λ z. home homes' (suc k) ≡ home_by homes' (suc k) z z.entered) (sym b.1) (subst (λ z. home homes' (suc z) ≡ home_by homes' (suc z) p p.entered) (sym b.0) (home-end ∙ sym (by_kept (suc (length ss)) p p.entered out))))
      (either_step k q h)

  module _ (groups groups' : ℕ → Option Nest) (grows : (i : ℕ) (w : Nest) → groups i ≡ Some w → groups' i ≡ Some w) where
    pub placed-more : (i : ℕ) → IsPlaced hs groups ss i → IsPlaced homes' groups' more i
    placed-more i q = record { within = omega (arith, q.within, length-append ss (p ∷ [])); nest = q.nest; found = ap groups' (group-kept ss (p ∷ []) i q.within) ∙ grows (group_at ss i) q.nest q.found; step = q.step ∙ sym (home-kept i q.within) }

    pub sided-more : (g : Group) → g.outer ≤ length ss → IsSided groups ss g → IsSided groups' more g
    sided-more g within d =
        record { nest = d.nest; before = d.before; step = d.step; found = grows g.number d.nest d.found; parent = d.parent ∙ sym (group-kept ss (p ∷ []) g.outer within); at = d.at; there = get_kept ss (p ∷ []) d.before d.step d.there; outer = d.outer; fits = d.fits }

  feeds-more : ((k : ℕ) (q : Step) → slice_get ss k ≡ Some q → opens q.entered ≡ false → q.group ≡ group_at ss q.outer) → (opens p.entered ≡ false → p.group ≡ group_at ss p.outer)
      → (k : ℕ) (q : Step) → slice_get more k ≡ Some q → opens q.entered ≡ false → q.group ≡ group_at more q.outer
  feeds-more old new k q h off =
      ⊎_elim
      (λ (a : slice_get ss k ≡ Some q). old k q a off ∙ sym (group-kept ss (p ∷ []) q.outer (omega (arith, outwards k q a, get-below ss k q a))))
      (λ (b : (k ≡ length ss) × (q ≡ p)). subst (λ z. z.group ≡ group_at more z.outer) (sym b.1) (new (ap (λ (z : Step). opens z.entered) (sym b.1) ∙ off) ∙ sym (group-kept ss (p ∷ []) p.outer out)))
      (either_step k q h)

  -- a `>x>` is entered
  module _ (groups : ℕ → Option Nest) (gs : List Group) (N : AreNested hs groups ss gs) (feed : opens p.entered ≡ false) (mine : p.group ≡ group_at ss p.outer) where
    old_step : (g : ℕ) (n : Nest) (k : ℕ) (q : Step) → groups g ≡ Some n → n.step ≡ suc k → slice_get more k ≡ Some q → slice_get ss k ≡ Some q
    old_step g n k q is at h =
        let a = N.nests.there g n k is at in
        sym (get-left ss (p ∷ []) k (get-below ss k a.0 a.1)) ∙ h

    pub nested-fed : None (λ (g : Group). not (is_sided groups more g)) gs → AreNested homes' groups more gs
    nested-fed sides =
        record {
          homes = homes-more;
          nests = record {
            root = N.nests.root;
            above = λ g n k q is at h. let a = old_step g n k q is at h in let b = N.nests.above g n k q is at a in (b.0, b.1, b.2 ∙ sym (home-kept q.outer (omega (arith, outwards k q a, get-below ss k q a))));
            there = λ g n k is at. let a = N.nests.there g n k is at in (a.0, get_kept ss (p ∷ []) k a.0 a.1);
          };
          root = N.root;
          sides = sides;
          listed = N.listed;
          once = N.once;
          feeds = feeds-more N.feeds (λ off. mine);
        }

    feed_home : (e : Frame) → opens e ≡ false → home_by hs (suc (length ss)) p e ≡ home hs p.outer
    feed_home (SeqLeft x g scope) off = refl
    feed_home (PruneRight c) off = cc off
    feed_home (OtherwiseLeft n) off = cc off

    pub placed-fed : IsPlaced hs groups ss p.outer → IsPlaced homes' groups more (length ss + 1)
    placed-fed q =
        record {
          within = omega (arith, length-append ss (p ∷ []));
          nest = q.nest;
          found = ap groups (group-end ss p ∙ mine) ∙ q.found;
          step = q.step ∙ sym (ap (home homes') (let e : length ss + 1 ≡ suc (length ss) = omega arith in e) ∙ home-end ∙ feed_home p.entered feed);
        }

  -- a side is opened, whose number no group has
  module _ (groups : ℕ → Option Nest) (gs gs' : List Group) (N : AreNested hs groups ss gs) (own : opens p.entered ≡ true) (place : IsPlaced hs groups ss p.outer) (g : Group) (is_group : p.group ≡ g.number) (is_outer : p.outer ≡ g.outer) (is_side : IsSide p.entered g.side) (some : 1 ≤ g.number) (unused : weight (λ (h : Group). is_this g.number h.number) gs ≡ 0)
      (added : (w : Group → ℕ) → weight w gs' ≡ weight w gs + w g) where
    abbrev nest : Nest
    nest = record { step = suc (length ss); parent = group_at ss g.outer }

    pub opened_groups : ℕ → Option Nest
    opened_groups i = cond (nat_eq g.number i) (Some nest) (groups i)

    unknown : (o : Option Nest) → groups g.number ≡ o → o ≡ Nothing
    unknown Nothing e = refl
    unknown (Some w) e = absurd (by_step w.step refl)
      where
        by_step : (k : ℕ) → w.step ≡ k → ⊥
        by_step zero at = omega (arith, N.nests.root g.number w e at, some)
        by_step (suc k) at = omega (arith, N.listed g.number w k e at, unused)

    pub new_here : opened_groups g.number ≡ Some nest
    unfolding opened_groups
    new_here = ap (λ b. cond b (Some nest) (groups g.number)) (eq-eqb g.number g.number refl)

    pub grown : (i : ℕ) (w : Nest) → groups i ≡ Some w → opened_groups i ≡ Some w
    unfolding opened_groups
    grown i w h = go (nat_eq g.number i) refl
      where
        go : (b : Bool) → nat_eq g.number i ≡ b → cond b (Some nest) (groups i) ≡ Some w
        go true e = cc (sym (unknown (groups g.number) refl) ∙ ap groups (eqb-true g.number i e) ∙ h)
        go false e = h

    -- a group is the new one or an old one
    either_group : (i : ℕ) (w : Nest) → opened_groups i ≡ Some w → ((i ≡ g.number) × (w ≡ nest)) ⊎ (groups i ≡ Some w)
    unfolding opened_groups
    either_group i w h = go (nat_eq g.number i) refl h
      where
        go : (b : Bool) → nat_eq g.number i ≡ b → cond b (Some nest) (groups i) ≡ Some w → ((i ≡ g.number) × (w ≡ nest)) ⊎ (groups i ≡ Some w)
        go true e f = inl (sym (eqb-true g.number i e), some_same w nest (sym f))
        go false e f = inr f

    own_home : (e : Frame) → opens e ≡ true → home_by hs (suc (length ss)) p e ≡ suc (length ss)
    own_home (SeqLeft x f scope) h = cc h
    own_home (PruneRight c) h = refl
    own_home (OtherwiseLeft n) h = refl

    pub placed-own : IsPlaced homes' opened_groups more (length ss + 1)
    placed-own =
        record {
          within = omega (arith, length-append ss (p ∷ []));
          nest = nest;
          found = ap opened_groups (group-end ss p ∙ is_group) ∙ new_here;
          step = sym (ap (home homes') (let e : length ss + 1 ≡ suc (length ss) = omega arith in e) ∙ home-end ∙ own_home p.entered own);
        }

    new_sided : IsSided opened_groups more g
    new_sided = record { nest = nest; before = length ss; step = p; found = new_here; parent = sym (group-kept ss (p ∷ []) g.outer (omega (arith, is_outer, out))); at = refl; there = get_end ss p; outer = is_outer; fits = is_side }

    above_new : (n : Nest) (k : ℕ) (q : Step) → n ≡ nest → n.step ≡ suc k → slice_get more k ≡ Some q → (m : Nest) × (opened_groups n.parent ≡ Some m) × (m.step ≡ home homes' q.outer)
    above_new n k q e at h =
        let last : k ≡ length ss = omega (arith, at, ap (λ (z : Nest). z.step) e) in
        let same : q ≡ p = ⊎_elim (λ (a : slice_get ss k ≡ Some q). absurd (get-past ss k q (omega (arith, last)) a)) (λ (b : (k ≡ length ss) × (q ≡ p)). b.1) (either_step k q h) in (
          place.nest,
          ap opened_groups (ap (λ (z : Nest). z.parent) e ∙ ap (group_at ss) (sym is_outer)) ∙ grown (group_at ss p.outer) place.nest place.found,
          place.step ∙ sym (home-kept p.outer out) ∙ ap (λ (z : Step). home homes' z.outer) (sym same),
        )

    above_old : (i : ℕ) (n : Nest) (k : ℕ) (q : Step) → groups i ≡ Some n → n.step ≡ suc k → slice_get more k ≡ Some q → (m : Nest) × (opened_groups n.parent ≡ Some m) × (m.step ≡ home homes' q.outer)
    above_old i n k q is at h =
        let a = N.nests.there i n k is at in
        let old : slice_get ss k ≡ Some q = sym (get-left ss (p ∷ []) k (get-below ss k a.0 a.1)) ∙ h in
        let b = N.nests.above i n k q is at old in
        (b.0, grown n.parent b.0 b.1, b.2 ∙ sym (home-kept q.outer (omega (arith, outwards k q old, get-below ss k q old))))

    pub nested-opened : None (λ (h : Group). not (is_sided opened_groups more h)) gs → AreNested homes' opened_groups more gs'
    nested-opened sides =
        record {
          homes = homes-more;
          nests = record {
            root = λ i n is at. ⊎_elim (λ (a : (i ≡ g.number) × (n ≡ nest)). absurd (omega (arith, at, ap (λ (z : Nest). z.step) a.1))) (λ (b : groups i ≡ Some n). N.nests.root i n b at) (either_group i n is);
            above = λ i n k q is at h. ⊎_elim (λ (a : (i ≡ g.number) × (n ≡ nest)). above_new n k q a.1 at h) (λ (b : groups i ≡ Some n). above_old i n k q b at h) (either_group i n is);
            there = λ i n k is at.
                ⊎_elim
                (λ (a : (i ≡ g.number) × (n ≡ nest)). (p, ap (slice_get more) (let e : k ≡ length ss = omega (arith, at, ap (λ (z : Nest). z.step) a.1) in e) ∙ get_end ss p))
                (λ (b : groups i ≡ Some n). let t = N.nests.there i n k b at in (t.0, get_kept ss (p ∷ []) k t.0 t.1))
                (either_group i n is);
          };
          root = (N.root.0, grown 0 N.root.0 N.root.1, N.root.2);
          sides = omega (arith, added (only (λ h. not (is_sided opened_groups more h)) (λ h. 1)), sides, ap {B = ℕ} (λ b. cond (not b) 1 0) (test-sided opened_groups more g new_sided));
          listed = λ i n k is at.
              ⊎_elim
              (λ (a : (i ≡ g.number) × (n ≡ nest)). omega (arith, added (λ (h : Group). is_this i h.number), this_is i g.number a.0))
              (λ (b : groups i ≡ Some n). omega (arith, added (λ (h : Group). is_this i h.number), N.listed i n k b at))
              (either_group i n is);
          once = λ i. by_number i (nat_eq i g.number) refl;
          feeds = feeds-more N.feeds (λ off. cc (own, off));
        }
      where
        by_number : (i : ℕ) (b : Bool) → nat_eq i g.number ≡ b → weight (λ (h : Group). is_this i h.number) gs' ≤ 1
        by_number i true e =
            let same : i ≡ g.number = eqb-true i g.number e in
            omega (arith, added (λ (h : Group). is_this i h.number), ap (λ z. weight (λ (h : Group). is_this z h.number) gs) same, unused, this_is i g.number same)
        by_number i false e = omega (arith, added (λ (h : Group). is_this i h.number), N.once i, this_not i g.number (λ s. cc (eq-eqb i g.number s, e)))

-- ---- groups close

module _ (hs : List ℕ) (groups : ℕ → Option Nest) (ss : List Step) (gs gs' : List Group) (N : AreNested hs groups ss gs) (gone : ℕ → Bool) (stays : gone 0 ≡ false)
    (closed : (i : ℕ) (n : Nest) (k : ℕ) (p : Step) → groups i ≡ Some n → n.step ≡ suc k → slice_get ss k ≡ Some p → gone i ≡ false → gone n.parent ≡ false) (rest : (w : Group → ℕ) → weight w gs' ≡ weight (but (λ (g : Group). gone g.number) w) gs) where
  pub open_groups : ℕ → Option Nest
  open_groups i = cond (gone i) Nothing (groups i)

  still : (i : ℕ) (w : Nest) → groups i ≡ Some w → gone i ≡ false → open_groups i ≡ Some w
  unfolding open_groups
  still i w h off = ap (λ b. cond b Nothing (groups i)) off ∙ h

  before : (i : ℕ) (w : Nest) → open_groups i ≡ Some w → (gone i ≡ false) × (groups i ≡ Some w)
  unfolding open_groups
  before i w h = go (gone i) refl h
    where
      go : (b : Bool) → gone i ≡ b → cond b Nothing (groups i) ≡ Some w → (gone i ≡ false) × (groups i ≡ Some w)
      go true e f = cc f
      go false e f = (e, f)

  pub placed-still : (i : ℕ) → IsPlaced hs groups ss i → gone (group_at ss i) ≡ false → IsPlaced hs open_groups ss i
  placed-still i p off = record { within = p.within; nest = p.nest; found = still (group_at ss i) p.nest p.found off; step = p.step }

  sided-still : (g : Group) → gone g.number ≡ false → IsSided groups ss g → IsSided open_groups ss g
  sided-still g off d = record { nest = d.nest; before = d.before; step = d.step; found = still g.number d.nest d.found off; parent = d.parent; at = d.at; there = d.there; outer = d.outer; fits = d.fits }

  no_more : (b : Bool) (n : ℕ) → cond b 0 n ≤ n
  no_more true n = omega arith
  no_more false n = omega arith

  pub nested-closed : AreNested hs open_groups ss gs'
  nested-closed =
      record {
        homes = N.homes;
        nests = record {
          root = λ i n is at. N.nests.root i n (before i n is).1 at;
          above = λ i n k p is at h.
              let b = before i n is in
              let a = N.nests.above i n k p b.1 at h in
              (a.0, still n.parent a.0 a.1 (closed i n k p b.1 at h b.0), a.2);
          there = λ i n k is at. N.nests.there i n k (before i n is).1 at;
        };
        root = (N.root.0, still 0 N.root.0 N.root.1 stays, N.root.2);
        sides =
            rest (only (λ g. not (is_sided open_groups ss g)) (λ g. 1))
            ∙ none-alike (λ g. not (is_sided groups ss g)) (but (λ (g : Group). gone g.number) (only (λ g. not (is_sided open_groups ss g)) (λ g. 1))) (λ g. 0) gs N.sides (λ g f. by_gone g (sided-test groups ss g (not_false (is_sided groups ss g) f)) (gone g.number) refl)
            ∙ weight-none (λ g. 0) gs (λ g. refl);
        listed = λ i n k is at.
            let b = before i n is in
            omega (arith, rest (λ (g : Group). is_this i g.number), N.listed i n k b.1 at, weight-kept i b.0 gs);
        once = λ i. omega (arith, rest (λ (g : Group). is_this i g.number), N.once i, least i gs);
        feeds = N.feeds;
      }
    where
      by_gone : (g : Group) → IsSided groups ss g → (b : Bool) → gone g.number ≡ b → cond {A = ℕ} (gone g.number) 0 (cond (not (is_sided open_groups ss g)) 1 0) ≡ 0
      by_gone g d true e = ap {B = ℕ} (λ b. cond b 0 (cond (not (is_sided open_groups ss g)) 1 0)) e
      by_gone g d false e = ap {B = ℕ} (λ b. cond b 0 (cond (not (is_sided open_groups ss g)) 1 0)) e ∙ ap {B = ℕ} (λ b. cond (not b) 1 0) (test-sided open_groups ss g (sided-still g e d))

      weight-kept : (i : ℕ) → gone i ≡ false → (gs : List Group) → weight (but (λ (g : Group). gone g.number) (λ (g : Group). is_this i g.number)) gs ≡ weight (λ (g : Group). is_this i g.number) gs
      weight-kept i off [] = refl
      weight-kept i off (g ∷ gs) = omega (arith, one (nat_eq i g.number) refl, weight-kept i off gs)
        where
          one : (b : Bool) → nat_eq i g.number ≡ b → cond {A = ℕ} (gone g.number) 0 (is_this i g.number) ≡ is_this i g.number
          one true e = ap {B = ℕ} (λ b. cond b 0 (is_this i g.number)) (ap gone (sym (eqb-true i g.number e)) ∙ off)
          one false e = ap {B = ℕ} (λ b. cond (gone g.number) 0 (cond b 1 0)) e ∙ none (gone g.number) ∙ ap {B = ℕ} (λ b. cond b 1 0) (sym e)
            where
              none : (b : Bool) → cond {A = ℕ} b 0 0 ≡ 0
              none true = refl
              none false = refl

      least : (i : ℕ) (gs : List Group) → weight (but (λ (g : Group). gone g.number) (λ (g : Group). is_this i g.number)) gs ≤ weight (λ (g : Group). is_this i g.number) gs
      least i [] = omega arith
      least i (g ∷ gs) = omega (arith, no_more (gone g.number) (is_this i g.number), least i gs)
