-- Where steps and sides stand among the groups, as tests: weights carry them from one book to the next.
use Rattle.std.proofs.Common.{◌≡◌, ◌≤◌, ℕ, zero, suc, List, refl, ap, ◌∙◌, Bool, true, false, nat_eq, eq-eqb, not, Option, Some, None as Nothing, length}
use Rattle.std.proofs.lemmas.Bool.{eqb-true, ltb-false, le-ltb}
use Rattle.std.specs.Prelude.{slice_get, nat_lt, ◌&&◌}
use Rattle.orc_rules.specs.Timed.{IsIn}
use Rattle.orc_indexes.specs.Same.{None}
use Rattle.orc_tables.specs.Steps.{group_at}
use Rattle.orc_ledger_spec.specs.Homes.{home, Nest}
use Rattle.orc_ledger_spec.specs.Next.{IsSide}
use Rattle.orc_tables.specs.declared.records.Frame.{Frame}
use Rattle.orc_tables.specs.declared.records.Frame.TheVariants.{SeqLeft, PruneRight, OtherwiseLeft}
use Rattle.orc_tables.specs.declared.records.Step.{Step}
use Rattle.orc_tables.specs.declared.records.Side.{Side}
use Rattle.orc_tables.specs.declared.records.Side.TheVariants.{Right, Left}
use Rattle.orc_tables.specs.declared.records.Group.{Group}
use Rattle.orc_indexes.proofs.Weight.{none-in}
use Rattle.orc_ledger_spec.proofs.Emptied.{none-of}

pub both_true : (a b : Bool) → a ≡ true → b ≡ true → (a && b) ≡ true
both_true a b e f = ap (λ x. x && b) e ∙ f

pub and_true : (a b : Bool) → (a && b) ≡ true → (a ≡ true) × (b ≡ true)
and_true true b h = (refl, h)
and_true false b h = cc h

pub not_false : (b : Bool) → not b ≡ false → b ≡ true
not_false true h = refl
not_false false h = cc h

pub all-of : {X : Type 0} (test : X → Bool) (xs : List X) → ((x : X) → IsIn x xs → test x ≡ true) → None (λ x. not (test x)) xs
all-of test xs h = none-of (λ x. not (test x)) xs (λ x i. ap not (h x i))

pub all-in : {X : Type 0} (test : X → Bool) (xs : List X) (x : X) → None (λ x. not (test x)) xs → IsIn x xs → test x ≡ true
all-in test xs x h i = not_false (test x) (none-in (λ x. not (test x)) xs x h i)

abbrev pub is_nest : Option Nest → ℕ → Bool
is_nest (Some w) i = nat_eq w.step i
is_nest Nothing i = false

module _ (hs : List ℕ) (groups : ℕ → Option Nest) (ss : List Step) where
  abbrev pub is_placed : ℕ → Bool
  is_placed i = not (nat_lt (length ss) i) && is_nest (groups (group_at ss i)) (home hs i)

  -- the step is there, and its group is open and that of its home
  pub record IsPlaced (i : ℕ) : Type 0 where
    pub within : i ≤ length ss
    pub nest : Nest
    pub found : groups (group_at ss i) ≡ Some nest
    pub step : nest.step ≡ home hs i

  pub test-placed : (i : ℕ) → IsPlaced i → is_placed i ≡ true
  test-placed i p = both_true (not (nat_lt (length ss) i)) (is_nest (groups (group_at ss i)) (home hs i)) (ap not (le-ltb (length ss) i p.within)) (ap (λ o. is_nest o (home hs i)) p.found ∙ eq-eqb p.nest.step (home hs i) p.step)

  pub placed-test : (i : ℕ) → is_placed i ≡ true → IsPlaced i
  placed-test i h =
      let b = and_true (not (nat_lt (length ss) i)) (is_nest (groups (group_at ss i)) (home hs i)) h in
      go (groups (group_at ss i)) refl (ltb-false (length ss) i (no_true (nat_lt (length ss) i) b.0)) b.1
    where
      no_true : (b : Bool) → not b ≡ true → b ≡ false
      no_true true h = cc h
      no_true false h = refl

      go : (o : Option Nest) → groups (group_at ss i) ≡ o → i ≤ length ss → is_nest o (home hs i) ≡ true → IsPlaced i
      go (Some w) e le h = record { within = le; nest = w; found = e; step = eqb-true w.step (home hs i) h }
      go Nothing e le h = cc h

abbrev pub is_fit : Frame → Side → Bool
is_fit (SeqLeft x g scope) k = false
is_fit (PruneRight c) (Right d) = nat_eq c d
is_fit (PruneRight c) (Left n g scope) = false
is_fit (OtherwiseLeft m) (Right d) = false
is_fit (OtherwiseLeft m) (Left n g scope) = nat_eq m n

test-fit : (e : Frame) (k : Side) → IsSide e k → is_fit e k ≡ true
test-fit (SeqLeft x g scope) (Right d) h = elim h [ ]
test-fit (SeqLeft x g scope) (Left n f sc) h = elim h [ ]
test-fit (PruneRight c) (Right d) h = eq-eqb c d h
test-fit (PruneRight c) (Left n g scope) h = elim h [ ]
test-fit (OtherwiseLeft m) (Right d) h = elim h [ ]
test-fit (OtherwiseLeft m) (Left n g scope) h = eq-eqb m n h

fit-test : (e : Frame) (k : Side) → is_fit e k ≡ true → IsSide e k
fit-test (SeqLeft x g scope) k h = cc h
fit-test (PruneRight c) (Right d) h = eqb-true c d h
fit-test (PruneRight c) (Left n g scope) h = cc h
fit-test (OtherwiseLeft m) (Right d) h = cc h
fit-test (OtherwiseLeft m) (Left n g scope) h = eqb-true m n h

abbrev pub is_fitted : Option Step → Group → Bool
is_fitted (Some p) g = nat_eq p.outer g.outer && is_fit p.entered g.side
is_fitted Nothing g = false

abbrev pub is_stepped : List Step → ℕ → Group → Bool
is_stepped ss zero g = false
is_stepped ss (suc k) g = is_fitted (slice_get ss k) g

abbrev pub is_nested : List Step → Option Nest → Group → Bool
is_nested ss (Some w) g = nat_eq w.parent (group_at ss g.outer) && is_stepped ss w.step g
is_nested ss Nothing g = false

module _ (groups : ℕ → Option Nest) (ss : List Step) where
  -- the group's step is that of its side, and its parent is the group of its outer step
  pub record IsSided (g : Group) : Type 0 where
    pub nest : Nest
    pub before : ℕ
    pub step : Step
    pub found : groups g.number ≡ Some nest
    pub parent : nest.parent ≡ group_at ss g.outer
    pub at : nest.step ≡ suc before
    pub there : slice_get ss before ≡ Some step
    pub outer : step.outer ≡ g.outer
    pub fits : IsSide step.entered g.side

  abbrev pub is_sided : Group → Bool
  is_sided g = is_nested ss (groups g.number) g

  pub test-sided : (g : Group) → IsSided g → is_sided g ≡ true
  test-sided g s =
      ap (λ o. is_nested ss o g) s.found
      ∙ both_true (nat_eq s.nest.parent (group_at ss g.outer)) (is_stepped ss s.nest.step g) (eq-eqb s.nest.parent (group_at ss g.outer) s.parent)
      (ap (λ k. is_stepped ss k g) s.at ∙ ap (λ o. is_fitted o g) s.there ∙ both_true (nat_eq s.step.outer g.outer) (is_fit s.step.entered g.side) (eq-eqb s.step.outer g.outer s.outer) (test-fit s.step.entered g.side s.fits))

  pub sided-test : (g : Group) → is_sided g ≡ true → IsSided g
  sided-test g h = of_nest (groups g.number) refl h
    where
      of_step : (w : Nest) → groups g.number ≡ Some w → w.parent ≡ group_at ss g.outer → (k : ℕ) → w.step ≡ suc k → (o : Option Step) → slice_get ss k ≡ o → is_fitted o g ≡ true → IsSided g
      of_step w e parent k at (Some p) there h =
          let b = and_true (nat_eq p.outer g.outer) (is_fit p.entered g.side) h in
          record { nest = w; before = k; step = p; found = e; parent = parent; at = at; there = there; outer = eqb-true p.outer g.outer b.0; fits = fit-test p.entered g.side b.1 }
      of_step w e parent k at Nothing there h = cc h

      of_number : (w : Nest) → groups g.number ≡ Some w → w.parent ≡ group_at ss g.outer → (k : ℕ) → w.step ≡ k → is_stepped ss k g ≡ true → IsSided g
      of_number w e parent zero at h = cc h
      of_number w e parent (suc k) at h = of_step w e parent k at (slice_get ss k) refl h

      of_nest : (o : Option Nest) → groups g.number ≡ o → is_nested ss o g ≡ true → IsSided g
      of_nest (Some w) e h =
          let b = and_true (nat_eq w.parent (group_at ss g.outer)) (is_stepped ss w.step g) h in
          of_number w e (eqb-true w.parent (group_at ss g.outer) b.0) w.step refl b.1
      of_nest Nothing e h = cc h
