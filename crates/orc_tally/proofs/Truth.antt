-- What is told of a claim is true.
use Rattle.std.proofs.Common.{◌≡◌, ◌∷◌, ◌∙◌, ◌+◌, ◌<◌, ◌||◌, ℕ, zero, suc, List, [], Bool, true, false, cond, Option, Some, None, arith, ap, refl, subst, sym}
use Rattle.std.specs.List.{slice_get}
use Rattle.orc_claims.specs.declared.claim.Claim.{Claim}
use Rattle.orc_tally.specs.Laws.{IsFirst, ToldIsTrue}
use Rattle.orc_tally.specs.Sight.{Sight, fails, said}
use Rattle.orc_tally.specs.Told.{fails_in, first_failure, first_in_ways, first_of}
use Rattle.orc_tally.specs.declared.told.Failure.{Failure}

same_some : {X : Type 0} (x y : X) → ◌≡◌ {A = Option X} (Some x) (Some y) → x ≡ y
same_some x y e = cc e

-- what none of those before passes, with one more in front
earlier : {X : Type 0} (p : X → Bool) (x : X) (xs : List X) (k : ℕ) → p x ≡ false → ((j : ℕ) (y : X) → j < k → slice_get xs j ≡ Some y → p y ≡ false) → (j : ℕ) (y : X) → j < suc k → slice_get (x ∷ xs) j ≡ Some y → p y ≡ false
earlier p x xs k here before zero y lt at = ap p (sym (same_some x y at)) ∙ here
earlier p x xs k here before (suc j) y lt at = before j y (omega (arith, lt)) at

-- ---- of a way

abbrev failure_at : Claim → ℕ → ℕ → Sight → Failure
failure_at c way order s = record { way = way; order = order; verdict = (said c s).verdict }

record InWay (c : Claim) (way order : ℕ) (ss : List Sight) (f : Failure) : Type 0 where
  k : ℕ
  way_is : f.way ≡ way
  order_is : f.order ≡ order + k
  trial : Sight
  is_trial : slice_get ss k ≡ Some trial
  failing : fails c trial ≡ true
  place : f.verdict ≡ (said c trial).verdict
  before : (j : ℕ) (s : Sight) → j < k → slice_get ss j ≡ Some s → fails c s ≡ false

in_way : (c : Claim) (way order : ℕ) (ss : List Sight) (f : Failure) → first_failure c way order ss ≡ Some f → InWay c way order ss f
in_way c way order [] f e = absurd (cc e)
in_way c way order (s ∷ ss) f e = go (in_way c way (suc order) ss f) (fails c s) refl e
  where
    go : (first_failure c way (suc order) ss ≡ Some f → InWay c way (suc order) ss f) → (b : Bool) → fails c s ≡ b → cond b (Some (failure_at c way order s)) (first_failure c way (suc order) ss) ≡ Some f → InWay c way order (s ∷ ss) f
    go more true is e =
        let same : f ≡ failure_at c way order s = sym (same_some (failure_at c way order s) f e) in
        let here : order ≡ order + 0 = omega arith in
        record {
          k = 0;
          way_is = ap (λ g. g.way) same;
          order_is = ap (λ g. g.order) same ∙ here;
          trial = s;
          is_trial = refl;
          failing = is;
          place = ap (λ g. g.verdict) same;
          before = λ j r lt at. absurd (omega (arith, lt));
        }
    go more false is e =
        let rest = more e in
        let here : suc order + rest.k ≡ order + suc rest.k = omega arith in
        record {
          k = suc rest.k;
          way_is = rest.way_is;
          order_is = rest.order_is ∙ here;
          trial = rest.trial;
          is_trial = rest.is_trial;
          failing = rest.failing;
          place = rest.place;
          before = earlier (fails c) s ss rest.k is rest.before;
        }

none_in_way : (c : Claim) (way order : ℕ) (ss : List Sight) → first_failure c way order ss ≡ None → fails_in c ss ≡ false
none_in_way c way order [] e = refl
none_in_way c way order (s ∷ ss) e = go (none_in_way c way (suc order) ss) (fails c s) refl e
  where
    go : (first_failure c way (suc order) ss ≡ None → fails_in c ss ≡ false) → (b : Bool) → fails c s ≡ b → cond b (Some (failure_at c way order s)) (first_failure c way (suc order) ss) ≡ None → (fails c s || fails_in c ss) ≡ false
    go more true is e = absurd (cc e)
    go more false is e = ap (λ b. b || fails_in c ss) is ∙ more e

-- ---- of all ways

record InWays (c : Claim) (way : ℕ) (sss : List (List Sight)) (f : Failure) : Type 0 where
  k : ℕ
  way_is : f.way ≡ way + k
  trials : List Sight
  are_trials : slice_get sss k ≡ Some trials
  found : InWay c (way + k) 0 trials f
  before : (j : ℕ) (ss : List Sight) → j < k → slice_get sss j ≡ Some ss → fails_in c ss ≡ false

in_ways : (c : Claim) (way : ℕ) (sss : List (List Sight)) (f : Failure) → first_in_ways c way sss ≡ Some f → InWays c way sss f
in_ways c way [] f e = absurd (cc e)
in_ways c way (ss ∷ sss) f e = go (in_ways c (suc way) sss f) (first_failure c way 0 ss) refl e
  where
    go : (first_in_ways c (suc way) sss ≡ Some f → InWays c (suc way) sss f) → (o : Option Failure) → first_failure c way 0 ss ≡ o → first_of o (first_in_ways c (suc way) sss) ≡ Some f → InWays c way (ss ∷ sss) f
    go more (Some g) is e =
        let here : way ≡ way + 0 = omega arith in
        let found = in_way c way 0 ss f (is ∙ e) in
        record {
          k = 0;
          way_is = found.way_is ∙ here;
          trials = ss;
          are_trials = refl;
          found = subst (λ n. InWay c n 0 ss f) here found;
          before = λ j r lt at. absurd (omega (arith, lt));
        }
    go more None is e =
        let rest = more e in
        let here : suc way + rest.k ≡ way + suc rest.k = omega arith in
        record {
          k = suc rest.k;
          way_is = rest.way_is ∙ here;
          trials = rest.trials;
          are_trials = rest.are_trials;
          found = subst (λ n. InWay c n 0 rest.trials f) here rest.found;
          before = earlier (fails_in c) ss sss rest.k (none_in_way c way 0 ss is) rest.before;
        }

none_in_ways : (c : Claim) (way : ℕ) (sss : List (List Sight)) → first_in_ways c way sss ≡ None → (k : ℕ) (ss : List Sight) → slice_get sss k ≡ Some ss → fails_in c ss ≡ false
none_in_ways c way [] e k ss at = absurd (cc at)
none_in_ways c way (ss ∷ sss) e k r at = go (none_in_ways c (suc way) sss) (first_failure c way 0 ss) refl e k at
  where
    go : (first_in_ways c (suc way) sss ≡ None → (k : ℕ) (ss : List Sight) → slice_get sss k ≡ Some ss → fails_in c ss ≡ false) → (o : Option Failure) → first_failure c way 0 ss ≡ o → first_of o (first_in_ways c (suc way) sss) ≡ None → (k : ℕ) → slice_get (ss ∷ sss) k ≡ Some r → fails_in c r ≡ false
    go more (Some g) is e k at = absurd (cc e)
    go more None is e zero at = ap (fails_in c) (sym (same_some ss r at)) ∙ none_in_way c way 0 ss is
    go more None is e (suc k) at = more e k r at

first_is : (c : Claim) (sss : List (List Sight)) (f : Failure) → first_in_ways c 0 sss ≡ Some f → IsFirst c sss f
first_is c sss f e =
    let there = in_ways c 0 sss f e in
    let found = there.found in
    let way : there.k ≡ f.way = omega (arith, there.way_is) in
    let order : found.k ≡ f.order = omega (arith, found.order_is) in
    record {
      way = there.trials;
      is_way = subst (λ n. slice_get sss n ≡ Some there.trials) way there.are_trials;
      trial = found.trial;
      is_trial = subst (λ n. slice_get there.trials n ≡ Some found.trial) order found.is_trial;
      failing = found.failing;
      place = found.place;
      no_way_before = λ j ss lt at. there.before j ss (omega (arith, lt, way)) at;
      no_order_before = λ j s lt at. found.before j s (omega (arith, lt, order)) at;
    }

pub told_is_true : ToldIsTrue
told_is_true c sss = record { counted = refl; first = first_is c sss; none = none_in_ways c 0 sss; tested = refl }
