-- What is told of a claim, in words.
use Rattle.std.specs.Prelude.{◌≡◌, ◌<◌, ℕ, List, Some, None, true, false}
use Rattle.std.specs.List.{count_by, list_any, slice_get}
use Rattle.orc_claims.specs.declared.claim.Claim.{Claim}
use Rattle.orc_tally.specs.Sight.{Sight, fails, said}
use Rattle.orc_tally.specs.Told.{fails_in, tests_in, told}
use Rattle.orc_tally.specs.declared.told.Failure.{Failure}
use Rattle.orc_tally.specs.declared.told.Told.{Told}

-- the claim fails in the trial of this way and order, at this place, and in none before: of no way before, nor of this way in an order before
pub record IsFirst (c : Claim) (trials : List (List Sight)) (f : Failure) : Type 0 where
  pub way : List Sight
  pub is_way : slice_get trials f.way ≡ Some way
  pub trial : Sight
  pub is_trial : slice_get way f.order ≡ Some trial
  pub failing : fails c trial ≡ true
  pub place : f.verdict ≡ (said c trial).verdict
  pub no_way_before : (k : ℕ) (ss : List Sight) → k < f.way → slice_get trials k ≡ Some ss → fails_in c ss ≡ false
  pub no_order_before : (k : ℕ) (s : Sight) → k < f.order → slice_get way k ≡ Some s → fails c s ≡ false

-- this is true of a claim, of trials way by way
pub record IsTrue (c : Claim) (trials : List (List Sight)) (t : Told) : Type 0 where
  -- so many ways have a trial in which it fails
  pub counted : t.failing ≡ count_by (fails_in c) trials
  pub first : (f : Failure) → t.first ≡ Some f → IsFirst c trials f
  -- where no failure is told it fails in none
  pub none : t.first ≡ None → (k : ℕ) (ss : List Sight) → slice_get trials k ≡ Some ss → fails_in c ss ≡ false
  -- it was put to the test in a trial, or in none
  pub tested : t.tested ≡ list_any (tests_in c) trials

-- what is told is true
abbrev pub ToldIsTrue : Type 0
ToldIsTrue = (c : Claim) (trials : List (List Sight)) → IsTrue c trials (told c trials)
