-- Claims on small runs, worked out.
use Rattle.std.proofs.Common.{◌≡◌, ℕ, List, [], ◌∷◌, true, false, Some, None, refl}
use Rattle.std.specs.Prelude.{pos}
use Rattle.std.specs.Global.{Vec}
use Rattle.orc_rules.specs.declared.entry.State.TheVariants.{Halted, Quiet}
use Rattle.orc_rules.specs.declared.value.Value.{Value}
use Rattle.orc_rules.specs.declared.value.Value.TheVariants.{Number}
use Rattle.orc_claims.specs.declared.claim.Event.{Event}
use Rattle.orc_claims.specs.declared.claim.Plain.TheVariants.{Count, AtOnce, OnlyAfter, NoneAfter, EachThen, Ends, InAnyOrder}
use Rattle.orc_claims.specs.declared.claim.Simple.{Simple}
use Rattle.orc_claims.specs.declared.claim.Simple.TheVariants as simple
use Rattle.orc_claims.specs.declared.claim.Slot.{Slot}
use Rattle.orc_claims.specs.declared.claim.Slot.TheVariants.{Any, Variable}
use Rattle.orc_claims.specs.declared.claim.Wanted.{Wanted}
use Rattle.orc_claims.specs.declared.claim.Wanted.TheVariants as wanted
use Rattle.orc_claims.specs.declared.happening.Happening.{Happening}
use Rattle.orc_claims.specs.declared.happening.Phase.{Phase}
use Rattle.orc_claims.specs.declared.happening.Phase.TheVariants as phase
use Rattle.orc_claims.specs.declared.happening.Occurrence.TheVariants as what
use Rattle.orc_claims.specs.Claims.{holds_plain}
use Rattle.orc_claims.specs.Verdicts.{place, tests_plain}

abbrev number : ℕ → Value
number n = Number (pos n)

abbrev call : ℕ → ℕ → ℕ → Phase → Happening
call t m n p = record { time = t; what = what.Call m (number n ∷ []) p }

abbrev publication : ℕ → ℕ → Happening
publication t n = record { time = t; what = what.Published (number n) }

-- Vectors with these items, whatever else they have.
module _ (vec : (X : Type 0) → List X → Vec X) (items : (X : Type 0) (xs : List X) → (vec X xs).items ≡ xs) where
  abbrev event : ℕ → Slot → Wanted → Event
  event m s w = record { alternatives = vec Simple (simple.Call m (vec Slot (s ∷ [])) w ∷ []) }

  -- 7 charges, and 8 refunds what 7 answered
  abbrev charges : Event
  charges = event 7 Any wanted.Called

  abbrev charged : Event
  charged = event 7 Any (wanted.Answered (Variable 0))

  abbrev refunds : Event
  refunds = event 8 (Variable 0) wanted.Called

  -- the first charge is cancelled at 3, the second one is made at the same time, and answers 41 at 5
  abbrev checkout : List Happening
  checkout = call 0 7 1 phase.Called ∷ call 3 7 1 phase.Cancelled ∷ call 3 7 2 phase.Called ∷ call 5 7 2 (phase.Answered (number 41)) ∷ []

  -- it is charged once where a cancelled call doesn't count, and twice where it may have charged
  charged_once : holds_plain (Count charged 1 (Some 1) None) checkout Halted 5 ≡ true
  charged_once = simp items refl

  charged_twice : holds_plain (Count charges 0 (Some 1) None) checkout Halted 5 ≡ false
  charged_twice = simp items refl

  -- the second one fails it
  fails_at_the_second : place (Count charges 0 (Some 1) None) checkout ≡ Some 2
  fails_at_the_second = simp items refl

  -- but for the tie at 3 two were out at once
  one_at_once : holds_plain (AtOnce charges 1) checkout Halted 5 ≡ true
  one_at_once = simp items refl

  two_at_once : holds_plain (AtOnce charges 1) (call 0 7 1 phase.Called ∷ call 3 7 2 phase.Called ∷ call 3 7 1 phase.Cancelled ∷ []) Halted 5 ≡ false
  two_at_once = simp items refl

  -- what was charged is refunded, and nothing else
  refunded_after : holds_plain (OnlyAfter refunds charged) (call 5 7 2 (phase.Answered (number 41)) ∷ call 6 8 41 phase.Called ∷ []) Halted 6 ≡ true
  refunded_after = simp items refl

  refunded_another : holds_plain (OnlyAfter refunds charged) (call 5 7 2 (phase.Answered (number 41)) ∷ call 6 8 42 phase.Called ∷ []) Halted 6 ≡ false
  refunded_another = simp items refl

  refunded_before : holds_plain (OnlyAfter refunds charged) (call 5 8 41 phase.Called ∷ call 5 7 2 (phase.Answered (number 41)) ∷ []) Halted 6 ≡ false
  refunded_before = simp items refl

  none_refunded_after : holds_plain (NoneAfter refunds charged) (call 5 8 41 phase.Called ∷ call 5 7 2 (phase.Answered (number 41)) ∷ call 6 8 42 phase.Called ∷ []) Halted 6 ≡ true
  none_refunded_after = simp items refl

  -- at the greatest time, and one later
  refunded_in_time : holds_plain (EachThen charged refunds (Some 3)) (call 5 7 2 (phase.Answered (number 41)) ∷ call 8 8 41 phase.Called ∷ []) Halted 8 ≡ true
  refunded_in_time = simp items refl

  refunded_late : holds_plain (EachThen charged refunds (Some 3)) (call 5 7 2 (phase.Answered (number 41)) ∷ call 9 8 41 phase.Called ∷ []) Halted 9 ≡ false
  refunded_late = simp items refl

  -- a claim that holds since nothing came isn't put to the test
  nothing_came : tests_plain (EachThen charged refunds None) (call 0 7 1 phase.Called ∷ []) ≡ false
  nothing_came = simp items refl

  published_in_any_order : holds_plain (InAnyOrder (vec Value (number 1 ∷ number 2 ∷ number 1 ∷ []))) (publication 0 2 ∷ publication 1 1 ∷ publication 1 1 ∷ []) Halted 1 ≡ true
  published_in_any_order = simp items refl

  published_too_often : holds_plain (InAnyOrder (vec Value (number 1 ∷ number 2 ∷ number 1 ∷ []))) (publication 0 2 ∷ publication 1 2 ∷ publication 1 1 ∷ []) Halted 1 ≡ false
  published_too_often = simp items refl

ends_in_time : holds_plain (Ends true false (Some 20)) [] Halted 20 ≡ true
ends_in_time = refl

ends_late : holds_plain (Ends true true (Some 20)) [] Quiet 21 ≡ false
ends_late = refl

ends_quiet : holds_plain (Ends true false None) [] Quiet 1 ≡ false
ends_quiet = refl
