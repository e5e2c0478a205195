-- Numbers that stop at a largest one.
use Rattle.std.proofs.Common.{◌≡◌, ℕ, zero, suc, ◌+◌, ◌*◌, ◌≤◌, refl, ap, ◌∙◌, inl, inr, arith}
use Rattle.std.proofs.Math.Nat.{mul-le-mul_right, le-mul_of_pos_right}
use Rattle.std.proofs.lemmas.Bool.{cases_lt}
use Rattle.std.specs.Prelude.{min}

-- where a number has stopped, its multiples have, too
stopped : (a p most : ℕ) → most ≤ a → min (most * suc p) most ≡ min (a * suc p) most
stopped a p most le =
    let one : most ≤ most * suc p = le-mul_of_pos_right most (omega arith) in
    let two : most * suc p ≤ a * suc p = mul-le-mul_right (suc p) le in
    omega arith

times_stops : (a p most : ℕ) → min (min a most * p) most ≡ min (a * p) most
times_stops a zero most = let e : min a most * 0 ≡ 0 = omega arith in let d : a * 0 ≡ 0 = omega arith in rw (e, d) refl
times_stops a (suc p) most =
    elim (cases_lt a most) [
      | inl below ↦ (let e : min a most ≡ a = omega arith in rw e refl)
      | inr above ↦ (let e : min a most ≡ most = omega arith in rw e (stopped a p most above))
    ]

-- a product so far, one more, and what is left
pub product_more : (a b p most : ℕ) → min (min (a * min b most) most * p) most ≡ min (a * (b * p)) most
product_more a b p most =
    times_stops (a * min b most) p most
    ∙ ap (λ (n : ℕ). min n most) (let e : a * min b most * p ≡ min b most * (a * p) = omega arith in e)
    ∙ times_stops b (a * p) most
    ∙ ap (λ (n : ℕ). min n most) (let e : b * (a * p) ≡ a * (b * p) = omega arith in e)

-- a sum so far, one more, and what is left
pub sum_more : (a b p most : ℕ) → min (min (a + min b most) most + p) most ≡ min (a + (b + p)) most
sum_more a b p most = omega arith
