-- The answers of a line by their places.
use Rattle.std.proofs.Common.{◌≡◌, ℕ, zero, suc, ◌<◌, ◌≤◌, ◌-◌, List, [], ◌∷◌, length, refl, arith, slice_index_or}
use Rattle.orc_rules.specs.declared.value.Found.{Found}
use Rattle.orc_rules.specs.Sites.{nth_answer}

pub nth_within : (answers : List Found) (n : ℕ) (d : Found) → n < length answers → slice_index_or answers n d ≡ nth_answer answers n
nth_within [] n d h = absurd (omega (arith, h))
nth_within (a ∷ []) zero d h = refl
nth_within (a ∷ []) (suc n) d h = absurd (omega (arith, h))
nth_within (a ∷ b ∷ more) zero d h = refl
nth_within (a ∷ b ∷ more) (suc n) d h = nth_within (b ∷ more) n d (omega (arith, h))

pub nth_past : (answers : List Found) (n : ℕ) (d : Found) → 0 < length answers → length answers ≤ n → slice_index_or answers (length answers - 1) d ≡ nth_answer answers n
nth_past [] n d some h = absurd (omega (arith, some))
nth_past (a ∷ []) n d some h = refl
nth_past (a ∷ b ∷ more) zero d some h = absurd (omega (arith, h))
nth_past (a ∷ b ∷ more) (suc n) d some h =
    let e : length (a ∷ b ∷ more) - 1 ≡ suc (length (b ∷ more) - 1) = omega arith in
    rw e (nth_past (b ∷ more) n d (omega arith) (omega (arith, h)))
