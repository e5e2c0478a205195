-- A list that was lent as a whole.
use Rattle.std.proofs.Common.{◌≡◌, ◌++◌, ℕ, List, All, arith, drop, length, take, subst, sym}
use Rattle.std.proofs.lemmas.Grind.{common_steps}

pub filled : {X : Type 0} (P : X → Type 0) (n : ℕ) (xs ys : List X) → n ≡ length xs → length ys ≡ length xs → All P ys → All P (take n (ys ++ drop (length ys) xs))
filled P n xs ys long same all =
    let whole : take n (ys ++ drop (length ys) xs) ≡ ys = grind (arith, common_steps) in
    subst (All P) (sym whole) all
