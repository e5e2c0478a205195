-- What is in a list.
use Rattle.std.proofs.Common.{◌++◌, ◌∷◌, ◌⊎◌, inl, inr, List, []}
use Rattle.orc_rules.specs.Timed.{IsIn}

pub at_front : {X : Type 0} (x : X) (xs ys : List X) → IsIn x xs → IsIn x (xs ++ ys)
at_front x [] ys is = absurd is
at_front x (y ∷ xs) ys (inl same) = inl same
at_front x (y ∷ xs) ys (inr later) = inr (at_front x xs ys later)

pub at_back : {X : Type 0} (x : X) (xs ys : List X) → IsIn x ys → IsIn x (xs ++ ys)
at_back x [] ys is = is
at_back x (y ∷ xs) ys is = inr (at_back x xs ys is)

behind_first : {X : Type 0} (x y : X) (xs ys : List X) → IsIn x xs ⊎ IsIn x ys → IsIn x (y ∷ xs) ⊎ IsIn x ys
behind_first x y xs ys (inl is) = inl (inr is)
behind_first x y xs ys (inr is) = inr is

pub of_either : {X : Type 0} (x : X) (xs ys : List X) → IsIn x (xs ++ ys) → IsIn x xs ⊎ IsIn x ys
of_either x [] ys is = inr is
of_either x (y ∷ xs) ys (inl same) = inl (inl same)
of_either x (y ∷ xs) ys (inr later) = behind_first x y xs ys (of_either x xs ys later)
