-- Places that are listed by falling ranks: each stands in the list once.
use Rattle.std.proofs.Common.{◌≡◌, ◌≤◌, ◌<◌, ◌+◌, ◌++◌, ℕ, zero, suc, List, [], ◌∷◌, ap, arith, Option, Some, None}
use Rattle.std.specs.Prelude.{slice_get}
use Rattle.orc_indexes.specs.Same.{weight, is_this}
use Rattle.orc_indexes.specs.declared.chains.Link.{Link}
use Rattle.orc_indexes.proofs.Weight.{this_one, one-most}
use Rattle.orc_indexes.proofs.Lists.{weight-end}

abbrev pub rank_of : Option Link → ℕ
rank_of (Some l) = l.rank
rank_of None = 0

abbrev pub rank_at : List Link → ℕ → ℕ
rank_at ls k = rank_of (slice_get ls k)

nought_or : (n : ℕ) → (1 ≤ n → ⊥) → n ≡ 0
nought_or zero h = omega arith
nought_or (suc n) h = absurd (h (omega arith))

module _ (ls : List Link) (xs : List ℕ) (rank at : ℕ) (l : Link) (is : slice_get ls at ≡ Some l) (less : l.rank < rank)
    (once : (k : ℕ) → weight (is_this k) xs ≤ 1) (later : (k : ℕ) → 1 ≤ weight (is_this k) xs → rank ≤ rank_at ls k) where
  at_rank : rank_at ls at ≡ l.rank
  at_rank = ap rank_of is

  absent : weight (is_this at) xs ≡ 0
  absent = nought_or (weight (is_this at) xs) (λ h. omega (arith, later at h, at_rank, less))

  by_this : (k n : ℕ) → is_this k at ≡ n → weight (is_this k) xs + n ≤ 1
  by_this k zero e = omega (arith, once k)
  by_this k (suc n) e = let same : k ≡ at = this_one k at (omega (arith, e)) in omega (arith, absent, ap (λ z. weight (is_this z) xs) same, one-most k at, e)

  pub once-more : (k : ℕ) → weight (is_this k) (xs ++ at ∷ []) ≤ 1
  once-more k = omega (arith, weight-end (is_this k) xs at, by_this k (is_this k at) (λ i. is_this k at))

  later_by : (k n : ℕ) → is_this k at ≡ n → 1 ≤ weight (is_this k) xs + n → l.rank ≤ rank_at ls k
  later_by k zero e h = omega (arith, later k (omega (arith, h)), less)
  later_by k (suc n) e h = let same : k ≡ at = this_one k at (omega (arith, e)) in omega (arith, ap (rank_at ls) same, at_rank)

  pub later-more : (k : ℕ) → 1 ≤ weight (is_this k) (xs ++ at ∷ []) → l.rank ≤ rank_at ls k
  later-more k h = later_by k (is_this k at) (λ i. is_this k at) (omega (arith, h, weight-end (is_this k) xs at))
