-- One outcome came up once more: all but its number is as before.
use Rattle.std.proofs.Common.{◌≡◌, ◌<◌, ◌+◌, ℕ, List, Some, AllPairs, arith, length, length-set, slice_get, slice_index_or, slice_set, get_or-set_same, get_or-set_other, subst, sym, ⊎_elim}
use Rattle.std.proofs.lemmas.Bool.{cases_eq}
use Rattle.std.proofs.lemmas.Option.{get_or_from_slice_get, slice_get_within}
use Rattle.orc_orders.specs.declared.seen.Seen.{Seen}

module _ (xs : List Seen) (at : ℕ) (x : Seen) (here : slice_get xs at ≡ Some x) where
  abbrev raised : Seen
  raised = record x { times = x.times + 1 }

  pub within : at < length xs
  within = slice_get_within xs at x here

  pub at_it : (d : Seen) → slice_index_or (slice_set xs at raised) at d ≡ raised
  at_it d = get_or-set_same xs at raised d within

  pub elsewhere : (k : ℕ) (d : Seen) → (k ≡ at → ⊥) → slice_index_or (slice_set xs at raised) k d ≡ slice_index_or xs k d
  elsewhere k d ne = get_or-set_other xs at k raised d ne

  -- what is said of an outcome without its number
  pub stays : (P : Seen → Type 0) → ((y : Seen) → P y → P (record y { times = y.times + 1 })) → (k : ℕ) (d : Seen) → P (slice_index_or xs k d) → P (slice_index_or (slice_set xs at raised) k d)
  stays P holds k d h = ⊎_elim
      (λ e. subst (λ n. P (slice_index_or (slice_set xs at raised) n d)) (sym e) (subst P (sym (at_it d)) (holds x (subst P (get_or_from_slice_get xs at x d here) (subst (λ n. P (slice_index_or xs n d)) e h)))))
      (λ ne. subst P (sym (elsewhere k d ne)) h)
      (cases_eq k at)

  -- and of two
  pub pairs_stay : (R : Seen → Seen → Type 0) → ((y z : Seen) → R y z → R (record y { times = y.times + 1 }) z) → ((y z : Seen) → R y z → R y (record z { times = z.times + 1 })) → AllPairs R xs → AllPairs R (slice_set xs at raised)
  pairs_stay R left right h i j d lt inside =
      let earlier = stays (λ y. R y (slice_index_or xs j d)) (λ y. left y (slice_index_or xs j d)) i d (h i j d lt (omega (arith, length-set xs at raised, inside))) in
      stays (R (slice_index_or (slice_set xs at raised) i d)) (right (slice_index_or (slice_set xs at raised) i d)) j d earlier
