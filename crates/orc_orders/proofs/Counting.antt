-- Orders are counted.
use Rattle.std.proofs.Common.{◌≡◌, ◌≤◌, ◌<◌, ◌+◌, ◌++◌, ◌∷◌, ◌∙◌, ℕ, List, [], Some, All, arith, count_by, position, length, length-append, length-set, nat_eq, slice_get, slice_index_or, slice_set, ap, refl, subst, sym, ⊎_elim}
use Rattle.std.proofs.lemmas.Bool.{cases_eq, cases_lt}
use Rattle.std.proofs.lemmas.List.{get_or_append_left, get_or_push}
use Rattle.std.proofs.lemmas.List.Elements.{All-push}
use Rattle.std.proofs.lemmas.List.Quantifiers.{all_pairs_push, position-Some}
use Rattle.std.proofs.lemmas.Option.{get_or_from_slice_get}
use Rattle.orc_rules.specs.Nodes.{Listing}
use Rattle.orc_rules.specs.Sites.{Table}
use Rattle.orc_orders.proofs.Places.{counted_once_more, first_there, not_counted, not_there, position_stays}
use Rattle.orc_orders.proofs.Raised as kept
use Rattle.orc_orders.specs.Survey.{again, first, Came, Counts, Differ, IsBefore, IsOf, IsOfRun, IsReached, IsSurvey}
use Rattle.orc_orders.specs.declared.seen.Seen.{Seen}

pub counted_first : (order : ℕ) (c : Came) (xs ys : List Seen) (x : Seen) → All (λ y. IsOf c y → ⊥) xs → IsOf c x → x.first ≡ order → x.times ≡ 1 → ys ≡ xs ++ x ∷ [] → Counts order c xs ys
counted_first order c xs ys x unseen is since once e = subst (Counts order c xs) (sym e) (first xs x unseen is since once)

pub none_yet : (l : Listing) (t : Table) (limit : ℕ) (xs : List Seen) → xs ≡ [] → IsSurvey l t limit 0 xs
none_yet l t limit xs e = subst (IsSurvey l t limit 0) (sym e) (record {
  places = [];
  each = refl;
  reached = λ k d lt. absurd (omega arith);
  times = λ at d lt. absurd (omega arith);
  first = λ at d lt. absurd (omega arith);
  apart = λ i j d lt within. absurd (omega arith);
  ordered = λ i j d lt within. absurd (omega arith);
})

module _ (l : Listing) (t : Table) (limit order : ℕ) where
  -- its run came to an outcome that was seen before
  once_more : (c : Came) (xs : List Seen) (at : ℕ) (x : Seen) → IsSurvey l t limit order xs → IsOfRun l t limit c → slice_get xs at ≡ Some x → IsOf c x → IsSurvey l t limit (order + 1) (slice_set xs at (record x { times = x.times + 1 }))
  once_more c xs at x s run here is =
      let ys = slice_set xs at (record x { times = x.times + 1 }) in
      let long = length-set xs at (record x { times = x.times + 1 }) in
      record {
        places = s.places ++ at ∷ [];
        each = length-append s.places (at ∷ []) ∙ ap (λ n. n + 1) s.each;
        reached = All-push (IsReached l t limit ys) s.places at
            (λ k d lt.
            let (inside, came) = s.reached k d lt in
            (omega (arith, long, inside), λ y. kept.stays xs at x here (λ z. (b : Came) × IsOfRun l t limit b × IsOf b z) (λ z h. h) (slice_index_or s.places k d) y (came y)))
            (omega (arith, long, kept.within xs at x here), λ y. (c, run, subst (IsOf c) (sym (kept.at_it xs at x here y)) is));
        times = λ k d lt. ⊎_elim
            (λ e.
            let before = ap (λ y. y.times + 1) (sym (get_or_from_slice_get xs at x d here)) ∙ ap (λ n. n + 1) (s.times at d (kept.within xs at x here)) in
            ap (λ n. (slice_index_or ys n d).times) e ∙ ap (λ y. y.times) (kept.at_it xs at x here d) ∙ before ∙ sym (counted_once_more at s.places) ∙ ap (λ n. count_by (nat_eq n) (s.places ++ at ∷ [])) (sym e))
            (λ ne. ap (λ y. y.times) (kept.elsewhere xs at x here k d ne) ∙ s.times k d (omega (arith, long, lt)) ∙ sym (not_counted k s.places at ne))
            (cases_eq k at);
        first = λ k d lt. position_stays (nat_eq k) s.places at _ (s.first k d (omega (arith, long, lt))) ∙ ap Some (kept.stays xs at x here (λ y. (slice_index_or xs k d).first ≡ y.first) (λ y h. h) k d refl);
        apart = kept.pairs_stay xs at x here Differ (λ y z h. h) (λ y z h. h) s.apart;
        ordered = kept.pairs_stay xs at x here IsBefore (λ y z h. h) (λ y z h. h) s.ordered;
      }

  -- its run came to one that wasn't
  for_the_first_time : (c : Came) (xs : List Seen) (x : Seen) → IsSurvey l t limit order xs → IsOfRun l t limit c → All (λ y. IsOf c y → ⊥) xs → IsOf c x → x.first ≡ order → x.times ≡ 1 → IsSurvey l t limit (order + 1) (xs ++ x ∷ [])
  for_the_first_time c xs x s run unseen is since once =
      let ys = xs ++ x ∷ [] in
      let long = length-append xs (x ∷ []) in
      let old : (k : ℕ) (d : Seen) → k < length xs → slice_index_or ys k d ≡ slice_index_or xs k d = λ k d lt. get_or_append_left xs (x ∷ []) d k lt in
      let new : (d : Seen) → slice_index_or ys (length xs) d ≡ x = λ d. get_or_push xs x d (length xs) refl in
      let last : (k : ℕ) → length xs ≤ k → k < length ys → k ≡ length xs = λ k high lt. omega (arith, high, long, lt) in
      let below : All (λ n. n < length xs) s.places = λ k d lt. (s.reached k d lt).0 in
      record {
        places = s.places ++ length xs ∷ [];
        each = length-append s.places (length xs ∷ []) ∙ ap (λ n. n + 1) s.each;
        reached = All-push (IsReached l t limit ys) s.places (length xs)
            (λ k d lt.
            let (inside, came) = s.reached k d lt in
            (omega (arith, long, inside), λ y. subst (λ z. (b : Came) × IsOfRun l t limit b × IsOf b z) (sym (old (slice_index_or s.places k d) y inside)) (came y)))
            (omega (arith, long), λ y. (c, run, subst (IsOf c) (sym (new y)) is));
        times = λ k d lt. ⊎_elim
            (λ low. ap (λ y. y.times) (old k d low) ∙ s.times k d low ∙ sym (not_counted k s.places (length xs) (λ e. omega (arith, e, low))))
            (λ high.
            let e = last k high lt in
            ap (λ n. (slice_index_or ys n d).times) e ∙ ap (λ y. y.times) (new d) ∙ once ∙ sym (counted_once_more (length xs) s.places ∙ ap (λ n. n + 1) (not_there (length xs) s.places below)) ∙ ap (λ n. count_by (nat_eq n) (s.places ++ length xs ∷ [])) (sym e))
            (cases_lt k (length xs));
        first = λ k d lt. ⊎_elim
            (λ low. position_stays (nat_eq k) s.places (length xs) _ (s.first k d low) ∙ ap (λ y. Some y.first) (sym (old k d low)))
            (λ high.
            let e = last k high lt in
            ap (λ n. position (nat_eq n) (s.places ++ length xs ∷ [])) e ∙ first_there (length xs) s.places below ∙ ap Some (s.each ∙ sym since) ∙ ap (λ y. Some y.first) (sym (new d)) ∙ ap (λ n. Some (slice_index_or ys n d).first) (sym e))
            (cases_lt k (length xs));
        apart = all_pairs_push Differ xs x s.apart (λ k d lt ends values. unseen k d lt (ends ∙ is.0, values ∙ is.1));
        ordered = all_pairs_push IsBefore xs x s.ordered (λ k d lt.
            let (early, _, _) = position-Some (nat_eq k) s.places _ 0 (s.first k d lt) in
            omega (arith, early, s.each, since));
      }

  pub one_order_more : (xs ys : List Seen) → IsSurvey l t limit order xs → (c : Came) × IsOfRun l t limit c × Counts order c xs ys → IsSurvey l t limit (order + 1) ys
  one_order_more xs ys s (c, run, again _ at x here is) = once_more c xs at x s run here is
  one_order_more xs ys s (c, run, first _ x unseen is since once) = for_the_first_time c xs x s run unseen is since once
