-- Reading conditions one after another, as a loop does.
use Rattle.std.proofs.Common.{◌≡◌, ℕ, zero, suc, ◌+◌, ◌-◌, ◌<◌, ◌≤◌, true, false, List, [], ◌∷◌, ◌++◌, Option, Some, None, refl, sym, ap, ◌∙◌, append_assoc, arith}
use Rattle.std.specs.Prelude.{option_map, codes}
use Rattle.std.proofs.lemmas.List.{append-nil}
use Rattle.orc_ways.specs.Tokens.{Token, begins}
use Rattle.orc_ways.specs.Claims.{Site, Condition, rest_of, condition_at, conditions_at}
use Rattle.orc_ways.proofs.Loops.{one_less, with_front}

module _ (sites : List Site) (line : List Token) (front : List Condition) (count i : ℕ) (ts : List Token) (total : Option (List Condition × List Token)) where
  none_here : (n : ℕ) → begins (codes "if") ts ≡ false → with_front front (conditions_at sites line n ts) ≡ Some (front, ts)
  unfolding conditions_at
  none_here zero e = ap (λ (cs : List Condition). Some (cs, ts)) (append-nil front)
  none_here (suc n) e = rw e (ap (λ (cs : List Condition). Some (cs, ts)) (append-nil front))

  pub no_condition : begins (codes "if") ts ≡ false → with_front front (conditions_at sites line (count - i) ts) ≡ total → total ≡ Some (front, ts)
  no_condition e so_far = sym so_far ∙ none_here (count - i) e

  pub bad_condition : i < count → begins (codes "if") ts ≡ true → condition_at sites line (rest_of ts) ≡ None → with_front front (conditions_at sites line (count - i) ts) ≡ total → total ≡ None
  unfolding conditions_at
  bad_condition lt e h so_far = sym so_far ∙ rw (one_less count i lt, e, h) refl

  regroup : (a : Condition) (read : Option (List Condition × List Token)) → with_front front (option_map (λ y. (a ∷ y.0, y.1)) read) ≡ with_front (front ++ a ∷ []) read
  regroup a (Some x) = ap (λ (xs : List Condition). Some (xs, x.1)) (sym (append_assoc front (a ∷ []) x.0))
  regroup a None = refl

  pub more_conditions : (a : Condition) (rest more : List Token) (items : List Condition) → i < count → begins (codes "if") ts ≡ true → condition_at sites line (rest_of ts) ≡ Some (a, rest) → items ≡ front ++ a ∷ [] → more ≡ rest
      → with_front front (conditions_at sites line (count - i) ts) ≡ total → with_front items (conditions_at sites line (count - (i + 1)) more) ≡ total
  unfolding conditions_at
  more_conditions a rest more items lt e h same here so_far =
      let one : with_front front (conditions_at sites line (count - i) ts) ≡ with_front (front ++ a ∷ []) (conditions_at sites line (count - (i + 1)) rest) = rw (one_less count i lt, e, h) (regroup a (conditions_at sites line (count - (i + 1)) rest)) in
      ap (λ (us : List Token). with_front items (conditions_at sites line (count - (i + 1)) us)) here ∙ ap (λ (cs : List Condition). with_front cs (conditions_at sites line (count - (i + 1)) rest)) same ∙ sym one ∙ so_far

  pub all_conditions : count ≤ i → with_front front (conditions_at sites line (count - i) ts) ≡ total → total ≡ Some (front, ts)
  unfolding conditions_at
  all_conditions le so_far =
      let k : count - i ≡ 0 = omega arith in
      sym so_far ∙ rw k (ap (λ (cs : List Condition). Some (cs, ts)) (append-nil front))
