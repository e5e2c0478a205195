-- Reading items one after another, as a loop does.
use Rattle.std.proofs.Common.{◌≡◌, ℕ, suc, ◌+◌, ◌-◌, ◌<◌, ◌≤◌, Bool, true, false, List, [], ◌∷◌, ◌++◌, Option, Some, None, refl, sym, ap, ◌∙◌, append_assoc, arith}
use Rattle.std.specs.Prelude.{option_map}
use Rattle.orc_site.specs.Reading.{then_read}
use Rattle.orc_ways.specs.Tokens.{Token, many}

abbrev pub with_front : {A : Type 0} → List A → Option (List A × List Token) → Option (List A × List Token)
with_front front read = then_read read (λ x. Some (front ++ x.0, x.1))

pub one_less : (count i : ℕ) → i < count → count - i ≡ suc (count - (i + 1))
one_less count i lt = omega arith

module _ {A : Type 0} (step : List Token → Option (A × Bool × List Token)) (front : List A) (count i : ℕ) (ts : List Token) (total : Option (List A × List Token)) where
  pub no_item : i < count → step ts ≡ None → with_front front (many step (count - i) ts) ≡ total → total ≡ None
  unfolding many
  no_item lt h so_far = sym so_far ∙ rw (one_less count i lt, h) refl

  last_item : (a : A) (rest : List Token) → i < count → step ts ≡ Some (a, true, rest) → with_front front (many step (count - i) ts) ≡ total → total ≡ Some (front ++ a ∷ [], rest)
  unfolding many
  last_item a rest lt h so_far = sym so_far ∙ rw (one_less count i lt, h) refl

  regroup : (a : A) (read : Option (List A × List Token)) → with_front front (option_map (λ y. (a ∷ y.0, y.1)) read) ≡ with_front (front ++ a ∷ []) read
  regroup a (Some x) = ap (λ (xs : List A). Some (xs, x.1)) (sym (append_assoc front (a ∷ []) x.0))
  regroup a None = refl

  more_items : (a : A) (rest : List Token) → i < count → step ts ≡ Some (a, false, rest) → with_front front (many step (count - i) ts) ≡ total
      → with_front (front ++ a ∷ []) (many step (count - (i + 1)) rest) ≡ total
  unfolding many
  more_items a rest lt h so_far =
      let one : with_front front (many step (count - i) ts) ≡ with_front (front ++ a ∷ []) (many step (count - (i + 1)) rest) = rw (one_less count i lt, h) (regroup a (many step (count - (i + 1)) rest)) in
      sym one ∙ so_far

  pub too_many : count ≤ i → with_front front (many step (count - i) ts) ≡ total → total ≡ None
  unfolding many
  too_many le so_far =
      let k : count - i ≡ 0 = omega arith in
      sym so_far ∙ rw k refl

  pub ended : (a : A) (b : Bool) (rest more : List Token) (items : List A) → i < count → step ts ≡ Some (a, b, rest) → b ≡ true → items ≡ front ++ a ∷ [] → more ≡ rest → with_front front (many step (count - i) ts) ≡ total → total ≡ Some (items, more)
  ended a b rest more items lt h e same here so_far =
      last_item a rest lt (h ∙ ap (λ (c : Bool). Some (a, c, rest)) e) so_far ∙ ap (λ (xs : List A). Some (xs, rest)) (sym same) ∙ ap (λ (us : List Token). Some (items, us)) (sym here)

  pub goes_on : (a : A) (b : Bool) (rest more : List Token) (items : List A) → i < count → step ts ≡ Some (a, b, rest) → b ≡ false → items ≡ front ++ a ∷ [] → more ≡ rest → with_front front (many step (count - i) ts) ≡ total
      → with_front items (many step (count - (i + 1)) more) ≡ total
  goes_on a b rest more items lt h e same here so_far =
      ap (λ (us : List Token). with_front items (many step (count - (i + 1)) us)) here ∙ ap (λ (xs : List A). with_front xs (many step (count - (i + 1)) rest)) same
      ∙ more_items a rest lt (h ∙ ap (λ (c : Bool). Some (a, c, rest)) e) so_far

pub nothing_before : {A : Type 0} (read : Option (List A × List Token)) → with_front [] read ≡ read
nothing_before (Some x) = refl
nothing_before None = refl
