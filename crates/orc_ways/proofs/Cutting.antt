-- Cutting a line into tokens, as a loop does.
use Rattle.std.proofs.Common.{◌≡◌, ℕ, zero, suc, ◌+◌, ◌-◌, ◌<◌, ◌≤◌, true, false, List, [], ◌∷◌, ◌++◌, length, Option, Some, None, refl, sym, ap, ◌∙◌, append_assoc, arith}
use Rattle.std.specs.Prelude.{option_map}
use Rattle.std.proofs.lemmas.List.{append-nil}
use Rattle.orc_site.specs.Reading.{after_blanks, is_end}
use Rattle.orc_ways.specs.Tokens.{Token, token_at, cut, cut_by}
use Rattle.orc_ways.proofs.Loops.{one_less}

abbrev pub with_tokens : List Token → Option (List Token) → Option (List Token)
with_tokens front o = option_map (λ ts. front ++ ts) o

nothing_before : (o : Option (List Token)) → with_tokens [] o ≡ o
nothing_before (Some ts) = refl
nothing_before None = refl

pub started : (line here : List ℕ) → here ≡ after_blanks line → with_tokens [] (cut_by (length line - 0) here) ≡ cut line
unfolding cut
started line here e =
    let n : length line - 0 ≡ length line = omega arith in
    rw (n, e) (nothing_before (cut_by (length line) (after_blanks line)))

module _ (count i : ℕ) (front : List Token) (here : List ℕ) (total : Option (List Token)) where
  ends_here : (n : ℕ) → is_end here ≡ true → with_tokens front (cut_by n here) ≡ Some front
  ends_here zero e = rw e (ap Some (append-nil front))
  ends_here (suc n) e = rw e (ap Some (append-nil front))

  pub at_end : is_end here ≡ true → with_tokens front (cut_by (count - i) here) ≡ total → total ≡ Some front
  at_end e so_far = sym so_far ∙ ends_here (count - i) e

  pub no_token : i < count → is_end here ≡ false → token_at here ≡ None → with_tokens front (cut_by (count - i) here) ≡ total → total ≡ None
  no_token lt e h so_far = sym so_far ∙ rw (one_less count i lt, e, h) refl

  regroup : (t : Token) (o : Option (List Token)) → with_tokens front (option_map (λ ts. t ∷ ts) o) ≡ with_tokens (front ++ t ∷ []) o
  regroup t (Some ts) = ap Some (sym (append_assoc front (t ∷ []) ts))
  regroup t None = refl

  pub one_token : (t : Token) (rest more : List ℕ) (items : List Token) → i < count → is_end here ≡ false → token_at here ≡ Some (t, rest) → items ≡ front ++ t ∷ [] → more ≡ after_blanks rest → with_tokens front (cut_by (count - i) here) ≡ total
      → with_tokens items (cut_by (count - (i + 1)) more) ≡ total
  one_token t rest more items lt e h same behind so_far =
      let one : with_tokens front (cut_by (count - i) here) ≡ with_tokens (front ++ t ∷ []) (cut_by (count - (i + 1)) (after_blanks rest)) = rw (one_less count i lt, e, h) (regroup t (cut_by (count - (i + 1)) (after_blanks rest))) in
      ap (λ (b : List ℕ). with_tokens items (cut_by (count - (i + 1)) b)) behind ∙ ap (λ (ts : List Token). with_tokens ts (cut_by (count - (i + 1)) (after_blanks rest))) same ∙ sym one ∙ so_far

  pub no_end : count ≤ i → is_end here ≡ false → with_tokens front (cut_by (count - i) here) ≡ total → total ≡ None
  no_end le e so_far =
      let k : count - i ≡ 0 = omega arith in
      sym so_far ∙ rw (k, e) refl
