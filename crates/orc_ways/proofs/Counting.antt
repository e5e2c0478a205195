-- Counting arguments one after another, as a loop does.
use Rattle.std.proofs.Common.{◌≡◌, ℕ, suc, ◌+◌, ◌-◌, ◌<◌, ◌≤◌, Bool, true, false, List, Option, Some, None, refl, sym, ap, ◌∙◌, arith}
use Rattle.std.specs.Prelude.{option_map}
use Rattle.orc_ways.specs.Tokens.{Token}
use Rattle.orc_ways.specs.Lines.{argument_step, arguments_from}
use Rattle.orc_ways.proofs.Loops.{one_less}

abbrev pub with_before : ℕ → Option ℕ → Option ℕ
with_before n o = option_map (λ k. n + k) o

pub none_before : (o : Option ℕ) → with_before 0 o ≡ o
none_before (Some k) = ap Some (omega arith)
none_before None = refl

module _ (count i : ℕ) (ts : List Token) (total : Option ℕ) where
  pub no_argument : i < count → argument_step ts ≡ None → with_before i (arguments_from (count - i) ts) ≡ total → total ≡ None
  unfolding arguments_from
  no_argument lt h so_far = sym so_far ∙ rw (one_less count i lt, h) refl

  pub last_argument : (b : Bool) (rest : List Token) → i < count → argument_step ts ≡ Some (b, rest) → b ≡ true → with_before i (arguments_from (count - i) ts) ≡ total → total ≡ Some (i + 1)
  unfolding arguments_from
  last_argument b rest lt h e so_far = sym so_far ∙ rw (one_less count i lt, h, e) refl

  one_on : (o : Option ℕ) → with_before i (option_map suc o) ≡ with_before (i + 1) o
  one_on (Some k) = ap Some (omega arith)
  one_on None = refl

  pub more_arguments : (b : Bool) (rest more : List Token) → i < count → argument_step ts ≡ Some (b, rest) → b ≡ false → more ≡ rest → with_before i (arguments_from (count - i) ts) ≡ total → with_before (i + 1) (arguments_from (count - (i + 1)) more) ≡ total
  unfolding arguments_from
  more_arguments b rest more lt h e here so_far =
      let one : with_before i (arguments_from (count - i) ts) ≡ with_before (i + 1) (arguments_from (count - (i + 1)) rest) = rw (one_less count i lt, h, e) (one_on (arguments_from (count - (i + 1)) rest)) in
      ap (λ (us : List Token). with_before (i + 1) (arguments_from (count - (i + 1)) us)) here ∙ sym one ∙ so_far

  pub too_many_arguments : count ≤ i → with_before i (arguments_from (count - i) ts) ≡ total → total ≡ None
  unfolding arguments_from
  too_many_arguments le so_far =
      let k : count - i ≡ 0 = omega arith in
      sym so_far ∙ rw k refl
