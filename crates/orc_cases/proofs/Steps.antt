-- One line more of a way.
use Rattle.std.proofs.Common.{◌≡◌, ℕ, zero, suc, ◌+◌, ◌*◌, ◌/◌, ◌%◌, ◌<◌, Bool, List, [], ◌∷◌, ◌++◌, Option, Some, length, drop, get_or, sym, ap, ◌∙◌, arith}
use Rattle.std.specs.Prelude.{slice_get}
use Rattle.std.specs.Option.{option_to_list}
use Rattle.std.proofs.lemmas.List.{append_assoc, drop_more, length-map}
use Rattle.std.proofs.Math.Nat.{mul_comm, mul-div_cancel, div-lt_iff_lt-mul, mod-lt}
use Rattle.orc_cases.specs.Choices.{Choice}
use Rattle.orc_cases.specs.declared.choices.Choice.{Choice as CodeChoice}
use Rattle.orc_cases.specs.declared.frame.Line.{Line as CodeLine}
use Rattle.orc_cases.specs.Ways.{Way, combinations, line_text, lines_text}
use Rattle.orc_cases.specs.Values.{all_choices_of, choice_of, choices_from, line_from, lines_from}
use Rattle.orc_cases.specs.Digits.{way_at}
use Rattle.orc_cases.proofs.Lengths.{length_combinations}
use Rattle.orc_cases.proofs.Numbers.{some_behind}

first_positive : (a b n : ℕ) → n < a * b → 0 < a
first_positive zero b n lt = absurd (let e : 0 * b ≡ 0 = omega arith in omega arith)
first_positive (suc a) b n lt = omega arith

module _ (cs : List Choice) (css : List (List Choice)) (left digits : ℕ) (counted : left ≡ length (combinations (cs ∷ css))) (within : digits < left) where
  pub some_choice : 0 < length cs
  some_choice = first_positive (length cs) (length (combinations css)) digits (let e = length_combinations cs css in omega arith)

  behind : 0 < length (combinations css)
  behind = some_behind cs css digits (omega arith)

  pub left_is : left / length cs ≡ length (combinations css)
  left_is =
      ap (λ (n : ℕ). n / length cs) (counted ∙ length_combinations cs css ∙ mul_comm (length cs) (length (combinations css)))
      ∙ mul-div_cancel (length (combinations css)) some_choice

  pub some_left : 0 < left / length cs
  some_left = let e = left_is in let h = behind in omega arith

  pub digit_within : digits / (left / length cs) < length cs
  digit_within =
      let e = length_combinations cs css in
      let h : digits < length cs * length (combinations css) = omega arith in
      rw left_is ((div-lt_iff_lt-mul behind).1 h)

  pub rest_within : digits % (left / length cs) < left / length cs
  rest_within = mod-lt digits some_left

  pub way_is : (c : Choice) → slice_get cs (digits / (left / length cs)) ≡ Some c → way_at (cs ∷ css) digits ≡ c ∷ way_at css (digits % (left / length cs))
  way_is c here =
      ap (λ (n : ℕ). option_to_list (slice_get cs (digits / n)) ++ way_at css (digits % n)) (sym left_is)
      ∙ ap (λ (o : Option Choice). option_to_list o ++ way_at css (digits % (left / length cs))) here

-- ---- in the code's lines

begins : (ls : List CodeLine) (i : ℕ) (x : CodeLine) → i < length ls → x ≡ get_or ls i x → drop i ls ≡ x ∷ drop (i + 1) ls
begins ls i x lt e = drop_more ls i x lt ∙ ap (λ (y : CodeLine). y ∷ drop (i + 1) ls) (sym e)

choice_there : (cs : List CodeChoice) (n : ℕ) (c : CodeChoice) → n < length cs → c ≡ get_or cs n c → slice_get (choices_from cs) n ≡ Some (choice_of c)
choice_there [] n c lt e = absurd (omega arith)
choice_there (d ∷ cs) zero c lt e = ap (λ (x : CodeChoice). Some (choice_of x)) (sym e)
choice_there (d ∷ cs) (suc n) c lt e = choice_there cs n c (omega arith) e

-- what one line more leaves
pub record Step (ls : List CodeLine) (i left digits : ℕ) (x : CodeLine) (cs : List CodeChoice) : Type 0 where
  pub some : 0 < length cs
  pub left_some : 0 < left / length cs
  pub digit : digits / (left / length cs) < length cs
  pub counted : left / length cs ≡ length (combinations (all_choices_of (drop (i + 1) ls)))
  pub within : digits % (left / length cs) < left / length cs
  pub way : (c : CodeChoice) → c ≡ get_or cs (digits / (left / length cs)) c → way_at (all_choices_of (drop i ls)) digits ≡ choice_of c ∷ way_at (all_choices_of (drop (i + 1) ls)) (digits % (left / length cs))
  pub text : (only : Bool) (c : CodeChoice) → c ≡ get_or cs (digits / (left / length cs)) c →
      lines_text only (lines_from (drop i ls)) (way_at (all_choices_of (drop i ls)) digits)
      ≡ line_text only (line_from x) (choice_of c) ++ lines_text only (lines_from (drop (i + 1) ls)) (way_at (all_choices_of (drop (i + 1) ls)) (digits % (left / length cs)))

pub step : (ls : List CodeLine) (i left digits : ℕ) (x : CodeLine) (cs : List CodeChoice) → i < length ls → x ≡ get_or ls i x → cs ≡ x.choices.items → left ≡ length (combinations (all_choices_of (drop i ls))) → digits < left → Step ls i left digits x cs
step ls i left digits x cs lt is same counted within =
    let front : drop i ls ≡ x ∷ drop (i + 1) ls = begins ls i x lt is in
    let own : choices_from cs ≡ choices_from x.choices.items = ap choices_from same in
    let long : length (choices_from cs) ≡ length cs = length-map cs choice_of in
    let here : left ≡ length (combinations (choices_from cs ∷ all_choices_of (drop (i + 1) ls))) =
    counted ∙ ap (λ (rest : List CodeLine). length (combinations (all_choices_of rest))) front ∙ ap (λ (ds : List Choice). length (combinations (ds ∷ all_choices_of (drop (i + 1) ls)))) (sym own) in
    let more : List (List Choice) = all_choices_of (drop (i + 1) ls) in
    let digit : digits / (left / length cs) < length cs = rw (← long) (digit_within (choices_from cs) more left digits here within) in
    record {
      some = rw (← long) (some_choice (choices_from cs) more left digits here within);
      left_some = rw (← long) (some_left (choices_from cs) more left digits here within);
      digit = digit;
      counted = rw (← long) (left_is (choices_from cs) more left digits here within);
      within = rw (← long) (rest_within (choices_from cs) more left digits here within);
      way = λ c read.
          let there : slice_get (choices_from cs) (digits / (left / length (choices_from cs))) ≡ Some (choice_of c) =
          ap (λ (n : ℕ). slice_get (choices_from cs) (digits / (left / n))) long ∙ choice_there cs (digits / (left / length cs)) c digit read in
          ap (λ (rest : List CodeLine). way_at (all_choices_of rest) digits) front
          ∙ ap (λ (ds : List Choice). way_at (ds ∷ more) digits) (sym own)
          ∙ way_is (choices_from cs) more left digits here within (choice_of c) there
          ∙ ap (λ (n : ℕ). choice_of c ∷ way_at more (digits % (left / n))) long;
      text = λ only c read.
          let there : slice_get (choices_from cs) (digits / (left / length (choices_from cs))) ≡ Some (choice_of c) =
          ap (λ (n : ℕ). slice_get (choices_from cs) (digits / (left / n))) long ∙ choice_there cs (digits / (left / length cs)) c digit read in
          ap (λ (rest : List CodeLine). lines_text only (lines_from rest) (way_at (all_choices_of rest) digits)) front
          ∙ ap (λ (ds : List Choice). lines_text only (line_from x ∷ lines_from (drop (i + 1) ls)) (way_at (ds ∷ more) digits)) (sym own)
          ∙ ap (λ (w : Way). lines_text only (line_from x ∷ lines_from (drop (i + 1) ls)) w) (way_is (choices_from cs) more left digits here within (choice_of c) there)
          ∙ ap (λ (n : ℕ). line_text only (line_from x) (choice_of c) ++ lines_text only (lines_from (drop (i + 1) ls)) (way_at more (digits % (left / n)))) long;
    }

-- and its text
pub text_more : (ls : List CodeLine) (i left digits : ℕ) (x : CodeLine) (cs : List CodeChoice) → Step ls i left digits x cs → (only : Bool) (c : CodeChoice) → c ≡ get_or cs (digits / (left / length cs)) c →
    (old new total : List ℕ) → new ≡ old ++ line_text only (line_from x) (choice_of c) → old ++ lines_text only (lines_from (drop i ls)) (way_at (all_choices_of (drop i ls)) digits) ≡ total →
    new ++ lines_text only (lines_from (drop (i + 1) ls)) (way_at (all_choices_of (drop (i + 1) ls)) (digits % (left / length cs))) ≡ total
text_more ls i left digits x cs s only c read old new total written so_far =
    ap (λ (t : List ℕ). t ++ lines_text only (lines_from (drop (i + 1) ls)) (way_at (all_choices_of (drop (i + 1) ls)) (digits % (left / length cs)))) written
    ∙ append_assoc old (line_text only (line_from x) (choice_of c)) (lines_text only (lines_from (drop (i + 1) ls)) (way_at (all_choices_of (drop (i + 1) ls)) (digits % (left / length cs))))
    ∙ ap (λ (t : List ℕ). old ++ t) (sym (s.text only c read))
    ∙ so_far

-- what a line behind it does stands one place lower in what is left
pub place_more : (ls : List CodeLine) (i left digits : ℕ) (x : CodeLine) (cs : List CodeChoice) → Step ls i left digits x cs → (c : CodeChoice) → c ≡ get_or cs (digits / (left / length cs)) c →
    (before rest : ℕ) (total : Option Choice) → before ≡ suc rest → slice_get (way_at (all_choices_of (drop i ls)) digits) before ≡ total →
    slice_get (way_at (all_choices_of (drop (i + 1) ls)) (digits % (left / length cs))) rest ≡ total
place_more ls i left digits x cs s c read before rest total more so_far =
    sym (ap (λ (w : Way). slice_get w (suc rest)) (s.way c read)) ∙ sym (ap (λ (n : ℕ). slice_get (way_at (all_choices_of (drop i ls)) digits) n) more) ∙ so_far

-- and its own at the first place
pub place_here : (ls : List CodeLine) (i left digits : ℕ) (x : CodeLine) (cs : List CodeChoice) → Step ls i left digits x cs → (c : CodeChoice) → c ≡ get_or cs (digits / (left / length cs)) c →
    (before : ℕ) (total : Option Choice) → before ≡ 0 → slice_get (way_at (all_choices_of (drop i ls)) digits) before ≡ total → Some (choice_of c) ≡ total
place_here ls i left digits x cs s c read before total none so_far =
    sym (ap (λ (w : Way). slice_get w 0) (s.way c read)) ∙ ap (λ (n : ℕ). slice_get (way_at (all_choices_of (drop i ls)) digits) n) (sym none) ∙ so_far
