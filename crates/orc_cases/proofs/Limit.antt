-- A case within the limit, and the numbers of its ways.
use Rattle.std.proofs.Common.{◌≡◌, ℕ, zero, suc, ◌<◌, ◌≤◌, Bool, true, cond, List, [], ◌∷◌, Option, Some, None, length, map, take, get_or, sym, ap, ◌∙◌, subst, arith}
use Rattle.std.specs.Prelude.{slice_get, min}
use Rattle.std.proofs.lemmas.Bool.{lt-ltb, le-ltb}
use Rattle.std.proofs.lemmas.List.{length-map, take_min}
use Rattle.std.proofs.lemmas.Option.{slice_get_past}
use Rattle.orc_ways.specs.declared.limits.TheConstants.{MOST_WAYS}
use Rattle.orc_ways.specs.Lines.{Service}
use Rattle.orc_cases.specs.declared.frame.Frame.{Frame}
use Rattle.orc_cases.specs.declared.weights.Weight.{Weight}
use Rattle.orc_cases.specs.Sizes.{ways_from_size}
use Rattle.orc_cases.specs.Ways.{Way, choices_of, combinations, line_of, lines_text, script_text, scripts, shown_or_none, unusual, ways, within_limit}
use Rattle.orc_cases.specs.Weights.{weight, each_plus_all, nothing, numbers_in_order}
use Rattle.orc_cases.specs.Places.{AreBelow, picked}
use Rattle.orc_cases.specs.Digits.{way_at}
use Rattle.orc_cases.specs.Values.{IsCounted, IsOrdered, all_choices_of, lines_from, ways_from}
use Rattle.orc_cases.proofs.Lengths.{size_is}
use Rattle.orc_cases.proofs.Sizing.{all_ways}
use Rattle.orc_cases.proofs.Lists.{map-map}
use Rattle.orc_cases.proofs.Weighing.{weights_are}
use Rattle.orc_cases.proofs.Ordering.{all_below, below_at, below_take, get_picked, length_picked, take_picked, ways_there}
use Rattle.orc_cases.proofs.Numbers.{number_is, picked_is}

-- ---- the limit

pub too_many : (ss : List Service) (halts : List ℕ) (size : ℕ) → size ≡ ways_from_size 1 ss → MOST_WAYS < size → within_limit (record { lines = map line_of ss; halts = halts }) ≡ None
too_many ss halts size is over =
    let e = size_is ss in let d = all_ways ss in
    let lt : MOST_WAYS < length (combinations (choices_of (map line_of ss))) = omega arith in
    ap (λ (b : Bool). cond b None (Some (record { lines = map line_of ss; halts = halts }))) (lt-ltb MOST_WAYS (length (combinations (choices_of (map line_of ss)))) lt)

pub few : (ss : List Service) (halts : List ℕ) (size : ℕ) → size ≡ ways_from_size 1 ss → size ≤ MOST_WAYS → within_limit (record { lines = map line_of ss; halts = halts }) ≡ Some (record { lines = map line_of ss; halts = halts })
few ss halts size is under =
    let e = size_is ss in let d = all_ways ss in
    let le : length (combinations (choices_of (map line_of ss))) ≤ MOST_WAYS = omega arith in
    ap (λ (b : Bool). cond b None (Some (record { lines = map line_of ss; halts = halts }))) (le-ltb MOST_WAYS (length (combinations (choices_of (map line_of ss)))) le)

pub size_counts : (ss : List Service) (size : ℕ) → size ≡ ways_from_size 1 ss → size ≤ MOST_WAYS → size ≡ length (combinations (choices_of (map line_of ss)))
size_counts ss size is under = let e = size_is ss in let d = all_ways ss in omega arith

-- ---- the numbers

get_there : (ns : List ℕ) (k n : ℕ) → k < length ns → n ≡ get_or ns k n → slice_get ns k ≡ Some n
get_there [] k n lt e = absurd (omega arith)
get_there (m ∷ ns) zero n lt e = ap (λ (i : ℕ). Some i) (sym e)
get_there (m ∷ ns) (suc k) n lt e = get_there ns k n (omega arith) e

pub ordered : (f : Frame) (ws : List Weight) (numbers : List ℕ) → IsCounted f → ws ≡ each_plus_all (nothing ∷ []) (all_choices_of f.lines.items) → numbers ≡ numbers_in_order ws → IsOrdered f numbers
ordered f ws numbers counted weighed placed =
    let all : numbers ≡ numbers_in_order (map weight (combinations (all_choices_of f.lines.items))) = placed ∙ ap numbers_in_order (weighed ∙ weights_are (all_choices_of f.lines.items)) in
    let many : length (map weight (combinations (all_choices_of f.lines.items))) ≡ f.count = length-map (combinations (all_choices_of f.lines.items)) weight ∙ sym counted in
    record {
      counted = counted;
      below = rw (all, ← many) (all_below (map weight (combinations (all_choices_of f.lines.items))));
      placed = ap (λ (ns : List ℕ). picked (combinations (all_choices_of f.lines.items)) ns) all ∙ ways_there (combinations (all_choices_of f.lines.items));
    }

module _ (f : Frame) (numbers : List ℕ) (o : IsOrdered f numbers) where
  below : AreBelow (length (combinations (all_choices_of f.lines.items))) numbers
  below = let P : ℕ → Type 0 = λ n. AreBelow n numbers in subst P o.counted o.below

  pub count_is : length numbers ≡ length (ways (ways_from f))
  count_is = sym (length_picked (combinations (all_choices_of f.lines.items)) numbers below) ∙ ap length o.placed

  first_ways : (most tried : ℕ) → tried ≡ min (length numbers) most → picked (combinations (all_choices_of f.lines.items)) (take tried numbers) ≡ take most (ways (ways_from f))
  first_ways most tried is =
      take_picked (combinations (all_choices_of f.lines.items)) numbers tried below
      ∙ ap (λ (ws : List Way). take tried ws) o.placed
      ∙ ap (λ (n : ℕ). take n (ways (ways_from f))) (let e = count_is in let d : tried ≡ min most (length (ways (ways_from f))) = omega arith in d)
      ∙ take_min most (ways (ways_from f))

  pub scripts_are : (most tried : ℕ) (behind : List ℕ) → tried ≡ min (length numbers) most → map (λ n. script_text (ways_from f) behind (way_at (all_choices_of f.lines.items) n)) (take tried numbers) ≡ scripts (ways_from f) most behind
  scripts_are most tried behind is =
      sym (map-map (script_text (ways_from f) behind) (way_at (all_choices_of f.lines.items)) (take tried numbers))
      ∙ ap (λ (ws : List Way). map (script_text (ways_from f) behind) ws) (sym (picked_is (all_choices_of f.lines.items) (take tried numbers) (below_take (length (combinations (all_choices_of f.lines.items))) numbers tried below)) ∙ first_ways most tried is)

  pub first_below : (tried : ℕ) → AreBelow f.count (take tried numbers)
  first_below tried = below_take f.count numbers tried o.below

  there : (k n : ℕ) → k < length numbers → n ≡ get_or numbers k n → slice_get numbers k ≡ Some n
  there k n lt e = get_there numbers k n lt e

  pub number_within : (k n : ℕ) → k < length numbers → n ≡ get_or numbers k n → n < f.count
  number_within k n lt e = below_at f.count numbers k n o.below (there k n lt e)

  pub way_there : (k n : ℕ) → k < length numbers → n ≡ get_or numbers k n → slice_get (ways (ways_from f)) k ≡ Some (way_at (all_choices_of f.lines.items) n)
  way_there k n lt e =
      let less = number_within k n lt e in
      let c = o.counted in
      let le : n < length (combinations (all_choices_of f.lines.items)) = omega arith in
      ap (λ (ws : List Way). slice_get ws k) (sym o.placed) ∙ get_picked (combinations (all_choices_of f.lines.items)) numbers k n below (there k n lt e) ∙ number_is (all_choices_of f.lines.items) n le

  pub none_there : (k : ℕ) → length numbers ≤ k → slice_get (ways (ways_from f)) k ≡ None
  none_there k le = slice_get_past (ways (ways_from f)) k (let e = count_is in omega arith)

  pub all_there : map (way_at (all_choices_of f.lines.items)) numbers ≡ ways (ways_from f)
  all_there = sym (picked_is (all_choices_of f.lines.items) numbers below) ∙ o.placed

  pub some_unusual : (k n : ℕ) → k < length numbers → n ≡ get_or numbers k n → lines_text true (lines_from f.lines.items) (way_at (all_choices_of f.lines.items) n) ≡ unusual (ways_from f) k
  some_unusual k n lt e = ap (λ (w : Option Way). shown_or_none (ways_from f) w) (sym (way_there k n lt e))

  pub none_unusual : (k : ℕ) → length numbers ≤ k → [] ≡ unusual (ways_from f) k
  none_unusual k le = ap (λ (w : Option Way). shown_or_none (ways_from f) w) (sym (none_there k le))
