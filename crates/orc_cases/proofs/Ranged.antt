-- The lines of a way that have a range.
use Rattle.std.proofs.Common.{◌≡◌, ◌<◌, ◌≤◌, ℕ, suc, List, [], ◌∷◌, ◌++◌, Bool, false, cond, Option, Some, None, length, map, get_or, refl, sym, ap, ◌∙◌}
use Rattle.std.specs.Prelude.{slice_get}
use Rattle.std.proofs.lemmas.Bool.{or_parts}
use Rattle.orc_cases.specs.Choices.{Choice}
use Rattle.orc_cases.specs.Digits.{way_at}
use Rattle.orc_cases.specs.Failing.{failing_answers, failing_line, failing_lines, failing_or_none, failing_ranges, has_range, has_ranged, is_ranged, ranged_or_none}
use Rattle.orc_cases.specs.Values.{IsOrdered, all_choices_of, lines_from, ways_from}
use Rattle.orc_cases.specs.Ways.{CaseWays, Line, Way, ways}
use Rattle.orc_cases.specs.declared.frame.Frame.{Frame}
use Rattle.orc_cases.proofs.Limit.{all_there, none_there, way_there}

-- ---- a way without a range has no such line

no_line : (at : ℕ) (l : Line) (o : Option Choice) (ws : List Way) (fs : List Bool) → is_ranged o ≡ false → failing_line at l o ws fs ≡ []
no_line at l (Some c) ws fs e = ap (λ (b : Bool). cond b (l.call ++ failing_answers at 0 c.answers ws fs) []) e
no_line at l None ws fs e = refl

no_lines : (at : ℕ) (ls : List Line) (w : Way) (ws : List Way) (fs : List Bool) → has_ranged at ls w ≡ false → failing_lines at ls w ws fs ≡ []
no_lines at [] w ws fs e = refl
no_lines at (l ∷ ls) w ws fs e =
    let parts = or_parts (is_ranged (slice_get w at)) (has_ranged (suc at) ls w) e in
    ap (λ (text : List ℕ). text ++ failing_lines (suc at) ls w ws fs) (no_line at l (slice_get w at) ws fs parts.0) ∙ no_lines (suc at) ls w ws fs parts.1

none_or_no : (c : CaseWays) (w : Option Way) (fs : List Bool) → ranged_or_none c w ≡ false → failing_or_none c fs w ≡ []
none_or_no c (Some w) fs e = no_lines 0 c.lines w (ways c) fs e
none_or_no c None fs e = refl

pub no_range : (c : CaseWays) (k : ℕ) → has_range c k ≡ false → (fs : List Bool) → failing_ranges c k fs ≡ []
no_range c k e fs = none_or_no c (slice_get (ways c) k) fs e

-- ---- by the number of a way

module _ (f : Frame) (numbers : List ℕ) (o : IsOrdered f numbers) where
  pub some_ranged : (k n : ℕ) → k < length numbers → n ≡ get_or numbers k n → has_ranged 0 (lines_from f.lines.items) (way_at (all_choices_of f.lines.items) n) ≡ has_range (ways_from f) k
  some_ranged k n lt e = ap (λ (w : Option Way). ranged_or_none (ways_from f) w) (sym (way_there f numbers o k n lt e))

  pub none_ranged : (k : ℕ) → length numbers ≤ k → false ≡ has_range (ways_from f) k
  none_ranged k le = ap (λ (w : Option Way). ranged_or_none (ways_from f) w) (sym (none_there f numbers o k le))

  pub some_failing : (k n : ℕ) (fs : List Bool) → k < length numbers → n ≡ get_or numbers k n
      → failing_lines 0 (lines_from f.lines.items) (way_at (all_choices_of f.lines.items) n) (map (way_at (all_choices_of f.lines.items)) numbers) fs ≡ failing_ranges (ways_from f) k fs
  some_failing k n fs lt e =
      ap (λ (ws : List Way). failing_lines 0 (lines_from f.lines.items) (way_at (all_choices_of f.lines.items) n) ws fs) (all_there f numbers o)
      ∙ ap (λ (w : Option Way). failing_or_none (ways_from f) fs w) (sym (way_there f numbers o k n lt e))

  pub none_failing : (k : ℕ) (fs : List Bool) → length numbers ≤ k → [] ≡ failing_ranges (ways_from f) k fs
  none_failing k fs le = ap (λ (w : Option Way). failing_or_none (ways_from f) fs w) (sym (none_there f numbers o k le))
