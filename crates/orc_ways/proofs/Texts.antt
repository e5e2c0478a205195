-- The lines of a test, one after another.
use Rattle.std.proofs.Common.{◌≡◌, ℕ, ◌+◌, List, ◌∷◌, refl, sym, ap, ◌∙◌}
use Rattle.orc_site.specs.Script.{lines}
use Rattle.orc_ways.specs.declared.draft.LineEnd.{LineEnd}
use Rattle.orc_ways.specs.declared.draft.LineEnd.TheVariants.{Read, NoLine, NoPlace}
use Rattle.orc_ways.specs.Drafts.{Draft, empty, Reading, says, no_line, no_place, read_line, read_lines, read_text}
use Rattle.orc_ways.specs.Drafting.{IsRead}

pub started : (text : List ℕ) (d : Draft) → d ≡ empty → read_lines d 1 (lines text) ≡ read_text text
unfolding read_text
started text d e = ap (λ (f : Draft). read_lines f 1 (lines text)) e

is_read : (n : ℕ) (r : Reading) (new : Draft) (end : LineEnd) → IsRead n r new end → end ≡ Read → r ≡ says new
is_read n (says d) new end h e = ap says (sym h.1)
is_read n (no_line l) new end h e = absurd (let other : NoLine ≡ Read = sym h.0 ∙ e in cc)
is_read n (no_place l) new end h e = absurd (let other : NoPlace ≡ Read = sym h.0 ∙ e in cc)

is_no_line : (n : ℕ) (r : Reading) (new : Draft) (end : LineEnd) → IsRead n r new end → end ≡ NoLine → r ≡ no_line n
is_no_line n (says d) new end h e = absurd (let other : Read ≡ NoLine = sym h.0 ∙ e in cc)
is_no_line n (no_line l) new end h e = ap no_line h.1
is_no_line n (no_place l) new end h e = absurd (let other : NoPlace ≡ NoLine = sym h.0 ∙ e in cc)

is_no_place : (n : ℕ) (r : Reading) (new : Draft) (end : LineEnd) → IsRead n r new end → end ≡ NoPlace → r ≡ no_place n
is_no_place n (says d) new end h e = absurd (let other : Read ≡ NoPlace = sym h.0 ∙ e in cc)
is_no_place n (no_line l) new end h e = absurd (let other : NoLine ≡ NoPlace = sym h.0 ∙ e in cc)
is_no_place n (no_place l) new end h e = ap no_place h.1

module _ (d new : Draft) (n : ℕ) (line : List ℕ) (more all : List (List ℕ)) (end : LineEnd) (total : Reading) where
  pub goes_on : all ≡ line ∷ more → IsRead n (read_line d n line) new end → end ≡ Read → read_lines d n all ≡ total → read_lines new (n + 1) more ≡ total
  goes_on parts h e so_far =
      let one : read_lines d n all ≡ read_lines new (n + 1) more = ap (read_lines d n) parts ∙ rw (is_read n (read_line d n line) new end h e) refl in
      sym one ∙ so_far

  pub no_line_there : all ≡ line ∷ more → IsRead n (read_line d n line) new end → end ≡ NoLine → read_lines d n all ≡ total → total ≡ no_line n
  no_line_there parts h e so_far = sym so_far ∙ ap (read_lines d n) parts ∙ rw (is_no_line n (read_line d n line) new end h e) refl

  pub no_place_there : all ≡ line ∷ more → IsRead n (read_line d n line) new end → end ≡ NoPlace → read_lines d n all ≡ total → total ≡ no_place n
  no_place_there parts h e so_far = sym so_far ∙ ap (read_lines d n) parts ∙ rw (is_no_place n (read_line d n line) new end h e) refl
