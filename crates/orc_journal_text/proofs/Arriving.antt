-- The entries of a text that is read piece by piece, and its faults.
use Rattle.std.proofs.Common.{◌≡◌, ℕ, ◌+◌, ◌<◌, ◌≤◌, Bool, true, false, List, [], ◌++◌, Option, None, Some, length, drop, refl, sym, ap, subst, ◌∙◌, append_assoc, append-nil, length-append, arith, inl, inr}
use Rattle.std.proofs.KnownBytes.{Consumes-trans}
use Rattle.std.proofs.lemmas.Bool.{ltb-false, ltb-true}
use Rattle.std.specs.Prelude.{nat_lt, option_map}
use Rattle.std.specs.Io.KnownBytes.{Consumes, IsAtEnd}
use Rattle.orc_rules.specs.declared.entry.Entry.{Entry}
use Rattle.orc_rules.specs.Text.{line, Fits}
use Rattle.orc_rules.specs.declared.limits.TheConstants.{LONGEST_JOURNAL, MOST_ENTRIES}
use Rattle.orc_journal.specs.declared.journal.Version.{Version}
use Rattle.orc_journal.specs.declared.journal.Version.TheVariants.{One, Two}
use Rattle.orc_journal_text.specs.declared.lines.LinesFault.{LinesFault}
use Rattle.orc_journal_text.specs.declared.lines.LinesFault.TheVariants.{Text, Unread}
use Rattle.orc_journal_text.specs.declared.text.JournalFault.TheVariants.{Header, Line, Long, Memory}
use Rattle.orc_journal_text.specs.Faults.{journal_fault_of}
use Rattle.orc_journal_text.specs.Reading.{after, header_at, or_else}
use Rattle.orc_journal_text.specs.Lines.{Left, HasRead, HasTooMany, IsLinesFault, IsUnfilled, with_piece}
use Rattle.orc_journal_text.specs.Pieces.{MayCome}
use Rattle.orc_journal_text.specs.Texts.{header, entry_lines, IsFault, NoLine}
use Rattle.orc_journal_text.proofs.Codes.{after_again, after_takes, same_some}
use Rattle.orc_journal_text.proofs.Coming.{all_has_come, may_come, some_may_come}
use Rattle.orc_journal_text.proofs.Lengths.{front_of, no_line_with}

-- where more has come, no more comes for the same reason
pub unfilled_more : (came now : ℕ) (f : LinesFault) → came ≤ now → IsUnfilled came f → IsUnfilled now f
unfilled_more came now (Text Header) more why = absurd why
unfilled_more came now (Text (Line n)) more why = absurd why
unfilled_more came now (Text Long) more why = omega (arith, more, why)
unfilled_more came now (Text Memory) more why = tt
unfilled_more came now Unread more why = tt

module _ (names : List (List ℕ)) where
  front_with : (text : List ℕ) (v : Version) (es : List Entry) (rest piece : List ℕ) → text ≡ header v ++ (entry_lines names es ++ rest) → text ++ piece ≡ header v ++ (entry_lines names es ++ (rest ++ piece))
  front_with text v es rest piece front = ap (λ (t : List ℕ). t ++ piece) front ∙ append_assoc (header v) (entry_lines names es ++ rest) piece ∙ ap (λ (t : List ℕ). header v ++ t) (append_assoc (entry_lines names es) rest piece)

  -- a piece more has come
  pub read_with : (text : List ℕ) (l : Left) (es : List Entry) (piece : List ℕ) (left : Option (List ℕ)) → HasRead names text l es → HasRead names (text ++ piece) (with_piece l piece left) es
  read_with text l es piece left read = record {
    front = front_with text l.version es l.coming.rest piece read.front;
    each = read.each;
    came = omega (arith, read.came, length-append text piece);
    number = read.number;
    counts = read.counts;
  }

  -- ---- faults

  pub unfilled : (a b : Option (List ℕ)) (text piece : List ℕ) (came : ℕ) (f : LinesFault) → Consumes a b piece → came ≡ length (text ++ piece) → IsUnfilled came f → IsLinesFault names a text f
  unfilled a b text piece came (Text Header) p is why = absurd why
  unfilled a b text piece came (Text (Line n)) p is why = absurd why
  unfilled a b text piece came (Text Long) p is why =
      let (bytes, may) = some_may_come b in
      (piece ++ bytes, may_come a b piece bytes p may, inl (omega (arith, why, is, length-append text piece, length-append piece bytes, length-append text (piece ++ bytes))))
  unfilled a b text piece came (Text Memory) p is why =
      let (bytes, may) = some_may_come b in
      (piece ++ bytes, may_come a b piece bytes p may, tt)
  unfilled a b text piece came Unread p is why = tt

  -- the whole text has come, or more than a text may have
  pub unfilled_then : (a : Option (List ℕ)) (text more : List ℕ) (came : ℕ) (f : LinesFault) → MayCome a more → came ≡ length (text ++ more) → IsUnfilled came f → IsLinesFault names a text f
  unfilled_then a text more came (Text Header) may is why = absurd why
  unfilled_then a text more came (Text (Line n)) may is why = absurd why
  unfilled_then a text more came (Text Long) may is why = (more, may, inl (omega (arith, why, is)))
  unfilled_then a text more came (Text Memory) may is why = (more, may, tt)
  unfilled_then a text more came Unread may is why = tt

  too_long : (text more : List ℕ) (v : Version) → HasTooMany names text v → IsFault names (text ++ more) Long
  too_long text more v (es, rest, front, each, many) = go (nat_lt LONGEST_JOURNAL (length (text ++ more))) refl where
    go : (b : Bool) → nat_lt LONGEST_JOURNAL (length (text ++ more)) ≡ b → IsFault names (text ++ more) Long
    go true over = inl (ltb-true _ _ over)
    go false fits = inr (v, es, rest ++ more, record { front = front_with text v es rest more front; each = each; size = ltb-false _ _ fits }, many)

  pub too_many_read : (a b : Option (List ℕ)) (text piece : List ℕ) (v : Version) → Consumes a b piece → HasTooMany names (text ++ piece) v → IsLinesFault names a text (Text Long)
  too_many_read a b text piece v p many =
      let (bytes, may) = some_may_come b in
      (piece ++ bytes, may_come a b piece bytes p may, subst (λ (t : List ℕ). IsFault names t Long) (append_assoc text piece bytes) (too_long (text ++ piece) bytes v many))

  -- no line stands first in what is left at the end
  pub no_line_read : (a : Option (List ℕ)) (text piece : List ℕ) (l : Left) (es : List Entry) → MayCome a piece → HasRead names (text ++ piece) l es → l.coming.came ≤ LONGEST_JOURNAL → l.counted ≤ MOST_ENTRIES
      → 0 < length l.coming.rest → NoLine names l.version l.coming.rest → IsLinesFault names a text (Text (Line (l.read + 2)))
  no_line_read a text piece l es may read fits few some none = (
    piece,
    may,
    (l.version, es, l.coming.rest, record { front = read.front; each = read.each; size = omega (arith, read.came, fits) }, omega (arith, read.counts, few), omega (arith, read.number), some, none),
  )

  -- and whatever still comes, where no line is longer than what is left
  pub no_line_reached : (a b : Option (List ℕ)) (text piece more : List ℕ) (l : Left) (es : List Entry) → Consumes a b piece → MayCome b more → HasRead names (text ++ piece) l es → l.coming.came + length more ≤ LONGEST_JOURNAL → l.counted ≤ MOST_ENTRIES
      → 0 < length l.coming.rest → ((e : Entry) → Fits names e → length (line names e) ≤ length l.coming.rest) → NoLine names l.version l.coming.rest → IsLinesFault names a text (Text (Line (l.read + 2)))
  no_line_reached a b text piece more l es p may read fits few some longest none =
      let whole = with_piece l more None in
      let then : HasRead names (text ++ (piece ++ more)) whole es = subst (λ (t : List ℕ). HasRead names t whole es) (append_assoc text piece more) (read_with (text ++ piece) l es more None read) in
      no_line_read a text (piece ++ more) whole es (may_come a b piece more p may) then fits few
      (omega (arith, some, length-append l.coming.rest more))
      (no_line_with names l.version l.coming.rest more longest none)

  -- the fault of a text with a piece more is that of the text before it
  pub fault_before : (a b : Option (List ℕ)) (text piece : List ℕ) (f : LinesFault) → Consumes a b piece → IsLinesFault names b (text ++ piece) f → IsLinesFault names a text f
  fault_before a b text piece (Text f) p (more, may, is) = (piece ++ more, may_come a b piece more p may, subst (λ (t : List ℕ). IsFault names t f) (append_assoc text piece more) is)
  fault_before a b text piece Unread p is = tt

  -- the fault of a text in memory
  pub fault_in_memory : (b : Option (List ℕ)) (text piece : List ℕ) (f : LinesFault) → Consumes (Some text) b piece → IsLinesFault names b piece f → IsFault names text (journal_fault_of f)
  fault_in_memory b text piece f p is = go f (fault_before (Some text) b [] piece f p is) where
    go : (f : LinesFault) → IsLinesFault names (Some text) [] f → IsFault names text (journal_fault_of f)
    go (Text f) (more, may, is) = subst (λ (t : List ℕ). IsFault names t f) may is
    go Unread is = tt

  -- ---- the end

  pub arrived : (text : List ℕ) (now l : Left) (es : List Entry) (piece : List ℕ) (left : Option (List ℕ)) → l ≡ with_piece now piece left → HasRead names text now es → HasRead names (text ++ piece) l es
  arrived text now l es piece left so read = subst (λ (z : Left). HasRead names (text ++ piece) z es) (sym so) (read_with text now es piece left read)

-- ---- the first line

-- what stands behind the one header or the other
abbrev either_header : Option (List ℕ) → Option (List ℕ) → Option (Version × List ℕ)
either_header a b = or_else {A = Version × List ℕ} (option_map (λ r. (One, r)) a) (option_map (λ r. (Two, r)) b)

pub header_is : (bytes : List ℕ) (v : Version) (rest : List ℕ) → header_at bytes ≡ Some (v, rest) → bytes ≡ header v ++ rest
header_is bytes v rest = go (after (header One) bytes) refl (after (header Two) bytes) refl where
  from : (w : Version) (r : List ℕ) → after (header w) bytes ≡ Some r → ◌≡◌ {A = Option (Version × List ℕ)} (Some (w, r)) (Some (v, rest)) → bytes ≡ header v ++ rest
  from w r p e = after_takes (header w) bytes r p ∙ ap (λ (z : Version × List ℕ). header z.0 ++ z.1) (same_some {A = Version × List ℕ} (w, r) (v, rest) e)

  go : (a : Option (List ℕ)) → after (header One) bytes ≡ a → (b : Option (List ℕ)) → after (header Two) bytes ≡ b → either_header (after (header One) bytes) (after (header Two) bytes) ≡ Some (v, rest) → bytes ≡ header v ++ rest
  go (Some r) p b q e = from One r p (sym (ap (λ (o : Option (List ℕ)). either_header o (after (header Two) bytes)) p) ∙ e)
  go None p (Some r) q e = from Two r q (sym (ap (λ (o : Option (List ℕ)). either_header o (after (header Two) bytes)) p ∙ ap (either_header None) q) ∙ e)
  go None p None q e = absurd (let none : ◌≡◌ {A = Option (Version × List ℕ)} None (Some (v, rest)) = sym (ap (λ (o : Option (List ℕ)). either_header o (after (header Two) bytes)) p ∙ ap (either_header None) q) ∙ e in cc)

pub header_again : (v : Version) (rest : List ℕ) → header_at (header v ++ rest) ≡ None → ⊥
header_again One rest e = absurd (let p = after_again (header One) rest in cc)
header_again Two rest e = absurd (let p = after_again (header Two) rest in cc)

-- nor where more has come
pub no_header_with : (rest more : List ℕ) (v : Version) (behind : List ℕ) → 14 ≤ length rest → header_at rest ≡ None → rest ++ more ≡ header v ++ behind → ⊥
no_header_with rest more v behind long none is =
    let here = front_of (header v) behind rest more (omega (arith, long, header_length v)) is in
    header_again v (drop (length (header v)) rest) (ap header_at (sym here) ∙ none)
  where
    header_length : (v : Version) → length (header v) ≡ 14
    header_length One = refl
    header_length Two = refl

-- the end of a text has come
pub whole_has_come : (a m b : Option (List ℕ)) (piece next : List ℕ) → Consumes a m piece → Consumes m b next → next ≡ [] → IsAtEnd b → MayCome a piece
whole_has_come a m b piece next p q none end =
    all_has_come a b piece (subst (Consumes a b) (append-nil piece) (Consumes-trans a m b piece [] p (subst (Consumes m b) none q))) end
