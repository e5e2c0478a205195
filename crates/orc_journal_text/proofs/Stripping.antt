-- A text has one journal: its lines are taken off one by one.
use Rattle.std.proofs.Common.{◌≡◌, ℕ, zero, suc, ◌+◌, ◌<◌, ◌≤◌, Bool, true, false, cond, List, [], ◌∷◌, ◌++◌, length, get_or, drop, Option, Some, None, refl, sym, ap, subst, ◌∙◌, append_assoc, length-append, arith, ◌==◌, inl, inr, Result, Ok, Err}
use Rattle.orc_rules.specs.declared.limits.TheConstants.{MOST_ENTRIES}
use Rattle.std.specs.Prelude.{codes, is_err, OnOk}
use Rattle.std.proofs.lemmas.Bool.{eqb-true, false≢true}
use Rattle.std.proofs.lemmas.List.{append-nil, flat_map_more}
use Rattle.orc_rules.specs.declared.entry.Entry.{Entry}
use Rattle.orc_rules.specs.Sites.{AreNames}
use Rattle.orc_rules.specs.Text.{word, fields, line, Fits}
use Rattle.orc_journal.specs.declared.journal.Version.{Version}
use Rattle.orc_journal.specs.declared.journal.Version.TheVariants.{One, Two}
use Rattle.orc_journal_text.specs.declared.text.JournalFault.{JournalFault}
use Rattle.orc_journal_text.specs.declared.text.JournalFault.TheVariants.{Header, Line, Long, Memory}
use Rattle.orc_journal_text.specs.Reading.{entry_at}
use Rattle.orc_journal_text.specs.Lines.{Left, HasRead}
use Rattle.orc_journal_text.specs.Pieces.{with_rest}
use Rattle.orc_journal.specs.Written.{Written, counts, count}
use Rattle.orc_journal_text.specs.Texts.{header, entry_lines, is_of, AreOf, IsJournal, IsFault, NoLine}
use Rattle.orc_journal_text.proofs.Codes.{same_some}
use Rattle.orc_journal_text.proofs.Entries.{entry_again}
use Rattle.orc_journal_text.proofs.Whole.{codes_of}

-- ---- one entry more

pub front_more : (names : List (List ℕ)) (text : List ℕ) (v : Version) (es : List Entry) (rest : List ℕ) (e : Entry) (behind : List ℕ) → text ≡ header v ++ (entry_lines names es ++ rest) → rest ≡ line names e ++ behind
    → text ≡ header v ++ (entry_lines names (es ++ e ∷ []) ++ behind)
front_more names text v es rest e behind front here =
    let more : entry_lines names es ++ line names e ≡ entry_lines names (es ++ e ∷ []) = flat_map_more (line names) [] es e in
    front ∙ ap (λ (t : List ℕ). header v ++ t) (ap (λ (t : List ℕ). entry_lines names es ++ t) here ∙ sym (append_assoc (entry_lines names es) (line names e) behind) ∙ ap (λ (t : List ℕ). t ++ behind) more)

pub are_more : (names : List (List ℕ)) (v : Version) (es : List Entry) (e : Entry) → AreOf names v es → Fits names e → is_of v e ≡ true → AreOf names v (es ++ e ∷ [])
are_more names v [] e are fits known = (fits, known, tt)
are_more names v (f ∷ fs) e are fits known = (are.0, are.1, are_more names v fs e are.2 fits known)

pub count_more : (es : List Entry) (e : Entry) → count (es ++ e ∷ []) ≡ cond (counts e) (count es + 1) (count es)
count_more [] e = go (counts e) where
  go : (b : Bool) → cond b (suc zero) zero ≡ cond b (0 + 1) 0
  go true = refl
  go false = refl
count_more (f ∷ fs) e = go (counts f) (counts e) (count_more fs e) where
  go : (a b : Bool) → count (fs ++ e ∷ []) ≡ cond b (count fs + 1) (count fs) → cond a (suc (count (fs ++ e ∷ []))) (count (fs ++ e ∷ [])) ≡ cond b (cond a (suc (count fs)) (count fs) + 1) (cond a (suc (count fs)) (count fs))
  go true true ih = omega (arith, ih)
  go true false ih = omega (arith, ih)
  go false true ih = omega (arith, ih)
  go false false ih = omega (arith, ih)

pub count_front : (es gs : List Entry) → count es ≤ count (es ++ gs)
count_front [] gs = omega arith
count_front (e ∷ es) gs = go (counts e) (count_front es gs) where
  go : (b : Bool) → count es ≤ count (es ++ gs) → cond b (suc (count es)) (count es) ≤ cond b (suc (count (es ++ gs))) (count (es ++ gs))
  go true ih = omega (arith, ih)
  go false ih = ih

pub read_more : (names : List (List ℕ)) (text : List ℕ) (l : Left) (es : List Entry) (e : Entry) (behind : List ℕ) (counted : ℕ) → l.coming.rest ≡ line names e ++ behind → Fits names e → is_of l.version e ≡ true → counted ≡ cond (counts e) (l.counted + 1) l.counted
    → HasRead names text l es → HasRead names text (record { version = l.version; coming = with_rest l.coming behind; read = l.read + 1; counted = counted }) (es ++ e ∷ [])
read_more names text l es e behind counted here fits known is read = record {
  front = front_more names text l.version es l.coming.rest e behind read.front here;
  each = are_more names l.version es e read.each fits known;
  came = read.came;
  number = omega (arith, read.number, length-append es (e ∷ []));
  counts = is ∙ ap (λ (n : ℕ). cond (counts e) (n + 1) n) read.counts ∙ sym (count_more es e);
}

-- ---- taking off

header_same : (v w : Version) (x y : List ℕ) → header v ++ x ≡ header w ++ y → (v ≡ w) × (x ≡ y)
header_same One One x y e = (refl, ap (drop 14) e)
header_same Two Two x y e = (refl, ap (drop 14) e)
header_same One Two x y e = absurd (omega (arith, ap (λ (t : List ℕ). get_or t 12 0) e))
header_same Two One x y e = absurd (omega (arith, ap (λ (t : List ℕ). get_or t 12 0) e))

pub some_line : (names : List (List ℕ)) (e : Entry) (more : List ℕ) → 0 < length (line names e ++ more)
some_line names e more = omega (arith, length-append (line names e) more, length-append (word e) (fields names e ++ codes "\n"), length-append (fields names e) (codes "\n"))

line_same : (names : List (List ℕ)) → AreNames names → (e f : Entry) (x y : List ℕ) → Fits names e → Fits names f → line names e ++ x ≡ line names f ++ y → (e ≡ f) × (x ≡ y)
line_same names are e f x y fits others same =
    let one = entry_again names (codes_of names are) e x fits in
    let two = entry_again names (codes_of names are) f y others in
    let p : (e, x) ≡ (f, y) = same_some {A = Entry × List ℕ} (e, x) (f, y) (sym one ∙ ap (entry_at names) same ∙ two) in
    (ap (λ (z : Entry × List ℕ). z.0) p, ap (λ (z : Entry × List ℕ). z.1) p)

pub strip : (names : List (List ℕ)) → AreNames names → (v : Version) (es fs : List Entry) (rest : List ℕ) → AreOf names v es → AreOf names v fs → entry_lines names es ++ rest ≡ entry_lines names fs
    → (gs : List Entry) × (fs ≡ es ++ gs) × (rest ≡ entry_lines names gs) × AreOf names v gs
strip names are v [] fs rest a b e = (fs, refl, e, b)
strip names are v (x ∷ es) [] rest a b e = absurd (omega (arith, some_line names x (entry_lines names es ++ rest), ap length (sym (append_assoc (line names x) (entry_lines names es) rest) ∙ e)))
strip names are v (x ∷ es) (y ∷ fs) rest a b e =
    let s = line_same names are x y (entry_lines names es ++ rest) (entry_lines names fs) a.0 b.0 (sym (append_assoc (line names x) (entry_lines names es) rest) ∙ e) in
    let t = strip names are v es fs rest a.2 b.2 s.1 in
    (t.0, ap (λ (z : Entry). z ∷ fs) (sym s.0) ∙ ap (λ (zs : List Entry). x ∷ zs) t.1, t.2, t.3)

-- ---- a text has one journal

rest_of : (names : List (List ℕ)) → AreNames names → (text : List ℕ) (v : Version) (es : List Entry) (rest : List ℕ) (j : Written) → text ≡ header v ++ (entry_lines names es ++ rest) → AreOf names v es → IsJournal names text j
    → (v ≡ j.version) × ((gs : List Entry) × (j.entries ≡ es ++ gs) × (rest ≡ entry_lines names gs) × AreOf names v gs)
rest_of names are text v es rest j front each is =
    let h = header_same v j.version (entry_lines names es ++ rest) (entry_lines names j.entries) (sym front ∙ is.whole) in
    (h.0, strip names are v es j.entries rest each (subst (λ (w : Version). AreOf names w j.entries) (sym h.0) is.each) h.1)

pub no_line : (names : List (List ℕ)) → AreNames names → (text : List ℕ) (v : Version) (es : List Entry) (rest : List ℕ) (j : Written) → text ≡ header v ++ (entry_lines names es ++ rest) → AreOf names v es
    → 0 < length rest → NoLine names v rest → IsJournal names text j → ⊥
no_line names are text v es rest j front each some none is =
    let r = rest_of names are text v es rest j front each is in
    go r.1.0 r.1.2 r.1.3 where
      go : (gs : List Entry) → rest ≡ entry_lines names gs → AreOf names v gs → ⊥
      go [] e of_v = omega (arith, some, ap length e)
      go (g ∷ gs) e of_v = none g (entry_lines names gs) of_v.0 of_v.1 e

pub too_many : (names : List (List ℕ)) → AreNames names → (text : List ℕ) (v : Version) (es : List Entry) (rest : List ℕ) (j : Written) → text ≡ header v ++ (entry_lines names es ++ rest) → AreOf names v es
    → MOST_ENTRIES < count es → IsJournal names text j → ⊥
too_many names are text v es rest j front each many is =
    let r = rest_of names are text v es rest j front each is in
    omega (arith, many, count_front es r.1.0, ap count r.1.1, is.limit)

pub whole_same : (names : List (List ℕ)) → AreNames names → (text : List ℕ) (v : Version) (es : List Entry) (rest : List ℕ) (j : Written) → text ≡ header v ++ (entry_lines names es ++ rest) → AreOf names v es
    → length rest ≡ 0 → IsJournal names text j → record { version = v; entries = es } ≡ j
whole_same names are text v es rest j front each none is =
    let r = rest_of names are text v es rest j front each is in
    go r.1.0 r.1.1 r.1.2 where
      go : (gs : List Entry) → j.entries ≡ es ++ gs → rest ≡ entry_lines names gs → ◌≡◌ {A = Written} (record { version = v; entries = es }) j
      go [] e h =
          let version = (rest_of names are text v es rest j front each is).0 in
          let entries : es ≡ j.entries = sym (e ∙ append-nil es) in
          λ i. record { version = version i; entries = entries i }
      go (g ∷ gs) e h = absurd (omega (arith, none, ap length h, some_line names g (entry_lines names gs)))

pub one_journal : (names : List (List ℕ)) → AreNames names → (text : List ℕ) (i j : Written) → IsJournal names text i → IsJournal names text j → i ≡ j
one_journal names are text i j one other = whole_same names are text i.version i.entries [] j (one.whole ∙ ap (λ (t : List ℕ). header i.version ++ t) (sym (append-nil (entry_lines names i.entries)))) one.each refl other

-- it has no fault but that memory is refused
pub no_fault : (names : List (List ℕ)) → AreNames names → (text : List ℕ) (j : Written) (f : JournalFault) → IsFault names text f → IsJournal names text j → f ≡ Memory
no_fault names are text j Header (size, none) is = absurd (none j.version (entry_lines names j.entries) is.whole)
no_fault names are text j (Line n) (v, es, rest, begins, few, at, some, none) is = absurd (no_line names are text v es rest j begins.front begins.each some none is)
no_fault names are text j Long (inl over) is = absurd (omega (arith, over, is.size))
no_fault names are text j Long (inr (v, es, rest, begins, many)) is = absurd (too_many names are text v es rest j begins.front begins.each many is)
no_fault names are text j Memory h is = refl

pub not_empty : (rest : List ℕ) → (length rest == 0) ≡ false → 0 < length rest
not_empty [] e = absurd cc
not_empty (c ∷ cs) e = omega arith

pub is_empty : (rest : List ℕ) → (length rest == 0) ≡ true → length rest ≡ 0
is_empty [] e = refl
is_empty (c ∷ cs) e = eqb-true (length (c ∷ cs)) 0 e

pub none_some : {A : Type 0} (x : A) → ◌≡◌ {A = Option A} (Some x) None → ⊥
none_some x e = absurd cc

pub at_ok : {T E P : Type 0} (r : Result T E) → is_err r ≡ false → OnOk r P → P
at_ok (Ok x) e p = p
at_ok (Err x) e p = absurd (false≢true (sym e))
