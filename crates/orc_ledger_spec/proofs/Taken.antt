-- A part that is taken in keeps what the ledger keeps.
use Rattle.std.proofs.Common.{◌≡◌, ◌≤◌, ◌<◌, ℕ, zero, suc, ◌+◌, ◌-◌, ◌^◌, List, [], ◌∷◌, ◌++◌, refl, sym, ap, ◌∙◌, subst, arith, append-nil, append_assoc, length, length-append, map, inl, inr, ⊎_elim, Bool, true, false, not, cond, nat_eq, Option, Some, None}
use Rattle.std.specs.Prelude.{slice_get, nat_lt, ◌&&◌, ◌⊎◌, IfSome}
use Rattle.std.specs.List.{AllByRecursion, fold}
use Rattle.std.proofs.lemmas.Bool.{eqb-true}
use Rattle.std.proofs.lemmas.List.{length-map, map-append}
use Rattle.orc_rules.specs.declared.entry.Entry.{Entry}
use Rattle.orc_rules.specs.declared.entry.Entry.TheVariants.{End, Fork, Seq, Other, Def, Open, Send, Call as Calls, Return, ReturnHalt, Bind, Lost, Right, Publish, Tick, Cancel}
use Rattle.orc_rules.specs.declared.entry.Entry.TheVariants as entry
use Rattle.orc_rules.specs.declared.value.Value.{Value}
use Rattle.orc_rules.specs.declared.param.Param.TheVariants.{Is}
use Rattle.orc_rules.specs.Term.{Term, call, param}
use Rattle.orc_rules.specs.Nodes.{Listing, code, source}
use Rattle.orc_rules.specs.Sites.{Site, values_eq, is_scripted}
use Rattle.orc_rules.specs.Marked.{Marked, ended, token, in_call, in_par, in_seq, in_opened, in_other, Replaces, here}
use Rattle.orc_rules.specs.Timed.{CallMade, IsIn, nth_of, number_of, says_of}
use Rattle.orc_rules.specs.Journal.{Place, Journal, begin}
use Rattle.orc_subrun.specs.declared.numbers.Numbering.{Numbering}
use Rattle.orc_subrun.specs.Moved.{cell_in, mark_in, moved, moved_marked, moved_param, moved_term, IsLocal, AreLocal, AreSilent}
use Rattle.orc_subrun.specs.Grafts.{Branches, on_left, on_right, on_main, Hangs, IsNewCall, Grafts, PartIsGrafted, ProgramIsStill}
use Rattle.orc_subrun.proofs.Marks.{later_mark}
use Rattle.orc_subrun.specs.Grafts as graft
use Rattle.orc_env.specs.declared.names.Bound.{Bound}
use Rattle.orc_env.specs.declared.names.Bound.TheVariants.{Cell}
use Rattle.orc_env.specs.Scopes.{current}
use Rattle.orc_calls.specs.Counting.{AreCounted}
use Rattle.orc_rules.specs.Numbered.{AreCounted as HaveNumbers}
use Rattle.orc_tables.specs.OpenGroups.{size_of, tokens_in}
use Rattle.orc_indexes.specs.Same.{weight, only, is_this, None as None_}
use Rattle.orc_tables.specs.Steps.{group_at}
use Rattle.orc_tables.specs.declared.records.Standing.TheVariants.{On}
use Rattle.orc_tables.specs.declared.records.Token.{Token}
use Rattle.orc_tables.specs.declared.records.Call.{Call}
use Rattle.orc_tables.specs.declared.records.Group.{Group}
use Rattle.orc_tables.specs.declared.records.Step.{Step}
use Rattle.orc_indexes.proofs.Weight.{weight-append, none-weaker}
use Rattle.orc_frames.specs.Spelling.{Path, whole, feeding, aiding, trying, Row, stands, pends, Numbered, right_of, left_of, marks, sides, seen}
use Rattle.orc_frames.specs.Paths.{has_published, is_out, standing, step_out}
use Rattle.orc_frames.proofs.Growth.{or_false, path-none}
use Rattle.orc_frames.proofs.Around.{Around, Found, hole, before, behind, feeds, main_of, side_of, enters, plug, path_of, cells_of, replaced, unit, marks-plug, sides-plug}
use Rattle.orc_ledger_spec.specs.Records.{Records, Sound, Lawful, context, has_serial, its_env, its_path, token_out, token_row, is_settled, counts}
use Rattle.orc_ledger_spec.specs.Calls.{Turns}
use Rattle.orc_ledger_spec.specs.Kept.{Kept}
use Rattle.orc_ledger_spec.specs.Next.{AreGrouped, numbers_of, members}
use Rattle.orc_ledger_spec.specs.Parts.{Apart, Fits, IsLeftOf, IsOver, StandsFor, TakesIn, call_of, cells_from, comers, numbering, rows_left}
use Rattle.orc_ledger_spec.specs.declared.parts.Yield.{Yield}
use Rattle.orc_ledger_spec.specs.Told.{found_eq, is_nth, is_told, AreTold}
use Rattle.orc_ledger_spec.proofs.Binding.{journal_more}
use Rattle.orc_ledger_spec.proofs.Brought.{taken-brought}
use Rattle.orc_ledger_spec.proofs.AtRest.{SameTerms, turns-terms}
use Rattle.orc_ledger_spec.proofs.Grouped.{turned-grouped}
use Rattle.orc_ledger_spec.proofs.Leaves.{current-push, later_one, none_one, still_own}
use Rattle.orc_ledger_spec.proofs.Telling.{told_is}
use Rattle.orc_ledger_spec.proofs.Lists.{token_found, numbered}
use Rattle.orc_ledger_spec.proofs.Sizes.{turned-members}
use Rattle.orc_ledger_spec.proofs.Someone.{token_within}
use Rattle.orc_ledger_spec.proofs.Sound.{sound_turned, get_more, given, entered_less}
use Rattle.orc_ledger_spec.proofs.Turning.{path_same, rows_turned, sides_turned, t_in}
use Rattle.orc_ledger_spec.proofs.Written.{written-kept}

-- ---- where the token stands

-- under sides of `|` and main sides of open cells alone
pub branches : (k : Around) (x y : Marked) → path_of k ≡ whole → Branches x y (plug k x) (plug k y)
branches k x y is = go k x y is graft.whole
  where
    go : (k : Around) (m m' : Marked) → path_of k ≡ whole → Branches x y m m' → Branches x y (plug k m) (plug k m')
    go hole m m' is b = b
    go (before g k) m m' is b = go k (in_par m g) (in_par m' g) is (on_left b)
    go (behind f k) m m' is b = go k (in_par f m) (in_par f m') is (on_right b)
    go (feeds z g k) m m' is b = cc is
    go (main_of c g k) m m' is b = go k (in_opened m c g) (in_opened m' c g) is (on_main b)
    go (side_of c f k) m m' is b = cc is
    go (enters n g k) m m' is b = cc is

-- a path of the part in the run around it
abbrev pub moved_path : Numbering → Path → Path → Path
moved_path n p whole = p
moved_path n p (feeding x g q) = feeding x (moved_term n g) (moved_path n p q)
moved_path n p (aiding c q) = aiding (cell_in n c) (moved_path n p q)
moved_path n p (trying m q) = trying (mark_in n m) (moved_path n p q)

abbrev pub moved_row : Numbering → Path → Row → Row
moved_row n p (stands s t q) = stands (mark_in n s) (moved_term n t) (moved_path n p q)
moved_row n p (pends k q) = pends (n.calls + k) (moved_path n p q)

abbrev pub moved_side : Numbering → Path → Numbered → Numbered
moved_side n p (right_of c q) = right_of (cell_in n c) (moved_path n p q)
moved_side n p (left_of m g q) = left_of (mark_in n m) (moved_term n g) (moved_path n p q)

-- the rows and the open sides of a marked term under other numbers
pub rows_moved : (n : Numbering) (m : Marked) (p q : Path) → marks (moved_path n p q) (moved_marked n m) ≡ map (moved_row n p) (marks q m)
rows_moved n ended p q = refl
rows_moved n (token s t) p q = refl
rows_moved n (in_call k) p q = refl
rows_moved n (in_par f g) p q = (λ i. rows_moved n f p q i ++ rows_moved n g p q i) ∙ sym (map-append (moved_row n p) (marks q f) (marks q g))
rows_moved n (in_seq f x g) p q = rows_moved n f p (feeding x g q)
rows_moved n (in_opened f c g) p q = (λ i. rows_moved n f p q i ++ rows_moved n g p (aiding c q) i) ∙ sym (map-append (moved_row n p) (marks q f) (marks (aiding c q) g))
rows_moved n (in_other s f g) p q = rows_moved n f p (trying s q)

pub sides_moved : (n : Numbering) (m : Marked) (p q : Path) → sides (moved_path n p q) (moved_marked n m) ≡ map (moved_side n p) (sides q m)
sides_moved n ended p q = refl
sides_moved n (token s t) p q = refl
sides_moved n (in_call k) p q = refl
sides_moved n (in_par f g) p q = (λ i. sides_moved n f p q i ++ sides_moved n g p q i) ∙ sym (map-append (moved_side n p) (sides q f) (sides q g))
sides_moved n (in_seq f x g) p q = sides_moved n f p (feeding x g q)
sides_moved n (in_opened f c g) p q = (λ i. right_of (cell_in n c) (moved_path n p q) ∷ (sides_moved n f p q i ++ sides_moved n g p (aiding c q) i)) ∙ ap (λ vs. right_of (cell_in n c) (moved_path n p q) ∷ vs) (sym (map-append (moved_side n p) (sides q f) (sides (aiding c q) g)))
sides_moved n (in_other s f g) p q = λ i. left_of (mark_in n s) (moved_term n g) (moved_path n p q) ∷ sides_moved n f p (trying s q) i

-- ---- entries

-- local entries are no cancels
pub counts_local : (sites : List Site) (n : Numbering) (es : List Entry) → AreLocal sites es → weight counts (map (moved n) es) ≡ length es
counts_local sites n [] h = refl
counts_local sites n (e ∷ es) h = omega (arith, one e h.0, counts_local sites n es h.1)
  where
    one : (e : Entry) → IsLocal sites e → counts (moved n e) ≡ 1
    one (End s) h = refl
    one (Fork s a b) h = refl
    one (Seq s a) h = refl
    one (Other s a) h = refl
    one (Def s a) h = refl
    one (entry.Void s) h = refl
    one (Open s c a b) h = refl
    one (Send s a v) h = refl
    one (Calls s k m args) h = refl
    one (Return k a v) h = refl
    one (ReturnHalt k) h = refl
    one (Bind s c v) h = refl
    one (Lost c) h = refl
    one (Right s a) h = refl
    one (Publish s v) h = refl
    one (Tick t) h = elim h [ ]
    one (Cancel k) h = elim h [ ]

-- a run that is over has begun
pub has_begun : (l : Listing) (sites : List Site) (a : Apart) → IsOver l sites a → 1 ≤ length a.entries
has_begun l sites a O = go a.entries O.leads
  where
    first : (y : Option Yield) → IsLeftOf a.entries a.mark y → stands 1 (call_of a.definition a.args) whole ∷ [] ≡ rows_left y → ⊥
    first None k h = absurd (omega (arith, ap length h))
    first (Some y) k h = absurd (omega (arith, k.1, ap first_serial h))
      where
        first_serial : List Row → ℕ
        first_serial (stands s t p ∷ rs) = s
        first_serial rs = 0

    go : (es : List Entry) → Journal (context l sites) (begin (call_of a.definition a.args)) es O.place → 1 ≤ length es
    go [] h = absurd (first a.left O.yields (ap (λ (p : Place). marks whole p.marked) h ∙ O.rows))
    go (e ∷ es) h = omega arith

-- what comes stands in the group of the token that goes
pub comers-in : (n : Numbering) (t : Token) (steps : List Step) (y : Option Yield) (j : ℕ) → tokens_in steps (comers n t y) j ≡ weight (λ (u : Token). is_this j (group_at steps t.step)) (comers n t y)
comers-in n t steps None j = refl
comers-in n t steps (Some y) j = refl

-- the numbers of a part fit those of the run around it
pub left-fits : (es : List Entry) (mark next : ℕ) (y : Option Yield) → IsLeftOf es mark y → next + mark < 2 ^ 64 → IfSome y (λ z. (2 ≤ z.mark) × (next + z.mark < 2 ^ 64))
left-fits es mark next None h lt = tt
left-fits es mark next (Some y) h lt = (h.1, omega (arith, h.2, lt))

-- the values of a call are the same under other numbers
values_still : (n : Numbering) (vs : List Value) → map (moved_param n) (map Is vs) ≡ map Is vs
values_still n [] = refl
values_still n (v ∷ vs) = λ i. Is v ∷ values_still n vs i

-- ---- cells

pub current-from : (cells : List Bound) (k : ℕ) (b : Bound) → current (cells ++ cells_from (length cells) k) b ≡ current cells b
current-from cells zero b = ap (λ z. current z b) (append-nil cells)
current-from cells (suc k) b =
    let one = cells ++ Cell (length cells) ∷ [] in
    let len : length one ≡ suc (length cells) = omega (arith, length-append cells (Cell (length cells) ∷ [])) in
    ap (λ z. current z b) (sym (append_assoc cells (Cell (length cells) ∷ []) (cells_from (suc (length cells)) k)) ∙ ap (λ z. one ++ cells_from z k) (sym len)) ∙ current-from one k b ∙ current-push cells b

own_from : (c k i d : ℕ) → slice_get (cells_from c k) i ≡ Some (Cell d) → c + i ≡ d
own_from c zero i d h = cc h
own_from c (suc k) zero d h = let same : c ≡ d = cc h in omega (arith, same)
own_from c (suc k) (suc i) d h = omega (arith, own_from (suc c) k i d h)

pub cells-more : (c k : ℕ) → cells_from c (suc k) ≡ cells_from c k ++ Cell (c + k) ∷ []
cells-more c zero = let same : c ≡ c + 0 = omega arith in ap (λ z. Cell z ∷ []) same
cells-more c (suc k) = let same : suc c + k ≡ c + suc k = omega arith in ap (λ z. Cell c ∷ z) (cells-more (suc c) k ∙ ap (λ z. cells_from (suc c) k ++ Cell z ∷ []) same)

pub cells_count : (c k : ℕ) → length (cells_from c k) ≡ k
cells_count c zero = refl
cells_count c (suc k) = omega (arith, cells_count (suc c) k)

-- ---- calls

-- new calls that no script answers aren't counted
pub counted_more : (sites : List Site) (table : List (List ℕ × ℕ)) (made : ℕ) (old new : List CallMade) → AllByRecursion (IsNewCall sites made) new → AreCounted sites table old → AreCounted sites table (new ++ old)
counted_more sites table made old [] h counted m args scripted = counted m args scripted
counted_more sites table made old (c ∷ cs) h counted m args scripted = counted_more sites table made old cs h.1 counted m args scripted ∙ sym (skip (nat_eq m c.site) refl)
  where
    skip : (b : Bool) → nat_eq m (CallMade.site c) ≡ b → nth_of m args (c ∷ cs ++ old) ≡ nth_of m args (cs ++ old)
    skip true e = cc (sym scripted ∙ ap (is_scripted sites) (eqb-true m (CallMade.site c) e) ∙ h.0.1)
    skip false e = ap {B = ℕ} (λ b. suc (fold (λ n (d : CallMade). n + cond (nat_eq m d.site && values_eq args d.args) 1 0) (0 + cond (b && values_eq args (CallMade.args c)) 1 0) (cs ++ old))) e

-- a call that was told of has a number that was given out
number_within : (made : List CallMade) → HaveNumbers (map number_of made) → (by : CallMade) → IsIn by made → number_of by ≤ length made
number_within [] num by i = elim i [ ]
number_within (m ∷ ms) num by (inl e) = omega (arith, num.0, ap number_of e, length-map ms number_of)
number_within (m ∷ ms) num by (inr i) = omega (arith, number_within ms num.1 by i)

-- calls that were told of stay so beside new ones
told_more : (sites : List Site) (made : ℕ) (old new : List CallMade) → AllByRecursion (IsNewCall sites made) new → (c : Call) → c.number ≤ made → not (is_told sites old c) ≡ false → not (is_told sites (new ++ old) c) ≡ false
told_more sites made old [] h c le told = told
told_more sites made old (m ∷ ms) h c le told = go (nat_eq c.number m.number) refl (told_more sites made old ms h.1 c le told)
  where
    go : (b : Bool) → nat_eq c.number (CallMade.number m) ≡ b → not (is_told sites (ms ++ old) c) ≡ false → not (is_told sites (m ∷ ms ++ old) c) ≡ false
    go true e k = absurd (omega (arith, eqb-true c.number (CallMade.number m) e, h.0.0, le))
    go false e k = ap (λ b. not (cond b (found_eq (says_of sites m) c.found && nat_eq (CallMade.at m) c.made_at && is_nth sites m c.nth) (is_told sites (ms ++ old) c))) e ∙ k

told_number : (sites : List Site) (old : List CallMade) → HaveNumbers (map number_of old) → (c : Call) → not (is_told sites old c) ≡ false → c.number ≤ length old
told_number sites old num c h =
    let w = told_is sites old c (yes_not (is_told sites old c) h) in
    omega (arith, w.is_k, number_within old num w.by w.is_made)
  where
    yes_not : (b : Bool) → not b ≡ false → b ≡ true
    yes_not true h = refl
    yes_not false h = cc h

-- ---- the records

module _ (grafted : PartIsGrafted) (stays : ProgramIsStill) (l : Listing) (sites : List Site) (table : List (List ℕ × ℕ)) (sizes : List ℕ) (s : Records) (K : Kept l sites table sizes s) (t : Token) (i : IsIn t s.tokens) (serial : 1 ≤ t.serial) (a : Apart) (O : IsOver l sites a) (at : StandsFor l s t a.definition a.args) (fits : Fits a t) (small : s.now < 2 ^ 64) (room : s.entries + length a.entries ≤ s.limit) (s' : Records) (T : TakesIn s s' t a) where
  abbrev cd : ℕ → Term
  cd = code l

  abbrev L : Lawful l sites s
  L = K.lawful

  abbrev n : Numbering
  n = numbering s t

  abbrev births : List Token
  births = comers n t a.left

  abbrev news : List Bound
  news = cells_from (length s.cells) a.cells

  -- the records as they would be if the token had ended, and what comes had come in its place
  abbrev turned_so : Records
  turned_so = record s' { journal = s.journal ++ End t.serial ∷ []; entries = s.entries + 1; next_mark = s.next_mark + length births; made = s.made }

  turns : Turns s turned_so t births [] [] [] news (End t.serial)
  turns =
      record {
        limit = T.limit;
        journal = refl;
        entries = refl;
        mark = refl;
        now = T.now;
        made = refl;
        tokens = T.tokens;
        calls = T.calls;
        groups = λ w. omega (arith, T.groups w);
        scopes = T.scopes ∙ sym (append-nil s.scopes);
        steps = T.steps ∙ sym (append-nil s.steps);
        cells = T.cells;
      }

  plain : (b : Bound) → current s'.cells b ≡ current s.cells b
  plain b = ap (λ z. current z b) T.cells ∙ current-from s.cells a.cells b

  abbrev f : Found (token_row cd s t) L.place.marked
  f = token_found l sites s L t i

  abbrev part : Marked
  part = moved_marked n O.place.marked

  stands_at : plug f.around (token t.serial (call_of a.definition a.args)) ≡ L.place.marked
  stands_at = ap (λ z. plug f.around (token t.serial z)) (sym at) ∙ f.is

  hangs : Hangs a.entries (token t.serial (call_of a.definition a.args)) part L.place.marked (plug f.around part)
  hangs = by_left a.left O.yields fits
    where
      outermost : t.step ≡ 0 → path_of f.around ≡ whole
      outermost h = f.path ∙ ap (its_path cd s) h ∙ ap (seen (has_published s.steps)) (path-none cd (its_env cd s) s.steps)

      silent : AreSilent a.entries → Hangs a.entries (token t.serial (call_of a.definition a.args)) part L.place.marked (plug f.around part)
      silent k =
          inr (k, cells_of f.around [], subst (λ z. Replaces (token t.serial (call_of a.definition a.args)) part z (cells_of f.around []) (plug f.around part)) stands_at (replaced f.around here))

      by_left : (y : Option Yield) → IsLeftOf a.entries a.mark y → (y ≡ None → (t.step ≡ 0) ⊎ AreSilent a.entries) → Hangs a.entries (token t.serial (call_of a.definition a.args)) part L.place.marked (plug f.around part)
      by_left None k h =
          ⊎_elim
          (λ at_root. inl (subst (λ z. Branches (token t.serial (call_of a.definition a.args)) part z (plug f.around part)) stands_at
          (branches f.around (token t.serial (call_of a.definition a.args)) part (outermost at_root))))
          silent
          (h refl)
      by_left (Some y) k h = silent k.0

  later : 2 ≤ s.next_mark
  later = omega (arith, given l sites s L t i, serial)

  abbrev g : (r : Place) × (r.marked ≡ plug f.around part) × Grafts (context l sites) n a.entries O.place L.place r
  g =
      grafted (context l sites) n (call_of a.definition a.args) a.entries O.place L.place (plug f.around part) (stays l).1 (λ m. ap (call a.definition) (values_still m a.args)) O.leads O.local O.free
      (record { mark = sym L.spells.mark; calls = sym L.spells.made; cells = omega (arith, L.spells.cells); later = omega (arith, later, L.spells.mark) })
      (omega (arith, small, L.spells.now)) L.spells.none_due hangs

  abbrev r : Place
  r = g.0

  abbrev G : Grafts (context l sites) n a.entries O.place L.place r
  G = g.2

  -- what comes has a new mark
  fresh_births : (m : ℕ) → 1 ≤ weight (has_serial m) births → s.next_mark ≤ m
  fresh_births m = go a.left O.yields
    where
      go : (y : Option Yield) → IsLeftOf a.entries a.mark y → 1 ≤ weight (has_serial m) (comers n t y) → s.next_mark ≤ m
      go None k h = absurd (omega (arith, h))
      go (Some y) k h = omega (arith, later_one m (mark_in n y.mark) h, later_mark n y.mark k.1, k.1)

  few_births : s.next_mark + length births ≤ s'.next_mark
  few_births = go a.left O.yields
    where
      go : (y : Option Yield) → IsLeftOf a.entries a.mark y → s.next_mark + length (comers n t y) ≤ s'.next_mark
      go None k = omega (arith, T.mark, O.begun)
      go (Some y) k = omega (arith, T.mark, k.1, k.2)

  births_in : None_ (token_out (length turned_so.scopes) (length turned_so.steps)) births
  births_in = go a.left
    where
      within : nat_lt (length turned_so.steps) t.step ≡ false
      within = ap (λ z. nat_lt (length z) t.step) T.steps ∙ (or_false (is_out (length s.scopes) t.standing) (nat_lt (length s.steps) t.step) (t_in l sites s L t i turned_so births [] [] [] news (End t.serial) turns (λ n. refl) plain)).1

      go : (y : Option Yield) → None_ (token_out (length turned_so.scopes) (length turned_so.steps)) (comers n t y)
      go None = omega arith
      go (Some y) = none_one (token_out (length turned_so.scopes) (length turned_so.steps)) (record { serial = mark_in n y.mark; standing = On y.value; step = t.step }) within

  own_cells : (c d : ℕ) → slice_get s'.cells c ≡ Some (Cell d) → c ≡ d
  own_cells c d h =
      ⊎_elim (λ o. L.sound.own c d o) (λ o. omega (arith, o.1, own_from (length s.cells) a.cells o.0 d o.2))
      (get_more s.cells news c (Cell d) (ap (λ z. slice_get z c) (sym T.cells) ∙ h))

  sound_turned_so : Sound turned_so
  sound_turned_so =
      sound_turned l sites s L t i turned_so births [] [] [] news (End t.serial) turns (λ n. refl) plain births_in refl refl (λ k p h. cc h) (λ k p h. cc h)
      own_cells
      (omega (arith, T.groups (only (λ (g : Group). is_settled s'.cells g.side) (λ g. 1)), none-weaker (λ (z : Group). is_settled s.cells z.side) (λ z. is_settled s'.cells z.side) s.groups L.sound.cells (λ z h. still_own s.cells s'.cells news T.cells z.side h)))
      fresh_births (λ m. omega arith)

  sound : Sound s'
  sound =
      record {
        tokens = sound_turned_so.tokens;
        calls = sound_turned_so.calls;
        groups = sound_turned_so.groups;
        steps = none-weaker (step_out (length s'.scopes) turned_so.next_mark) (step_out (length s'.scopes) s'.next_mark) s'.steps sound_turned_so.steps (λ p h. entered_less (length s'.scopes) (length s'.scopes) turned_so.next_mark s'.next_mark (omega arith) few_births p.entered h);
        outwards = sound_turned_so.outwards;
        scopes = sound_turned_so.scopes;
        own = sound_turned_so.own;
        cells = sound_turned_so.cells;
        apart = sound_turned_so.apart;
        once = sound_turned_so.once;
      }

  -- the part has the rows of what comes, and no open side
  abbrev here_path : Path
  here_path = its_path cd s t.step

  part_rows : (w : Row → ℕ) → weight w (marks here_path part) ≡ weight (λ u. w (token_row cd turned_so u)) births
  part_rows w = ap (weight w) (rows_moved n O.place.marked here_path whole ∙ ap (map (moved_row n here_path)) O.rows) ∙ go a.left
    where
      same_path : its_path cd turned_so t.step ≡ here_path
      same_path = path_same l sites s L t i turned_so births [] [] [] news (End t.serial) turns (λ n. refl) plain t.step (token_within s L.sound t i)

      go : (y : Option Yield) → weight w (map (moved_row n here_path) (rows_left y)) ≡ weight (λ u. w (token_row cd turned_so u)) (comers n t y)
      go None = refl
      go (Some y) = ap (λ p. w (stands (mark_in n y.mark) (param (Is y.value)) p) + 0) (sym same_path)

  part_sides : (v : Numbered → ℕ) → weight v (sides here_path part) ≡ 0
  part_sides v = ap (weight v) (sides_moved n O.place.marked here_path whole ∙ ap (map (moved_side n here_path)) O.sides_left)

  pub taken-lawful : Lawful l sites s'
  taken-lawful =
      record {
        place = r;
        leads = subst (λ es. Journal (context l sites) (begin (source l)) es r) (sym T.journal) (journal_more (context l sites) (begin (source l)) L.place r s.journal (map (moved n) a.entries) L.leads G.leads);
        spells = record {
          rows = λ w. omega (
            arith,
            ap (λ m. weight w (marks whole m)) g.1,
            marks-plug w f.around part,
            ap (λ p. weight w (marks p part)) f.path,
            part_rows w,
            rows_turned l sites s L t i turned_so births [] [] [] news (End t.serial) turns (λ n. refl) plain w,
            L.spells.rows w,
            ap (λ m. weight w (marks whole m)) f.is,
            marks-plug w f.around (unit (token_row cd s t)),
            ap (λ p. w (stands t.serial (standing cd (its_env cd s) t.standing) p)) f.path,
          );
          sides = λ v. omega (
            arith,
            ap (λ m. weight v (sides whole m)) g.1,
            sides-plug v f.around part,
            ap (λ p. weight v (sides p part)) f.path,
            part_sides v,
            sides_turned l sites s L t i turned_so births [] [] [] news (End t.serial) turns (λ n. refl) plain v,
            L.spells.sides v,
            ap (λ m. weight v (sides whole m)) f.is,
            sides-plug v f.around (unit (token_row cd s t)),
          );
          mark = omega (arith, G.mark, L.spells.mark, O.mark, T.mark);
          cells = omega (arith, ap length T.cells, length-append s.cells news, cells_count (length s.cells) a.cells, L.spells.cells, G.opened, O.cells);
          now = G.now ∙ L.spells.now ∙ sym T.now;
          made = omega (arith, ap length G.made, length-append G.calls L.place.calls, G.as_many, O.calls, L.spells.made, T.made);
          none_due = G.to_cancel;
        };
        sound = sound;
        written = written-kept s s' (map (moved n) a.entries) T.journal (λ w. omega (arith, ap (weight w) T.calls)) L.written;
        entries = omega (arith, L.entries, T.entries, ap (weight counts) T.journal, weight-append counts s.journal (map (moved n) a.entries), counts_local sites n a.entries O.local);
        within = omega (arith, T.entries, T.limit, room);
        small = omega (arith, T.limit, L.small);
        counted = omega (arith, L.counted, T.mark, O.counted, T.entries);
      }

  taken-grouped : AreGrouped (numbers_of s') s'
  taken-grouped =
      let h = turned-grouped l sites s L K.grouped t i turned_so births [] news (End t.serial) turns at_step in
      record { homes = h.homes; are_homes = h.are_homes; groups = h.groups; nests = h.nests; root = h.root; tokens = h.tokens; calls = h.calls; sides = h.sides; listed = h.listed; once = h.once; feeds = h.feeds }
    where
      at_step : (b : Token) → IsIn b births → b.step ≡ t.step
      at_step b = go a.left
        where
          go : (y : Option Yield) → IsIn b (comers n t y) → b.step ≡ t.step
          go None j = elim j [ ]
          go (Some y) (inl e) = ap (λ (z : Token). z.step) e
          go (Some y) (inr j) = elim j [ ]

  taken-told : AreTold sites r.calls s'.calls
  taken-told =
      let all : AreTold sites (G.calls ++ L.place.calls) s.calls = none-weaker (λ c. not (is_told sites L.place.calls c)) (λ c. not (is_told sites (G.calls ++ L.place.calls) c)) s.calls K.told
      (λ c h. told_more sites (length L.place.calls) L.place.calls G.calls G.new c (told_number sites L.place.calls (numbered l sites s L).calls c h) h) in
      subst (λ z. AreTold sites r.calls z) (sym T.calls) (subst (λ z. AreTold sites z s.calls) (sym G.made) all)

  -- the token's group has one member less, and as many more as come
  pub taken-members : (j : ℕ) → members (numbers_of s') s' j + is_this j (group_at s.steps t.step) ≡ members (numbers_of s) s j + tokens_in s.steps births j
  taken-members j = omega (arith, turned-members s turned_so L.sound t i births [] [] [] news (End t.serial) turns j, ap (λ z. tokens_in z births j) (append-nil s.steps))

  -- the other tokens stand on the same terms
  pub taken-terms : SameTerms (code l) s s'
  taken-terms = turns-terms l sites s L turned_so t i births [] [] [] news (End t.serial) turns (λ n. refl) plain

  pub taken-kept : (sizes' : List ℕ) → ((j : ℕ) → size_of sizes' j ≡ size_of sizes j + tokens_in s.steps births j - is_this j (group_at s.steps t.step)) → Kept l sites table sizes' s'
  unfolding taken-lawful
  taken-kept sizes' left =
      record {
        lawful = taken-lawful;
        grouped = taken-grouped;
        told = taken-told;
        counted = rw G.made (counted_more sites table (length L.place.calls) L.place.calls G.calls G.new K.counted);
        sized = λ j. omega (arith, left j, taken-members j, K.sized j);
        brought = taken-brought s s' K.brought t births few (map (moved n) a.entries) T.journal T.tokens T.calls T.groups T.steps;
      }
    where
      few : length births ≤ 1
      few = go a.left
        where
          go : (y : Option Yield) → length (comers n t y) ≤ 1
          go None = omega arith
          go (Some y) = omega arith
