-- The rows of a part, moved, stand for its entries under their new numbers.
use Rattle.std.proofs.Common.{◌≡◌, ℕ, ◌+◌, ◌-◌, ◌<◌, ◌≤◌, List, [], ◌∷◌, ◌++◌, length, get_or, take, drop, map, refl, sym, ap, subst, ◌∙◌, arith, length-append}
use Rattle.std.specs.Prelude.{cond, nat_eq}
use Rattle.std.specs.List.{All}
use Rattle.std.proofs.lemmas.List.Elements.{All-head, All-tail}
use Rattle.std.proofs.lemmas.List.{drop_at, drop-drop, get_or-append-add, get_or-map, length-map, map-append}
use Rattle.orc_rules.specs.declared.value.Value.{Value}
use Rattle.orc_rules.specs.declared.value.Value.TheVariants.{Signal}
use Rattle.orc_rules.specs.declared.entry.Entry.{Entry}
use Rattle.orc_rules.specs.declared.entry.Entry.TheVariants.{End, Fork, Seq, Other, Def, Void, Open, Send, Call, Return, Bind, Right, Publish}
use Rattle.orc_rules.specs.declared.kind.Kind.TheVariants as kinds
use Rattle.orc_subrun.specs.declared.numbers.Numbering.{Numbering}
use Rattle.orc_subrun.specs.Moved.{mark_in, moved}
use Rattle.orc_subrun.proofs.Marks.{later_mark}
use Rattle.orc_journal.specs.declared.journal.Version.{Version}
use Rattle.orc_journal.specs.declared.rows.Called.{Called}
use Rattle.orc_journal.specs.declared.rows.Row.{Row}
use Rattle.orc_journal.specs.declared.rows.Row.TheVariants.{Narrow, Wide}
use Rattle.orc_journal.specs.declared.shift.Shift.{Shift}
use Rattle.orc_journal.specs.Rows.{Contents, no_call, value_at, call_by, entry_of, grown, HasArguments, HasCall, IsWithin, AreWithin, Keeps, StandsFor}
use Rattle.orc_journal.specs.Shifts.{mark_by, row_by, called_by, shift_to, IsMovable, Shifts}
use Rattle.orc_journal.specs.Written.{Written, journal_with}
use Rattle.orc_journal.proofs.Keeping.{rows_kept, within_kept}

less : (m own : ℕ) → 2 ≤ m → m - 2 + own ≡ m + own - 2
less m own le = omega arith

-- what stands behind a list stands there from its end on
drop_behind : (vs ws : List Value) (start : ℕ) → drop (length vs + start) (vs ++ ws) ≡ drop start ws
drop_behind vs ws start = sym (drop-drop start (length vs) (vs ++ ws)) ∙ ap (drop start) (drop_at vs ws (length vs) refl)

module _ (t p : Contents) (n : Numbering) (later : 2 ≤ n.mark) (narrow : length p.wides ≡ 0) where
  abbrev by : Shift
  by = shift_to t n

  abbrev both : Contents
  both = grown t p.values (map (called_by by) p.calls) []

  mark : (own : ℕ) → mark_by by own ≡ mark_in n own
  mark own = ap (λ (m : ℕ). cond (nat_eq own 1) n.token m) (less n.mark own later)

  value : (at : ℕ) → value_at both.values (length t.values + at) ≡ value_at p.values at
  value at = get_or-append-add t.values p.values at Signal

  value_there : (at : ℕ) → at < length p.values → length t.values + at < length both.values
  value_there at lt = omega (arith, lt, length-append t.values p.values)

  called : (at : ℕ) → at < length p.calls → get_or both.calls (length t.calls + at) no_call ≡ called_by by (get_or p.calls at no_call)
  called at lt = get_or-append-add t.calls (map (called_by by) p.calls) at no_call ∙ get_or-map (called_by by) p.calls at no_call no_call lt

  arguments_there : (c : Called) → HasArguments p.values c → HasArguments both.values (called_by by c)
  arguments_there c has = (omega (arith, has.0, length-append t.values p.values), has.1)

  call_there : (at : ℕ) → HasCall p at → HasCall both (length t.calls + at)
  call_there at has = (
    omega (arith, has.0, length-append t.calls (map (called_by by) p.calls), length-map p.calls (called_by by)),
    subst (HasArguments both.values) (sym (called at has.0)) (arguments_there (get_or p.calls at no_call) has.1),
  )

  call : (s s' k at : ℕ) → at < length p.calls → s ≡ s'
      → call_by both.values s k (get_or both.calls (length t.calls + at) no_call) ≡ call_by p.values s' k (get_or p.calls at no_call)
  call s s' k at lt same =
      let c : Called = get_or p.calls at no_call in
      ap (call_by both.values s k) (called at lt) ∙ λ i. Call (same i) k c.site (take c.count (drop_behind t.values p.values c.start i))

  -- the marks of an opened pruning: neither is the first one
  left_mark : (own : ℕ) → 2 ≤ own → by.marks + own ≡ mark_in n own
  left_mark own le = less n.mark own later ∙ sym (later_mark n own le)

  right_mark : (own : ℕ) → 2 ≤ own → by.marks + own + 1 ≡ mark_in n (own + 1)
  right_mark own le =
      let next : by.marks + own + 1 ≡ by.marks + (own + 1) = omega arith in
      next ∙ left_mark (own + 1) (omega (arith, le))

  row_moved : (r : Row) → IsWithin p r → IsMovable r → StandsFor both (row_by by r) (moved n (entry_of p r))
  row_moved (Narrow kinds.End a b c) w _ = ((tt, tt), ap End (mark a))
  row_moved (Narrow kinds.Fork a b c) w _ = ((tt, tt), λ i. Fork (mark a i) (mark b i) (mark c i))
  row_moved (Narrow kinds.Seq a b c) w _ = ((tt, tt), λ i. Seq (mark a i) (mark b i))
  row_moved (Narrow kinds.Other a b c) w _ = ((tt, tt), λ i. Other (mark a i) (mark b i))
  row_moved (Narrow kinds.Def a b c) w _ = ((tt, tt), λ i. Def (mark a i) (mark b i))
  row_moved (Narrow kinds.Void a b c) w _ = ((tt, tt), ap Void (mark a))
  row_moved (Narrow kinds.Open a b c) w le = ((tt, tt), λ i. Open (mark a i) (n.cells + b) (left_mark c le i) (right_mark c le i))
  row_moved (Narrow kinds.Send a b c) w _ = ((tt, value_there c w.1), λ i. Send (mark a i) (mark b i) (value c i))
  row_moved (Narrow kinds.Call a b c) w _ = ((tt, call_there c w.1), call (mark_by by a) (mark_in n a) (n.calls + b) c w.1.0 (mark a) ∙ ap (λ (k : Called). moved n (call_by p.values a b k)) refl)
  row_moved (Narrow kinds.Return a b c) w _ = ((tt, value_there c w.1), λ i. Return (n.calls + a) (mark b i) (value c i))
  row_moved (Narrow kinds.ReturnHalt a b c) w _ = ((tt, tt), refl)
  row_moved (Narrow kinds.Bind a b c) w _ = ((tt, value_there c w.1), λ i. Bind (mark a i) (n.cells + b) (value c i))
  row_moved (Narrow kinds.Lost a b c) w _ = ((tt, tt), refl)
  row_moved (Narrow kinds.Right a b c) w _ = ((tt, tt), λ i. Right (mark a i) (mark b i))
  row_moved (Narrow kinds.Publish a b c) w _ = ((tt, value_there c w.1), λ i. Publish (mark a i) (value c i))
  row_moved (Narrow kinds.Tick a b c) w _ = ((tt, tt), refl)
  row_moved (Narrow kinds.Cancel a b c) w _ = ((tt, tt), refl)
  row_moved (Wide at) w _ = absurd (omega (arith, narrow, w.0))

  rows_moved : (rs : List Row) → AreWithin p rs → All IsMovable rs → AreWithin both (map (row_by by) rs) × (map (entry_of both) (map (row_by by) rs) ≡ map (moved n) (map (entry_of p) rs))
  rows_moved [] w m = (tt, refl)
  rows_moved (r ∷ rs) w m =
      let one = row_moved r w.0 (All-head IsMovable r rs m) in
      let others = rows_moved rs w.1 (All-tail IsMovable r rs m) in
      ((one.0, others.0), λ i. one.1 i ∷ others.1 i)

within_both : (t : Contents) (rs qs : List Row) → AreWithin t rs → AreWithin t qs → AreWithin t (rs ++ qs)
within_both t [] qs w v = v
within_both t (r ∷ rs) qs w v = (w.0, within_both t rs qs w.1 v)

-- with a part's rows, moved, behind its own the journal has the part's entries behind its own
pub part_added : (v : Version) (t u p : Contents) (n : Numbering) (s : Shift) (rs rs' qs : List Row) → Shifts t p n s → Keeps t u → u ≡ grown t p.values (map (called_by s) p.calls) []
    → AreWithin t rs → AreWithin p qs → All IsMovable qs → rs' ≡ rs ++ map (row_by s) qs
    → AreWithin u rs' × (◌≡◌ {A = Written} (record { version = v; entries = map (entry_of u) rs' }) (journal_with (record { version = v; entries = map (entry_of t) rs }) (map (moved n) (map (entry_of p) qs))))
part_added v t u p n s rs rs' qs shifts keeps tables w wp movable rows =
    let to = shift_to t n in
    let same : u ≡ grown t p.values (map (called_by to) p.calls) [] = tables ∙ ap (λ (x : Shift). grown t p.values (map (called_by x) p.calls) []) shifts.is in
    let more : rs' ≡ rs ++ map (row_by to) qs = rows ∙ ap (λ (x : Shift). rs ++ map (row_by x) qs) shifts.is in
    let moves = subst (λ (x : Contents). AreWithin x (map (row_by to) qs) × (map (entry_of x) (map (row_by to) qs) ≡ map (moved n) (map (entry_of p) qs))) (sym same)
    (rows_moved t p n shifts.later shifts.narrow qs wp movable) in
    let entries : map (entry_of u) rs' ≡ map (entry_of t) rs ++ map (moved n) (map (entry_of p) qs) =
    ap (map (entry_of u)) more ∙ map-append (entry_of u) rs (map (row_by to) qs) ∙ ap (λ (es : List Entry). es ++ map (entry_of u) (map (row_by to) qs)) (rows_kept t u rs keeps w)
    ∙ ap (λ (es : List Entry). map (entry_of t) rs ++ es) moves.1 in
    (subst (AreWithin u) (sym more) (within_both u rs (map (row_by to) qs) (within_kept t u rs keeps w) moves.0), ap (λ (es : List Entry). record { version = v; entries = es }) entries)
