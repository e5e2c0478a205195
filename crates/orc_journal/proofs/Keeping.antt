-- What is added behind the tables leaves the entries of the rows as they are.
use Rattle.std.proofs.Common.{◌≡◌, ℕ, ◌+◌, ◌≤◌, List, [], ◌∷◌, ◌++◌, length, get_or, take, drop, map, refl, sym, ap, subst, ◌∙◌, arith, length-drop, length-append}
use Rattle.std.proofs.lemmas.List.{take-append-le, drop-append-le, map-append, append-nil, get_or_append_left, drop_more}
use Rattle.orc_rules.specs.declared.value.Value.{Value}
use Rattle.orc_rules.specs.declared.value.Value.TheVariants.{Signal}
use Rattle.orc_rules.specs.declared.entry.Entry.{Entry}
use Rattle.orc_rules.specs.declared.entry.Entry.TheVariants.{Send, Call, Return, Bind, Publish}
use Rattle.orc_rules.specs.declared.kind.Kind.{Kind}
use Rattle.orc_rules.specs.declared.kind.Kind.TheVariants as kinds
use Rattle.orc_journal.specs.declared.rows.Parts.{Parts}
use Rattle.orc_journal.specs.declared.rows.Called.{Called}
use Rattle.orc_journal.specs.declared.rows.Row.{Row}
use Rattle.orc_journal.specs.declared.rows.Row.TheVariants.{Narrow, Wide}
use Rattle.orc_journal.specs.Rows.{Contents, no_parts, no_call, parts_in, call_by, entry_by, entry_from, entry_of, grown, HasArguments, HasCall, IsPlaced, IsThere, ArePlaced, IsWithin, AreWithin, Keeps, StandsAt, StandFrom, StandsFor}
use Rattle.orc_journal.specs.Written.{Written, journal_with}
use Rattle.orc_journal.specs.declared.journal.Version.{Version}

-- ---- parts

parts_kept : (ws more : List Parts) (r : Row) → IsThere ws r → parts_in (ws ++ more) r ≡ parts_in ws r
parts_kept ws more (Narrow _ a b c) there = refl
parts_kept ws more (Wide at) there = get_or_append_left ws more no_parts at there

there_kept : (ws more : List Parts) (r : Row) → IsThere ws r → IsThere (ws ++ more) r
there_kept ws more (Narrow _ a b c) there = tt
there_kept ws more (Wide at) there = omega (arith, there, length-append ws more)

-- ---- calls

arguments_kept : (vs more : List Value) (start len : ℕ) → start + len ≤ length vs → take len (drop start (vs ++ more)) ≡ take len (drop start vs)
arguments_kept vs more start len le =
    ap (take len) (drop-append-le start vs more (omega (arith, le))) ∙ take-append-le len (drop start vs) more (omega (arith, le, length-drop start vs))

call_kept : (vs more : List Value) (s k : ℕ) (c : Called) → HasArguments vs c → call_by (vs ++ more) s k c ≡ call_by vs s k c
call_kept vs more s k c has = ap (λ (args : List Value). Call s k c.site args) (arguments_kept vs more c.start c.count has.0)

arguments_more : (vs more : List Value) (c : Called) → HasArguments vs c → HasArguments (vs ++ more) c
arguments_more vs more c has = (omega (arith, has.0, length-append vs more), has.1)

-- ---- what stands at a place

has_call_kept : (t : Contents) (vs : List Value) (cs : List Called) (ps : List Parts) (at : ℕ) → HasCall t at → HasCall (grown t vs cs ps) at
has_call_kept t vs cs ps at has =
    let same = get_or_append_left t.calls cs no_call at has.0 in
    (omega (arith, has.0, length-append t.calls cs), subst (λ (c : Called). HasArguments (t.values ++ vs) c) (sym same) (arguments_more t.values vs (get_or t.calls at no_call) has.1))

call_stays : (t : Contents) (vs : List Value) (cs : List Called) (ps : List Parts) (a b at : ℕ) → HasCall t at
    → entry_by (grown t vs cs ps) kinds.Call a b at 0 ≡ entry_by t kinds.Call a b at 0
call_stays t vs cs ps a b at has =
    ap (call_by (t.values ++ vs) a b) (get_or_append_left t.calls cs no_call at has.0) ∙ call_kept t.values vs a b (get_or t.calls at no_call) has.1

placed_kept : (t : Contents) (vs : List Value) (cs : List Called) (ps : List Parts) (kind : Kind) (at : ℕ) → IsPlaced t kind at → IsPlaced (grown t vs cs ps) kind at
placed_kept t vs cs ps kinds.Send at lt = omega (arith, lt, length-append t.values vs)
placed_kept t vs cs ps kinds.Return at lt = omega (arith, lt, length-append t.values vs)
placed_kept t vs cs ps kinds.Bind at lt = omega (arith, lt, length-append t.values vs)
placed_kept t vs cs ps kinds.Publish at lt = omega (arith, lt, length-append t.values vs)
placed_kept t vs cs ps kinds.Call at has = has_call_kept t vs cs ps at has
placed_kept t vs cs ps _ at _ = tt

entry_kept : (t : Contents) (vs : List Value) (cs : List Called) (ps : List Parts) (kind : Kind) (a b at d : ℕ) → IsPlaced t kind at
    → entry_by (grown t vs cs ps) kind a b at d ≡ entry_by t kind a b at d
entry_kept t vs cs ps kinds.Send a b at d lt = ap (Send a b) (get_or_append_left t.values vs Signal at lt)
entry_kept t vs cs ps kinds.Return a b at d lt = ap (Return a b) (get_or_append_left t.values vs Signal at lt)
entry_kept t vs cs ps kinds.Bind a b at d lt = ap (Bind a b) (get_or_append_left t.values vs Signal at lt)
entry_kept t vs cs ps kinds.Publish a b at d lt = ap (Publish a) (get_or_append_left t.values vs Signal at lt)
entry_kept t vs cs ps kinds.Call a b at d has = call_stays t vs cs ps a b at has
entry_kept t vs cs ps _ a b at d _ = refl

-- ---- rows

pub keeps_grown : (t : Contents) (vs : List Value) (cs : List Called) (ps : List Parts) → Keeps t (grown t vs cs ps)
keeps_grown t vs cs ps r within =
    let p : Parts = parts_in t.wides r in
    let same : parts_in (t.wides ++ ps) r ≡ p = parts_kept t.wides ps r within.0 in
    let placed : ArePlaced (grown t vs cs ps) p = placed_kept t vs cs ps p.kind p.third within.1 in
    let there : IsThere (t.wides ++ ps) r = there_kept t.wides ps r within.0 in
    let entry : entry_from (grown t vs cs ps) p ≡ entry_from t p = entry_kept t vs cs ps p.kind p.first p.second p.third p.fourth within.1 in
    ((there, subst (ArePlaced (grown t vs cs ps)) (sym same) placed), ap (entry_from (grown t vs cs ps)) same ∙ entry)

-- with a call more, whose arguments stand among the values from `start` on
abbrev pub with_call : Contents → ℕ → ℕ → ℕ → Contents
with_call t site count start = record { values = t.values; calls = t.calls ++ record { site = site; count = count; start = start } ∷ []; wides = t.wides }

pub keeps_both : (t u w : Contents) → Keeps t u → Keeps u w → Keeps t w
keeps_both t u w first second r within =
    let one = first r within in
    let two = second r one.0 in
    (two.0, two.1 ∙ one.1)

pub keeps_call : (t : Contents) (site count start : ℕ) → Keeps t (with_call t site count start)
keeps_call t site count start =
    let c : Called = record { site = site; count = count; start = start } in
    subst (Keeps t) (λ i. record { values = append-nil t.values i; calls = t.calls ++ c ∷ []; wides = append-nil t.wides i }) (keeps_grown t [] (c ∷ []) [])

pub rows_kept : (t u : Contents) (rs : List Row) → Keeps t u → AreWithin t rs → map (entry_of u) rs ≡ map (entry_of t) rs
rows_kept t u [] keeps w = refl
rows_kept t u (r ∷ rs) keeps w = λ i. (keeps r w.0).1 i ∷ rows_kept t u rs keeps w.1 i

pub within_kept : (t u : Contents) (rs : List Row) → Keeps t u → AreWithin t rs → AreWithin u rs
within_kept t u [] keeps w = tt
within_kept t u (r ∷ rs) keeps w = ((keeps r w.0).0, within_kept t u rs keeps w.1)

pub within_more : (t : Contents) (rs : List Row) (r : Row) → AreWithin t rs → IsWithin t r → AreWithin t (rs ++ r ∷ [])
within_more t [] r w h = (h, tt)
within_more t (q ∷ rs) r w h = (w.0, within_more t rs r w.1 h)

-- the journal is the same where its rows are, whatever stands behind what they point to
pub same_journal : (v : Version) (t u : Contents) (rs rs' : List Row) → Keeps t u → AreWithin t rs → rs' ≡ rs
    → ◌≡◌ {A = Written} (record { version = v; entries = map (entry_of u) rs' }) (record { version = v; entries = map (entry_of t) rs })
same_journal v t u rs rs' keeps w same = ap (λ (es : List Entry). record { version = v; entries = es }) (ap (map (entry_of u)) same ∙ rows_kept t u rs keeps w)

-- with a row more it has an entry more
pub row_more : (v : Version) (t u : Contents) (rs rs' : List Row) (r : Row) (e : Entry) → Keeps t u → AreWithin t rs → StandsFor u r e → rs' ≡ rs ++ r ∷ []
    → AreWithin u rs' × (◌≡◌ {A = Written} (record { version = v; entries = map (entry_of u) rs' }) (journal_with (record { version = v; entries = map (entry_of t) rs }) (e ∷ [])))
row_more v t u rs rs' r e keeps w stands more =
    let entries : map (entry_of u) rs' ≡ map (entry_of t) rs ++ e ∷ [] =
    ap (map (entry_of u)) more ∙ map-append (entry_of u) rs (r ∷ []) ∙ ap (λ (es : List Entry). es ++ entry_of u r ∷ []) (rows_kept t u rs keeps w) ∙ ap (λ (x : Entry). map (entry_of t) rs ++ x ∷ []) stands.1 in
    (subst (AreWithin u) (sym more) (within_more u rs r (within_kept t u rs keeps w) stands.0), ap (λ (es : List Entry). record { version = v; entries = es }) entries)

-- ---- a new row

-- one value that stands at a place
pub one_value : (values : List Value) (at : ℕ) (v : Value) → StandsAt values at v → StandFrom values at (v ∷ [])
one_value values at v stands = (omega (arith, stands.0), ap (take 1) (drop_more values at Signal stands.0) ∙ ap (λ (w : Value). w ∷ []) stands.1)
