-- A bind, with the cancels that it leaves due, keeps the book lawful; and so does a lost cell.
use Rattle.std.proofs.Common.{◌≡◌, ◌≤◌, ◌<◌, ℕ, zero, suc, ◌+◌, List, [], ◌∷◌, ◌++◌, refl, sym, ap, ◌∙◌, subst, arith, inl, inr, map, length, length-set, Bool, true, false, cond, nat_eq, eq-eqb, not, slice_get, Some}
use Rattle.orc_rules.specs.declared.value.Value.{Value}
use Rattle.orc_rules.specs.declared.entry.Entry.{Entry}
use Rattle.orc_rules.specs.declared.entry.Entry.TheVariants.{Bind, Lost, Cancel}
use Rattle.orc_rules.specs.declared.param.Param.TheVariants.{Is, Void}
use Rattle.orc_rules.specs.Term.{param, pending_of, Halted}
use Rattle.orc_rules.specs.Nodes.{Listing, code, source}
use Rattle.orc_rules.specs.Sites.{Site}
use Rattle.orc_rules.specs.Marked.{Marked, ended, token, in_call, in_par, in_seq, in_opened, in_other, erase, fill_marked, emits, Replaces, here}
use Rattle.orc_rules.specs.Timed.{Context, IsIn, AreDropped}
use Rattle.orc_rules.specs.Journal.{Place, Enters, Journal, begin}
use Rattle.orc_rules.specs.Lost.{HoldsSource}
use Rattle.orc_rules.specs.Numbered.{call, cell, times}
use Rattle.orc_rules.proofs.Numbered.{once_same, times_part}
use Rattle.orc_rules.proofs.Pending.{pending_by_names}
use Rattle.orc_rules.proofs.Sources.{emits_source}
use Rattle.orc_env.specs.declared.names.Bound.{Bound}
use Rattle.orc_env.specs.declared.names.Bound.TheVariants as bound
use Rattle.orc_indexes.specs.Same.{weight, only, but, None}
use Rattle.orc_frames.specs.Spelling.{Path, whole, feeding, aiding, trying, Row, stands, pends, Numbered, right_of, left_of, marks, sides, inside}
use Rattle.orc_ledger_spec.specs.Records.{Records, Lawful, context, its_env, raw_path, its_path, side_at, group_side, is_over, rows_of, sides_of, token_row, call_row, counts}
use Rattle.orc_frames.specs.Paths.{has_published, standing}
use Rattle.orc_ledger_spec.specs.Calls.{Drops, AreCancelled, token_goes, call_goes}
use Rattle.orc_tables.specs.PendingCalls.{has_number}
use Rattle.orc_tables.specs.declared.records.Token.{Token}
use Rattle.orc_tables.specs.declared.records.Call.{Call}
use Rattle.orc_tables.specs.declared.records.Side.{Side}
use Rattle.orc_tables.specs.declared.records.Side.TheVariants.{Right, Left}
use Rattle.orc_tables.specs.declared.records.Group.{Group}
use Rattle.orc_ledger_spec.proofs.Written.{written-kept}
use Rattle.orc_indexes.proofs.Weight.{weight-append, weight-map, weight-parts, weight-none, none-alike, weight-but}
use Rattle.orc_frames.proofs.Around.{plug, path_of, cells_of, replaced, Opened, marks-plug, sides-plug}
use Rattle.orc_frames.proofs.Kept as kept
use Rattle.orc_frames.specs.Taking.{taker}
use Rattle.orc_frames.proofs.Kept.{goes, bound_by}
use Rattle.orc_ledger_spec.proofs.Lists.{is_call, times-calls, numbered, holds_source, confined, rows-weigh, sides-weigh, token_found, side_found, unbound, empty-halted}
use Rattle.orc_env.proofs.Inside.{Confined}
use Rattle.orc_ledger_spec.proofs.Filled.{inside-seen}
use Rattle.orc_ledger_spec.proofs.Dropping.{rows-dropped, sides-dropped, sound-dropped}

pub journal_more : (x : Context) (p q r : Place) (es fs : List Entry) → Journal x p es q → Journal x q fs r → Journal x p (es ++ fs) r
journal_more x p q r [] fs h k = subst (λ w. Journal x w fs r) (sym h) k
journal_more x p q r (e ∷ es) fs (w, l, h) k = (w, l, journal_more x w q r es fs h k)

pub cancel_all : (x : Context) (q : Place) (ks : List ℕ) → q.to_cancel ≡ ks → Journal x q (map Cancel ks) (record q { to_cancel = [] })
cancel_all x q [] e = λ i. record q { to_cancel = e i }
cancel_all x q (k ∷ ks) e = (record q { to_cancel = ks }, (inl tt, (e, refl)), cancel_all x (record q { to_cancel = ks }) ks refl)

no_cancels : (ks : List ℕ) → weight counts (map Cancel ks) ≡ 0
no_cancels [] = refl
no_cancels (k ∷ ks) = omega (arith, no_cancels ks)

one_here : (m : Marked) → Replaces m ended m [] ended
one_here m = here

one_or_more : (n : ℕ) → (1 ≤ n → ⊥) → n ≡ 0
one_or_more zero h = refl
one_or_more (suc n) h = absurd (h (omega arith))

module _ (l : Listing) (sites : List Site) (s : Records) (L : Lawful l sites s) where
  -- the calls that pend before and after are those of the records
  module _ (c : ℕ) (u : Bound) (s' : Records) (D : Drops (code l) c u s s') (after : Marked) (source' : HoldsSource after) (rows : (w : Row → ℕ) → weight w (marks whole after) ≡ weight w (rows_of (code l) s')) where
    calls_before : (k : ℕ) → times (call k) L.place.marked ≡ weight (has_number k) s.calls
    calls_before k = omega (arith, times-calls k whole L.place.marked, rows-weigh l sites s L (is_call k), weight-none (λ (t : Token). is_call k (token_row (code l) s t)) s.tokens (λ t. refl))

    calls_after : (k : ℕ) → times (call k) after ≡ weight (but (call_goes (code l) c s) (has_number k)) s.calls
    calls_after k =
        omega (
          arith,
          times-calls k whole after,
          rows (is_call k),
          weight-append (is_call k) (map (token_row (code l) s') s'.tokens) (map (call_row (code l) s') s'.calls),
          weight-map (is_call k) (token_row (code l) s') s'.tokens,
          weight-map (is_call k) (call_row (code l) s') s'.calls,
          weight-none (λ (t : Token). is_call k (token_row (code l) s' t)) s'.tokens (λ t. refl),
          D.calls (has_number k),
        )

    pub dropped_so : (ks : List ℕ) → AreCancelled (code l) c s ks → AreDropped (pending_of (erase L.place.marked)) (pending_of (erase after)) ks
    dropped_so ks A =
        record {
          rising = A.rising;
          each = λ k i.
              let some : 1 ≤ weight (only (call_goes (code l) c s) (has_number k)) s.calls = (A.each k).0 i in
              let parts = weight-parts (call_goes (code l) c s) (has_number k) s.calls in (
                (pending_by_names L.place.marked (holds_source l sites s L) k).1 (omega (arith, some, parts, calls_before k)),
                λ j. omega (arith, (pending_by_names after source' k).0 j, calls_after k, some, parts, calls_before k, (numbered l sites s L).single (call k)),
              );
          all = λ k i out.
              let parts = weight-parts (call_goes (code l) c s) (has_number k) s.calls in
              let none : times (call k) after ≡ 0 = one_or_more (times (call k) after) (λ some. out ((pending_by_names after source' k).1 (omega (arith, some)))) in
              (A.each k).1 (omega (arith, (pending_by_names L.place.marked (holds_source l sites s L) k).0 i, calls_before k, parts, none, calls_after k));
        }

  -- the token t publishes v, which the right side of c takes
  -- a cell whose right side takes a publication isn't bound
  pub taken-unbound : (t : Token) → IsIn t s.tokens → (v : Value) → standing (code l) (its_env (code l) s) t.standing ≡ param (Is v) → (c : ℕ) (p : Path) → taker (its_path (code l) s t.step) ≡ aiding c p → slice_get s.cells c ≡ Some (bound.Cell c)
  taken-unbound t i v form c p takes =
      let f = token_found l sites s L t i in
      let is : plug f.around (token t.serial (param (Is v))) ≡ L.place.marked = ap (λ z. plug f.around (token t.serial z)) (sym form) ∙ f.is in
      let b = subst (λ m. kept.Bound c v t.serial L.place.mark m) is (bound_by c v t.serial L.place.mark f.around (token t.serial (param (Is v))) ended p (ap taker f.path ∙ takes) emits) in
      unbound l sites s L c (subst (λ m. 1 ≤ times (cell c) m) b.is (omega (arith, times_part (cell c) (replaced b.around (one_here (in_opened b.left c b.right))), once_same (cell c) (cell c) refl)))

  pub bind-lawful : (t : Token) → IsIn t s.tokens → (v : Value) → standing (code l) (its_env (code l) s) t.standing ≡ param (Is v)
      → (c : ℕ) (p : Path) → taker (its_path (code l) s t.step) ≡ aiding c p
      → s.entries < s.limit → (s' : Records) → Drops (code l) c (bound.Is v) s s' → (ks : List ℕ) → AreCancelled (code l) c s ks
      → s'.journal ≡ s.journal ++ Bind t.serial c v ∷ map Cancel ks
      → Lawful l sites s'
  bind-lawful t i v form c p takes room s' D ks A journal =
      let x = context l sites in
      let f = token_found l sites s L t i in
      let is : plug f.around (token t.serial (param (Is v))) ≡ L.place.marked = ap (λ z. plug f.around (token t.serial z)) (sym form) ∙ f.is in
      let b0 = bound_by c v t.serial L.place.mark f.around (token t.serial (param (Is v))) ended p (ap taker f.path ∙ takes) emits in
      let b = subst (λ m. kept.Bound c v t.serial L.place.mark m) is b0 in
      let after = plug b.around (fill_marked (Is v) c b.left) in
      let conf = subst (λ m. Confined c m) (sym b.is) (confined l sites s L c) in
      let few = subst (λ m. times (cell c) m ≤ 1) (sym b.is) ((numbered l sites s L).single (cell c)) in
      let free = taken-unbound t i v form c p takes in
      let g = goes c (Is v) b.around b.left b.right conf few in
      let rows : (w : Row → ℕ) → weight w (marks whole after) ≡ weight w (rows_of (code l) s') = λ w. omega (arith, g.rows w, ap (λ m. weight (kept.kept c (Is v) w) (marks whole m)) b.is, L.spells.rows (kept.kept c (Is v) w), rows-dropped l s s' L.sound c (bound.Is v) D free w) in
      let sides' : (w : Numbered → ℕ) → weight w (sides whole after) ≡ weight w (sides_of (code l) s') = λ w. omega (arith, g.sides w, ap (λ m. weight (kept.kept_side c (Is v) w) (sides whole m)) b.is, L.spells.sides (kept.kept_side c (Is v) w), sides-dropped l s s' L.sound c (bound.Is v) D free w) in
      let will = dropped_so c (bound.Is v) s' D after (emits_source b.does (holds_source l sites s L)) rows ks A in
      let q : Place = record { marked = after; mark = L.place.mark; now = L.place.now; calls = L.place.calls; cells = L.place.cells; to_cancel = ks } in
      let enters : Enters x L.place (Bind t.serial c v) q = (b.does, record { to_cancel = (λ e. will, λ e. cc e); same = refl }) in
      record {
        place = record q { to_cancel = [] };
        leads = subst (λ es. Journal x (begin (source l)) es (record q { to_cancel = [] })) (sym journal) (journal_more x (begin (source l)) L.place (record q { to_cancel = [] }) s.journal (Bind t.serial c v ∷ map Cancel ks) L.leads (q, (inr L.spells.none_due, enters), cancel_all x q ks refl));
        spells = record {
          rows = rows;
          sides = sides';
          mark = L.spells.mark ∙ sym D.mark;
          cells = ap length D.cells ∙ length-set s.cells c (bound.Is v) ∙ L.spells.cells;
          now = L.spells.now ∙ sym D.now;
          made = L.spells.made ∙ sym D.made;
          none_due = refl;
        };
        sound = sound-dropped l s s' L.sound c (bound.Is v) D free (λ d e. cc e);
        entries = omega (arith, L.entries, D.entries, ap (weight counts) journal, weight-append counts s.journal (Bind t.serial c v ∷ map Cancel ks), no_cancels ks);
        within = omega (arith, D.entries, D.limit, room);
        small = omega (arith, D.limit, L.small);
        counted = omega (arith, L.counted, D.mark, D.entries);
        written = written-kept s s' (Bind t.serial c v ∷ map Cancel ks) journal (λ w. omega (arith, D.calls w, weight-but (call_goes (code l) c s) w s.calls)) L.written;
      }

-- ---- a side in which nothing is left has halted

-- 1 for what stands inside the right side of cell c
abbrev pub row_in : ℕ → Row → ℕ
row_in c (stands s t p) = cond (inside c p) 1 0
row_in c (pends k p) = cond (inside c p) 1 0

abbrev pub side_in : ℕ → Numbered → ℕ
side_in c (right_of d p) = cond (inside c p) 1 0
side_in c (left_of n g p) = cond (inside c p) 1 0

in-deeper : (c d : ℕ) (p : Path) → inside c p ≡ true → inside c (aiding d p) ≡ true
in-deeper c d p inn = go (nat_eq c d)
  where
    go : (b : Bool) → cond b true (inside c p) ≡ true
    go true = refl
    go false = inn

pub rows-in : (c : ℕ) (p : Path) (m : Marked) → inside c p ≡ true → weight (row_in c) (marks p m) ≡ weight (λ r. 1) (marks p m)
rows-in c p ended inn = refl
rows-in c p (token s t) inn = ap {B = ℕ} (λ b. cond b 1 0 + 0) inn
rows-in c p (in_call k) inn = ap {B = ℕ} (λ b. cond b 1 0 + 0) inn
rows-in c p (in_par f g) inn = omega (arith, weight-append (row_in c) (marks p f) (marks p g), weight-append (λ r. 1) (marks p f) (marks p g), rows-in c p f inn, rows-in c p g inn)
rows-in c p (in_seq f x g) inn = rows-in c (feeding x g p) f inn
rows-in c p (in_opened f d g) inn = omega (arith, weight-append (row_in c) (marks p f) (marks (aiding d p) g), weight-append (λ r. 1) (marks p f) (marks (aiding d p) g), rows-in c p f inn, rows-in c (aiding d p) g (in-deeper c d p inn))
rows-in c p (in_other n f g) inn = rows-in c (trying n p) f inn

pub sides-in : (c : ℕ) (p : Path) (m : Marked) → inside c p ≡ true → weight (side_in c) (sides p m) ≡ weight (λ r. 1) (sides p m)
sides-in c p ended inn = refl
sides-in c p (token s t) inn = refl
sides-in c p (in_call k) inn = refl
sides-in c p (in_par f g) inn = omega (arith, weight-append (side_in c) (sides p f) (sides p g), weight-append (λ r. 1) (sides p f) (sides p g), sides-in c p f inn, sides-in c p g inn)
sides-in c p (in_seq f x g) inn = sides-in c (feeding x g p) f inn
sides-in c p (in_opened f d g) inn = omega (arith, ap {B = ℕ} (λ b. cond b 1 0) inn, weight-append (side_in c) (sides p f) (sides (aiding d p) g), weight-append (λ r. 1) (sides p f) (sides (aiding d p) g), sides-in c p f inn, sides-in c (aiding d p) g (in-deeper c d p inn))
sides-in c p (in_other n f g) inn = omega (arith, ap {B = ℕ} (λ b. cond b 1 0) inn, sides-in c (trying n p) f inn)

module _ (l : Listing) (sites : List Site) (s : Records) (L : Lawful l sites s) where
  -- nothing inside the right side of c
  pub record IsEmpty (c : ℕ) : Type 0 where
    pub tokens : None (token_goes (code l) c s) s.tokens
    pub calls : None (call_goes (code l) c s) s.calls
    pub groups : None (λ (g : Group). inside c (raw_path (code l) s g.outer)) s.groups

  its-inside : (c i : ℕ) → inside c (raw_path (code l) s i) ≡ false → inside c (its_path (code l) s i) ≡ false
  its-inside c i h = inside-seen c (has_published s.steps) (raw_path (code l) s i) ∙ h

  pub no-rows : (c : ℕ) → IsEmpty c → weight (row_in c) (marks whole L.place.marked) ≡ 0
  no-rows c E =
      omega (
        arith,
        rows-weigh l sites s L (row_in c),
        none-alike (token_goes (code l) c s) (λ t. row_in c (token_row (code l) s t)) (λ t. 0) s.tokens E.tokens (λ t h. ap {B = ℕ} (λ b. cond b 1 0) (its-inside c t.step h)),
        none-alike (call_goes (code l) c s) (λ t. row_in c (call_row (code l) s t)) (λ t. 0) s.calls E.calls (λ t h. ap {B = ℕ} (λ b. cond b 1 0) (its-inside c t.step h)),
        weight-none (λ (t : Token). 0) s.tokens (λ t. refl),
        weight-none (λ (t : Call). 0) s.calls (λ t. refl),
      )

  side-out : (c i : ℕ) (b : Bool) (k : Side) → inside c (raw_path (code l) s i) ≡ false → cond b (side_in c (side_at (code l) s (its_path (code l) s i) k)) 0 ≡ 0
  side-out c i b (Right d) h = ap {B = ℕ} (λ z. cond b (cond z 1 0) 0) (its-inside c i h) ∙ go b
    where
      go : (b : Bool) → cond {A = ℕ} b 0 0 ≡ 0
      go true = refl
      go false = refl
  side-out c i b (Left n g scope) h = ap {B = ℕ} (λ z. cond b (cond z 1 0) 0) (its-inside c i h) ∙ go b
    where
      go : (b : Bool) → cond {A = ℕ} b 0 0 ≡ 0
      go true = refl
      go false = refl

  pub no-sides : (c : ℕ) → IsEmpty c → weight (side_in c) (sides whole L.place.marked) ≡ 0
  no-sides c E =
      sides-weigh l sites s L (side_in c)
      ∙ none-alike (λ (g : Group). inside c (raw_path (code l) s g.outer)) (only (λ g. not (is_over (code l) s g.side)) (λ g. side_in c (group_side (code l) s g))) (λ g. 0) s.groups E.groups (λ g h. side-out c g.outer (not (is_over (code l) s g.side)) g.side h)
      ∙ weight-none (λ (g : Group). 0) s.groups (λ g. refl)

  -- the right side of c has halted without a publication
  pub lost-lawful : (c : ℕ) (g : Group) → IsIn g s.groups → g.side ≡ Right c → IsEmpty c → s.entries < s.limit
      → (s' : Records) → Drops (code l) c bound.Void s s' → s'.journal ≡ s.journal ++ Lost c ∷ [] → Lawful l sites s'
  lost-lawful c g i side E room s' D journal =
      let x = context l sites in
      let o0 = side_found l sites s L g i (ap (is_over (code l) s) side) in
      let o = subst (λ k. Opened (side_at (code l) s (its_path (code l) s g.outer) k) L.place.marked) side o0 in
      let k = o.around in
      let here_is : plug k (in_opened o.left c o.right) ≡ L.place.marked = o.is in
      let after = plug k (fill_marked Void c o.left) in
      let conf = subst (λ m. Confined c m) (sym here_is) (confined l sites s L c) in
      let few = subst (λ m. times (cell c) m ≤ 1) (sym here_is) ((numbered l sites s L).single (cell c)) in
      let some : 1 ≤ times (cell c) L.place.marked = subst (λ m. 1 ≤ times (cell c) m) here_is (omega (arith, times_part (cell c) (replaced k (one_here (in_opened o.left c o.right))), once_same (cell c) (cell c) refl)) in
      let free = unbound l sites s L c some in
      let w = goes c Void k o.left o.right conf few in
      let in_side : inside c (aiding c (path_of k)) ≡ true = ap (λ b. cond b true (inside c (path_of k))) (eq-eqb c c refl) in
      let none_rows : weight (λ r. 1) (marks (aiding c (path_of k)) o.right) ≡ 0 = omega (arith, no-rows c E, ap (λ m. weight (row_in c) (marks whole m)) here_is, marks-plug (row_in c) k (in_opened o.left c o.right), weight-append (row_in c) (marks (path_of k) o.left) (marks (aiding c (path_of k)) o.right), rows-in c (aiding c (path_of k)) o.right in_side) in
      let none_sides : weight (λ r. 1) (sides (aiding c (path_of k)) o.right) ≡ 0 = omega (arith, no-sides c E, ap (λ m. weight (side_in c) (sides whole m)) here_is, sides-plug (side_in c) k (in_opened o.left c o.right), weight-append (side_in c) (sides (path_of k) o.left) (sides (aiding c (path_of k)) o.right), sides-in c (aiding c (path_of k)) o.right in_side) in
      let halted : Halted (erase o.right) = empty-halted (aiding c (path_of k)) o.right none_rows none_sides in
      let q : Place = record L.place { marked = after; mark = L.place.mark } in
      let part = subst (λ m. Replaces (in_opened o.left c o.right) (fill_marked Void c o.left) m (cells_of k []) after) here_is (replaced k here) in
      let enters : Enters x L.place (Lost c) q = (o.left, o.right, cells_of k [], halted, part, record { to_cancel = L.spells.none_due; same = refl }) in
      record {
        place = q;
        leads = subst (λ es. Journal x (begin (source l)) es q) (sym journal) (journal_more x (begin (source l)) L.place q s.journal (Lost c ∷ []) L.leads (q, (inr L.spells.none_due, enters), refl));
        spells = record {
          rows = λ v. omega (arith, w.rows v, ap (λ m. weight (kept.kept c Void v) (marks whole m)) here_is, L.spells.rows (kept.kept c Void v), rows-dropped l s s' L.sound c bound.Void D free v);
          sides = λ v. omega (arith, w.sides v, ap (λ m. weight (kept.kept_side c Void v) (sides whole m)) here_is, L.spells.sides (kept.kept_side c Void v), sides-dropped l s s' L.sound c bound.Void D free v);
          mark = L.spells.mark ∙ sym D.mark;
          cells = ap length D.cells ∙ length-set s.cells c bound.Void ∙ L.spells.cells;
          now = L.spells.now ∙ sym D.now;
          made = L.spells.made ∙ sym D.made;
          none_due = L.spells.none_due;
        };
        sound = sound-dropped l s s' L.sound c bound.Void D free (λ d e. cc e);
        entries = omega (arith, L.entries, D.entries, ap (weight counts) journal, weight-append counts s.journal (Lost c ∷ []));
        within = omega (arith, D.entries, D.limit, room);
        small = omega (arith, D.limit, L.small);
        counted = omega (arith, L.counted, D.mark, D.entries);
        written = written-kept s s' (Lost c ∷ []) journal (λ w. omega (arith, D.calls w, weight-but (call_goes (code l) c s) w s.calls)) L.written;
      }

  -- with no record left the term has halted
  pub ended-halted : s.tokens ≡ [] → s.calls ≡ [] → s.groups ≡ [] → Halted (erase L.place.marked)
  ended-halted t c g =
      empty-halted whole L.place.marked
      (omega (arith, rows-weigh l sites s L (λ r. 1), ap (weight (λ (u : Token). 1)) t, ap (weight (λ (u : Call). 1)) c))
      (sides-weigh l sites s L (λ r. 1) ∙ ap (weight (only (λ (h : Group). not (is_over (code l) s h.side)) (λ h. 1))) g)
