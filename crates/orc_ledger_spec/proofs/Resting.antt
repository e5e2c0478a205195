-- Where each token waits and each group has a member, nothing can move in the place, and its term hasn't halted.
use Rattle.std.proofs.Common.{◌≡◌, ◌≤◌, ℕ, ◌+◌, List, refl, sym, ap, ◌∙◌, subst, arith, inl, inr, ◌⊎◌, ⊎_elim, Bool, true, false, cond, nat_eq, eq-eqb, not, length}
use Rattle.std.proofs.lemmas.Bool.{eqb-true}
use Rattle.std.specs.Prelude.{◌||◌}
use Rattle.orc_rules.specs.Term.{Term, stop, param, site, call, par, seq, prune, other, pending, opened}
use Rattle.orc_rules.specs.Nodes.{Listing, code, definitions}
use Rattle.orc_rules.specs.Sites.{Site}
use Rattle.orc_rules.specs.Idle.{has_halted, can_move}
use Rattle.orc_rules.specs.Marked.{erase}
use Rattle.orc_rules.specs.Lost.{IsSource}
use Rattle.orc_rules.specs.Timed.{IsIn}
use Rattle.orc_rules.specs.Numbered.{Name, mark, call as called, cell, once}
use Rattle.orc_rules.proofs.Counts.{moves_by_count}
use Rattle.orc_indexes.specs.Same.{weight, only}
use Rattle.orc_frames.specs.Spelling.{Path, whole, feeding, aiding, trying, Row, Numbered, right_of, left_of, marks, sides, inside, seen, within}
use Rattle.orc_ledger_spec.specs.Records.{Records, Lawful, raw_path, its_path, its_env, token_row, call_row, group_side, side_at, is_over}
use Rattle.orc_frames.specs.Paths.{has_published, enters_left_of, inwards}
use Rattle.orc_tables.specs.Inside.{aids}
use Rattle.orc_ledger_spec.specs.Doing.{what_of, term_of}
use Rattle.orc_frames.specs.Doing.{is_wait, moves_marks}
use Rattle.orc_ledger_spec.specs.Next.{Numbers, AreGrouped, ready, ready_one, open_empty, IsSide}
use Rattle.orc_tables.specs.declared.records.Token.{Token}
use Rattle.orc_tables.specs.declared.records.Call.{Call}
use Rattle.orc_tables.specs.declared.records.Frame.{Frame}
use Rattle.orc_tables.specs.declared.records.Frame.TheVariants.{SeqLeft, PruneRight, OtherwiseLeft}
use Rattle.orc_tables.specs.declared.records.Side.{Side}
use Rattle.orc_tables.specs.declared.records.Side.TheVariants.{Right, Left}
use Rattle.orc_tables.specs.declared.records.Group.{Group}
use Rattle.orc_indexes.proofs.Weight.{weight-in, weight-same, weight-none, either_one, some-in}
use Rattle.orc_frames.proofs.Around.{is_row, by, by-self}
use Rattle.orc_frames.proofs.Equal.{same_row}
use Rattle.orc_ledger_spec.proofs.Filled.{inside-seen}
use Rattle.orc_ledger_spec.proofs.Lists.{numbered, rows-weigh, sides-weigh, times-cells, is_right}
use Rattle.orc_frames.proofs.Finding.{times-marks, has_published_at}
use Rattle.orc_ledger_spec.proofs.Offers.{its_source, it_waits}
use Rattle.orc_frames.proofs.Still.{in_name, row_at, is_side, IsStill, AreStill, AreFull, not_halted, none_moves}
use Rattle.orc_ledger_spec.proofs.Someone.{someone, all_full, IsTest, inn, inn-step, Somebody}

by-one : {A : Type 0} (d : Dec A) → 1 ≤ by d → A
by-one (yes e) h = e
by-one (no f) h = absurd (omega (arith, h))

or_false : (a b : Bool) → (a || b) ≡ false → (a ≡ false) × (b ≡ false)
or_false true b h = cc h
or_false false b h = (refl, h)

-- a source's term that is no move of marks hasn't halted
going : (u : Term) → IsSource u → moves_marks u ≡ false → has_halted u ≡ false
going stop src h = cc h
going (param p) src h = refl
going (site m ps) src h = refl
going (call e ps) src h = refl
going (par f g) src h = cc h
going (seq f x g) src h = cc h
going (prune f x g) src h = refl
going (other f g) src h = cc h
going (pending k) src h = elim src [ ]
going (opened f c g) src h = elim src [ ]

-- the two tests
pub aid_test : (code : ℕ → Term) (s : Records) (c : ℕ) → IsTest code s (inside c) (aids c)
aid_test code s c = record { frame = λ e p. by_entered e p; feeds = λ x g scope. refl }
  where
    by_entered : (e : Frame) (p : Path) → inside c (inwards code (its_env code s) e p) ≡ (aids c e || inside c p)
    by_entered (SeqLeft x g scope) p = refl
    by_entered (OtherwiseLeft m) p = refl
    by_entered (PruneRight d) p = go (nat_eq c d)
      where
        go : (b : Bool) → cond b true (inside c p) ≡ (b || inside c p)
        go true = refl
        go false = refl

pub try_test : (code : ℕ → Term) (s : Records) (n : ℕ) → IsTest code s (within n) (enters_left_of n)
try_test code s n = record { frame = λ e p. by_entered e p; feeds = λ x g scope. refl }
  where
    by_entered : (e : Frame) (p : Path) → within n (inwards code (its_env code s) e p) ≡ (enters_left_of n e || within n p)
    by_entered (SeqLeft x g scope) p = refl
    by_entered (PruneRight d) p = refl
    by_entered (OtherwiseLeft m) p = go (nat_eq n m)
      where
        go : (b : Bool) → cond b true (within n p) ≡ (b || within n p)
        go true = refl
        go false = refl

any_test : (code : ℕ → Term) (s : Records) → IsTest code s (λ p. true) (λ e. false)
any_test code s = record { frame = λ e p. refl; feeds = λ x g scope. refl }

pub within-seen : (n : ℕ) (left : ℕ → Bool) (p : Path) → left n ≡ false → within n (seen left p) ≡ within n p
within-seen n left whole h = refl
within-seen n left (feeding x g p) h = within-seen n left p h
within-seen n left (aiding c p) h = within-seen n left p h
within-seen n left (trying m p) h = go (left m) refl (nat_eq n m) refl (within-seen n left p h)
  where
    go : (a : Bool) → left m ≡ a → (b : Bool) → nat_eq n m ≡ b → within n (seen left p) ≡ within n p → within n (cond a (seen left p) (trying m (seen left p))) ≡ cond b true (within n p)
    go true e true f ih = let same : n ≡ m = eqb-true n m f in cc (h, e, ap left same)
    go true e false f ih = ih
    go false e b f ih = ap (λ z. cond z true (within n (seen left p))) f ∙ ap (cond b true) ih

module _ (l : Listing) (sites : List Site) (s : Records) (L : Lawful l sites s) where
  -- a row is a token's or a call's
  pub row_of : (r : Row) → IsIn r (marks whole L.place.marked) → ((t : Token) × IsIn t s.tokens × (token_row (code l) s t ≡ r)) ⊎ ((c : Call) × IsIn c s.calls × (call_row (code l) s c ≡ r))
  row_of r i =
      let some : 1 ≤ weight (λ (t : Token). is_row r (token_row (code l) s t)) s.tokens + weight (λ (c : Call). is_row r (call_row (code l) s c)) s.calls = omega (arith, rows-weigh l sites s L (is_row r), weight-in (is_row r) (marks whole L.place.marked) r i, by-self (same_row r r) refl) in
      ⊎_elim
      (λ a. let d = some-in (λ (t : Token). is_row r (token_row (code l) s t)) s.tokens a in inl (d.0, d.1, by-one (same_row (token_row (code l) s d.0) r) d.2))
      (λ b. let d = some-in (λ (c : Call). is_row r (call_row (code l) s c)) s.calls b in inr (d.0, d.1, by-one (same_row (call_row (code l) s d.0) r) d.2))
      (either_one (weight (λ (t : Token). is_row r (token_row (code l) s t)) s.tokens) (weight (λ (c : Call). is_row r (call_row (code l) s c)) s.calls) some)

  waiting : (t : Token) → ready_one (code l) (definitions l) s t ≡ 0 → is_wait (what_of (code l) (definitions l) s t) ≡ true
  waiting t h = go (is_wait (what_of (code l) (definitions l) s t)) h
    where
      go : (b : Bool) → cond {A = ℕ} b 0 1 ≡ 0 → b ≡ true
      go true h = refl
      go false h = absurd (omega (arith, h))

  not_true : (b : Bool) → true ≡ not b → b ≡ false
  not_true true h = cc h
  not_true false h = refl

  pub all_still : ready (code l) (definitions l) s ≡ 0 → AreStill (definitions l) whole L.place.marked
  all_still none r i = ⊎_elim of_token of_call (row_of r i)
    where
      of_token : ((t : Token) × IsIn t s.tokens × (token_row (code l) s t ≡ r)) → IsStill (definitions l) r
      of_token (t, at_t, e) =
          let w = waiting t (omega (arith, none, weight-in (ready_one (code l) (definitions l) s) s.tokens t at_t)) in
          let f = or_false (moves_marks (term_of (code l) s t)) (can_move (definitions l) (term_of (code l) s t)) (not_true _ (sym w ∙ it_waits l sites s L t at_t)) in
          subst (IsStill (definitions l)) e (f.1, going (term_of (code l) s t) (its_source l sites s L t at_t) f.0)

      of_call : ((c : Call) × IsIn c s.calls × (call_row (code l) s c ≡ r)) → IsStill (definitions l) r
      of_call (c, at_c, e) = subst (IsStill (definitions l)) e tt

  -- an open side stands once
  side_cell : (c : ℕ) (v : Numbered) → is_side (cell c) v ≡ is_right c v
  side_cell c (right_of d p) = refl
  side_cell c (left_of m g p) = refl

  side_mark : (c : ℕ) (v : Numbered) → is_side (mark c) v ≡ has_published_at c v
  side_mark c (right_of d p) = refl
  side_mark c (left_of m g p) = refl

  side_call : (c : ℕ) (v : Numbered) → is_side (called c) v ≡ 0
  side_call c (right_of d p) = refl
  side_call c (left_of m g p) = refl

  pub side_once : (nm : Name) → weight (is_side nm) (sides whole L.place.marked) ≤ 1
  side_once (cell c) = omega (arith, weight-same (is_side (cell c)) (is_right c) (sides whole L.place.marked) (side_cell c), times-cells c whole L.place.marked, (numbered l sites s L).single (cell c))
  side_once (mark c) = omega (arith, weight-same (is_side (mark c)) (has_published_at c) (sides whole L.place.marked) (side_mark c), times-marks c whole L.place.marked, (numbered l sites s L).single (mark c))
  side_once (called c) = omega (arith, weight-none (is_side (called c)) (sides whole L.place.marked) (side_call c))

  -- each open side has somebody in it
  module _ (n : Numbers) (G : AreGrouped n s) (full : open_empty n s ≡ 0) where
    one_if : (b : Bool) → b ≡ true → cond {A = ℕ} b 1 0 ≡ 1
    one_if b e = ap (λ z. cond {A = ℕ} z 1 0) e

    or_true : (a b : Bool) → a ≡ true → (a || b) ≡ true
    or_true true b h = refl
    or_true false b h = cc h

    some_row : (nm : Name) → ((t : Token) × IsIn t s.tokens × (in_name nm (its_path (code l) s t.step) ≡ true)) ⊎ ((c : Call) × IsIn c s.calls × (in_name nm (its_path (code l) s c.step) ≡ true)) → 1 ≤ weight (row_at nm) (marks whole L.place.marked)
    some_row nm h =
        ⊎_elim
        (λ (a : (t : Token) × IsIn t s.tokens × (in_name nm (its_path (code l) s t.step) ≡ true)). omega (arith, rows-weigh l sites s L (row_at nm), weight-in (λ (t : Token). row_at nm (token_row (code l) s t)) s.tokens a.0 a.1, one_if (in_name nm (its_path (code l) s a.0.step)) a.2))
        (λ (a : (c : Call) × IsIn c s.calls × (in_name nm (its_path (code l) s c.step) ≡ true)). omega (arith, rows-weigh l sites s L (row_at nm), weight-in (λ (c : Call). row_at nm (call_row (code l) s c)) s.calls a.0 a.1, one_if (in_name nm (its_path (code l) s a.0.step)) a.2))
        h

    -- by the group of the side
    in_side : (test : Path → Bool) (at : Frame → Bool) (T : IsTest (code l) s test at) (g : Group) → IsIn g s.groups → ((e : Frame) → IsSide e g.side → at e ≡ true) → Somebody (code l) s L.sound n G test at T
    in_side test at T g i fits =
        let d = G.sides g i in
        let holds = inn-step (code l) s L.sound n G test at T d.1 d.2 d.6 ∙ or_true (at d.2.entered) (test (raw_path (code l) s d.2.outer)) (fits d.2.entered d.8) in
        someone (code l) s L.sound n G test at T (all_full s n G full) (length s.steps) (n.number g) d.0 d.3 (ap (inn (code l) s L.sound n G test at T) d.5 ∙ holds) (omega arith)

    right_full : (c : ℕ) (g : Group) → IsIn g s.groups → g.side ≡ Right c → 1 ≤ weight (row_at (cell c)) (marks whole L.place.marked)
    right_full c g i e =
        some_row (cell c)
        (⊎_elim (λ a. inl (a.0, a.1, inside-seen c (has_published s.steps) (raw_path (code l) s a.0.step) ∙ a.2)) (λ a. inr (a.0, a.1, inside-seen c (has_published s.steps) (raw_path (code l) s a.0.step) ∙ a.2))
        (in_side (inside c) (aids c) (aid_test (code l) s c) g i (λ en h. fits en (subst (IsSide en) e h))))
      where
        fits : (en : Frame) → IsSide en (Right c) → aids c en ≡ true
        fits (SeqLeft x f scope) h = elim h [ ]
        fits (PruneRight d) h = eq-eqb c d (sym h)
        fits (OtherwiseLeft m) h = elim h [ ]

    left_full : (m f scope : ℕ) (g : Group) → IsIn g s.groups → g.side ≡ Left m f scope → has_published s.steps m ≡ false → 1 ≤ weight (row_at (mark m)) (marks whole L.place.marked)
    left_full m f scope g i e going =
        some_row (mark m)
        (⊎_elim (λ a. inl (a.0, a.1, within-seen m (has_published s.steps) (raw_path (code l) s a.0.step) going ∙ a.2)) (λ a. inr (a.0, a.1, within-seen m (has_published s.steps) (raw_path (code l) s a.0.step) going ∙ a.2))
        (in_side (within m) (enters_left_of m) (try_test (code l) s m) g i (λ en h. fits en (subst (IsSide en) e h))))
      where
        fits : (en : Frame) → IsSide en (Left m f scope) → enters_left_of m en ≡ true
        fits (SeqLeft x g scope) h = elim h [ ]
        fits (PruneRight d) h = elim h [ ]
        fits (OtherwiseLeft j) h = eq-eqb m j (sym h)

    cell_is : (c d : ℕ) → 1 ≤ once (cell c) (cell d) → c ≡ d
    cell_is c d h = go (nat_eq c d) refl h
      where
        go : (b : Bool) → nat_eq c d ≡ b → 1 ≤ cond {A = ℕ} b 1 0 → c ≡ d
        go true e h = eqb-true c d e
        go false e h = absurd (omega (arith, h))

    by_side : (nm : Name) (g : Group) → IsIn g s.groups → (k : Side) → g.side ≡ k → (b : Bool) → is_over (code l) s k ≡ b → 1 ≤ cond (not b) (is_side nm (group_side (code l) s g)) 0 → 1 ≤ weight (row_at nm) (marks whole L.place.marked)
    by_side nm g i k e true over h = absurd (omega (arith, h))
    by_side (cell c) g i (Right d) e false over h =
        let some : 1 ≤ once (cell c) (cell d) = subst (λ z. 1 ≤ is_side (cell c) (side_at (code l) s (its_path (code l) s g.outer) z)) e h in
        subst (λ z. 1 ≤ weight (row_at (cell z)) (marks whole L.place.marked)) (sym (cell_is c d some)) (right_full d g i e)
    by_side (cell c) g i (Left m f scope) e false over h = absurd (omega (arith, subst (λ z. 1 ≤ is_side (cell c) (side_at (code l) s (its_path (code l) s g.outer) z)) e h))
    by_side (mark c) g i (Left m f scope) e false over h =
        let some : 1 ≤ once (mark c) (mark m) = subst (λ z. 1 ≤ is_side (mark c) (side_at (code l) s (its_path (code l) s g.outer) z)) e h in
        subst (λ z. 1 ≤ weight (row_at (mark z)) (marks whole L.place.marked)) (sym (cell_is c m some)) (left_full m f scope g i e over)
    by_side (mark c) g i (Right d) e false over h = absurd (omega (arith, subst (λ z. 1 ≤ is_side (mark c) (side_at (code l) s (its_path (code l) s g.outer) z)) e h))
    by_side (called c) g i (Right d) e false over h = absurd (omega (arith, subst (λ z. 1 ≤ is_side (called c) (side_at (code l) s (its_path (code l) s g.outer) z)) e h))
    by_side (called c) g i (Left m f scope) e false over h = absurd (omega (arith, subst (λ z. 1 ≤ is_side (called c) (side_at (code l) s (its_path (code l) s g.outer) z)) e h))

    each_side : (nm : Name) → 1 ≤ weight (is_side nm) (sides whole L.place.marked) → 1 ≤ weight (row_at nm) (marks whole L.place.marked)
    each_side nm h =
        let d = some-in (only (λ (g : Group). not (is_over (code l) s g.side)) (λ g. is_side nm (group_side (code l) s g))) s.groups (omega (arith, h, sides-weigh l sites s L (is_side nm))) in
        by_side nm d.0 d.1 d.0.side refl (is_over (code l) s d.0.side) refl d.2

    nowhere : (nm : Name) → in_name nm whole ≡ false
    nowhere (cell c) = refl
    nowhere (mark c) = refl
    nowhere (called c) = refl

    pub all_sides : AreFull whole L.place.marked
    all_sides = record { single = side_once; outside = λ nm h. nowhere nm; some = each_side }

    -- somebody is there at all
    pub some_rows : 1 ≤ weight (λ r. 1) (marks whole L.place.marked)
    some_rows =
        ⊎_elim (λ a. omega (arith, rows-weigh l sites s L (λ r. 1), weight-in (λ (t : Token). 1) s.tokens a.0 a.1)) (λ a. omega (arith, rows-weigh l sites s L (λ r. 1), weight-in (λ (c : Call). 1) s.calls a.0 a.1))
        (someone (code l) s L.sound n G (λ p. true) (λ e. false) (any_test (code l) s) (all_full s n G full) (length s.steps) 0 G.root.0 G.root.1 refl (omega arith))

    -- nothing can move, and the term hasn't halted
    pub still_stands : ready (code l) (definitions l) s ≡ 0 → can_move (definitions l) (erase L.place.marked) ≡ false
    still_stands none = (moves_by_count (definitions l) L.place.marked).1 (none_moves (definitions l) whole L.place.marked (all_still none) all_sides)

    pub still_going : ready (code l) (definitions l) s ≡ 0 → has_halted (erase L.place.marked) ≡ false
    still_going none = not_halted (definitions l) whole L.place.marked (all_still none) some_rows
