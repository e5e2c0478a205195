-- What is kept of a marked term's rows and open sides when the right side of a cell goes and the cell is filled.
use Rattle.std.proofs.Common.{◌≡◌, ◌≤◌, ℕ, ◌+◌, refl, ap, ◌∙◌, subst, arith, Bool, true, false, cond, nat_eq, eq-eqb}
use Rattle.orc_rules.specs.declared.value.Value.{Value}
use Rattle.orc_rules.specs.declared.param.Param.{Param}
use Rattle.orc_rules.specs.declared.param.Param.TheVariants.{Is}
use Rattle.orc_rules.specs.Term.{fill}
use Rattle.orc_rules.specs.Step.{binds, publishes}
use Rattle.orc_rules.specs.Marked.{Marked, ended, token, in_call, in_par, in_seq, in_opened, in_other, fill_marked, Emits, on_left, on_right, on_feeding, on_main, on_side, is_bound, on_entered, passes}
use Rattle.orc_rules.specs.Numbered.{cell, times, once}
use Rattle.orc_rules.proofs.Numbered.{once_same}
use Rattle.orc_env.proofs.Inside.{Confined, lacks-stays, marked-stays}
use Rattle.orc_indexes.specs.Same.{weight}
use Rattle.orc_frames.specs.Spelling.{Path, whole, feeding, aiding, trying, Row, stands, pends, Numbered, right_of, left_of, marks, sides, inside}
use Rattle.orc_frames.specs.Taking.{taker}
use Rattle.orc_indexes.proofs.Weight.{weight-append}
use Rattle.orc_frames.proofs.Around.{Around, hole, before, behind, feeds, main_of, side_of, enters, plug, path_of, rows_beside, sides_beside, marks-plug, sides-plug}

module _ (c : ℕ) (u : Param) where
  abbrev pub fill_path : Path → Path
  fill_path whole = whole
  fill_path (feeding x g p) = feeding x (fill u c g) (fill_path p)
  fill_path (aiding d p) = aiding d (fill_path p)
  fill_path (trying n p) = trying n (fill_path p)

  -- what a row weighs afterwards: nothing inside the side that goes
  abbrev pub kept : (Row → ℕ) → Row → ℕ
  kept w (stands s t p) = cond (inside c p) 0 (w (stands s (fill u c t) (fill_path p)))
  kept w (pends k p) = cond (inside c p) 0 (w (pends k (fill_path p)))

  -- and an open side: that of the cell itself goes too
  abbrev pub kept_side : (Numbered → ℕ) → Numbered → ℕ
  kept_side v (right_of d p) = cond (inside c (aiding d p)) 0 (v (right_of d (fill_path p)))
  kept_side v (left_of n g p) = cond (inside c p) 0 (v (left_of n (fill u c g) (fill_path p)))

  off : (d : ℕ) (x : ℕ) → once (cell c) (cell d) + x ≡ 0 → nat_eq c d ≡ false
  off d x h = go (nat_eq c d) h
    where
      go : (b : Bool) → cond b 1 0 + x ≡ 0 → b ≡ false
      go true h = absurd (omega (arith, h))
      go false h = refl

  deeper : (d : ℕ) (p : Path) → nat_eq c d ≡ false → inside c p ≡ false → inside c (aiding d p) ≡ false
  deeper d p e out = ap (λ b. cond b true (inside c p)) e ∙ out

  -- outside the side
  pub kept-outside : (w : Row → ℕ) (p : Path) (m : Marked) → inside c p ≡ false → times (cell c) m ≡ 0 → weight (kept w) (marks p m) ≡ weight w (marks (fill_path p) (fill_marked u c m))
  kept-outside w p ended out z = refl
  kept-outside w p (token s t) out z = ap (λ b. cond b 0 (w (stands s (fill u c t) (fill_path p))) + 0) out
  kept-outside w p (in_call k) out z = ap (λ b. cond b 0 (w (pends k (fill_path p))) + 0) out
  kept-outside w p (in_par f g) out z =
      omega (
        arith,
        weight-append (kept w) (marks p f) (marks p g),
        weight-append w (marks (fill_path p) (fill_marked u c f)) (marks (fill_path p) (fill_marked u c g)),
        kept-outside w p f out (omega (arith, z)),
        kept-outside w p g out (omega (arith, z)),
      )
  kept-outside w p (in_seq f x g) out z = kept-outside w (feeding x g p) f out z
  kept-outside w p (in_opened f d g) out z =
      omega (
        arith,
        weight-append (kept w) (marks p f) (marks (aiding d p) g),
        weight-append w (marks (fill_path p) (fill_marked u c f)) (marks (aiding d (fill_path p)) (fill_marked u c g)),
        kept-outside w p f out (omega (arith, z)),
        kept-outside w (aiding d p) g (deeper d p (off d (times (cell c) f + times (cell c) g) z) out) (omega (arith, z)),
      )
  kept-outside w p (in_other n f g) out z = kept-outside w (trying n p) f out (omega (arith, z))

  pub sides-outside : (v : Numbered → ℕ) (p : Path) (m : Marked) → inside c p ≡ false → times (cell c) m ≡ 0 → weight (kept_side v) (sides p m) ≡ weight v (sides (fill_path p) (fill_marked u c m))
  sides-outside v p ended out z = refl
  sides-outside v p (token s t) out z = refl
  sides-outside v p (in_call k) out z = refl
  sides-outside v p (in_par f g) out z =
      omega (
        arith,
        weight-append (kept_side v) (sides p f) (sides p g),
        weight-append v (sides (fill_path p) (fill_marked u c f)) (sides (fill_path p) (fill_marked u c g)),
        sides-outside v p f out (omega (arith, z)),
        sides-outside v p g out (omega (arith, z)),
      )
  sides-outside v p (in_seq f x g) out z = sides-outside v (feeding x g p) f out z
  sides-outside v p (in_opened f d g) out z =
      let e = deeper d p (off d (times (cell c) f + times (cell c) g) z) out in
      omega (
        arith,
        weight-append (kept_side v) (sides p f) (sides (aiding d p) g),
        weight-append v (sides (fill_path p) (fill_marked u c f)) (sides (aiding d (fill_path p)) (fill_marked u c g)),
        sides-outside v p f out (omega (arith, z)),
        sides-outside v (aiding d p) g e (omega (arith, z)),
        ap {B = ℕ} (λ b. cond b 0 (v (right_of d (fill_path p)))) e,
      )
  sides-outside v p (in_other n f g) out z = omega (arith, sides-outside v (trying n p) f out (omega (arith, z)), ap {B = ℕ} (λ b. cond b 0 (v (left_of n (fill u c g) (fill_path p)))) out)

  within-too : (d : ℕ) (p : Path) → inside c p ≡ true → inside c (aiding d p) ≡ true
  within-too d p inn = go (nat_eq c d)
    where
      go : (b : Bool) → cond b true (inside c p) ≡ true
      go true = refl
      go false = inn

  -- inside it
  pub kept-inside : (w : Row → ℕ) (p : Path) (m : Marked) → inside c p ≡ true → weight (kept w) (marks p m) ≡ 0
  kept-inside w p ended inn = refl
  kept-inside w p (token s t) inn = ap (λ b. cond b 0 (w (stands s (fill u c t) (fill_path p))) + 0) inn
  kept-inside w p (in_call k) inn = ap (λ b. cond b 0 (w (pends k (fill_path p))) + 0) inn
  kept-inside w p (in_par f g) inn = omega (arith, weight-append (kept w) (marks p f) (marks p g), kept-inside w p f inn, kept-inside w p g inn)
  kept-inside w p (in_seq f x g) inn = kept-inside w (feeding x g p) f inn
  kept-inside w p (in_opened f d g) inn = omega (arith, weight-append (kept w) (marks p f) (marks (aiding d p) g), kept-inside w p f inn, kept-inside w (aiding d p) g (within-too d p inn))
  kept-inside w p (in_other n f g) inn = kept-inside w (trying n p) f inn

  pub sides-inside : (v : Numbered → ℕ) (p : Path) (m : Marked) → inside c p ≡ true → weight (kept_side v) (sides p m) ≡ 0
  sides-inside v p ended inn = refl
  sides-inside v p (token s t) inn = refl
  sides-inside v p (in_call k) inn = refl
  sides-inside v p (in_par f g) inn = omega (arith, weight-append (kept_side v) (sides p f) (sides p g), sides-inside v p f inn, sides-inside v p g inn)
  sides-inside v p (in_seq f x g) inn = sides-inside v (feeding x g p) f inn
  sides-inside v p (in_opened f d g) inn =
      omega (
        arith,
        weight-append (kept_side v) (sides p f) (sides (aiding d p) g),
        sides-inside v p f inn,
        sides-inside v (aiding d p) g (within-too d p inn),
        ap {B = ℕ} (λ b. cond b 0 (v (right_of d (fill_path p)))) (within-too d p inn),
      )
  sides-inside v p (in_other n f g) inn = omega (arith, sides-inside v (trying n p) f inn, ap {B = ℕ} (λ b. cond b 0 (v (left_of n (fill u c g) (fill_path p)))) inn)

  -- round the one pruning of the cell nothing is filled
  pub record Stays (k : Around) (m : Marked) : Type 0 where
    pub out : inside c (path_of k) ≡ false
    pub path : fill_path (path_of k) ≡ path_of k
    pub rows : (w : Row → ℕ) → rows_beside (kept w) k ≡ rows_beside w k
    pub sides : (v : Numbered → ℕ) → sides_beside (kept_side v) k ≡ sides_beside v k
    pub confined : Confined c m
    pub once : times (cell c) m ≤ 1

  beside : (p : Path) (b : Marked) → inside c p ≡ false → fill_path p ≡ p → Confined c b → times (cell c) b ≡ 0 → ((w : Row → ℕ) → weight (kept w) (marks p b) ≡ weight w (marks p b)) × ((v : Numbered → ℕ) → weight (kept_side v) (sides p b) ≡ weight v (sides p b))
  beside p b out same conf z = (
    λ w. kept-outside w p b out z ∙ (λ i. weight w (marks (same i) (marked-stays c u b conf z i))),
    λ v. sides-outside v p b out z ∙ (λ i. weight v (sides (same i) (marked-stays c u b conf z i))),
  )

  pub stays : (k : Around) (m : Marked) → Confined c (plug k m) → times (cell c) (plug k m) ≤ 1 → 1 ≤ times (cell c) m → Stays k m
  stays hole m conf few some = record { out = refl; path = refl; rows = λ w. refl; sides = λ v. refl; confined = conf; once = few }
  stays (before b k) m conf few some =
      let o = stays k (in_par m b) conf few (omega (arith, some)) in
      let e = beside (path_of k) b o.out o.path o.confined.1 (omega (arith, some, o.once)) in
      record { out = o.out; path = o.path; rows = λ w. omega (arith, o.rows w, e.0 w); sides = λ v. omega (arith, o.sides v, e.1 v); confined = o.confined.0; once = omega (arith, o.once) }
  stays (behind a k) m conf few some =
      let o = stays k (in_par a m) conf few (omega (arith, some)) in
      let e = beside (path_of k) a o.out o.path o.confined.0 (omega (arith, some, o.once)) in
      record { out = o.out; path = o.path; rows = λ w. omega (arith, o.rows w, e.0 w); sides = λ v. omega (arith, o.sides v, e.1 v); confined = o.confined.1; once = omega (arith, o.once) }
  stays (feeds x g k) m conf few some =
      let o = stays k (in_seq m x g) conf few some in
      record { out = o.out; path = λ i. feeding x (lacks-stays c u g o.confined.1 i) (o.path i); rows = o.rows; sides = o.sides; confined = o.confined.0; once = o.once }
  stays (main_of d b k) m conf few some =
      let o = stays k (in_opened m d b) conf few (omega (arith, some)) in
      let none : once (cell c) (cell d) + 0 ≡ 0 = omega (arith, some, o.once) in
      let apart : (c ≡ d → ⊥) = λ e. omega (arith, none, once_same (cell c) (cell d) (ap cell e)) in
      let out = deeper d (path_of k) (off d 0 none) o.out in
      let e = beside (aiding d (path_of k)) b out (ap (aiding d) o.path) o.confined.1 (omega (arith, some, o.once)) in
      record {
        out = o.out;
        path = o.path;
        rows = λ w. omega (arith, o.rows w, e.0 w);
        sides = λ v. omega (arith, o.sides v, e.1 v, ap {B = ℕ} (λ b. cond b 0 (v (right_of d (fill_path (path_of k))))) out, ap (λ p. v (right_of d p)) o.path);
        confined = o.confined.0 apart;
        once = omega (arith, o.once);
      }
  stays (side_of d a k) m conf few some =
      let o = stays k (in_opened a d m) conf few (omega (arith, some)) in
      let none : once (cell c) (cell d) + 0 ≡ 0 = omega (arith, some, o.once) in
      let apart : (c ≡ d → ⊥) = λ e. omega (arith, none, once_same (cell c) (cell d) (ap cell e)) in
      let out = deeper d (path_of k) (off d 0 none) o.out in
      let e = beside (path_of k) a o.out o.path (o.confined.0 apart) (omega (arith, some, o.once)) in
      record {
        out = out;
        path = ap (aiding d) o.path;
        rows = λ w. omega (arith, o.rows w, e.0 w);
        sides = λ v. omega (arith, o.sides v, e.1 v, ap {B = ℕ} (λ b. cond b 0 (v (right_of d (fill_path (path_of k))))) out, ap (λ p. v (right_of d p)) o.path);
        confined = o.confined.1;
        once = omega (arith, o.once);
      }
  stays (enters n g k) m conf few some =
      let o = stays k (in_other n m g) conf few (omega (arith, some)) in
      record {
        out = o.out;
        path = ap (trying n) o.path;
        rows = o.rows;
        sides = λ v. omega (arith, o.sides v, ap {B = ℕ} (λ b. cond b 0 (v (left_of n (fill u c g) (fill_path (path_of k))))) o.out, ap (λ z. v (left_of n z (fill_path (path_of k)))) (lacks-stays c u g o.confined.1), ap (λ p. v (left_of n g p)) o.path);
        confined = o.confined.0;
        once = omega (arith, o.once);
      }

  -- the pruning goes, and its left side is filled
  pub record Goes (k : Around) (f g : Marked) : Type 0 where
    pub rows : (w : Row → ℕ) → weight w (marks whole (plug k (fill_marked u c f))) ≡ weight (kept w) (marks whole (plug k (in_opened f c g)))
    pub sides : (v : Numbered → ℕ) → weight v (sides whole (plug k (fill_marked u c f))) ≡ weight (kept_side v) (sides whole (plug k (in_opened f c g)))

  pub goes : (k : Around) (f g : Marked) → Confined c (plug k (in_opened f c g)) → times (cell c) (plug k (in_opened f c g)) ≤ 1 → Goes k f g
  goes k f g conf few =
      let self : once (cell c) (cell c) ≡ 1 = once_same (cell c) (cell c) refl in
      let o = stays k (in_opened f c g) conf few (omega (arith, self)) in
      let here : inside c (aiding c (path_of k)) ≡ true = ap (λ b. cond b true (inside c (path_of k))) (eq-eqb c c refl) in
      let none : times (cell c) f ≡ 0 = omega (arith, o.once, self) in
      record {
        rows = λ w.
            omega (
              arith,
              marks-plug w k (fill_marked u c f),
              marks-plug (kept w) k (in_opened f c g),
              weight-append (kept w) (marks (path_of k) f) (marks (aiding c (path_of k)) g),
              kept-inside w (aiding c (path_of k)) g here,
              kept-outside w (path_of k) f o.out none,
              ap (λ p. weight w (marks p (fill_marked u c f))) o.path,
              o.rows w,
            );
        sides = λ v.
            omega (
              arith,
              sides-plug v k (fill_marked u c f),
              sides-plug (kept_side v) k (in_opened f c g),
              weight-append (kept_side v) (sides (path_of k) f) (sides (aiding c (path_of k)) g),
              sides-inside v (aiding c (path_of k)) g here,
              sides-outside v (path_of k) f o.out none,
              ap (λ p. weight v (sides p (fill_marked u c f))) o.path,
              ap {B = ℕ} (λ b. cond b 0 (v (right_of c (fill_path (path_of k))))) here,
              o.sides v,
            );
      }

pub emits_in : (k : Around) {s a c : ℕ} {v : Value} {m m' : Marked} → Emits s a v m (binds c v) m' → Emits s a v (plug k m) (binds c v) (plug k m')
emits_in hole e = e
emits_in (before b k) e = emits_in k (on_left e)
emits_in (behind b k) e = emits_in k (on_right e)
emits_in (feeds x g k) e = emits_in k (on_feeding tt e)
emits_in (main_of d b k) e = emits_in k (on_main e)
emits_in (side_of d b k) e = emits_in k (on_side tt e)
emits_in (enters n g k) e = emits_in k (on_entered tt e)

-- the nearest that takes a publication is the right side of cell c
pub record Bound (c : ℕ) (v : Value) (s a : ℕ) (whole_term : Marked) : Type 0 where
  pub around : Around
  pub left : Marked
  pub right : Marked
  pub is : plug around (in_opened left c right) ≡ whole_term
  pub does : Emits s a v whole_term (binds c v) (plug around (fill_marked (Is v) c left))

pub bound_by : (c : ℕ) (v : Value) (s a : ℕ) (k : Around) (m m' : Marked) (p : Path) → taker (path_of k) ≡ aiding c p → Emits s a v m (publishes v) m' → Bound c v s a (plug k m)
bound_by c v s a hole m m' p e r = cc e
bound_by c v s a (before b k) m m' p e r = bound_by c v s a k (in_par m b) (in_par m' b) p e (on_left r)
bound_by c v s a (behind b k) m m' p e r = bound_by c v s a k (in_par b m) (in_par b m') p e (on_right r)
bound_by c v s a (feeds x g k) m m' p e r = cc e
bound_by c v s a (main_of d b k) m m' p e r = bound_by c v s a k (in_opened m d b) (in_opened m' d b) p e (on_main r)
bound_by c v s a (side_of d b k) m m' p e r =
    let q : d ≡ c = cc e in
    subst (λ z. Bound z v s a (plug k (in_opened b d m))) q (record { around = k; left = b; right = m; is = refl; does = emits_in k (is_bound r) })
bound_by c v s a (enters n g k) m m' p e r = bound_by c v s a k (in_other n m g) m' p e (passes r)
