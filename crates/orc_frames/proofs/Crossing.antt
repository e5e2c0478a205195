-- What a publication that leaves an otherwise does to the rows and the open sides.
use Rattle.std.proofs.Common.{◌≡◌, ◌≤◌, ℕ, ◌+◌, List, [], ◌∷◌, refl, ap, sym, ◌∙◌, arith, Bool, true, false, cond, nat_eq, eq-eqb}
use Rattle.orc_rules.specs.declared.value.Value.{Value}
use Rattle.orc_rules.specs.declared.param.Param.TheVariants.{Is}
use Rattle.orc_rules.specs.Term.{Term, put}
use Rattle.orc_rules.specs.Step.{publishes, silent}
use Rattle.orc_rules.specs.Marked.{Marked, ended, token, in_call, in_par, in_seq, in_opened, in_other, Emits, on_left, on_right, on_feeding, is_fed, on_main, on_side, on_entered, passes}
use Rattle.orc_rules.specs.Numbered.{mark, once, times}
use Rattle.orc_rules.proofs.Numbered.{once_same}
use Rattle.orc_indexes.specs.Same.{weight}
use Rattle.orc_frames.specs.Spelling.{Path, whole, feeding, aiding, trying, Row, stands, pends, Numbered, right_of, left_of, marks, sides}
use Rattle.orc_indexes.proofs.Weight.{weight-append}
use Rattle.orc_frames.proofs.Around.{Around, hole, before, behind, feeds, main_of, side_of, enters, plug, path_of, rows_beside, sides_beside, marks-plug, sides-plug}
use Rattle.orc_frames.specs.Taking.{taker, crossed}

-- how often an otherwise has the number
abbrev pub tried : ℕ → Marked → ℕ
tried n ended = 0
tried n (token s t) = 0
tried n (in_call k) = 0
tried n (in_par f g) = tried n f + tried n g
tried n (in_seq f x g) = tried n f
tried n (in_opened f c g) = tried n f + tried n g
tried n (in_other m f g) = once (mark n) (mark m) + tried n f

pub tried-least : (n : ℕ) (m : Marked) → tried n m ≤ times (mark n) m
tried-least n ended = omega arith
tried-least n (token s t) = omega arith
tried-least n (in_call k) = omega arith
tried-least n (in_par f g) = omega (arith, tried-least n f, tried-least n g)
tried-least n (in_seq f x g) = tried-least n f
tried-least n (in_opened f c g) = omega (arith, tried-least n f, tried-least n g)
tried-least n (in_other m f g) = omega (arith, tried-least n f)

-- and round a part
abbrev pub tried_beside : ℕ → Around → ℕ
tried_beside n hole = 0
tried_beside n (before b k) = tried n b + tried_beside n k
tried_beside n (behind a k) = tried n a + tried_beside n k
tried_beside n (feeds x g k) = tried_beside n k
tried_beside n (main_of c b k) = tried n b + tried_beside n k
tried_beside n (side_of c a k) = tried n a + tried_beside n k
tried_beside n (enters m g k) = once (mark n) (mark m) + tried_beside n k

pub tried-plug : (n : ℕ) (k : Around) (m : Marked) → tried n (plug k m) ≡ tried n m + tried_beside n k
tried-plug n hole m = omega arith
tried-plug n (before b k) m = omega (arith, tried-plug n k (in_par m b))
tried-plug n (behind a k) m = omega (arith, tried-plug n k (in_par a m))
tried-plug n (feeds x g k) m = tried-plug n k (in_seq m x g)
tried-plug n (main_of c b k) m = omega (arith, tried-plug n k (in_opened m c b))
tried-plug n (side_of c a k) m = omega (arith, tried-plug n k (in_opened a c m))
tried-plug n (enters j g k) m = omega (arith, tried-plug n k (in_other j m g))

-- a path without an otherwise that is left
abbrev pub cross : ℕ → Path → Path
cross n whole = whole
cross n (feeding x g p) = feeding x g (cross n p)
cross n (aiding c p) = aiding c (cross n p)
cross n (trying m p) = cond (nat_eq n m) (cross n p) (trying m (cross n p))

abbrev pub cross_row : ℕ → Row → Row
cross_row n (stands s t p) = stands s t (cross n p)
cross_row n (pends k p) = pends k (cross n p)

-- what an open side weighs once otherwise n is left
abbrev pub leave : ℕ → (Numbered → ℕ) → Numbered → ℕ
leave n v (right_of c p) = v (right_of c (cross n p))
leave n v (left_of m g p) = cond (nat_eq n m) 0 (v (left_of m g (cross n p)))

module _ (n : ℕ) where
  off : (m x : ℕ) → once (mark n) (mark m) + x ≡ 0 → nat_eq n m ≡ false
  off m x h = go (nat_eq n m) h
    where
      go : (b : Bool) → cond {A = ℕ} b 1 0 + x ≡ 0 → b ≡ false
      go true h = absurd (omega (arith, h))
      go false h = refl

  trying-off : (m : ℕ) (p : Path) → nat_eq n m ≡ false → cross n (trying m p) ≡ trying m (cross n p)
  trying-off m p e = ap (λ b. cond b (cross n p) (trying m (cross n p))) e

  pub cross-marks : (w : Row → ℕ) (p : Path) (m : Marked) → tried n m ≡ 0 → weight (λ r. w (cross_row n r)) (marks p m) ≡ weight w (marks (cross n p) m)
  cross-marks w p ended h = refl
  cross-marks w p (token s t) h = refl
  cross-marks w p (in_call k) h = refl
  cross-marks w p (in_par f g) h =
      omega (arith, weight-append (λ r. w (cross_row n r)) (marks p f) (marks p g), weight-append w (marks (cross n p) f) (marks (cross n p) g), cross-marks w p f (omega (arith, h)), cross-marks w p g (omega (arith, h)))
  cross-marks w p (in_seq f x g) h = cross-marks w (feeding x g p) f h
  cross-marks w p (in_opened f c g) h =
      omega (arith, weight-append (λ r. w (cross_row n r)) (marks p f) (marks (aiding c p) g), weight-append w (marks (cross n p) f) (marks (aiding c (cross n p)) g), cross-marks w p f (omega (arith, h)), cross-marks w (aiding c p) g (omega (arith, h)))
  cross-marks w p (in_other m f g) h = cross-marks w (trying m p) f (omega (arith, h)) ∙ ap (λ q. weight w (marks q f)) (trying-off m p (off m (tried n f) h))

  pub cross-sides : (v : Numbered → ℕ) (p : Path) (m : Marked) → tried n m ≡ 0 → weight (leave n v) (sides p m) ≡ weight v (sides (cross n p) m)
  cross-sides v p ended h = refl
  cross-sides v p (token s t) h = refl
  cross-sides v p (in_call k) h = refl
  cross-sides v p (in_par f g) h =
      omega (arith, weight-append (leave n v) (sides p f) (sides p g), weight-append v (sides (cross n p) f) (sides (cross n p) g), cross-sides v p f (omega (arith, h)), cross-sides v p g (omega (arith, h)))
  cross-sides v p (in_seq f x g) h = cross-sides v (feeding x g p) f h
  cross-sides v p (in_opened f c g) h =
      omega (arith, weight-append (leave n v) (sides p f) (sides (aiding c p) g), weight-append v (sides (cross n p) f) (sides (aiding c (cross n p)) g), cross-sides v p f (omega (arith, h)), cross-sides v (aiding c p) g (omega (arith, h)))
  cross-sides v p (in_other m f g) h =
      let e = off m (tried n f) h in
      omega (arith, cross-sides v (trying m p) f (omega (arith, h)), ap (λ q. weight v (sides q f)) (trying-off m p e), ap {B = ℕ} (λ b. cond b 0 (v (left_of m g (cross n p)))) e)

  pub cross-path : (k : Around) → tried_beside n k ≡ 0 → cross n (path_of k) ≡ path_of k
  cross-path hole h = refl
  cross-path (before b k) h = cross-path k (omega (arith, h))
  cross-path (behind a k) h = cross-path k (omega (arith, h))
  cross-path (feeds x g k) h = ap (feeding x g) (cross-path k h)
  cross-path (main_of c b k) h = cross-path k (omega (arith, h))
  cross-path (side_of c a k) h = ap (aiding c) (cross-path k (omega (arith, h)))
  cross-path (enters m g k) h = trying-off m (path_of k) (off m (tried_beside n k) h) ∙ ap (trying m) (cross-path k (omega (arith, h)))

  beside-rows : (w : Row → ℕ) (p : Path) (b : Marked) → cross n p ≡ p → tried n b ≡ 0 → weight (λ r. w (cross_row n r)) (marks p b) ≡ weight w (marks p b)
  beside-rows w p b e h = cross-marks w p b h ∙ ap (λ q. weight w (marks q b)) e

  beside-sides : (v : Numbered → ℕ) (p : Path) (b : Marked) → cross n p ≡ p → tried n b ≡ 0 → weight (leave n v) (sides p b) ≡ weight v (sides p b)
  beside-sides v p b e h = cross-sides v p b h ∙ ap (λ q. weight v (sides q b)) e

  pub cross-around : (w : Row → ℕ) (k : Around) → tried_beside n k ≡ 0 → rows_beside (λ r. w (cross_row n r)) k ≡ rows_beside w k
  cross-around w hole h = refl
  cross-around w (before b k) h = omega (arith, cross-around w k (omega (arith, h)), beside-rows w (path_of k) b (cross-path k (omega (arith, h))) (omega (arith, h)))
  cross-around w (behind a k) h = omega (arith, cross-around w k (omega (arith, h)), beside-rows w (path_of k) a (cross-path k (omega (arith, h))) (omega (arith, h)))
  cross-around w (feeds x g k) h = cross-around w k h
  cross-around w (main_of c b k) h = omega (arith, cross-around w k (omega (arith, h)), beside-rows w (aiding c (path_of k)) b (ap (aiding c) (cross-path k (omega (arith, h)))) (omega (arith, h)))
  cross-around w (side_of c a k) h = omega (arith, cross-around w k (omega (arith, h)), beside-rows w (path_of k) a (cross-path k (omega (arith, h))) (omega (arith, h)))
  cross-around w (enters m g k) h = cross-around w k (omega (arith, h))

  pub cross-sides-around : (v : Numbered → ℕ) (k : Around) → tried_beside n k ≡ 0 → sides_beside (leave n v) k ≡ sides_beside v k
  cross-sides-around v hole h = refl
  cross-sides-around v (before b k) h = omega (arith, cross-sides-around v k (omega (arith, h)), beside-sides v (path_of k) b (cross-path k (omega (arith, h))) (omega (arith, h)))
  cross-sides-around v (behind a k) h = omega (arith, cross-sides-around v k (omega (arith, h)), beside-sides v (path_of k) a (cross-path k (omega (arith, h))) (omega (arith, h)))
  cross-sides-around v (feeds x g k) h = cross-sides-around v k h
  cross-sides-around v (main_of c b k) h =
      omega (arith, cross-sides-around v k (omega (arith, h)), beside-sides v (aiding c (path_of k)) b (ap (aiding c) (cross-path k (omega (arith, h)))) (omega (arith, h)), ap (λ p. v (right_of c p)) (cross-path k (omega (arith, h))))
  cross-sides-around v (side_of c a k) h =
      omega (arith, cross-sides-around v k (omega (arith, h)), beside-sides v (path_of k) a (cross-path k (omega (arith, h))) (omega (arith, h)), ap (λ p. v (right_of c p)) (cross-path k (omega (arith, h))))
  cross-sides-around v (enters m g k) h =
      let e = off m (tried_beside n k) h in
      omega (arith, cross-sides-around v k (omega (arith, h)), ap {B = ℕ} (λ b. cond b 0 (v (left_of m g (cross n (path_of k))))) e, ap (λ p. v (left_of m g p)) (cross-path k (omega (arith, h))))

  -- otherwise n, of which there is one, is left
  pub record Leaves (g : Term) (k : Around) (m : Marked) : Type 0 where
    pub outer : tried_beside n k ≡ 0
    pub rows : (w : Row → ℕ) → weight w (marks whole (plug k m)) ≡ weight (λ r. w (cross_row n r)) (marks whole (plug k (in_other n m g)))
    pub sides : (v : Numbered → ℕ) → weight v (sides whole (plug k m)) ≡ weight (leave n v) (sides whole (plug k (in_other n m g)))

  pub leaves : (g : Term) (k : Around) (m : Marked) → tried n (plug k (in_other n m g)) ≤ 1 → Leaves g k m
  leaves g k m few =
      let self : once (mark n) (mark n) ≡ 1 = once_same (mark n) (mark n) refl in
      let inner : tried n m ≡ 0 = omega (arith, few, self, tried-plug n k (in_other n m g)) in
      let outer : tried_beside n k ≡ 0 = omega (arith, few, self, tried-plug n k (in_other n m g)) in
      let here : cross n (trying n (path_of k)) ≡ path_of k = ap (λ b. cond b (cross n (path_of k)) (trying n (cross n (path_of k)))) (eq-eqb n n refl) ∙ cross-path k outer in
      record {
        outer = outer;
        rows = λ w. omega (arith, marks-plug w k m, marks-plug (λ r. w (cross_row n r)) k (in_other n m g), cross-marks w (trying n (path_of k)) m inner, ap (λ p. weight w (marks p m)) here, cross-around w k outer);
        sides = λ v.
            omega (
              arith,
              sides-plug v k m,
              sides-plug (leave n v) k (in_other n m g),
              cross-sides v (trying n (path_of k)) m inner,
              ap (λ p. weight v (sides p m)) here,
              cross-sides-around v k outer,
              ap {B = ℕ} (λ b. cond b 0 (v (left_of n g (cross n (path_of k))))) (eq-eqb n n refl),
            );
      }

abbrev pub cross_rows : List ℕ → Row → Row
cross_rows [] r = r
cross_rows (n ∷ ns) r = cross_rows ns (cross_row n r)

abbrev pub cross_all : List ℕ → Path → Path
cross_all [] p = p
cross_all (n ∷ ns) p = cross_all ns (cross n p)

abbrev pub leave_all : List ℕ → (Numbered → ℕ) → Numbered → ℕ
leave_all [] v = v
leave_all (n ∷ ns) v = leave n (leave_all ns v)

abbrev pub Distinct : Marked → Type 0
Distinct m = (n : ℕ) → tried n m ≤ 1

less-distinct : (j : ℕ) (g : Term) (k : Around) (m : Marked) → Distinct (plug k (in_other j m g)) → Distinct (plug k m)
less-distinct j g k m once n = omega (arith, once n, tried-plug n k (in_other j m g), tried-plug n k m)

-- a part, whose token publishes and leaves m', in what is round it: nothing takes the publication
pub record Published (v : Value) (s a : ℕ) (k : Around) (m m' : Marked) : Type 0 where
  pub term : Marked
  pub does : Emits s a v (plug k m) (publishes v) term
  pub rows : (w : Row → ℕ) → weight w (marks whole term) ≡ weight (λ r. w (cross_rows (crossed (path_of k)) r)) (marks whole (plug k m'))
  pub sides : (u : Numbered → ℕ) → weight u (sides whole term) ≡ weight (leave_all (crossed (path_of k)) u) (sides whole (plug k m'))

pub published_by : (v : Value) (s a : ℕ) (k : Around) (m m' : Marked) → taker (path_of k) ≡ whole → Distinct (plug k m') → Emits s a v m (publishes v) m' → Published v s a k m m'
published_by v s a hole m m' e once r = record { term = m'; does = r; rows = λ w. refl; sides = λ u. refl }
published_by v s a (before b k) m m' e once r = let o = published_by v s a k (in_par m b) (in_par m' b) e once (on_left r) in record { term = o.term; does = o.does; rows = o.rows; sides = o.sides }
published_by v s a (behind b k) m m' e once r = let o = published_by v s a k (in_par b m) (in_par b m') e once (on_right r) in record { term = o.term; does = o.does; rows = o.rows; sides = o.sides }
published_by v s a (feeds x g k) m m' e once r = cc e
published_by v s a (main_of c b k) m m' e once r = let o = published_by v s a k (in_opened m c b) (in_opened m' c b) e once (on_main r) in record { term = o.term; does = o.does; rows = o.rows; sides = o.sides }
published_by v s a (side_of c b k) m m' e once r = cc e
published_by v s a (enters n g k) m m' e once r =
    let o = published_by v s a k (in_other n m g) m' e (less-distinct n g k m' once) (passes r) in
    let l = leaves n g k m' (once n) in
    record {
      term = o.term;
      does = o.does;
      rows = λ w. o.rows w ∙ l.rows (λ r. w (cross_rows (crossed (path_of k)) r));
      sides = λ u. o.sides u ∙ l.sides (leave_all (crossed (path_of k)) u);
    }

pub silent_in : (k : Around) {s a : ℕ} {v : Value} {m m' : Marked} → Emits s a v m silent m' → Emits s a v (plug k m) silent (plug k m')
silent_in hole e = e
silent_in (before b k) e = silent_in k (on_left e)
silent_in (behind b k) e = silent_in k (on_right e)
silent_in (feeds x g k) e = silent_in k (on_feeding tt e)
silent_in (main_of d b k) e = silent_in k (on_main e)
silent_in (side_of d b k) e = silent_in k (on_side tt e)
silent_in (enters n g k) e = silent_in k (on_entered tt e)

-- round the `>x>` that takes it there is no otherwise that the publication leaves
apart : (n : ℕ) (k : Around) (x : ℕ) (g : Term) (p : Path) → tried_beside n k ≡ 0 → taker (path_of k) ≡ feeding x g p → cross n p ≡ p
apart n hole x g p h e = cc e
apart n (before b k) x g p h e = apart n k x g p (omega (arith, h)) e
apart n (behind a k) x g p h e = apart n k x g p (omega (arith, h)) e
apart n (feeds y f k) x g p h e = let q : path_of k ≡ p = cc e in ap (cross n) (sym q) ∙ cross-path n k h ∙ q
apart n (main_of c b k) x g p h e = apart n k x g p (omega (arith, h)) e
apart n (side_of c a k) x g p h e = cc e
apart n (enters m f k) x g p h e = apart n k x g p (omega (arith, h)) e

-- a `>x>` takes it
pub record Sent (v : Value) (s a : ℕ) (k : Around) (m m' : Marked) (x : ℕ) (g : Term) (p : Path) : Type 0 where
  pub term : Marked
  pub does : Emits s a v (plug k m) silent term
  pub apart : cross_all (crossed (path_of k)) p ≡ p
  pub rows : (w : Row → ℕ) → weight w (marks whole term) ≡ w (stands a (put (Is v) x g) p) + weight (λ r. w (cross_rows (crossed (path_of k)) r)) (marks whole (plug k m'))
  pub sides : (u : Numbered → ℕ) → weight u (sides whole term) ≡ weight (leave_all (crossed (path_of k)) u) (sides whole (plug k m'))

pub sent_by : (v : Value) (s a : ℕ) (k : Around) (m m' : Marked) (x : ℕ) (g : Term) (p : Path) → taker (path_of k) ≡ feeding x g p → Distinct (plug k m') → Emits s a v m (publishes v) m' → Sent v s a k m m' x g p
sent_by v s a hole m m' x g p e once r = cc e
sent_by v s a (before b k) m m' x g p e once r = let o = sent_by v s a k (in_par m b) (in_par m' b) x g p e once (on_left r) in record { term = o.term; does = o.does; apart = o.apart; rows = o.rows; sides = o.sides }
sent_by v s a (behind b k) m m' x g p e once r = let o = sent_by v s a k (in_par b m) (in_par b m') x g p e once (on_right r) in record { term = o.term; does = o.does; apart = o.apart; rows = o.rows; sides = o.sides }
sent_by v s a (feeds y f k) m m' x g p e once r =
    let copy = token a (put (Is v) y f) in
    record {
      term = plug k (in_par (in_seq m' y f) copy);
      does = silent_in k (is_fed r);
      apart = refl;
      rows = λ w.
          let q : stands a (put (Is v) y f) (path_of k) ≡ stands a (put (Is v) x g) p = cc e in
          omega (arith, marks-plug w k (in_par (in_seq m' y f) copy), marks-plug w k (in_seq m' y f), weight-append w (marks (feeding y f (path_of k)) m') (stands a (put (Is v) y f) (path_of k) ∷ []), ap w q);
      sides = λ u. omega (arith, sides-plug u k (in_par (in_seq m' y f) copy), sides-plug u k (in_seq m' y f), weight-append u (sides (feeding y f (path_of k)) m') []);
    }
sent_by v s a (main_of c b k) m m' x g p e once r = let o = sent_by v s a k (in_opened m c b) (in_opened m' c b) x g p e once (on_main r) in record { term = o.term; does = o.does; apart = o.apart; rows = o.rows; sides = o.sides }
sent_by v s a (side_of c b k) m m' x g p e once r = cc e
sent_by v s a (enters n f k) m m' x g p e once r =
    let o = sent_by v s a k (in_other n m f) m' x g p e (less-distinct n f k m' once) (passes r) in
    let l = leaves n f k m' (once n) in
    record {
      term = o.term;
      does = o.does;
      apart = ap (cross_all (crossed (path_of k))) (apart n k x g p l.outer e) ∙ o.apart;
      rows = λ w. o.rows w ∙ ap (λ z. w (stands a (put (Is v) x g) p) + z) (l.rows (λ r. w (cross_rows (crossed (path_of k)) r)));
      sides = λ u. o.sides u ∙ l.sides (leave_all (crossed (path_of k)) u);
    }
