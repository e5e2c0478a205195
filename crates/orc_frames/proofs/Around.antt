-- A part of a marked term, and what is round it.
use Rattle.std.proofs.Common.{◌≡◌, ℕ, ◌+◌, ◌≤◌, List, ◌∷◌, ◌++◌, refl, ap, sym, ◌∙◌, arith, ⊎_elim}
use Rattle.orc_rules.specs.Term.{Term}
use Rattle.orc_rules.specs.Marked.{Marked, ended, token, in_call, in_par, in_seq, in_opened, in_other, Replaces, in_left, in_right, in_feeding, in_main, in_side, in_entered}
use Rattle.orc_indexes.specs.Same.{weight}
use Rattle.orc_frames.specs.Spelling.{Path, whole, feeding, aiding, trying, Row, stands, pends, Numbered, right_of, left_of, marks, sides}
use Rattle.orc_indexes.proofs.Weight.{weight-append, either_one}
use Rattle.orc_frames.proofs.Equal.{same_row, same_numbered}

-- the innermost first
pub data Around : Type 0 where
  hole : Around
  before : Marked → Around → Around
  behind : Marked → Around → Around
  feeds : ℕ → Term → Around → Around
  main_of : ℕ → Marked → Around → Around
  side_of : ℕ → Marked → Around → Around
  enters : ℕ → Term → Around → Around

-- the whole, with this part
abbrev pub plug : Around → Marked → Marked
plug hole m = m
plug (before b k) m = plug k (in_par m b)
plug (behind a k) m = plug k (in_par a m)
plug (feeds x g k) m = plug k (in_seq m x g)
plug (main_of c b k) m = plug k (in_opened m c b)
plug (side_of c a k) m = plug k (in_opened a c m)
plug (enters n g k) m = plug k (in_other n m g)

abbrev pub path_of : Around → Path
path_of hole = whole
path_of (before b k) = path_of k
path_of (behind a k) = path_of k
path_of (feeds x g k) = feeding x g (path_of k)
path_of (main_of c b k) = path_of k
path_of (side_of c a k) = aiding c (path_of k)
path_of (enters n g k) = trying n (path_of k)

-- the cells inside whose right sides the part stands, before those in cs
abbrev pub cells_of : Around → List ℕ → List ℕ
cells_of hole cs = cs
cells_of (before b k) cs = cells_of k cs
cells_of (behind a k) cs = cells_of k cs
cells_of (feeds x g k) cs = cells_of k cs
cells_of (main_of c b k) cs = cells_of k cs
cells_of (side_of c a k) cs = cells_of k (c ∷ cs)
cells_of (enters n g k) cs = cells_of k cs

pub replaced : (k : Around) {x y m m' : Marked} {cs : List ℕ} → Replaces x y m cs m' → Replaces x y (plug k m) (cells_of k cs) (plug k m')
replaced hole r = r
replaced (before b k) r = replaced k (in_left r)
replaced (behind a k) r = replaced k (in_right r)
replaced (feeds x g k) r = replaced k (in_feeding r)
replaced (main_of c b k) r = replaced k (in_main r)
replaced (side_of c a k) r = replaced k (in_side r)
replaced (enters n g k) r = replaced k (in_entered r)

-- what the rows beside a part weigh
abbrev pub rows_beside : (Row → ℕ) → Around → ℕ
rows_beside w hole = 0
rows_beside w (before b k) = weight w (marks (path_of k) b) + rows_beside w k
rows_beside w (behind a k) = weight w (marks (path_of k) a) + rows_beside w k
rows_beside w (feeds x g k) = rows_beside w k
rows_beside w (main_of c b k) = weight w (marks (aiding c (path_of k)) b) + rows_beside w k
rows_beside w (side_of c a k) = weight w (marks (path_of k) a) + rows_beside w k
rows_beside w (enters n g k) = rows_beside w k

pub marks-plug : (w : Row → ℕ) (k : Around) (m : Marked) → weight w (marks whole (plug k m)) ≡ weight w (marks (path_of k) m) + rows_beside w k
marks-plug w hole m = omega arith
marks-plug w (before b k) m = omega (arith, marks-plug w k (in_par m b), weight-append w (marks (path_of k) m) (marks (path_of k) b))
marks-plug w (behind a k) m = omega (arith, marks-plug w k (in_par a m), weight-append w (marks (path_of k) a) (marks (path_of k) m))
marks-plug w (feeds x g k) m = marks-plug w k (in_seq m x g)
marks-plug w (main_of c b k) m = omega (arith, marks-plug w k (in_opened m c b), weight-append w (marks (path_of k) m) (marks (aiding c (path_of k)) b))
marks-plug w (side_of c a k) m = omega (arith, marks-plug w k (in_opened a c m), weight-append w (marks (path_of k) a) (marks (aiding c (path_of k)) m))
marks-plug w (enters n g k) m = marks-plug w k (in_other n m g)

-- what the open sides beside a part, and round it, weigh
abbrev pub sides_beside : (Numbered → ℕ) → Around → ℕ
sides_beside v hole = 0
sides_beside v (before b k) = weight v (sides (path_of k) b) + sides_beside v k
sides_beside v (behind a k) = weight v (sides (path_of k) a) + sides_beside v k
sides_beside v (feeds x g k) = sides_beside v k
sides_beside v (main_of c b k) = v (right_of c (path_of k)) + weight v (sides (aiding c (path_of k)) b) + sides_beside v k
sides_beside v (side_of c a k) = v (right_of c (path_of k)) + weight v (sides (path_of k) a) + sides_beside v k
sides_beside v (enters n g k) = v (left_of n g (path_of k)) + sides_beside v k

pub sides-plug : (v : Numbered → ℕ) (k : Around) (m : Marked) → weight v (sides whole (plug k m)) ≡ weight v (sides (path_of k) m) + sides_beside v k
sides-plug v hole m = omega arith
sides-plug v (before b k) m = omega (arith, sides-plug v k (in_par m b), weight-append v (sides (path_of k) m) (sides (path_of k) b))
sides-plug v (behind a k) m = omega (arith, sides-plug v k (in_par a m), weight-append v (sides (path_of k) a) (sides (path_of k) m))
sides-plug v (feeds x g k) m = sides-plug v k (in_seq m x g)
sides-plug v (main_of c b k) m = omega (arith, sides-plug v k (in_opened m c b), weight-append v (sides (path_of k) m) (sides (aiding c (path_of k)) b))
sides-plug v (side_of c a k) m = omega (arith, sides-plug v k (in_opened a c m), weight-append v (sides (path_of k) a) (sides (aiding c (path_of k)) m))
sides-plug v (enters n g k) m = omega (arith, sides-plug v k (in_other n m g))

-- ---- what the lists show is in the marked term

abbrev pub by : {A : Type 0} → Dec A → ℕ
by (yes e) = 1
by (no h) = 0

pub by-self : {A : Type 0} (d : Dec A) → A → by d ≡ 1
by-self (yes e) a = refl
by-self (no h) a = absurd (h a)

abbrev pub is_row : Row → Row → ℕ
is_row r x = by (same_row x r)

-- a token or a pending call
abbrev pub unit : Row → Marked
unit (stands s t p) = token s t
unit (pends k p) = in_call k

abbrev pub path_in : Row → Path
path_in (stands s t p) = p
path_in (pends k p) = p

pub record Found (r : Row) (m : Marked) : Type 0 where
  pub around : Around
  pub is : plug around (unit r) ≡ m
  pub path : path_of around ≡ path_in r

found_unit : (r x : Row) (k : Around) → path_of k ≡ path_in x → 1 ≤ is_row r x → Found r (plug k (unit x))
found_unit r x k p h = go (same_row x r) h
  where
    go : (d : Dec (x ≡ r)) → 1 ≤ by d → Found r (plug k (unit x))
    go (yes e) h = record { around = k; is = ap (λ z. plug k (unit z)) (sym e); path = p ∙ ap path_in e }
    go (no n) h = absurd (omega (arith, h))

pub found : (r : Row) (k : Around) (m : Marked) → 1 ≤ weight (is_row r) (marks (path_of k) m) → Found r (plug k m)
found r k ended h = absurd (omega (arith, h))
found r k (token s t) h = found_unit r (stands s t (path_of k)) k refl (omega (arith, h))
found r k (in_call j) h = found_unit r (pends j (path_of k)) k refl (omega (arith, h))
found r k (in_par f g) h =
    ⊎_elim (λ a. found r (before g k) f a) (λ b. found r (behind f k) g b)
    (either_one (weight (is_row r) (marks (path_of k) f)) (weight (is_row r) (marks (path_of k) g)) (omega (arith, h, weight-append (is_row r) (marks (path_of k) f) (marks (path_of k) g))))
found r k (in_seq f x g) h = found r (feeds x g k) f h
found r k (in_opened f c g) h =
    ⊎_elim (λ a. found r (main_of c g k) f a) (λ b. found r (side_of c f k) g b)
    (either_one (weight (is_row r) (marks (path_of k) f)) (weight (is_row r) (marks (aiding c (path_of k)) g)) (omega (arith, h, weight-append (is_row r) (marks (path_of k) f) (marks (aiding c (path_of k)) g))))
found r k (in_other n f g) h = found r (enters n g k) f h

-- the pruning of a right side, or the otherwise of a left side, whose only part is the first
abbrev pub opened_as : Numbered → Marked → Marked → Marked
opened_as (right_of c p) f g = in_opened f c g
opened_as (left_of n g p) f h = in_other n f g

abbrev pub side_path : Numbered → Path
side_path (right_of c p) = p
side_path (left_of n g p) = p

-- an open side
pub record Opened (s : Numbered) (m : Marked) : Type 0 where
  pub around : Around
  pub left : Marked
  pub right : Marked
  pub is : plug around (opened_as s left right) ≡ m
  pub path : path_of around ≡ side_path s

abbrev pub is_numbered : Numbered → Numbered → ℕ
is_numbered s x = by (same_numbered x s)

opened_here : (s x : Numbered) (k : Around) (f g : Marked) → path_of k ≡ side_path x → 1 ≤ is_numbered s x → Opened s (plug k (opened_as x f g))
opened_here s x k f g p h = go (same_numbered x s) h
  where
    go : (d : Dec (x ≡ s)) → 1 ≤ by d → Opened s (plug k (opened_as x f g))
    go (yes e) h = record { around = k; left = f; right = g; is = ap (λ z. plug k (opened_as z f g)) (sym e); path = p ∙ ap side_path e }
    go (no n) h = absurd (omega (arith, h))

pub opened : (s : Numbered) (k : Around) (m : Marked) → 1 ≤ weight (is_numbered s) (sides (path_of k) m) → Opened s (plug k m)
opened s k ended h = absurd (omega (arith, h))
opened s k (token t f) h = absurd (omega (arith, h))
opened s k (in_call j) h = absurd (omega (arith, h))
opened s k (in_par f g) h =
    ⊎_elim (λ a. opened s (before g k) f a) (λ b. opened s (behind f k) g b)
    (either_one (weight (is_numbered s) (sides (path_of k) f)) (weight (is_numbered s) (sides (path_of k) g)) (omega (arith, h, weight-append (is_numbered s) (sides (path_of k) f) (sides (path_of k) g))))
opened s k (in_seq f x g) h = opened s (feeds x g k) f h
opened s k (in_opened f c g) h =
    ⊎_elim (λ a. opened_here s (right_of c (path_of k)) k f g refl a)
    (λ z. ⊎_elim (λ a. opened s (main_of c g k) f a) (λ b. opened s (side_of c f k) g b)
    (either_one (weight (is_numbered s) (sides (path_of k) f)) (weight (is_numbered s) (sides (aiding c (path_of k)) g)) (omega (arith, z, weight-append (is_numbered s) (sides (path_of k) f) (sides (aiding c (path_of k)) g)))))
    (either_one (is_numbered s (right_of c (path_of k))) (weight (is_numbered s) (sides (path_of k) f ++ sides (aiding c (path_of k)) g)) h)
opened s k (in_other n f g) h =
    ⊎_elim (λ a. opened_here s (left_of n g (path_of k)) k f f refl a) (λ b. opened s (enters n g k) f b)
    (either_one (is_numbered s (left_of n g (path_of k))) (weight (is_numbered s) (sides (trying n (path_of k)) f)) h)
