-- A name that stands once shows one part, and an entry that names it leaves one marked term.
use Rattle.std.proofs.Common.{◌≡◌, ◌<◌, ◌≤◌, ℕ, List, Option, Some, None, refl, sym, ap, ◌∙◌, ⊎_elim, true, false, arith}
use Rattle.std.specs.Prelude.{cond}
use Rattle.orc_rules.specs.Marked.{Marked, ended, token, in_call, in_par, in_seq, in_opened, in_other, Replaces, here, in_left, in_right, in_feeding, in_main, in_side, in_entered}
use Rattle.orc_rules.specs.Numbered.{Name, mark, call, cell, name_eq, once, times}
use Rattle.orc_rules.proofs.Numbered.{name_is, once_same, times_part}

-- the name of a part that has one
abbrev pub name_of : Marked → Option Name
name_of (token s t) = Some (mark s)
name_of (in_call k) = Some (call k)
name_of (in_opened f c g) = Some (cell c)
name_of (in_other s f g) = Some (mark s)
name_of _ = None

abbrev pub first_of : {X : Type 0} → Option X → Option X → Option X
first_of (Some t) o = Some t
first_of None o = o

-- the part with this name
abbrev pub part_at : Name → Marked → Option Marked
part_at n ended = None
part_at n (token s t) = cond (name_eq n (mark s)) (Some (token s t)) None
part_at n (in_call k) = cond (name_eq n (call k)) (Some (in_call k)) None
part_at n (in_par f g) = first_of (part_at n f) (part_at n g)
part_at n (in_seq f x g) = part_at n f
part_at n (in_opened f c g) = cond (name_eq n (cell c)) (Some (in_opened f c g)) (first_of (part_at n f) (part_at n g))
part_at n (in_other s f g) = cond (name_eq n (mark s)) (Some (in_other s f g)) (part_at n f)

-- y in its place
abbrev pub put_part : Name → Marked → Marked → Marked
put_part n y ended = ended
put_part n y (token s t) = cond (name_eq n (mark s)) y (token s t)
put_part n y (in_call k) = cond (name_eq n (call k)) y (in_call k)
put_part n y (in_par f g) = in_par (put_part n y f) (put_part n y g)
put_part n y (in_seq f x g) = in_seq (put_part n y f) x g
put_part n y (in_opened f c g) = cond (name_eq n (cell c)) y (in_opened (put_part n y f) c (put_part n y g))
put_part n y (in_other s f g) = cond (name_eq n (mark s)) y (in_other s (put_part n y f) g)

pub not_here : (n m : Name) → once n m ≡ 0 → name_eq n m ≡ false
not_here n m h = ⊎_elim (λ y. absurd (omega (arith, h, once_same n m y.0))) (λ y. y.1) (name_is n m)

-- a name that isn't there
absent : (n : Name) (m : Marked) → times n m ≡ 0 → part_at n m ≡ None
absent n ended h = refl
absent n (token s t) h = ap (λ b. cond b (Some (token s t)) None) (not_here n (mark s) h)
absent n (in_call k) h = ap (λ b. cond b (Some (in_call k)) None) (not_here n (call k) h)
absent n (in_par f g) h = ap (λ o. first_of o (part_at n g)) (absent n f (omega (arith, h))) ∙ absent n g (omega (arith, h))
absent n (in_seq f x g) h = absent n f h
absent n (in_opened f c g) h =
    ap (λ b. cond b (Some (in_opened f c g)) (first_of (part_at n f) (part_at n g))) (not_here n (cell c) (omega (arith, h)))
    ∙ (ap (λ o. first_of o (part_at n g)) (absent n f (omega (arith, h))) ∙ absent n g (omega (arith, h)))
absent n (in_other s f g) h = ap (λ b. cond b (Some (in_other s f g)) (part_at n f)) (not_here n (mark s) (omega (arith, h))) ∙ absent n f (omega (arith, h))

unchanged : (n : Name) (y m : Marked) → times n m ≡ 0 → put_part n y m ≡ m
unchanged n y ended h = refl
unchanged n y (token s t) h = ap (λ b. cond b y (token s t)) (not_here n (mark s) h)
unchanged n y (in_call k) h = ap (λ b. cond b y (in_call k)) (not_here n (call k) h)
unchanged n y (in_par f g) h = λ i. in_par (unchanged n y f (omega (arith, h)) i) (unchanged n y g (omega (arith, h)) i)
unchanged n y (in_seq f x g) h = ap (λ w. in_seq w x g) (unchanged n y f h)
unchanged n y (in_opened f c g) h =
    ap (λ b. cond b y (in_opened (put_part n y f) c (put_part n y g))) (not_here n (cell c) (omega (arith, h)))
    ∙ (λ i. in_opened (unchanged n y f (omega (arith, h)) i) c (unchanged n y g (omega (arith, h)) i))
unchanged n y (in_other s f g) h =
    ap (λ b. cond b y (in_other s (put_part n y f) g)) (not_here n (mark s) (omega (arith, h))) ∙ ap (λ w. in_other s w g) (unchanged n y f (omega (arith, h)))

pub some_is : {X : Type 0} (b d : X) → Some b ≡ Some d → b ≡ d
some_is b d h = ap (or_that b) h
  where
    or_that : {X : Type 0} → X → Option X → X
    or_that z (Some w) = w
    or_that z None = z

-- a part with this name has it
named_times : (n : Name) (x : Marked) → name_of x ≡ Some n → 0 < times n x
named_times n (token s t) e = omega (arith, once_same n (mark s) (sym (some_is _ _ e)))
named_times n (in_call k) e = omega (arith, once_same n (call k) (sym (some_is _ _ e)))
named_times n (in_opened f c g) e = omega (arith, once_same n (cell c) (sym (some_is _ _ e)))
named_times n (in_other s f g) e = omega (arith, once_same n (mark s) (sym (some_is _ _ e)))
named_times n ended e = cc e
named_times n (in_par f g) e = cc e
named_times n (in_seq f x g) e = cc e

same_name : (n m : Name) → Some m ≡ Some n → name_eq n m ≡ true
same_name n m e = ⊎_elim (λ y. y.1) (λ y. absurd (y.0 (sym (some_is m n e)))) (name_is n m)

named_part : (n : Name) (x : Marked) → name_of x ≡ Some n → part_at n x ≡ Some x
named_part n (token s t) e = ap (λ b. cond b (Some (token s t)) None) (same_name n (mark s) e)
named_part n (in_call k) e = ap (λ b. cond b (Some (in_call k)) None) (same_name n (call k) e)
named_part n (in_opened f c g) e = ap (λ b. cond b (Some (in_opened f c g)) (first_of (part_at n f) (part_at n g))) (same_name n (cell c) e)
named_part n (in_other s f g) e = ap (λ b. cond b (Some (in_other s f g)) (part_at n f)) (same_name n (mark s) e)
named_part n ended e = cc e
named_part n (in_par f g) e = cc e
named_part n (in_seq f x g) e = cc e

named_put : (n : Name) (y x : Marked) → name_of x ≡ Some n → put_part n y x ≡ y
named_put n y (token s t) e = ap (λ b. cond b y (token s t)) (same_name n (mark s) e)
named_put n y (in_call k) e = ap (λ b. cond b y (in_call k)) (same_name n (call k) e)
named_put n y (in_opened f c g) e = ap (λ b. cond b y (in_opened (put_part n y f) c (put_part n y g))) (same_name n (cell c) e)
named_put n y (in_other s f g) e = ap (λ b. cond b y (in_other s (put_part n y f) g)) (same_name n (mark s) e)
named_put n y ended e = cc e
named_put n y (in_par f g) e = cc e
named_put n y (in_seq f x g) e = cc e

there : (n : Name) {x y m m' : Marked} {cs : List ℕ} → Replaces x y m cs m' → name_of x ≡ Some n → 0 < times n m
there n {x} r e = omega (arith, times_part n r, named_times n x e)

-- the part that is replaced is the one that is found
pub found_there : (n : Name) {x y m m' : Marked} {cs : List ℕ} → Replaces x y m cs m' → name_of x ≡ Some n → times n m ≤ 1 → part_at n m ≡ Some x
found_there n {x} here e le = named_part n x e
found_there n (in_left {f = f} {g = g} r) e le = ap (λ o. first_of o (part_at n g)) (found_there n r e (omega (arith, le)))
found_there n (in_right {f = f} {g = g} r) e le =
    ap (λ o. first_of o (part_at n g)) (absent n f (omega (arith, le, there n r e))) ∙ found_there n r e (omega (arith, le))
found_there n (in_feeding r) e le = found_there n r e le
found_there n (in_main {f = f} {g = g} {c = c} r) e le =
    ap (λ b. cond b (Some (in_opened f c g)) (first_of (part_at n f) (part_at n g))) (not_here n (cell c) (omega (arith, le, there n r e)))
    ∙ ap (λ o. first_of o (part_at n g)) (found_there n r e (omega (arith, le)))
found_there n (in_side {f = f} {g = g} {c = c} r) e le =
    ap (λ b. cond b (Some (in_opened f c g)) (first_of (part_at n f) (part_at n g))) (not_here n (cell c) (omega (arith, le, there n r e)))
    ∙ (ap (λ o. first_of o (part_at n g)) (absent n f (omega (arith, le, there n r e))) ∙ found_there n r e (omega (arith, le)))
found_there n (in_entered {n = s} {f = f} {g = g} r) e le =
    ap (λ b. cond b (Some (in_other s f g)) (part_at n f)) (not_here n (mark s) (omega (arith, le, there n r e))) ∙ found_there n r e (omega (arith, le))

-- and what is left is what stands where y is put in its place
pub left_there : (n : Name) {x y m m' : Marked} {cs : List ℕ} → Replaces x y m cs m' → name_of x ≡ Some n → times n m ≤ 1 → put_part n y m ≡ m'
left_there n {x} {y} here e le = named_put n y x e
left_there n {y = y} (in_left {f = f} {g = g} r) e le =
    λ i. in_par (left_there n r e (omega (arith, le)) i) (unchanged n y g (omega (arith, le, there n r e)) i)
left_there n {y = y} (in_right {f = f} {g = g} r) e le =
    λ i. in_par (unchanged n y f (omega (arith, le, there n r e)) i) (left_there n r e (omega (arith, le)) i)
left_there n (in_feeding {z = z} {g = g} r) e le = ap (λ w. in_seq w z g) (left_there n r e le)
left_there n {y = y} (in_main {f = f} {g = g} {c = c} r) e le =
    ap (λ b. cond b y (in_opened (put_part n y f) c (put_part n y g))) (not_here n (cell c) (omega (arith, le, there n r e)))
    ∙ (λ i. in_opened (left_there n r e (omega (arith, le)) i) c (unchanged n y g (omega (arith, le, there n r e)) i))
left_there n {y = y} (in_side {f = f} {g = g} {c = c} r) e le =
    ap (λ b. cond b y (in_opened (put_part n y f) c (put_part n y g))) (not_here n (cell c) (omega (arith, le, there n r e)))
    ∙ (λ i. in_opened (unchanged n y f (omega (arith, le, there n r e)) i) c (left_there n r e (omega (arith, le)) i))
left_there n {y = y} (in_entered {n = s} {f = f} {g = g} r) e le =
    ap (λ b. cond b y (in_other s (put_part n y f) g)) (not_here n (mark s) (omega (arith, le, there n r e))) ∙ ap (λ w. in_other s w g) (left_there n r e (omega (arith, le)))

-- two replacements of parts with one name: the parts are the same, and so is what is left where the same comes
pub same_part : (n : Name) {x y m m' x' y' m'' : Marked} {cs cs' : List ℕ} → Replaces x y m cs m' → Replaces x' y' m cs' m'' → name_of x ≡ Some n → name_of x' ≡ Some n → times n m ≤ 1 → x ≡ x'
same_part n r r' e e' le = some_is _ _ (sym (found_there n r e le) ∙ found_there n r' e' le)

pub same_left : (n : Name) {x y m m' x' y' m'' : Marked} {cs cs' : List ℕ} → Replaces x y m cs m' → Replaces x' y' m cs' m'' → name_of x ≡ Some n → name_of x' ≡ Some n → times n m ≤ 1 → y ≡ y' → m' ≡ m''
same_left n {m = m} r r' e e' le same = sym (left_there n r e le) ∙ (ap (λ w. put_part n w m) same ∙ left_there n r' e' le)
