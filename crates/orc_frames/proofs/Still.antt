-- Where no token can move and each open side has somebody in it, nothing can move in a marked term.
use Rattle.std.proofs.Common.{◌≡◌, ◌≤◌, ℕ, ◌+◌, List, refl, ap, ◌∙◌, arith, inl, inr, ◌⊎◌, ⊎_elim, Bool, true, false, cond, nat_eq, eq-eqb}
use Rattle.std.specs.Prelude.{◌&&◌}
use Rattle.orc_rules.specs.Term.{Term, Definition}
use Rattle.orc_rules.specs.Idle.{has_halted, can_move, one, movable}
use Rattle.orc_rules.specs.Marked.{Marked, ended, token, in_call, in_par, in_seq, in_opened, in_other, erase}
use Rattle.orc_rules.specs.Timed.{IsIn}
use Rattle.orc_rules.specs.Numbered.{Name, mark, call, cell, once}
use Rattle.orc_indexes.specs.Same.{weight}
use Rattle.orc_frames.specs.Spelling.{Path, feeding, aiding, trying, Row, stands, pends, Numbered, right_of, left_of, marks, sides, inside, within}
use Rattle.orc_indexes.proofs.Weight.{weight-append, either_one, weight-least}
use Rattle.orc_frames.proofs.Finding.{in_front, in_back}

-- the path is inside the right side of this cell, or the left side of this otherwise
abbrev pub in_name : Name → Path → Bool
in_name (cell c) p = inside c p
in_name (mark n) p = within n p
in_name (call k) p = false

abbrev pub row_at : Name → Row → ℕ
row_at nm (stands s t p) = cond (in_name nm p) 1 0
row_at nm (pends k p) = cond (in_name nm p) 1 0

-- 1 for the open side of this name
abbrev pub is_side : Name → Numbered → ℕ
is_side nm (right_of d p) = once nm (cell d)
is_side nm (left_of n g p) = once nm (mark n)

pub aiding_out : (nm : Name) (d : ℕ) (p : Path) → in_name nm p ≡ false → once nm (cell d) ≡ 0 → in_name nm (aiding d p) ≡ false
aiding_out (mark n) d p h e = h
aiding_out (call k) d p h e = h
aiding_out (cell c) d p h e = go (nat_eq c d) e
  where
    go : (b : Bool) → cond {A = ℕ} b 1 0 ≡ 0 → cond b true (inside c p) ≡ false
    go true e = absurd (omega (arith, e))
    go false e = h

pub trying_out : (nm : Name) (d : ℕ) (p : Path) → in_name nm p ≡ false → once nm (mark d) ≡ 0 → in_name nm (trying d p) ≡ false
trying_out (cell n) d p h e = h
trying_out (call k) d p h e = h
trying_out (mark c) d p h e = go (nat_eq c d) e
  where
    go : (b : Bool) → cond {A = ℕ} b 1 0 ≡ 0 → cond b true (within c p) ≡ false
    go true e = absurd (omega (arith, e))
    go false e = h

pub feeding_same : (nm : Name) (x : ℕ) (g : Term) (p : Path) → in_name nm (feeding x g p) ≡ in_name nm p
feeding_same (mark n) x g p = refl
feeding_same (call k) x g p = refl
feeding_same (cell c) x g p = refl

-- where the side isn't in the term, and it isn't in the side, nothing in it is
pub none_in : (nm : Name) (p : Path) (m : Marked) → in_name nm p ≡ false → weight (is_side nm) (sides p m) ≡ 0 → weight (row_at nm) (marks p m) ≡ 0
none_in nm p ended out no_side = refl
none_in nm p (token s t) out no_side = ap {B = ℕ} (λ b. cond b 1 0 + 0) out
none_in nm p (in_call k) out no_side = ap {B = ℕ} (λ b. cond b 1 0 + 0) out
none_in nm p (in_par f g) out no_side =
    omega (
      arith,
      weight-append (row_at nm) (marks p f) (marks p g),
      none_in nm p f out (omega (arith, no_side, weight-append (is_side nm) (sides p f) (sides p g))),
      none_in nm p g out (omega (arith, no_side, weight-append (is_side nm) (sides p f) (sides p g))),
    )
none_in nm p (in_seq f x g) out no_side = none_in nm (feeding x g p) f (feeding_same nm x g p ∙ out) no_side
none_in nm p (in_opened f d g) out no_side =
    let parts = weight-append (is_side nm) (sides p f) (sides (aiding d p) g) in
    omega (
      arith,
      weight-append (row_at nm) (marks p f) (marks (aiding d p) g),
      none_in nm p f out (omega (arith, no_side, parts)),
      none_in nm (aiding d p) g (aiding_out nm d p out (omega (arith, no_side))) (omega (arith, no_side, parts)),
    )
none_in nm p (in_other n f g) out no_side = none_in nm (trying n p) f (trying_out nm n p out (omega (arith, no_side))) (omega (arith, no_side))

row_least : (nm : Name) (r : Row) → row_at nm r ≤ 1
row_least nm (stands s t p) = go (in_name nm p)
  where
    go : (b : Bool) → cond {A = ℕ} b 1 0 ≤ 1
    go true = omega arith
    go false = omega arith
row_least nm (pends k p) = go (in_name nm p)
  where
    go : (b : Bool) → cond {A = ℕ} b 1 0 ≤ 1
    go true = omega arith
    go false = omega arith

module _ (defs : List Definition) where
  -- a token that can't move and hasn't halted
  abbrev pub IsStill : Row → Type 0
  IsStill (stands s u p) = (can_move defs u ≡ false) × (has_halted u ≡ false)
  IsStill (pends k p) = Unit {0}

  abbrev pub AreStill : Path → Marked → Type 0
  AreStill p m = (r : Row) → IsIn r (marks p m) → IsStill r

  -- somebody is in it: it hasn't halted
  pub not_halted : (p : Path) (m : Marked) → AreStill p m → 1 ≤ weight (λ r. 1) (marks p m) → has_halted (erase m) ≡ false
  not_halted p ended still some = absurd (omega (arith, some))
  not_halted p (token s t) still some = (still (stands s t p) (inl refl)).1
  not_halted p (in_call k) still some = refl
  not_halted p (in_par f g) still some =
      both (has_halted (erase f)) (has_halted (erase g))
      (⊎_elim (λ a. inl (not_halted p f (λ r i. still r (in_front r (marks p f) (marks p g) i)) a))
      (λ b. inr (not_halted p g (λ r i. still r (in_back r (marks p f) (marks p g) i)) b))
      (either_one (weight (λ r. 1) (marks p f)) (weight (λ r. 1) (marks p g)) (omega (arith, some, weight-append (λ r. 1) (marks p f) (marks p g)))))
    where
      both : (a b : Bool) → (a ≡ false) ⊎ (b ≡ false) → (a && b) ≡ false
      both false b h = refl
      both true b (inl e) = cc e
      both true b (inr e) = e
  not_halted p (in_seq f x g) still some = not_halted (feeding x g p) f still some
  not_halted p (in_opened f c g) still some =
      both (has_halted (erase f)) (has_halted (erase g))
      (⊎_elim (λ a. inl (not_halted p f (λ r i. still r (in_front r (marks p f) (marks (aiding c p) g) i)) a))
      (λ b. inr (not_halted (aiding c p) g (λ r i. still r (in_back r (marks p f) (marks (aiding c p) g) i)) b))
      (either_one (weight (λ r. 1) (marks p f)) (weight (λ r. 1) (marks (aiding c p) g)) (omega (arith, some, weight-append (λ r. 1) (marks p f) (marks (aiding c p) g)))))
    where
      both : (a b : Bool) → (a ≡ false) ⊎ (b ≡ false) → (a && b) ≡ false
      both false b h = refl
      both true b (inl e) = cc e
      both true b (inr e) = e
  not_halted p (in_other n f g) still some = refl

-- each side stands once, isn't round the term, and has somebody in it
pub record AreFull (p : Path) (m : Marked) : Type 0 where
  pub single : (nm : Name) → weight (is_side nm) (sides p m) ≤ 1
  pub outside : (nm : Name) → 1 ≤ weight (is_side nm) (sides p m) → in_name nm p ≡ false
  pub some : (nm : Name) → 1 ≤ weight (is_side nm) (sides p m) → 1 ≤ weight (row_at nm) (marks p m)

full_left : (p q : Path) (f g : Marked) (w : Name → ℕ) (m : Marked)
    → ((nm : Name) → weight (is_side nm) (sides p m) ≡ w nm + (weight (is_side nm) (sides p f) + weight (is_side nm) (sides q g)))
    → ((nm : Name) → weight (row_at nm) (marks p m) ≡ weight (row_at nm) (marks p f) + weight (row_at nm) (marks q g))
    → ((nm : Name) → in_name nm p ≡ false → w nm ≡ 0 → in_name nm q ≡ false)
    → AreFull p m → AreFull p f × AreFull q g
full_left p q f g w m parts rows out F = (
  record {
    single = λ nm. omega (arith, F.single nm, parts nm);
    outside = λ nm h. F.outside nm (omega (arith, h, parts nm));
    some = λ nm h.
        let o = F.outside nm (omega (arith, h, parts nm)) in
        omega (arith, F.some nm (omega (arith, h, parts nm)), rows nm, none_in nm q g (out nm o (omega (arith, h, parts nm, F.single nm))) (omega (arith, h, parts nm, F.single nm)));
  },
  record {
    single = λ nm. omega (arith, F.single nm, parts nm);
    outside = λ nm h. out nm (F.outside nm (omega (arith, h, parts nm))) (omega (arith, h, parts nm, F.single nm));
    some = λ nm h.
        let o = F.outside nm (omega (arith, h, parts nm)) in
        omega (arith, F.some nm (omega (arith, h, parts nm)), rows nm, none_in nm p f o (omega (arith, h, parts nm, F.single nm)));
  },
)

module _ (defs : List Definition) where
  -- nothing can move
  pub none_moves : (p : Path) (m : Marked) → AreStill defs p m → AreFull p m → movable defs m ≡ 0
  none_moves p ended still F = refl
  none_moves p (token s t) still F = ap one (still (stands s t p) (inl refl)).0
  none_moves p (in_call k) still F = refl
  none_moves p (in_par f g) still F =
      let d = full_left p p f g (λ nm. 0) (in_par f g) (λ nm. omega (arith, weight-append (is_side nm) (sides p f) (sides p g))) (λ nm. weight-append (row_at nm) (marks p f) (marks p g)) (λ nm h e. h) F in
      omega (
        arith,
        none_moves p f (λ r i. still r (in_front r (marks p f) (marks p g) i)) d.0,
        none_moves p g (λ r i. still r (in_back r (marks p f) (marks p g) i)) d.1,
      )
  none_moves p (in_seq f x g) still F =
      none_moves (feeding x g p) f still (record { single = F.single; outside = λ nm h. feeding_same nm x g p ∙ F.outside nm h; some = F.some })
  none_moves p (in_opened f c g) still F =
      let d = full_left p (aiding c p) f g (λ nm. once nm (cell c)) (in_opened f c g) (λ nm. omega (arith, weight-append (is_side nm) (sides p f) (sides (aiding c p) g))) (λ nm. weight-append (row_at nm) (marks p f) (marks (aiding c p) g)) (λ nm h e. aiding_out nm c p h e) F in
      let is : once (cell c) (cell c) ≡ 1 = ap (λ b. cond {A = ℕ} b 1 0) (eq-eqb c c refl) in
      let parts = weight-append (is_side (cell c)) (sides p f) (sides (aiding c p) g) in
      let none : weight (row_at (cell c)) (marks p f) ≡ 0 = none_in (cell c) p f (F.outside (cell c) (omega (arith, is))) (omega (arith, is, parts, F.single (cell c))) in
      let some : 1 ≤ weight (λ r. 1) (marks (aiding c p) g) = omega (arith, F.some (cell c) (omega (arith, is)), weight-append (row_at (cell c)) (marks p f) (marks (aiding c p) g), none, weight-least (row_at (cell c)) (λ r. 1) (marks (aiding c p) g) (row_least (cell c))) in
      let still_g : AreStill defs (aiding c p) g = λ r i. still r (in_back r (marks p f) (marks (aiding c p) g) i) in
      omega (
        arith,
        none_moves p f (λ r i. still r (in_front r (marks p f) (marks (aiding c p) g) i)) d.0,
        none_moves (aiding c p) g still_g d.1,
        ap one (not_halted defs (aiding c p) g still_g some),
      )
  none_moves p (in_other n f g) still F =
      let is : once (mark n) (mark n) ≡ 1 = ap (λ b. cond {A = ℕ} b 1 0) (eq-eqb n n refl) in
      let some : 1 ≤ weight (λ r. 1) (marks (trying n p) f) = omega (arith, F.some (mark n) (omega (arith, is)), weight-least (row_at (mark n)) (λ r. 1) (marks (trying n p) f) (row_least (mark n))) in
      omega (
        arith,
        none_moves (trying n p) f still
            (record {
              single = λ nm. omega (arith, F.single nm);
              outside = λ nm h. trying_out nm n p (F.outside nm (omega (arith, h))) (omega (arith, h, F.single nm));
              some = λ nm h. F.some nm (omega (arith, h));
            }),
        ap one (not_halted defs (trying n p) f still some),
      )
