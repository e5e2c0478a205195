-- A side that has halted by the rules: no call pends in it, and what stands under its tokens has halted.
use Rattle.std.proofs.Common.{◌≡◌, ◌≤◌, ℕ, ◌+◌, List, refl, sym, ap, ◌∙◌, arith, Bool, true, false, cond, nat_eq, eq-eqb, not}
use Rattle.std.proofs.lemmas.Bool.{eqb-true}
use Rattle.std.specs.Prelude.{◌&&◌}
use Rattle.orc_rules.specs.Term.{Term, Halted}
use Rattle.orc_rules.specs.Idle.{has_halted}
use Rattle.orc_rules.specs.Nodes.{Listing, code}
use Rattle.orc_rules.specs.Sites.{Site}
use Rattle.orc_rules.specs.Marked.{Marked, ended, token, in_call, in_par, in_seq, in_opened, in_other, erase, Replaces, here, in_left, in_right, in_feeding, in_main, in_side, in_entered}
use Rattle.orc_rules.specs.Timed.{IsIn}
use Rattle.orc_rules.specs.Numbered.{Name, mark, call, cell}
use Rattle.orc_rules.proofs.Idle.{halted_test}
use Rattle.orc_indexes.specs.Same.{weight, only}
use Rattle.orc_frames.specs.Spelling.{Path, whole, feeding, aiding, trying, Row, stands, pends, marks, sides}
use Rattle.orc_ledger_spec.specs.Records.{Records, Lawful, its_path, token_row, call_row, group_side, side_at, is_over}
use Rattle.orc_frames.specs.Paths.{has_published}
use Rattle.orc_ledger_spec.specs.Doing.{term_of}
use Rattle.orc_tables.specs.declared.records.Token.{Token}
use Rattle.orc_tables.specs.declared.records.Call.{Call}
use Rattle.orc_tables.specs.declared.records.Side.{Side}
use Rattle.orc_tables.specs.declared.records.Side.TheVariants.{Right, Left}
use Rattle.orc_tables.specs.declared.records.Group.{Group}
use Rattle.orc_indexes.proofs.Weight.{weight-append, weight-in, weight-least, some-in}
use Rattle.orc_ledger_spec.proofs.Lists.{rows-weigh, sides-weigh}
use Rattle.orc_frames.proofs.Still.{in_name, row_at, is_side, aiding_out, trying_out, feeding_same, none_in}
use Rattle.orc_ledger_spec.proofs.Resting.{side_once}

-- 1 for a call, and for a token whose term hasn't halted, in the side of this name
abbrev pub live_at : Name → Row → ℕ
live_at nm (stands s u p) = cond (in_name nm p && not (has_halted u)) 1 0
live_at nm (pends k p) = cond (in_name nm p) 1 0

live_least : (nm : Name) (r : Row) → live_at nm r ≤ row_at nm r
live_least nm (stands s u p) = go (in_name nm p) (has_halted u)
  where
    go : (a b : Bool) → cond {A = ℕ} (a && not b) 1 0 ≤ cond a 1 0
    go true true = omega arith
    go true false = omega arith
    go false b = omega arith
live_least nm (pends k p) = omega arith

-- in a term that has halted there is none
halted_rows : (nm : Name) (p : Path) (m : Marked) → Halted (erase m) → weight (live_at nm) (marks p m) ≡ 0
halted_rows nm p ended h = refl
halted_rows nm p (token s t) h = go (in_name nm p) (has_halted t) (halted_test t h)
  where
    go : (a b : Bool) → b ≡ true → cond {A = ℕ} (a && not b) 1 0 + 0 ≡ 0
    go true true e = refl
    go true false e = cc e
    go false b e = refl
halted_rows nm p (in_call k) h = elim h [ ]
halted_rows nm p (in_par f g) h = omega (arith, weight-append (live_at nm) (marks p f) (marks p g), halted_rows nm p f h.0, halted_rows nm p g h.1)
halted_rows nm p (in_seq f x g) h = halted_rows nm (feeding x g p) f h
halted_rows nm p (in_opened f c g) h = omega (arith, weight-append (live_at nm) (marks p f) (marks (aiding c p) g), halted_rows nm p f h.0, halted_rows nm (aiding c p) g h.1)
halted_rows nm p (in_other n f g) h = elim h [ ]

-- where the side isn't in the term, and it isn't in the side
none_live : (nm : Name) (p : Path) (m : Marked) → in_name nm p ≡ false → weight (is_side nm) (sides p m) ≡ 0 → weight (live_at nm) (marks p m) ≡ 0
none_live nm p m out no_side = omega (arith, weight-least (live_at nm) (row_at nm) (marks p m) (live_least nm), none_in nm p m out no_side)

self : (n : ℕ) → cond {A = ℕ} (nat_eq n n) 1 0 ≡ 1
self n = ap (λ b. cond {A = ℕ} b 1 0) (eq-eqb n n refl)

module _ (nm : Name) (x : Marked) (stands_there : (p : Path) → 1 ≤ weight (is_side nm) (sides p x)) (is_done : (p : Path) → in_name nm p ≡ false → weight (is_side nm) (sides p x) ≤ 1 → weight (live_at nm) (marks p x) ≡ 0) where
  -- a part with the side, in which nobody lives
  some_side : {y m m' : Marked} {cs : List ℕ} → Replaces x y m cs m' → (p : Path) → 1 ≤ weight (is_side nm) (sides p m)
  some_side here p = stands_there p
  some_side (in_left {f = f} {g = g} r) p = omega (arith, some_side r p, weight-append (is_side nm) (sides p f) (sides p g))
  some_side (in_right {f = f} {g = g} r) p = omega (arith, some_side r p, weight-append (is_side nm) (sides p f) (sides p g))
  some_side (in_feeding {z = z} {g = g} r) p = some_side r (feeding z g p)
  some_side (in_main {f = f} {g = g} {c = c} r) p = omega (arith, some_side r p, weight-append (is_side nm) (sides p f) (sides (aiding c p) g))
  some_side (in_side {f = f} {g = g} {c = c} r) p = omega (arith, some_side r (aiding c p), weight-append (is_side nm) (sides p f) (sides (aiding c p) g))
  some_side (in_entered {n = n} r) p = omega (arith, some_side r (trying n p))

  nobody_lives : {y m m' : Marked} {cs : List ℕ} → Replaces x y m cs m' → (p : Path) → in_name nm p ≡ false → weight (is_side nm) (sides p m) ≤ 1 → weight (live_at nm) (marks p m) ≡ 0
  nobody_lives here p out few = is_done p out few
  nobody_lives (in_left {f = f} {g = g} r) p out few =
      let parts = weight-append (is_side nm) (sides p f) (sides p g) in
      omega (
        arith,
        weight-append (live_at nm) (marks p f) (marks p g),
        nobody_lives r p out (omega (arith, few, parts)),
        none_live nm p g out (omega (arith, few, parts, some_side r p)),
      )
  nobody_lives (in_right {f = f} {g = g} r) p out few =
      let parts = weight-append (is_side nm) (sides p f) (sides p g) in
      omega (
        arith,
        weight-append (live_at nm) (marks p f) (marks p g),
        none_live nm p f out (omega (arith, few, parts, some_side r p)),
        nobody_lives r p out (omega (arith, few, parts)),
      )
  nobody_lives (in_feeding {z = z} {g = g} r) p out few = nobody_lives r (feeding z g p) (feeding_same nm z g p ∙ out) few
  nobody_lives (in_main {f = f} {g = g} {c = c} r) p out few =
      let parts = weight-append (is_side nm) (sides p f) (sides (aiding c p) g) in
      omega (
        arith,
        weight-append (live_at nm) (marks p f) (marks (aiding c p) g),
        nobody_lives r p out (omega (arith, few, parts)),
        none_live nm (aiding c p) g (aiding_out nm c p out (omega (arith, few, parts, some_side r p))) (omega (arith, few, parts, some_side r p)),
      )
  nobody_lives (in_side {f = f} {g = g} {c = c} r) p out few =
      let parts = weight-append (is_side nm) (sides p f) (sides (aiding c p) g) in
      let some = some_side r (aiding c p) in
      omega (
        arith,
        weight-append (live_at nm) (marks p f) (marks (aiding c p) g),
        none_live nm p f out (omega (arith, few, parts, some)),
        nobody_lives r (aiding c p) (aiding_out nm c p out (omega (arith, few, parts, some))) (omega (arith, few, parts)),
      )
  nobody_lives (in_entered {n = n} r) p out few =
      let some = some_side r (trying n p) in
      nobody_lives r (trying n p) (trying_out nm n p out (omega (arith, few, some))) (omega (arith, few))

nowhere : (nm : Name) → in_name nm whole ≡ false
nowhere (cell c) = refl
nowhere (mark n) = refl
nowhere (call k) = refl

-- the right side of a cell that has halted
module _ (c : ℕ) (f g : Marked) (halted : Halted (erase g)) where
  right_there : (p : Path) → 1 ≤ weight (is_side (cell c)) (sides p (in_opened f c g))
  right_there p = omega (arith, self c)

  right_done : (p : Path) → in_name (cell c) p ≡ false → weight (is_side (cell c)) (sides p (in_opened f c g)) ≤ 1 → weight (live_at (cell c)) (marks p (in_opened f c g)) ≡ 0
  right_done p out few =
      omega (
        arith,
        weight-append (live_at (cell c)) (marks p f) (marks (aiding c p) g),
        halted_rows (cell c) (aiding c p) g halted,
        none_live (cell c) p f out (omega (arith, few, self c, weight-append (is_side (cell c)) (sides p f) (sides (aiding c p) g))),
      )

-- the left side of an otherwise that has halted
module _ (n : ℕ) (f : Marked) (g : Term) (halted : Halted (erase f)) where
  left_there : (p : Path) → 1 ≤ weight (is_side (mark n)) (sides p (in_other n f g))
  left_there p = omega (arith, self n)

  left_done : (p : Path) → in_name (mark n) p ≡ false → weight (is_side (mark n)) (sides p (in_other n f g)) ≤ 1 → weight (live_at (mark n)) (marks p (in_other n f g)) ≡ 0
  left_done p out few = halted_rows (mark n) (trying n p) f halted

module _ (l : Listing) (sites : List Site) (s : Records) (L : Lawful l sites s) where
  pub right-dead : (c : ℕ) (f g y m' : Marked) (cs : List ℕ) → Replaces (in_opened f c g) y L.place.marked cs m' → Halted (erase g) → weight (live_at (cell c)) (marks whole L.place.marked) ≡ 0
  right-dead c f g y m' cs r halted = nobody_lives (cell c) (in_opened f c g) (right_there c f g halted) (right_done c f g halted) r whole (nowhere (cell c)) (side_once l sites s L (cell c))

  pub left-dead : (n : ℕ) (f : Marked) (g : Term) (y m' : Marked) (cs : List ℕ) → Replaces (in_other n f g) y L.place.marked cs m' → Halted (erase f) → weight (live_at (mark n)) (marks whole L.place.marked) ≡ 0
  left-dead n f g y m' cs r halted = nobody_lives (mark n) (in_other n f g) (left_there n f g halted) (left_done n f g halted) r whole (nowhere (mark n)) (side_once l sites s L (mark n))

  pub right-some : (c : ℕ) (f g y m' : Marked) (cs : List ℕ) → Replaces (in_opened f c g) y L.place.marked cs m' → Halted (erase g) → 1 ≤ weight (is_side (cell c)) (sides whole L.place.marked)
  right-some c f g y m' cs r halted = some_side (cell c) (in_opened f c g) (right_there c f g halted) (right_done c f g halted) r whole

  pub left-some : (n : ℕ) (f : Marked) (g : Term) (y m' : Marked) (cs : List ℕ) → Replaces (in_other n f g) y L.place.marked cs m' → Halted (erase f) → 1 ≤ weight (is_side (mark n)) (sides whole L.place.marked)
  left-some n f g y m' cs r halted = some_side (mark n) (in_other n f g) (left_there n f g halted) (left_done n f g halted) r whole

  -- so no call of the records pends there, and the terms of their tokens there have halted
  module _ (nm : Name) (dead : weight (live_at nm) (marks whole L.place.marked) ≡ 0) where
    pub no-call : (c : Call) → IsIn c s.calls → in_name nm (its_path (code l) s c.step) ≡ false
    no-call c i = go (in_name nm (its_path (code l) s c.step)) (omega (arith, dead, rows-weigh l sites s L (live_at nm), weight-in (λ (k : Call). live_at nm (call_row (code l) s k)) s.calls c i))
      where
        go : (b : Bool) → cond {A = ℕ} b 1 0 ≡ 0 → b ≡ false
        go true h = absurd (omega (arith, h))
        go false h = refl

    pub token-done : (t : Token) → IsIn t s.tokens → in_name nm (its_path (code l) s t.step) ≡ true → has_halted (term_of (code l) s t) ≡ true
    token-done t i inn = go (in_name nm (its_path (code l) s t.step)) (has_halted (term_of (code l) s t)) inn (omega (arith, dead, rows-weigh l sites s L (live_at nm), weight-in (λ (k : Token). live_at nm (token_row (code l) s k)) s.tokens t i))
      where
        go : (a b : Bool) → a ≡ true → cond {A = ℕ} (a && not b) 1 0 ≡ 0 → b ≡ true
        go true true e h = refl
        go true false e h = absurd (omega (arith, h))
        go false b e h = cc e

  -- an open side is a group's
  once_is : (n m : ℕ) → 1 ≤ cond {A = ℕ} (nat_eq n m) 1 0 → n ≡ m
  once_is n m h = go (nat_eq n m) refl h
    where
      go : (b : Bool) → nat_eq n m ≡ b → 1 ≤ cond {A = ℕ} b 1 0 → n ≡ m
      go true e h = eqb-true n m e
      go false e h = absurd (omega (arith, h))

  only_not : (b : Bool) (k : ℕ) → 1 ≤ cond {A = ℕ} (not b) k 0 → (b ≡ false) × (1 ≤ k)
  only_not true k h = absurd (omega (arith, h))
  only_not false k h = (refl, h)

  a_group : (nm : Name) → 1 ≤ weight (is_side nm) (sides whole L.place.marked) → (g : Group) × IsIn g s.groups × (is_over (code l) s g.side ≡ false) × (1 ≤ is_side nm (group_side (code l) s g))
  a_group nm some =
      let d = some-in (only (λ (g : Group). not (is_over (code l) s g.side)) (λ g. is_side nm (group_side (code l) s g))) s.groups (omega (arith, some, sides-weigh l sites s L (is_side nm))) in
      let o = only_not (is_over (code l) s d.0.side) (is_side nm (group_side (code l) s d.0)) d.2 in
      (d.0, d.1, o.0, o.1)

  right_is : (c : ℕ) (p : Path) (k : Side) → 1 ≤ is_side (cell c) (side_at (code l) s p k) → k ≡ Right c
  right_is c p (Right d) h = ap Right (sym (once_is c d h))
  right_is c p (Left m f scope) h = absurd (omega (arith, h))

  left_is : (n : ℕ) (p : Path) (k : Side) → is_over (code l) s k ≡ false → 1 ≤ is_side (mark n) (side_at (code l) s p k) → (f : ℕ) × (scope : ℕ) × (k ≡ Left n f scope) × (has_published s.steps n ≡ false)
  left_is n p (Right d) over h = absurd (omega (arith, h))
  left_is n p (Left m f scope) over h = let same : n ≡ m = once_is n m h in (f, scope, ap (λ z. Left z f scope) (sym same), ap (has_published s.steps) same ∙ over)

  pub right-group : (c : ℕ) → 1 ≤ weight (is_side (cell c)) (sides whole L.place.marked) → (g : Group) × IsIn g s.groups × (g.side ≡ Right c)
  right-group c some = let d = a_group (cell c) some in (d.0, d.1, right_is c (its_path (code l) s d.0.outer) d.0.side d.3)

  pub left-group : (n : ℕ) → 1 ≤ weight (is_side (mark n)) (sides whole L.place.marked) → (g : Group) × IsIn g s.groups × (f : ℕ) × (scope : ℕ) × (g.side ≡ Left n f scope) × (has_published s.steps n ≡ false)
  left-group n some =
      let d = a_group (mark n) some in
      let k = left_is n (its_path (code l) s d.0.outer) d.0.side d.2 d.3 in
      (d.0, d.1, k.0, k.1, k.2, k.3)
