-- The place of a part in a whole.
use Rattle.std.proofs.Common.{◌≡◌, ℕ, List, [], ◌∷◌, ◌++◌, refl, ap}
use Rattle.orc_rules.specs.declared.value.Value.{Value}
use Rattle.orc_rules.specs.Term.{Term}
use Rattle.orc_rules.specs.Step.{silent, binds, publishes}
use Rattle.orc_rules.specs.Marked.{Marked, in_par, in_seq, in_opened, in_other, Replaces, here, in_left, in_right, in_feeding, in_main, in_side, in_entered, Emits, on_left, on_right, on_feeding, on_main, on_side, on_entered}
use Rattle.orc_subrun.specs.Grafts.{Branches, whole, on_left as to_left, on_right as to_right, on_main as to_main}

-- what stands around the part, from the outside in: nothing, a `|` with the part on its left or right, an open cell with it on its left or right side,
-- a `>x>` or an entered otherwise with it on its left side
pub data Hole : Type 0 where
  spot : Hole
  left_of : Hole → Marked → Hole
  right_of : Marked → Hole → Hole
  main_of : Hole → ℕ → Marked → Hole
  side_of : Marked → ℕ → Hole → Hole
  feed_of : Hole → ℕ → Term → Hole
  try_of : ℕ → Hole → Term → Hole

abbrev pub plug : Hole → Marked → Marked
plug spot m = m
plug (left_of h g) m = in_par (plug h m) g
plug (right_of f h) m = in_par f (plug h m)
plug (main_of h c g) m = in_opened (plug h m) c g
plug (side_of f c h) m = in_opened f c (plug h m)
plug (feed_of h x g) m = in_seq (plug h m) x g
plug (try_of n h g) m = in_other n (plug h m) g

-- the cells inside whose right sides the part stands, the outermost first
abbrev pub cells_round : Hole → List ℕ
cells_round spot = []
cells_round (left_of h g) = cells_round h
cells_round (right_of f h) = cells_round h
cells_round (main_of h c g) = cells_round h
cells_round (side_of f c h) = c ∷ cells_round h
cells_round (feed_of h x g) = cells_round h
cells_round (try_of n h g) = cells_round h

-- all that the part publishes the whole publishes
abbrev pub IsOpen : Hole → Type 0
IsOpen spot = Unit {0}
IsOpen (left_of h g) = IsOpen h
IsOpen (right_of f h) = IsOpen h
IsOpen (main_of h c g) = IsOpen h
IsOpen (side_of f c h) = ⊥
IsOpen (feed_of h x g) = ⊥
IsOpen (try_of n h g) = ⊥

-- the place at which one part becomes another
pub open_hole : {x y m m' : Marked} → Branches x y m m' → (h : Hole) × (m ≡ plug h x) × (m' ≡ plug h y) × IsOpen h
open_hole whole = (spot, refl, refl, tt)
open_hole (to_left {g = g} b) = let r = open_hole b in (left_of r.0 g, ap (λ f. in_par f g) r.1, ap (λ f. in_par f g) r.2, r.3)
open_hole (to_right {f = f} b) = let r = open_hole b in (right_of f r.0, ap (in_par f) r.1, ap (in_par f) r.2, r.3)
open_hole (to_main {g = g} {c = c} b) = let r = open_hole b in (main_of r.0 c g, ap (λ f. in_opened f c g) r.1, ap (λ f. in_opened f c g) r.2, r.3)

pub hole_of : {x y m m' : Marked} {cs : List ℕ} → Replaces x y m cs m' → (h : Hole) × (m ≡ plug h x) × (m' ≡ plug h y)
hole_of here = (spot, refl, refl)
hole_of (in_left {g = g} b) = let r = hole_of b in (left_of r.0 g, ap (λ f. in_par f g) r.1, ap (λ f. in_par f g) r.2)
hole_of (in_right {f = f} b) = let r = hole_of b in (right_of f r.0, ap (in_par f) r.1, ap (in_par f) r.2)
hole_of (in_feeding {z = z} {g = g} b) = let r = hole_of b in (feed_of r.0 z g, ap (λ f. in_seq f z g) r.1, ap (λ f. in_seq f z g) r.2)
hole_of (in_main {g = g} {c = c} b) = let r = hole_of b in (main_of r.0 c g, ap (λ f. in_opened f c g) r.1, ap (λ f. in_opened f c g) r.2)
hole_of (in_side {f = f} {c = c} b) = let r = hole_of b in (side_of f c r.0, ap (in_opened f c) r.1, ap (in_opened f c) r.2)
hole_of (in_entered {n = n} {g = g} b) = let r = hole_of b in (try_of n r.0 g, ap (λ f. in_other n f g) r.1, ap (λ f. in_other n f g) r.2)

-- what becomes of the part becomes of the whole
pub plug_replaces : {x y f f' : Marked} {cs : List ℕ} (h : Hole) → Replaces x y f cs f' → Replaces x y (plug h f) (cells_round h ++ cs) (plug h f')
plug_replaces spot r = r
plug_replaces (left_of h g) r = in_left (plug_replaces h r)
plug_replaces (right_of f h) r = in_right (plug_replaces h r)
plug_replaces (main_of h c g) r = in_main (plug_replaces h r)
plug_replaces (side_of f c h) r = in_side (plug_replaces h r)
plug_replaces (feed_of h x g) r = in_feeding (plug_replaces h r)
plug_replaces (try_of n h g) r = in_entered (plug_replaces h r)

-- what a `>x>` or a pruning in the part takes
pub plug_sends : {s a : ℕ} {v : Value} {f f' : Marked} (h : Hole) → Emits s a v f silent f' → Emits s a v (plug h f) silent (plug h f')
plug_sends spot e = e
plug_sends (left_of h g) e = on_left (plug_sends h e)
plug_sends (right_of f h) e = on_right (plug_sends h e)
plug_sends (main_of h c g) e = on_main (plug_sends h e)
plug_sends (side_of f c h) e = on_side tt (plug_sends h e)
plug_sends (feed_of h x g) e = on_feeding tt (plug_sends h e)
plug_sends (try_of n h g) e = on_entered tt (plug_sends h e)

pub plug_binds : {s a d : ℕ} {v w : Value} {f f' : Marked} (h : Hole) → Emits s a v f (binds d w) f' → Emits s a v (plug h f) (binds d w) (plug h f')
plug_binds spot e = e
plug_binds (left_of h g) e = on_left (plug_binds h e)
plug_binds (right_of f h) e = on_right (plug_binds h e)
plug_binds (main_of h c g) e = on_main (plug_binds h e)
plug_binds (side_of f c h) e = on_side tt (plug_binds h e)
plug_binds (feed_of h x g) e = on_feeding tt (plug_binds h e)
plug_binds (try_of n h g) e = on_entered tt (plug_binds h e)

-- and what it publishes
pub plug_publishes : {s a : ℕ} {v w : Value} {f f' : Marked} (h : Hole) → IsOpen h → Emits s a v f (publishes w) f' → Emits s a v (plug h f) (publishes w) (plug h f')
plug_publishes spot o e = e
plug_publishes (left_of h g) o e = on_left (plug_publishes h o e)
plug_publishes (right_of f h) o e = on_right (plug_publishes h o e)
plug_publishes (main_of h c g) o e = on_main (plug_publishes h o e)
plug_publishes (side_of f c h) o e = elim o [ ]
plug_publishes (feed_of h x g) o e = elim o [ ]
plug_publishes (try_of n h g) o e = elim o [ ]
