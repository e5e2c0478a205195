-- What stands under a name is one part, and a publication has one taker.
use Rattle.std.proofs.Common.{◌≡◌, ◌≤◌, ℕ, [], ◌∷◌, refl, ap}
use Rattle.orc_rules.specs.declared.value.Value.{Value}
use Rattle.orc_rules.specs.declared.param.Param.TheVariants.{Is}
use Rattle.orc_rules.specs.Term.{Term, stop, param}
use Rattle.orc_rules.specs.Step.{Act}
use Rattle.orc_rules.specs.Marked.{Marked, ended, token, in_opened, in_other, here, in_left, in_right, in_feeding, in_main, in_side, in_entered, Emits, emits, on_left, on_right, on_feeding, is_fed, on_main, on_side, is_bound, on_entered, passes}
use Rattle.orc_rules.specs.Numbered.{mark, cell, times}
use Rattle.orc_rules.specs.Refusal.{Stands}
use Rattle.orc_rules.proofs.Lookup.{same_part}
use Rattle.orc_rules.proofs.Emitted.{same_taker}

abbrev term_of : Marked → Term
term_of (token s t) = t
term_of m = stop

abbrev left_of : Marked → Marked
left_of (in_opened f c g) = f
left_of (in_other s f g) = f
left_of m = m

abbrev right_of : Marked → Marked
right_of (in_opened f c g) = g
right_of m = m

abbrev otherwise_of : Marked → Term
otherwise_of (in_other s f g) = g
otherwise_of m = stop

-- a token stands on one term
pub token_one : (s : ℕ) (t t' : Term) (m : Marked) → times (mark s) m ≤ 1 → Stands (token s t) m → Stands (token s t') m → t ≡ t'
token_one s t t' m le a b = ap term_of (same_part (mark s) a.1 b.1 refl refl le)

-- a cell has one pruning
pub cell_one : (c : ℕ) (f g f' g' : Marked) (m : Marked) → times (cell c) m ≤ 1 → Stands (in_opened f c g) m → Stands (in_opened f' c g') m → (f ≡ f') × (g ≡ g')
cell_one c f g f' g' m le a b = let e = same_part (cell c) a.1 b.1 refl refl le in (ap left_of e, ap right_of e)

-- a number has one otherwise
pub other_one : (s : ℕ) (f f' : Marked) (g g' : Term) (m : Marked) → times (mark s) m ≤ 1 → Stands (in_other s f g) m → Stands (in_other s f' g') m → (f ≡ f') × (g ≡ g')
other_one s f f' g g' m le a b = let e = same_part (mark s) a.1 b.1 refl refl le in (ap left_of e, ap otherwise_of e)

-- a number is a token's or an otherwise's
pub token_no_other : (s : ℕ) (t : Term) (f : Marked) (g : Term) (m : Marked) → times (mark s) m ≤ 1 → Stands (token s t) m → Stands (in_other s f g) m → ⊥
token_no_other s t f g m le a b = cc (ap is_token (same_part (mark s) a.1 b.1 refl refl le))
  where
    is_token : Marked → ℕ
    is_token (token s t) = 1
    is_token m = 0

-- a token that publishes a value stands on it
pub emits_token : {s a : ℕ} {v : Value} {m m' : Marked} {b : Act} → Emits s a v m b m' → Stands (token s (param (Is v))) m
emits_token emits = ([], here)
emits_token (on_left e) = let r = emits_token e in (r.0, in_left r.1)
emits_token (on_right e) = let r = emits_token e in (r.0, in_right r.1)
emits_token (on_feeding i e) = let r = emits_token e in (r.0, in_feeding r.1)
emits_token (is_fed e) = let r = emits_token e in (r.0, in_feeding r.1)
emits_token (on_main e) = let r = emits_token e in (r.0, in_main r.1)
emits_token (on_side {c = c} i e) = let r = emits_token e in (c ∷ r.0, in_side r.1)
emits_token (is_bound {c = c} e) = let r = emits_token e in (c ∷ r.0, in_side r.1)
emits_token (on_entered i e) = let r = emits_token e in (r.0, in_entered r.1)
emits_token (passes e) = let r = emits_token e in (r.0, in_entered r.1)

abbrev value_or : Value → Term → Value
value_or w (param (Is v)) = v
value_or w t = w

-- so it publishes one value
pub value_one : {s a a' : ℕ} {v v' : Value} {m m' m'' : Marked} {b b' : Act} → times (mark s) m ≤ 1 → Emits s a v m b m' → Emits s a' v' m b' m'' → v ≡ v'
value_one {s} {v = v} {v' = v'} {m = m} le e e' = ap (value_or v) (token_one s (param (Is v)) (param (Is v')) m le (emits_token e) (emits_token e'))

-- the same publication with another new mark
pub renumbered : {s a : ℕ} {v : Value} {m m' : Marked} {b : Act} (n : ℕ) → Emits s a v m b m' → (m'' : Marked) × Emits s n v m b m''
renumbered n emits = (ended, emits)
renumbered n (on_left e) = let r = renumbered n e in (_, on_left r.1)
renumbered n (on_right e) = let r = renumbered n e in (_, on_right r.1)
renumbered n (on_feeding i e) = let r = renumbered n e in (_, on_feeding i r.1)
renumbered n (is_fed e) = let r = renumbered n e in (_, is_fed r.1)
renumbered n (on_main e) = let r = renumbered n e in (_, on_main r.1)
renumbered n (on_side i e) = let r = renumbered n e in (_, on_side i r.1)
renumbered n (is_bound e) = let r = renumbered n e in (_, is_bound r.1)
renumbered n (on_entered i e) = let r = renumbered n e in (_, on_entered i r.1)
renumbered n (passes e) = let r = renumbered n e in (_, passes r.1)

-- and it has one taker, whatever the new mark
pub act_one : {s a a' : ℕ} {v : Value} {m m' m'' : Marked} {b b' : Act} → times (mark s) m ≤ 1 → Emits s a v m b m' → Emits s a' v m b' m'' → b ≡ b'
act_one {a' = a'} le e e' = same_taker (renumbered a' e).1 e' le
