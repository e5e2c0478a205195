-- The row of a token is the only one with its mark: so what an entry finds in the marked term is what the records say.
use Rattle.std.proofs.Common.{◌≡◌, ◌≤◌, ℕ, ◌+◌, List, [], ◌∷◌, ◌++◌, refl, sym, ap, ◌∙◌, arith, inl, inr, cond, eq-eqb}
use Rattle.orc_rules.specs.declared.value.Value.{Value}
use Rattle.orc_rules.specs.declared.param.Param.TheVariants.{Is}
use Rattle.orc_rules.specs.Term.{Term, param}
use Rattle.orc_rules.specs.Step.{Act, calls, returns, binds, loses, publishes, silent, opens, IsInner, within}
use Rattle.orc_rules.specs.Marked.{Marked, token, Replaces, here, in_left, in_right, in_feeding, in_main, in_side, in_entered, Emits, emits, on_left, on_right, on_feeding, is_fed, on_main, on_side, is_bound, on_entered, passes, ended, in_call, in_par, in_seq, in_opened, in_other}
use Rattle.orc_rules.specs.Timed.{IsIn}
use Rattle.orc_rules.specs.Numbered.{mark, once, times}
use Rattle.orc_indexes.specs.Same.{weight}
use Rattle.orc_frames.specs.Spelling.{Path, whole, feeding, aiding, trying, Row, stands, pends, marks, Numbered, right_of, left_of, sides}
use Rattle.orc_frames.specs.Doing.{taken}
use Rattle.orc_frames.specs.declared.action.Action.{Action}
use Rattle.orc_frames.specs.declared.action.Action.TheVariants.{Halt, Send, Bind}
use Rattle.orc_indexes.proofs.Weight.{weight-least, weight-in, weight-append}
use Rattle.orc_frames.proofs.Around.{is_row, by, by-self}
use Rattle.orc_frames.proofs.Equal.{same_row}

-- a token's mark, and an otherwise's number
abbrev pub is_mark : ℕ → Row → ℕ
is_mark n (stands s t p) = once (mark n) (mark s)
is_mark n (pends k p) = 0

abbrev pub has_published_at : ℕ → Numbered → ℕ
has_published_at n (right_of d p) = 0
has_published_at n (left_of m g p) = once (mark n) (mark m)

pub times-marks : (n : ℕ) (p : Path) (m : Marked) → times (mark n) m ≡ weight (is_mark n) (marks p m) + weight (has_published_at n) (sides p m)
times-marks n p ended = refl
times-marks n p (token s t) = omega arith
times-marks n p (in_call j) = refl
times-marks n p (in_par f g) = omega (arith, times-marks n p f, times-marks n p g, weight-append (is_mark n) (marks p f) (marks p g), weight-append (has_published_at n) (sides p f) (sides p g))
times-marks n p (in_seq f x g) = times-marks n (feeding x g p) f
times-marks n p (in_opened f d g) = omega (arith, times-marks n p f, times-marks n (aiding d p) g, weight-append (is_mark n) (marks p f) (marks (aiding d p) g), weight-append (has_published_at n) (sides p f) (sides (aiding d p) g))
times-marks n p (in_other j f g) = omega (arith, times-marks n (trying j p) f)

pub in_front : {X : Type 0} (x : X) (us vs : List X) → IsIn x us → IsIn x (us ++ vs)
in_front x (w ∷ us) vs (inl e) = inl e
in_front x (w ∷ us) vs (inr h) = inr (in_front x us vs h)
in_front x [] vs h = elim h [ ]

pub in_back : {X : Type 0} (x : X) (us vs : List X) → IsIn x vs → IsIn x (us ++ vs)
in_back x [] vs h = h
in_back x (w ∷ us) vs h = inr (in_back x us vs h)

-- a token that stands there has a row
pub stands_row : {s : ℕ} {u : Term} {y m m' : Marked} {cs : List ℕ} → Replaces (token s u) y m cs m' → (p : Path) → (q : Path) × IsIn (stands s u q) (marks p m)
stands_row here p = (p, inl refl)
stands_row (in_left {f = f} {g = g} r) p = let d = stands_row r p in (d.0, in_front _ (marks p f) (marks p g) d.1)
stands_row (in_right {f = f} {g = g} r) p = let d = stands_row r p in (d.0, in_back _ (marks p f) (marks p g) d.1)
stands_row (in_feeding {z = z} {g = g} r) p = stands_row r (feeding z g p)
stands_row (in_main {f = f} {g = g} {c = c} r) p = let d = stands_row r p in (d.0, in_front _ (marks p f) (marks (aiding c p) g) d.1)
stands_row (in_side {f = f} {g = g} {c = c} r) p = let d = stands_row r (aiding c p) in (d.0, in_back _ (marks p f) (marks (aiding c p) g) d.1)
stands_row (in_entered {n = n} r) p = stands_row r (trying n p)

-- what an act says of a publication from a path
abbrev pub acted : Value → Path → Act → Action
acted v p (publishes w) = taken v p
acted v p silent = Send v
acted v p (binds c w) = Bind c v
acted v p _ = Halt

acted_inner : (v : Value) (p q : Path) (b : Act) → IsInner b → acted v p b ≡ acted v q b
acted_inner v p q (publishes w) h = elim h [ ]
acted_inner v p q silent h = refl
acted_inner v p q (binds c w) h = refl
acted_inner v p q (calls k m args cs) h = refl
acted_inner v p q (returns k a) h = refl
acted_inner v p q (loses c) h = refl
acted_inner v p q (opens c) h = refl

acted_within : (v : Value) (p : Path) (c : ℕ) (b : Act) → acted v p (within c b) ≡ acted v p b
acted_within v p c (publishes w) = refl
acted_within v p c silent = refl
acted_within v p c (binds d w) = refl
acted_within v p c (calls k m args cs) = refl
acted_within v p c (returns k a) = refl
acted_within v p c (loses d) = refl
acted_within v p c (opens d) = refl

-- a token that publishes has a row, whose path says what takes the value
pub emits_row : {s a : ℕ} {v : Value} {m m' : Marked} {b : Act} → Emits s a v m b m' → (p : Path) → (q : Path) × IsIn (stands s (param (Is v)) q) (marks p m) × (taken v q ≡ acted v p b)
emits_row emits p = (p, inl refl, refl)
emits_row (on_left {f = f} {g = g} e) p = let d = emits_row e p in (d.0, in_front _ (marks p f) (marks p g) d.1, d.2)
emits_row (on_right {f = f} {g = g} e) p = let d = emits_row e p in (d.0, in_back _ (marks p f) (marks p g) d.1, d.2)
emits_row {v = v} (on_feeding {z = z} {g = g} {b = b} i e) p = let d = emits_row e (feeding z g p) in (d.0, d.1, d.2 ∙ acted_inner v (feeding z g p) p b i)
emits_row (is_fed {z = z} {g = g} e) p = emits_row e (feeding z g p)
emits_row (on_main {f = f} {g = g} {c = c} e) p = let d = emits_row e p in (d.0, in_front _ (marks p f) (marks (aiding c p) g) d.1, d.2)
emits_row {v = v} (on_side {f = f} {g = g} {c = c} {b = b} i e) p =
    let d = emits_row e (aiding c p) in
    (d.0, in_back _ (marks p f) (marks (aiding c p) g) d.1, d.2 ∙ acted_inner v (aiding c p) p b i ∙ sym (acted_within v p c b))
emits_row (is_bound {f = f} {g = g} {c = c} e) p = let d = emits_row e (aiding c p) in (d.0, in_back _ (marks p f) (marks (aiding c p) g) d.1, d.2)
emits_row {v = v} (on_entered {n = n} {b = b} i e) p = let d = emits_row e (trying n p) in (d.0, d.1, d.2 ∙ acted_inner v (trying n p) p b i)
emits_row (passes {n = n} e) p = emits_row e (trying n p)

weight-both : {X : Type 0} (v w : X → ℕ) (xs : List X) → weight (λ x. v x + w x) xs ≡ weight v xs + weight w xs
weight-both v w [] = refl
weight-both v w (x ∷ xs) = omega (arith, weight-both v w xs)

-- a mark stands once, so two rows with it are the same
module _ (n : ℕ) (u v : Term) (p q : Path) where
  each_row : ((stands n u p ≡ stands n v q) → ⊥) → (x : Row) → is_row (stands n u p) x + is_row (stands n v q) x ≤ is_mark n x
  each_row apart (pends k r) = go (same_row (pends k r) (stands n u p)) (same_row (pends k r) (stands n v q))
    where
      go : (d : Dec (pends k r ≡ stands n u p)) (e : Dec (pends k r ≡ stands n v q)) → by d + by e ≤ 0
      go (yes e) f = cc e
      go (no h) (yes e) = cc e
      go (no h) (no j) = omega arith
  each_row apart (stands m w r) = go (same_row (stands m w r) (stands n u p)) (same_row (stands m w r) (stands n v q))
    where
      one : n ≡ m → once (mark n) (mark m) ≡ 1
      one e = ap (λ b. cond {A = ℕ} b 1 0) (eq-eqb n m e)

      go : (d : Dec (stands m w r ≡ stands n u p)) (e : Dec (stands m w r ≡ stands n v q)) → by d + by e ≤ once (mark n) (mark m)
      go (yes e) (yes f) = absurd (apart (sym e ∙ f))
      go (yes e) (no h) = let same : n ≡ m = cc e in omega (arith, one same)
      go (no h) (yes f) = let same : n ≡ m = cc f in omega (arith, one same)
      go (no h) (no j) = omega arith

  pub one_row : (m : Marked) → times (mark n) m ≤ 1 → IsIn (stands n u p) (marks whole m) → IsIn (stands n v q) (marks whole m) → stands n u p ≡ stands n v q
  one_row m few i j = go (same_row (stands n u p) (stands n v q))
    where
      go : Dec (stands n u p ≡ stands n v q) → stands n u p ≡ stands n v q
      go (yes e) = e
      go (no apart) =
          absurd (omega (
            arith,
            few,
            times-marks n whole m,
            weight-least (λ x. is_row (stands n u p) x + is_row (stands n v q) x) (is_mark n) (marks whole m) (each_row apart),
            weight-both (is_row (stands n u p)) (is_row (stands n v q)) (marks whole m),
            weight-in (is_row (stands n u p)) (marks whole m) (stands n u p) i,
            weight-in (is_row (stands n v q)) (marks whole m) (stands n v q) j,
            by-self (same_row (stands n u p) (stands n u p)) refl,
            by-self (same_row (stands n v q) (stands n v q)) refl,
          ))
