-- Tokens that are known to wait, as slots are written over and others come.
use Rattle.std.proofs.Common.{◌≡◌, ◌≤◌, ◌+◌, ℕ, zero, suc, List, [], ◌∷◌, refl, sym, ap, ◌∙◌, subst, arith, Bool, true, false, cond, length, Option, Some, None}
use Rattle.std.proofs.lemmas.Bool.{lt-ltb}
use Rattle.std.specs.Prelude.{slice_get, slice_set}
use Rattle.orc_rules.specs.Timed.{IsIn}
use Rattle.orc_indexes.specs.Same.{weight}
use Rattle.orc_indexes.specs.Parking.{Parked, is_set, notes_at, one, IsNoted}
use Rattle.orc_tables.specs.Tokens.{Slots, live, is_live, IsHeld, AreHeld, IsParked, StayParked, StayBut}
use Rattle.orc_indexes.specs.declared.wait_index.Note.{Note}
use Rattle.orc_tables.specs.declared.records.Token.{Token}
use Rattle.orc_indexes.proofs.Lists.{set-elsewhere}
use Rattle.orc_indexes.proofs.Flags.{was-set}
use Rattle.orc_tables.proofs.Slots.{live-in}

-- ---- slots whose flag is set hold a token

live_long : (t : Token) (ts : List Token) (b : Bool) → is_live t ≡ b → length (live (t ∷ ts)) ≡ one b + length (live ts)
live_long t ts b e = ap (λ z. length (cond z (t ∷ live ts) (live ts))) e ∙ go b
  where
    go : (b : Bool) → length (cond b (t ∷ live ts) (live ts)) ≡ one b + length (live ts)
    go true = omega arith
    go false = omega arith

held_live : (t : Token) (ts : List Token) → ((u : Token) × IsHeld (t ∷ ts) 0 u) → is_live t ≡ true
held_live t ts (u, h) = lt-ltb 0 t.serial (omega (arith, h.1, ap serial_or h.0))
  where
    serial_or : Option Token → ℕ
    serial_or (Some z) = z.serial
    serial_or None = 0

set_few : (ts : List Token) (bs : List Bool) → AreHeld ts bs → weight one bs ≤ length (live ts)
set_few ts [] H = omega arith
set_few [] (true ∷ bs) H = cc (H 0 refl).1.0
set_few [] (false ∷ bs) H = omega (arith, set_few [] bs (λ k h. absurd (cc (H (suc k) h).1.0)))
set_few (t ∷ ts) (true ∷ bs) H = omega (arith, live_long t ts true (held_live t ts (H 0 refl)), set_few ts bs (λ k h. H (suc k) h))
set_few (t ∷ ts) (false ∷ bs) H = omega (arith, live_long t ts (is_live t) refl, set_few ts bs (λ k h. H (suc k) h))

some_in : {X : Type 0} (x : X) (xs : List X) → IsIn x xs → 1 ≤ length xs
some_in x [] h = elim h [ ]
some_in x (y ∷ xs) h = omega arith

-- where as many flags are set as there are tokens, each token's is
pub all-set : (ts : List Token) (bs : List Bool) → AreHeld ts bs → weight one bs ≡ length (live ts) → (k : ℕ) (t : Token) → IsHeld ts k t → is_set bs k ≡ true
all-set [] bs H e k u h = cc h.0
all-set (t ∷ ts) [] H e k u h = absurd (omega (arith, e, some_in u (live (t ∷ ts)) (live-in (t ∷ ts) k u h)))
all-set (t ∷ ts) (true ∷ bs) H e zero u h = refl
all-set (t ∷ ts) (false ∷ bs) H e zero u h = absurd (omega (arith, e, live_long t ts true (held_live t ts (u, h)), set_few ts bs (λ k i. H (suc k) i)))
all-set (t ∷ ts) (true ∷ bs) H e (suc k) u h = all-set ts bs (λ j i. H (suc j) i) (omega (arith, e, live_long t ts true (held_live t ts (H 0 refl)))) k u h
all-set (t ∷ ts) (false ∷ bs) H e (suc k) u h = all-set ts bs (λ j i. H (suc j) i) (omega (arith, e, live_long t ts (is_live t) refl, set_few ts bs (λ j i. H (suc j) i))) k u h

-- a slot is written over, and its flag is not set
module _ (ts : List Token) (bs : List Bool) (slot : ℕ) (u : Token) where
  pub held-set : AreHeld ts bs → AreHeld (slice_set ts slot u) (slice_set bs slot false)
  held-set H k h = let r = was-set bs slot k h in let o = H k r.1 in (o.0, (set-elsewhere ts slot k u r.0 ∙ o.1.0, o.1.1))

  pub stay-set : (k : ℕ) (t : Token) → IsHeld (slice_set ts slot u) k t → is_set (slice_set bs slot false) k ≡ true → IsHeld ts k t × (is_set bs k ≡ true)
  stay-set k t h f = let r = was-set bs slot k f in ((sym (set-elsewhere ts slot k u r.0) ∙ h.0, h.1), r.1)

-- a token comes beside those that are there
module _ (ts ts' : List Token) (bs : List Bool) (H : AreHeld ts bs) (others : (k : ℕ) (t : Token) → IsHeld ts k t → IsHeld ts' k t) where
  pub held-more : AreHeld ts' bs
  held-more k h = let o = H k h in (o.0, others k o.0 o.1)

  pub stay-more : (k : ℕ) (t : Token) → IsHeld ts' k t → is_set bs k ≡ true → IsHeld ts k t
  stay-more k t h f =
      let o = H k f in
      let same : Some (o.0) ≡ Some t = sym (others k o.0 o.1).0 ∙ h.0 in
      (o.1.0 ∙ same, h.1)

-- ---- what is parked, from one change to the next

pub stay-on : (x y z : Slots) → StayParked x y → StayParked y z → StayParked x z
stay-on x y z f g k t h = let b = g k t h in let a = f k t b.0 in (a.0, λ c i. b.1 c (a.1 c i))

pub stay-same : (x y : Slots) → y.items ≡ x.items → y.parked ≡ x.parked → StayParked x y
stay-same x y items parked k t h = (((ap (λ z. slice_get z k) (sym items) ∙ h.0.0, h.0.1), ap (λ (q : Parked). is_set q.flags k) (sym parked) ∙ h.1), λ c i. subst (λ (q : Parked). IsNoted q c k t.serial) (sym parked) i)

-- a slot is written over, and its flag is cleared
module _ (ts ts' : List Token) (q q' : Parked) (slot : ℕ) (u : Token) (items : ts' ≡ slice_set ts slot u) (flags : q'.flags ≡ slice_set q.flags slot false) where
  pub held-cleared : AreHeld ts q.flags → AreHeld ts' q'.flags
  held-cleared H k h = let o = held-set ts q.flags slot u H k (ap (λ z. is_set z k) (sym flags) ∙ h) in (o.0, (ap (λ z. slice_get z k) items ∙ o.1.0, o.1.1))

  pub stay-cleared : q'.notes ≡ q.notes → (k : ℕ) (t : Token) → IsParked ts' q' k t → IsParked ts q k t × ((c : ℕ) → IsNoted q c k t.serial → IsNoted q' c k t.serial)
  stay-cleared notes k t h =
      let r = stay-set ts q.flags slot u k t (ap (λ z. slice_get z k) (sym items) ∙ h.0.0, h.0.1) (ap (λ z. is_set z k) (sym flags) ∙ h.1) in
      (r, λ c i. subst (λ (z : List (List Note)). IsIn (record { slot = k; serial = t.serial }) (notes_at z c)) (sym notes) i)

pub stay-added : (ts ts' : List Token) (q : Parked) → AreHeld ts q.flags → ((k : ℕ) (t : Token) → IsHeld ts k t → IsHeld ts' k t) → (k : ℕ) (t : Token) → IsParked ts' q k t → IsParked ts q k t × ((c : ℕ) → IsNoted q c k t.serial → IsNoted q c k t.serial)
stay-added ts ts' q H others k t h = ((stay-more ts ts' q.flags H others k t h.0 h.1, h.1), λ c i. i)

pub stay-but : (x y z : Slots) (c : ℕ) → StayParked x y → StayBut c y z → StayBut c x z
stay-but x y z c f g k t h = let b = g k t h in let a = f k t b.0 in (a.0, λ i. b.1 (a.1 c i), λ d off i. b.2 d off (a.1 d i))
