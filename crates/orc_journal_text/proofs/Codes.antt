-- What is read was spelled so, and what is spelled so is read, whatever follows it.
use Rattle.std.proofs.Common.{◌≡◌, ℕ, zero, suc, ◌-◌, ◌^◌, ◌<◌, Bool, true, false, cond, List, [], ◌∷◌, ◌++◌, Option, Some, None, refl, sym, ap, subst, ◌∙◌, append_assoc, arith, ◌&&◌, nat_lt, ◌==◌}
use Rattle.std.specs.Prelude.{option_map, codes, decimal}
use Rattle.std.specs.Char.{is_ascii_digit}
use Rattle.std.proofs.lemmas.Bool.{eqb-true}
use Rattle.std.proofs.lemmas.Grind.{common_steps}
use Rattle.std.proofs.Common.{inl, inr, ◌⊎◌}
use Rattle.std.specs.Prelude.{pos, negsuc}
use Rattle.std.proofs.lemmas.Bool.{ltb-true, lt-ltb, false≢true}
use Rattle.std.proofs.lemmas.Option.{cond_some}
use Rattle.orc_rules.specs.declared.value.Value.{Value}
use Rattle.orc_rules.specs.declared.value.Value.TheVariants.{Number, Truth, Signal}
use Rattle.orc_journal_text.specs.Reading.{◌>>=◌, or_else, both, made, after, number_at, number_field, positive, negative, signed_from, constant, value_at, value_field}
use Rattle.orc_rules.specs.Text.{number, value, value_text, IsValue}
use Rattle.orc_rules.proofs.Numerals.{Stops, and_parts}
use Rattle.orc_journal_text.proofs.Digits.{Begins, decimal_begins, number_takes, number_again}

pub record IsCode {A : Type 0} (text : A → List ℕ) (Fits : A → Type 0) (read : List ℕ → Option (A × List ℕ)) : Type 0 where
  pub takes : (bytes : List ℕ) (x : A) (rest : List ℕ) → read bytes ≡ Some (x, rest) → (bytes ≡ text x ++ rest) × Fits x
  pub again : (x : A) (rest : List ℕ) → Fits x → Stops rest → read (text x ++ rest) ≡ Some (x, rest)
  pub stops : (x : A) (rest : List ℕ) → Stops (text x ++ rest)

-- the value of a step that gave one
pub bind_some : {A B : Type 0} (o : Option A) (f : A → Option B) (y : B) → (o >>= f) ≡ Some y → (x : A) × (o ≡ Some x) × (f x ≡ Some y)
bind_some (Some x) f y e = (x, refl, e)
bind_some None f y e = absurd cc

pub same_some : {A : Type 0} (x y : A) → ◌≡◌ {A = Option A} (Some x) (Some y) → x ≡ y
same_some x y e = cc

pub both-code : {A B : Type 0} {t : A → List ℕ} {s : B → List ℕ} {F : A → Type 0} {G : B → Type 0} {r : List ℕ → Option (A × List ℕ)} {q : List ℕ → Option (B × List ℕ)}
    → IsCode t F r → IsCode s G q → IsCode (λ (p : A × B). t p.0 ++ s p.1) (λ p. F p.0 × G p.1) (both r q)
both-code {A} {B} {t} {s} {F} {G} {r} {q} first second = record {
  takes = λ bytes x rest e.
      let a = bind_some (r bytes) (λ y. q y.1 >>= λ z. Some ((y.0, z.0), z.1)) (x, rest) e in
      let b = bind_some (q a.0.1) (λ z. Some ((a.0.0, z.0), z.1)) (x, rest) a.2 in
      let one = first.takes bytes a.0.0 a.0.1 a.1 in
      let two = second.takes a.0.1 b.0.0 b.0.1 b.1 in
      let whole : bytes ≡ (t a.0.0 ++ s b.0.0) ++ b.0.1 = one.0 ∙ ap (λ (u : List ℕ). t a.0.0 ++ u) two.0 ∙ sym (append_assoc (t a.0.0) (s b.0.0) b.0.1) in
      let made : (A × B) × List ℕ = ((a.0.0, b.0.0), b.0.1) in
      subst (λ (y : (A × B) × List ℕ). (bytes ≡ (t y.0.0 ++ s y.0.1) ++ y.1) × (F y.0.0 × G y.0.1)) (same_some made (x, rest) b.2) (whole, (one.1, two.1));
  again = λ x rest fits st.
      let e1 = first.again x.0 (s x.1 ++ rest) fits.0 (second.stops x.1 rest) in
      let e2 = second.again x.1 rest fits.1 st in
      ap (both r q) (append_assoc (t x.0) (s x.1) rest) ∙ rw (e1, e2) refl;
  stops = λ x rest. rw (append_assoc (t x.0) (s x.1) rest) (first.stops x.0 (s x.1 ++ rest));
}

-- what is read and made into something else
pub made_takes : {A E : Type 0} {t : A → List ℕ} {F : A → Type 0} {r : List ℕ → Option (A × List ℕ)} (f : A → E) → IsCode t F r → (bytes : List ℕ) (e : E) (rest : List ℕ)
    → made f r bytes ≡ Some (e, rest) → (x : A) × (e ≡ f x) × (bytes ≡ t x ++ rest) × F x
made_takes {A} {E} {t} {F} {r} f code bytes e rest h = go (r bytes) refl h where
  go : (o : Option (A × List ℕ)) → r bytes ≡ o → option_map {U = E × List ℕ} (λ (x : A × List ℕ). (f x.0, x.1)) o ≡ Some (e, rest) → (x : A) × (e ≡ f x) × (bytes ≡ t x ++ rest) × F x
  go None q p = absurd cc
  go (Some x) q p =
      let same : (f x.0, x.1) ≡ (e, rest) = same_some (f x.0, x.1) (e, rest) p in
      let back : x.1 ≡ rest = ap (λ (y : E × List ℕ). y.1) same in
      let t0 = code.takes bytes x.0 x.1 q in
      (x.0, ap (λ (y : E × List ℕ). y.0) (sym same), t0.0 ∙ ap (λ (u : List ℕ). t x.0 ++ u) back, t0.1)

pub made_again : {A E : Type 0} {t : A → List ℕ} {F : A → Type 0} {r : List ℕ → Option (A × List ℕ)} (f : A → E) → IsCode t F r → (x : A) (rest : List ℕ) → F x → Stops rest → made f r (t x ++ rest) ≡ Some (f x, rest)
made_again {A} {E} f code x rest fits st = ap (option_map (λ (y : A × List ℕ). (f y.0, y.1))) (code.again x rest fits st)

-- ---- texts

cons_eq : {b c : ℕ} {xs ys : List ℕ} → b ≡ c → xs ≡ ys → b ∷ xs ≡ c ∷ ys
cons_eq p q = cc

pub same_self : (c : ℕ) → (c == c) ≡ true
same_self c = grind (arith, common_steps)

pub after_takes : (text bytes rest : List ℕ) → after text bytes ≡ Some rest → bytes ≡ text ++ rest
after_takes [] bytes rest e = cc
after_takes (c ∷ cs) [] rest e = absurd cc
after_takes (c ∷ cs) (b ∷ bytes) rest e = go (b == c) refl (after_takes cs bytes rest) e where
  go : (t : Bool) → (b == c) ≡ t → (after cs bytes ≡ Some rest → bytes ≡ cs ++ rest) → cond t (after cs bytes) None ≡ Some rest → b ∷ bytes ≡ c ∷ cs ++ rest
  go false q ih p = absurd cc
  go true q ih p = cons_eq (eqb-true b c q) (ih p)

pub after_again : (text rest : List ℕ) → after text (text ++ rest) ≡ Some rest
after_again [] rest = refl
after_again (c ∷ cs) rest = rw (same_self c) (after_again cs rest)

-- a number after a space
pub number_code : IsCode number (λ n. n < 2 ^ 64) number_field
unfolding number_field
number_code = record {
  takes = λ bytes n rest e.
      let a = bind_some (after (codes " ") bytes) number_at (n, rest) e in
      let t = number_takes a.0 n rest a.2 in
      (after_takes (codes " ") bytes a.0 a.1 ∙ ap (λ (u : List ℕ). 32 ∷ u) t.0, t.1);
  again = λ n rest fits st. number_again n rest fits st;
  stops = λ n rest. refl;
}

-- ---- values

pub or_else_some : {A : Type 0} (a b : Option A) (y : A) → or_else a b ≡ Some y → (a ≡ Some y) ⊎ (b ≡ Some y)
or_else_some (Some x) b y e = inl e
or_else_some None b y e = inr e

constant_some : (v w : Value) (o : Option (List ℕ)) (rest : List ℕ) → constant v o ≡ Some (w, rest) → (v ≡ w) × (o ≡ Some rest)
constant_some v w None rest e = absurd cc
constant_some v w (Some r) rest e =
    let same = same_some (v, r) (w, rest) e in
    (ap (λ (x : Value × List ℕ). x.0) same, ap (λ (x : Value × List ℕ). Some x.1) same)

constant_takes : (text bytes rest : List ℕ) (v w : Value) → text ≡ value_text v → IsValue v → constant v (after text bytes) ≡ Some (w, rest) → (bytes ≡ value_text w ++ rest) × IsValue w
constant_takes text bytes rest v w same fits e =
    let p = constant_some v w (after text bytes) rest e in
    subst (λ (x : Value). (bytes ≡ value_text x ++ rest) × IsValue x) p.0 (after_takes text bytes rest p.1 ∙ ap (λ (t : List ℕ). t ++ rest) same, fits)

positive_takes : (bytes : List ℕ) (x : ℕ × List ℕ) (v : Value) (rest : List ℕ) → (bytes ≡ decimal x.0 ++ x.1) → positive x ≡ Some (v, rest) → (bytes ≡ value_text v ++ rest) × IsValue v
positive_takes bytes x v rest text e =
    let p = cond_some (nat_lt x.0 (2 ^ 63)) (Number (pos x.0), x.1) (v, rest) e in
    subst (λ (y : Value × List ℕ). (bytes ≡ value_text y.0 ++ y.1) × IsValue y.0) p.1 (text, ltb-true _ _ p.0)

negative_takes : (bytes : List ℕ) (n : ℕ) (more : List ℕ) (v : Value) (rest : List ℕ) → (bytes ≡ decimal n ++ more) → negative (n, more) ≡ Some (v, rest) → (45 ∷ bytes ≡ value_text v ++ rest) × IsValue v
negative_takes bytes zero more v rest text e = absurd cc
negative_takes bytes (suc n) more v rest text e =
    let p = cond_some (nat_lt 0 (suc n) && nat_lt (suc n - 1) (2 ^ 63)) (Number (negsuc (suc n - 1)), more) (v, rest) e in
    let q = and_parts (nat_lt 0 (suc n)) (nat_lt (suc n - 1) (2 ^ 63)) p.0 in
    let back : suc n - 1 ≡ n = omega arith in
    let whole : (45 ∷ bytes ≡ value_text (Number (negsuc n)) ++ more) × IsValue (Number (negsuc n)) = (ap (λ (t : List ℕ). 45 ∷ t) text, omega (arith, back, ltb-true _ _ q.1)) in
    subst (λ (y : Value × List ℕ). (45 ∷ bytes ≡ value_text y.0 ++ y.1) × IsValue y.0) (ap (λ (k : ℕ). (Number (negsuc k), more)) (sym back) ∙ p.1) whole

pub value_takes : (bytes : List ℕ) (v : Value) (rest : List ℕ) → value_at bytes ≡ Some (v, rest) → (bytes ≡ value_text v ++ rest) × IsValue v
unfolding value_at
value_takes bytes v rest e = elim (or_else_some _ _ (v, rest) e) [
  | inl yes0 ↦ constant_takes (codes "true") bytes rest (Truth true) v refl tt yes0
  | inr e1 ↦ elim (or_else_some _ _ (v, rest) e1) [
    | inl yes1 ↦ constant_takes (codes "false") bytes rest (Truth false) v refl tt yes1
    | inr e2 ↦ elim (or_else_some _ _ (v, rest) e2) [
      | inl yes2 ↦ constant_takes (codes "signal") bytes rest Signal v refl tt yes2
      | inr e3 ↦ signed_takes (after (codes "-") bytes) refl e3
    ]
  ]
] where
  signed_takes : (o : Option (List ℕ)) → after (codes "-") bytes ≡ o → signed_from bytes o ≡ Some (v, rest) → (bytes ≡ value_text v ++ rest) × IsValue v
  signed_takes None q p =
      let a = bind_some (number_at bytes) positive (v, rest) p in
      positive_takes bytes a.0 v rest (number_takes bytes a.0.0 a.0.1 a.1).0 a.2
  signed_takes (Some r) q p =
      let a = bind_some (number_at r) negative (v, rest) p in
      let t = negative_takes r a.0.0 a.0.1 v rest (number_takes r a.0.0 a.0.1 a.1).0 a.2 in
      (after_takes (codes "-") bytes r q ∙ t.0, t.1)

-- a text that begins with another sign than a digit isn't where a digit is
pub not_digit : (c t : ℕ) (ts cs : List ℕ) → is_ascii_digit c ≡ true → is_ascii_digit t ≡ false → after (t ∷ ts) (c ∷ cs) ≡ None
not_digit c t ts cs digit other = go (c == t) refl where
  go : (b : Bool) → (c == t) ≡ b → cond b (after ts cs) None ≡ None
  go false e = refl
  go true e = absurd (false≢true (sym other ∙ ap is_ascii_digit (sym (eqb-true c t e)) ∙ digit))

digits_again_value : (n : ℕ) (ds rest : List ℕ) (b : Begins ds) → number_at (ds ++ rest) ≡ Some (n, rest) → n < 2 ^ 63 → value_at (ds ++ rest) ≡ Some (Number (pos n), rest)
unfolding value_at
digits_again_value n ds rest b read small =
    let is : ds ++ rest ≡ b.first ∷ (b.others ++ rest) = ap (λ (t : List ℕ). t ++ rest) b.is in
    let none : (t : ℕ) (ts : List ℕ) → is_ascii_digit t ≡ false → after (t ∷ ts) (ds ++ rest) ≡ None = λ t ts other. ap (after (t ∷ ts)) is ∙ not_digit b.first t ts (b.others ++ rest) b.digit other in
    rw (none 116 (codes "rue") refl, none 102 (codes "alse") refl, none 115 (codes "ignal") refl, none 45 [] refl, read, lt-ltb n (2 ^ 63) small) refl

true_again : (rest : List ℕ) → value_at (codes "true" ++ rest) ≡ Some (Truth true, rest)
unfolding value_at
true_again rest = refl

false_again : (rest : List ℕ) → value_at (codes "false" ++ rest) ≡ Some (Truth false, rest)
unfolding value_at
false_again rest = refl

signal_again : (rest : List ℕ) → value_at (codes "signal" ++ rest) ≡ Some (Signal, rest)
unfolding value_at
signal_again rest = refl

picked : {A : Type 0} (b c : Bool) (x y : A) → b ≡ true → c ≡ true → x ≡ y → cond (b && c) (Some x) None ≡ Some y
picked b c x y p q e = rw (p, q) (ap Some e)

negative_again : (n : ℕ) (rest : List ℕ) → n < 2 ^ 63 → negative (suc n, rest) ≡ Some (Number (negsuc n), rest)
negative_again n rest fits =
    let back : suc n - 1 ≡ n = omega arith in
    picked (nat_lt 0 (suc n)) (nat_lt (suc n - 1) (2 ^ 63)) (Number (negsuc (suc n - 1)), rest) (Number (negsuc n), rest) (lt-ltb 0 (suc n) (omega arith)) (lt-ltb (suc n - 1) (2 ^ 63) (omega (arith, back, fits)))
    (ap {A = ℕ} {B = Value × List ℕ} (λ k. (Number (negsuc k), rest)) back)

minus_again : (n : ℕ) (rest : List ℕ) → n < 2 ^ 63 → Stops rest → value_at (45 ∷ (decimal (suc n) ++ rest)) ≡ Some (Number (negsuc n), rest)
unfolding value_at
minus_again n rest fits st = rw (number_again (suc n) rest (omega (arith, fits)) st) (negative_again n rest fits)

pub value_again : (v : Value) (rest : List ℕ) → IsValue v → Stops rest → value_at (value_text v ++ rest) ≡ Some (v, rest)
value_again (Number (pos n)) rest fits st = digits_again_value n (decimal n) rest (decimal_begins n (omega (arith, fits))) (number_again n rest (omega (arith, fits)) st) fits
value_again (Number (negsuc n)) rest fits st = minus_again n rest fits st
value_again (Truth true) rest fits st = true_again rest
value_again (Truth false) rest fits st = false_again rest
value_again Signal rest fits st = signal_again rest

-- a value after a space
pub value_code : IsCode value IsValue value_field
unfolding value_field
value_code = record {
  takes = λ bytes v rest e.
      let a = bind_some (after (codes " ") bytes) value_at (v, rest) e in
      let t = value_takes a.0 v rest a.2 in
      (after_takes (codes " ") bytes a.0 a.1 ∙ ap (λ (u : List ℕ). 32 ∷ u) t.0, t.1);
  again = λ v rest fits st. value_again v rest fits st;
  stops = λ v rest. refl;
}
