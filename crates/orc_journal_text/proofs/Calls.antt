-- The arguments of a call.
use Rattle.std.proofs.Common.{◌≡◌, ℕ, zero, suc, ◌<◌, ◌≤◌, true, false, List, [], ◌∷◌, ◌++◌, length, Option, Some, None, refl, sym, ap, subst, ◌∙◌, append_assoc, arith, inl, inr}
use Rattle.orc_rules.specs.declared.limits.TheConstants.{MOST_ARGUMENTS}
use Rattle.std.specs.Prelude.{option_map, codes}
use Rattle.std.specs.Prelude.{pos, negsuc}
use Rattle.orc_rules.specs.declared.value.Value.{Value}
use Rattle.orc_rules.specs.declared.value.Value.TheVariants.{Number, Truth, Signal}
use Rattle.orc_journal_text.specs.Reading.{◌>>=◌, or_else, after, value_at, values_at, arguments_at}
use Rattle.orc_rules.specs.Text.{value_text, closing, arguments, IsValue, AreValues}
use Rattle.orc_journal_text.proofs.Digits.{decimal_begins}
use Rattle.orc_journal_text.proofs.Codes.{not_digit, bind_some, same_some, value_takes, value_again, after_takes, or_else_some}

abbrev pub listed : List Value → List ℕ
listed [] = []
listed (v ∷ vs) = value_text v ++ closing vs

pub record Listed (n : ℕ) (bytes : List ℕ) (vs : List Value) (rest : List ℕ) : Type 0 where
  pub text : bytes ≡ listed vs ++ rest
  pub some : 0 < length vs
  pub count : length vs ≤ n
  pub values : AreValues vs

last_one : (n : ℕ) (bytes behind rest : List ℕ) (v : Value) → bytes ≡ value_text v ++ behind → IsValue v → behind ≡ 41 ∷ rest → Listed (suc n) bytes (v ∷ []) rest
last_one n bytes behind rest v t f e = record { text = t ∙ ap (λ (x : List ℕ). value_text v ++ x) e ∙ sym (append_assoc (value_text v) (41 ∷ []) rest); some = omega arith; count = omega arith; values = (f, tt) }

one_before : (n : ℕ) (bytes behind more rest : List ℕ) (v : Value) (vs : List Value) → bytes ≡ value_text v ++ behind → IsValue v → behind ≡ 44 ∷ 32 ∷ more → Listed n more vs rest → Listed (suc n) bytes (v ∷ vs) rest
one_before n bytes behind more rest v [] t f e l = absurd (omega (arith, l.some))
one_before n bytes behind more rest v (w ∷ ws) t f e l = record {
  text = t ∙ ap (λ (x : List ℕ). value_text v ++ x) (e ∙ ap (λ (x : List ℕ). 44 ∷ 32 ∷ x) l.text) ∙ sym (append_assoc (value_text v) (44 ∷ 32 ∷ listed (w ∷ ws)) rest);
  some = omega arith;
  count = omega (arith, l.count);
  values = (f, l.values);
}

-- one value or more with commas between them
pub values_take : (n : ℕ) (bytes : List ℕ) (vs : List Value) (rest : List ℕ) → values_at n bytes ≡ Some (vs, rest) → Listed n bytes vs rest
values_take zero bytes vs rest e = absurd cc
values_take (suc n) bytes vs rest e =
    let a = bind_some (value_at bytes) (λ v. or_else (option_map (λ r. (v.0 ∷ [], r)) (after (codes ")") v.1)) (after (codes ", ") v.1 >>= λ r. values_at n r >>= λ ws. Some (v.0 ∷ ws.0, ws.1))) (vs, rest) e in
    let t = value_takes bytes a.0.0 a.0.1 a.1 in
    elim (or_else_some _ _ (vs, rest) a.2) [
      | inl h ↦ closes a.0.0 a.0.1 t.0 t.1 (after (codes ")") a.0.1) refl h
      | inr h ↦
          let b = bind_some (after (codes ", ") a.0.1) (λ r. values_at n r >>= λ ws. Some (a.0.0 ∷ ws.0, ws.1)) (vs, rest) h in
          let c = bind_some (values_at n b.0) (λ ws. Some (a.0.0 ∷ ws.0, ws.1)) (vs, rest) b.2 in
          let l = values_take n b.0 c.0.0 c.0.1 c.1 in
          subst (λ (y : List Value × List ℕ). Listed (suc n) bytes y.0 y.1) (same_some (a.0.0 ∷ c.0.0, c.0.1) (vs, rest) c.2) (one_before n bytes a.0.1 b.0 c.0.1 a.0.0 c.0.0 t.0 t.1 (after_takes (codes ", ") a.0.1 b.0 b.1) l)
    ] where
      closes : (v : Value) (behind : List ℕ) → bytes ≡ value_text v ++ behind → IsValue v → (o : Option (List ℕ)) → after (codes ")") behind ≡ o → option_map {U = List Value × List ℕ} (λ r. (v ∷ [], r)) o ≡ Some (vs, rest) → Listed (suc n) bytes vs rest
      closes v behind t f None q p = absurd cc
      closes v behind t f (Some r) q p = subst (λ (y : List Value × List ℕ). Listed (suc n) bytes y.0 y.1) (same_some (v ∷ [], r) (vs, rest) p) (last_one n bytes behind r v t f (after_takes (codes ")") behind r q))

pub values_again : (n : ℕ) (vs : List Value) (rest : List ℕ) → 0 < length vs → length vs ≤ n → AreValues vs → values_at n (listed vs ++ rest) ≡ Some (vs, rest)
values_again n [] rest some count f = absurd (omega (arith, some))
values_again zero (v ∷ vs) rest some count f = absurd (omega (arith, count))
values_again (suc n) (v ∷ []) rest some count f =
    ap (values_at (suc n)) (append_assoc (value_text v) (41 ∷ []) rest) ∙ rw (value_again v (41 ∷ rest) f.0 refl) refl
values_again (suc n) (v ∷ w ∷ ws) rest some count f =
    ap (values_at (suc n)) (append_assoc (value_text v) (44 ∷ 32 ∷ listed (w ∷ ws)) rest) ∙ rw (value_again v (44 ∷ 32 ∷ (listed (w ∷ ws) ++ rest)) f.0 refl, values_again n (w ∷ ws) rest (omega arith) (omega (arith, count)) f.1) refl

-- a value doesn't begin with the bracket
no_close : (v : Value) (more rest : List ℕ) → IsValue v → after (41 ∷ []) ((value_text v ++ more) ++ rest) ≡ None
no_close (Number (pos n)) more rest f =
    let b = decimal_begins n (omega (arith, f)) in
    ap (λ (t : List ℕ). after (41 ∷ []) ((t ++ more) ++ rest)) b.is ∙ not_digit b.first 41 [] ((b.others ++ more) ++ rest) b.digit refl
no_close (Number (negsuc n)) more rest f = refl
no_close (Truth true) more rest f = refl
no_close (Truth false) more rest f = refl
no_close Signal more rest f = refl

pub arguments_again : (vs : List Value) (rest : List ℕ) → length vs ≤ MOST_ARGUMENTS → AreValues vs → arguments_at (arguments vs ++ rest) ≡ Some (vs, rest)
unfolding arguments_at
arguments_again [] rest count f = refl
arguments_again (v ∷ vs) rest count f = rw (no_close v (closing vs) rest f.0) (values_again MOST_ARGUMENTS (v ∷ vs) rest (omega arith) count f)

pub arguments_take : (bytes : List ℕ) (vs : List Value) (rest : List ℕ) → arguments_at bytes ≡ Some (vs, rest) → (bytes ≡ arguments vs ++ rest) × (length vs ≤ MOST_ARGUMENTS) × AreValues vs
unfolding arguments_at
arguments_take bytes vs rest e =
    let a = bind_some (after (codes "(") bytes) (λ r. or_else (option_map (λ r. ([], r)) (after (codes ")") r)) (values_at MOST_ARGUMENTS r)) (vs, rest) e in
    let t = after_takes (codes "(") bytes a.0 a.1 in
    elim (or_else_some _ _ (vs, rest) a.2) [
      | inl h ↦ none_of a.0 t (after (codes ")") a.0) refl h
      | inr h ↦ some_of a.0 t vs (values_take MOST_ARGUMENTS a.0 vs rest h)
    ] where
      none_of : (r : List ℕ) → bytes ≡ 40 ∷ r → (o : Option (List ℕ)) → after (codes ")") r ≡ o → option_map {U = List Value × List ℕ} (λ q. ([], q)) o ≡ Some (vs, rest) → (bytes ≡ arguments vs ++ rest) × (length vs ≤ MOST_ARGUMENTS) × AreValues vs
      none_of r t None q p = absurd cc
      none_of r t (Some x) q p = subst (λ (y : List Value × List ℕ). (bytes ≡ arguments y.0 ++ y.1) × (length y.0 ≤ MOST_ARGUMENTS) × AreValues y.0) (same_some ([], x) (vs, rest) p) (t ∙ ap (λ (u : List ℕ). 40 ∷ u) (after_takes (codes ")") r x q), omega arith, tt)

      some_of : (r : List ℕ) → bytes ≡ 40 ∷ r → (ws : List Value) → Listed MOST_ARGUMENTS r ws rest → (bytes ≡ arguments ws ++ rest) × (length ws ≤ MOST_ARGUMENTS) × AreValues ws
      some_of r t [] l = absurd (omega (arith, l.some))
      some_of r t (w ∷ ws) l = (t ∙ ap (λ (u : List ℕ). 40 ∷ u) l.text, l.count, l.values)
