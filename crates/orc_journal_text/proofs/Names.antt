-- The name of a site is read as that site.
use Rattle.std.proofs.Common.{◌≡◌, ℕ, zero, suc, ◌<◌, ◌≤◌, Bool, true, false, cond, List, [], ◌∷◌, ◌++◌, length, Option, Some, None, refl, sym, ap, subst, ◌∙◌, append_assoc, arith, ◌==◌, slice_index_or}
use Rattle.orc_rules.specs.declared.limits.TheConstants.{MOST_ARGUMENTS}
use Rattle.std.specs.Prelude.{option_map, codes, bytes_eq, slice_get}
use Rattle.std.proofs.lemmas.Bool.{eqb-true}
use Rattle.std.proofs.lemmas.List.{append-nil}
use Rattle.orc_rules.specs.declared.value.Value.{Value}
use Rattle.orc_rules.specs.Sites.{site_named, IsBare, AreNames}
use Rattle.orc_journal_text.specs.Reading.{◌>>=◌, after, split_name, name_at, arguments_at, call_field}
use Rattle.orc_rules.specs.Text.{call, arguments, AreValues}
use Rattle.orc_rules.proofs.Numerals.{and_parts}
use Rattle.orc_journal_text.proofs.Digits.{eqb-false_of}
use Rattle.orc_journal_text.proofs.Codes.{IsCode, bind_some, same_some, after_takes, same_self}
use Rattle.orc_journal_text.proofs.Calls.{arguments_take, arguments_again}

split_takes : (bytes : List ℕ) → bytes ≡ (split_name bytes).0 ++ (split_name bytes).1
split_takes [] = refl
split_takes (c ∷ cs) = go (c == 40) (split_takes cs) where
  go : (b : Bool) → cs ≡ (split_name cs).0 ++ (split_name cs).1 → c ∷ cs ≡ (cond {A = List ℕ × List ℕ} b ([], c ∷ cs) (c ∷ (split_name cs).0, (split_name cs).1)).0 ++ (cond {A = List ℕ × List ℕ} b ([], c ∷ cs) (c ∷ (split_name cs).0, (split_name cs).1)).1
  go true ih = refl
  go false ih = ap (λ (t : List ℕ). c ∷ t) ih

split_again : (n more : List ℕ) → IsBare n → split_name (n ++ 40 ∷ more) ≡ (n, 40 ∷ more)
split_again [] more bare = refl
split_again (c ∷ cs) more bare = rw (eqb-false_of c 40 bare.0, split_again cs more bare.1) refl

same_takes : (xs ys : List ℕ) → bytes_eq xs ys ≡ true → xs ≡ ys
same_takes [] [] h = refl
same_takes [] (y ∷ ys) h = absurd cc
same_takes (x ∷ xs) [] h = absurd cc
same_takes (x ∷ xs) (y ∷ ys) h =
    let p = and_parts (x == y) (bytes_eq xs ys) h in
    let a : x ≡ y = eqb-true x y p.0 in
    let b : xs ≡ ys = same_takes xs ys p.1 in
    cc

same_again : (xs : List ℕ) → bytes_eq xs xs ≡ true
same_again [] = refl
same_again (x ∷ xs) = rw (same_self x) (same_again xs)

named_takes : (names : List (List ℕ)) (t : List ℕ) (s : ℕ) → site_named names t ≡ Some s → (s < length names) × (slice_index_or names s [] ≡ t)
named_takes [] t s h = absurd cc
named_takes (n ∷ ns) t s h = go (bytes_eq n t) refl (site_named ns t) (named_takes ns t) h where
  go : (b : Bool) → bytes_eq n t ≡ b → (o : Option ℕ) → ((k : ℕ) → o ≡ Some k → (k < length ns) × (slice_index_or ns k [] ≡ t)) → cond b (Some 0) (option_map suc o) ≡ Some s → (s < length (n ∷ ns)) × (slice_index_or (n ∷ ns) s [] ≡ t)
  go true e o ih p = subst (λ (k : ℕ). (k < length (n ∷ ns)) × (slice_index_or (n ∷ ns) k [] ≡ t)) (same_some 0 s p) (omega arith, same_takes n t e)
  go false e None ih p = absurd cc
  go false e (Some k) ih p = subst (λ (j : ℕ). (j < length (n ∷ ns)) × (slice_index_or (n ∷ ns) j [] ≡ t)) (same_some (suc k) s p) (omega (arith, (ih k refl).0), (ih k refl).1)

named_again : (names : List (List ℕ)) (s : ℕ) → AreNames names → s < length names → site_named names (slice_index_or names s []) ≡ Some s
named_again [] s are lt = absurd (omega (arith, lt))
named_again (n ∷ ns) zero are lt = rw (same_again n) refl
named_again (n ∷ ns) (suc s) are lt = go (bytes_eq n (slice_index_or ns s [])) refl (named_again ns s are.2 (omega (arith, lt))) where
  go : (b : Bool) → bytes_eq n (slice_index_or ns s []) ≡ b → site_named ns (slice_index_or ns s []) ≡ Some s → cond b (Some 0) (option_map suc (site_named ns (slice_index_or ns s []))) ≡ Some (suc s)
  go false e ih = rw ih refl
  go true e ih =
      let same : n ≡ slice_index_or ns s [] = same_takes n (slice_index_or ns s []) e in
      let none : site_named ns (slice_index_or ns s []) ≡ None = subst (λ (t : List ℕ). site_named ns t ≡ None) same are.1 in
      absurd cc

-- a text after which nothing is left
pub whole_name : (known name rest : List ℕ) → length rest < 1 → after known name ≡ Some rest → known ≡ name
whole_name known name [] few e = sym (after_takes known name [] e ∙ append-nil known)
whole_name known name (c ∷ rest) few e = absurd (omega (arith, few))

-- a site that has the name is the one of that name
pub named_at : (names : List (List ℕ)) (s : ℕ) (t : List ℕ) → AreNames names → slice_get names s ≡ Some t → site_named names t ≡ Some s
named_at names s t are there =
    let w = stands names s t there in
    subst (λ z. site_named names z ≡ Some s) w.1 (named_again names s are w.0)
  where
    stands : (names : List (List ℕ)) (s : ℕ) (t : List ℕ) → slice_get names s ≡ Some t → (s < length names) × (slice_index_or names s [] ≡ t)
    stands [] s t h = absurd cc
    stands (n ∷ ns) zero t h = (omega arith, same_some n t h)
    stands (n ∷ ns) (suc s) t h = let w = stands ns s t h in (omega (arith, w.0), w.1)

bare_there : (names : List (List ℕ)) (s : ℕ) → AreNames names → s < length names → IsBare (slice_index_or names s [])
bare_there [] s are lt = absurd (omega (arith, lt))
bare_there (n ∷ ns) zero are lt = are.0
bare_there (n ∷ ns) (suc s) are lt = bare_there ns s are.2 (omega (arith, lt))

-- a call after a space
pub call_code : (names : List (List ℕ)) → AreNames names → IsCode (λ (p : ℕ × List Value). call names p.0 p.1) (λ p. (p.0 < length names) × (length p.1 ≤ MOST_ARGUMENTS) × AreValues p.1) (call_field names)
unfolding call_field name_at
call_code names are = record {
  takes = λ bytes x rest e.
      let a = bind_some (after (codes " ") bytes) (λ r. name_at names r >>= λ s. arguments_at s.1 >>= λ vs. Some ((s.0, vs.0), vs.1)) (x, rest) e in
      let b = bind_some (name_at names a.0) (λ s. arguments_at s.1 >>= λ vs. Some ((s.0, vs.0), vs.1)) (x, rest) a.2 in
      let c = bind_some (arguments_at b.0.1) (λ vs. Some ((b.0.0, vs.0), vs.1)) (x, rest) b.2 in
      let n = site_of a.0 (site_named names (split_name a.0).0) refl b.0.0 b.0.1 b.1 in
      let t = arguments_take b.0.1 c.0.0 c.0.1 c.1 in
      let text : bytes ≡ call names b.0.0 c.0.0 ++ c.0.1 = after_takes (codes " ") bytes a.0 a.1 ∙ ap (λ (u : List ℕ). 32 ∷ u) (n.0 ∙ ap (λ (u : List ℕ). slice_index_or names b.0.0 [] ++ u) t.0 ∙ sym (append_assoc (slice_index_or names b.0.0 []) (arguments c.0.0) c.0.1)) in
      subst (λ (y : (ℕ × List Value) × List ℕ). (bytes ≡ call names y.0.0 y.0.1 ++ y.1) × ((y.0.0 < length names) × (length y.0.1 ≤ MOST_ARGUMENTS) × AreValues y.0.1)) (same_some ((b.0.0, c.0.0), c.0.1) (x, rest) c.2) (text, (n.1, t.1, t.2));
  again = λ x rest f st. called x.0 x.1 rest f.0 f.1 f.2;
  stops = λ x rest. refl;
} where
  site_of : (bytes : List ℕ) (o : Option ℕ) → site_named names (split_name bytes).0 ≡ o → (s : ℕ) (rest : List ℕ) → option_map {U = ℕ × List ℕ} (λ k. (k, (split_name bytes).1)) o ≡ Some (s, rest) → (bytes ≡ slice_index_or names s [] ++ rest) × (s < length names)
  site_of bytes None q s rest p = absurd cc
  site_of bytes (Some k) q s rest p =
      let n = named_takes names (split_name bytes).0 k q in
      subst (λ (y : ℕ × List ℕ). (bytes ≡ slice_index_or names y.0 [] ++ y.1) × (y.0 < length names)) (same_some (k, (split_name bytes).1) (s, rest) p) (split_takes bytes ∙ ap (λ (u : List ℕ). u ++ (split_name bytes).1) (sym n.1), n.0)

  opens : (vs : List Value) (rest : List ℕ) → (more : List ℕ) × (arguments vs ++ rest ≡ 40 ∷ more)
  opens [] rest = (_, refl)
  opens (v ∷ vs) rest = (_, refl)

  called : (s : ℕ) (vs : List Value) (rest : List ℕ) → s < length names → length vs ≤ MOST_ARGUMENTS → AreValues vs → call_field names (call names s vs ++ rest) ≡ Some ((s, vs), rest)
  called s vs rest lt count f =
      let o = opens vs rest in
      let regrouped : call names s vs ++ rest ≡ 32 ∷ (slice_index_or names s [] ++ 40 ∷ o.0) = ap (λ (u : List ℕ). 32 ∷ u) (append_assoc (slice_index_or names s []) (arguments vs) rest ∙ ap (λ (u : List ℕ). slice_index_or names s [] ++ u) o.1) in
      let back : arguments_at (40 ∷ o.0) ≡ Some (vs, rest) = ap arguments_at (sym o.1) ∙ arguments_again vs rest count f in
      ap (call_field names) regrouped ∙ rw (split_again (slice_index_or names s []) o.0 (bare_there names s are lt), named_again names s are lt, back) refl
