-- Notes of due times, read as a list: a time, and the number of what is due then.
use Rattle.std.proofs.Common.{◌≡◌, ◌≤◌, ℕ, List, [], ◌∷◌, refl, sym, ap, ◌∙◌, arith, inl, inr, Bool, true, false, cond, nat_eq, nat_lt, eqb-true}
use Rattle.std.specs.Prelude.{◌||◌}
use Rattle.std.specs.List.{list_any}
use Rattle.std.specs.Ordering.{nat_cmp, ordering_then, is_eq, is_gt}
use Rattle.std.specs.declared.cmp.Ordering.{Ordering}
use Rattle.std.specs.declared.cmp.Ordering.TheVariants.{Less, Equal, Greater}
use Rattle.std.proofs.lemmas.Bool.Decides.{nat_tests}
use Rattle.orc_rules.specs.Timed.{IsIn}

abbrev pub Timed : Type 0
Timed = ℕ × ℕ

abbrev pub compared : Timed → Timed → Ordering
compared a b = ordering_then (nat_cmp a.0 b.0) (nat_cmp a.1 b.1)

same_number : (x y : ℕ) → is_eq (nat_cmp x y) ≡ true → x ≡ y
same_number x y = go (nat_lt x y) (nat_eq x y) refl
  where
    go : (a b : Bool) → nat_eq x y ≡ b → is_eq (cond a Less (cond b Equal Greater)) ≡ true → x ≡ y
    go true b e h = cc h
    go false true e h = eqb-true x y e
    go false false e h = cc h

both : (a b : Ordering) → is_eq (ordering_then a b) ≡ true → (is_eq a ≡ true) × (is_eq b ≡ true)
both Less b h = cc h
both Equal b h = (refl, h)
both Greater b h = cc h

pub same_note : (a b : Timed) → is_eq (compared a b) ≡ true → (a.0 ≡ b.0) × (a.1 ≡ b.1)
same_note a b h = let w = both (nat_cmp a.0 b.0) (nat_cmp a.1 b.1) h in (same_number a.0 b.0 w.0, same_number a.1 b.1 w.1)

pub itself : (x : ℕ) → nat_cmp x x ≡ Equal
itself x = grind (arith, nat_tests)

note_itself : (a : Timed) → is_eq (compared a a) ≡ true
note_itself a = ap (λ z. is_eq (ordering_then z (nat_cmp a.1 a.1))) (itself a.0) ∙ ap is_eq (itself a.1)

pub not_later : (x y : ℕ) (o : Ordering) → is_gt (ordering_then (nat_cmp x y) o) ≡ false → x ≤ y
not_later x y o h = grind (arith, nat_tests)

-- to stand in the list is to be found in it
pub found : (a : Timed) (ks : List Timed) → IsIn a ks → list_any (λ b. is_eq (compared a b)) ks ≡ true
found a [] h = elim h [ ]
found a (k ∷ ks) (inl e) = ap (λ z. z || list_any (λ b. is_eq (compared a b)) ks) (ap (λ z. is_eq (compared a z)) (sym e) ∙ note_itself a)
found a (k ∷ ks) (inr h) = ap (λ z. is_eq (compared a k) || z) (found a ks h) ∙ or_true (is_eq (compared a k))
  where
    or_true : (b : Bool) → (b || true) ≡ true
    or_true true = refl
    or_true false = refl

pub stands : (a : Timed) (ks : List Timed) → list_any (λ b. is_eq (compared a b)) ks ≡ true → IsIn a ks
stands a [] h = cc h
stands a (k ∷ ks) h = go (is_eq (compared a k)) refl h (λ z. stands a ks z)
  where
    go : (b : Bool) → is_eq (compared a k) ≡ b → (b || list_any (λ b. is_eq (compared a b)) ks) ≡ true → (list_any (λ b. is_eq (compared a b)) ks ≡ true → IsIn a ks) → IsIn a (k ∷ ks)
    go true e h f = let w = same_note a k e in inl (λ i. (w.0 i, w.1 i))
    go false e h f = inr (f h)

abbrev pub is_found : List Timed → Timed → Bool
is_found ks a = list_any (λ b. is_eq (compared a b)) ks

-- what the list has once a note is put in (b is true), or is taken out
abbrev pub Sets : ℕ → ℕ → Bool → List Timed → List Timed → Type 0
Sets t k b old new = (a : Timed) → is_found new a ≡ cond (is_eq (compared (t, k) a)) b (is_found old a)

module _ (t k : ℕ) (old new : List Timed) where
  pub puts : Sets t k true old new → IsIn {X = Timed} (t, k) new
  puts sets = stands (t, k) new (sets (t, k) ∙ ap (λ z. cond z true (is_found old (t, k))) (note_itself (t, k)))

  pub keeps : Sets t k true old new → (u j : ℕ) → IsIn {X = Timed} (u, j) old → IsIn {X = Timed} (u, j) new
  keeps sets u j h = stands (u, j) new (sets (u, j) ∙ go (is_eq (compared (t, k) (u, j))))
    where
      go : (b : Bool) → cond b true (is_found old (u, j)) ≡ true
      go true = refl
      go false = found (u, j) old h

-- the first one is the earliest
pub none_earlier : (a : Timed) (ks : List Timed) → ((b : Timed) → is_found ks b ≡ true → is_gt (compared a b) ≡ false) → (u j : ℕ) → IsIn {X = Timed} (u, j) ks → a.0 ≤ u
none_earlier a ks below u j h = not_later a.0 u (nat_cmp a.1 j) (below (u, j) (found (u, j) ks h))
