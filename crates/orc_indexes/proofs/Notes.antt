-- The notes of calls' due times, read as a list.
use Rattle.std.proofs.Common.{◌≡◌, ◌≤◌, ◌<◌, ◌⊎◌, ⊎_elim, ℕ, suc, List, ◌∷◌, [], length, refl, sym, ap, ◌∙◌, arith, inl, inr, subst, Bool, true, false, cond, nat_eq, nat_lt, eqb-true}
use Rattle.std.specs.Prelude.{Option, Some, None, IfSome, IfNone, IsSome, MatchOption}
use Rattle.std.specs.List.{All}
use Rattle.std.specs.declared.cmp.Ordering.TheVariants.{Less, Equal, Greater}
use Rattle.std.specs.Ordering.{nat_cmp, ordering_then, is_eq, is_gt}
use Rattle.std.proofs.lemmas.Bool.{ltb-true, ltb-false}
use Rattle.std.proofs.lemmas.Bool.Decides.{nat_tests}
use Rattle.orc_rules.specs.Timed.{IsIn}
use Rattle.orc_calls.proofs.Notes.{Timed, Sets, compared, found, is_found, itself, not_later, same_note, stands}
use Rattle.orc_indexes.specs.Dues.{IsNoted, IsBefore, IsEarliest, IsFirst, IsLeastFrom, KeepsBut, notes_of}

-- of two notes with one time the first has the lesser number
pub not_greater : (t x y : ℕ) → is_gt (compared (t, x) (t, y)) ≡ false → x ≤ y
not_greater t x y h = go (nat_lt x y) refl (ap (λ z. is_gt (ordering_then z (nat_cmp x y))) (sym (itself t)) ∙ h)
  where
    go : (b : Bool) → nat_lt x y ≡ b → is_gt (nat_cmp x y) ≡ false → x ≤ y
    go true e h = grind (arith, nat_tests)
    go false e h = grind (arith, nat_tests)

pub from_here : (t x y : ℕ) → x ≤ y → is_gt (compared (t, x) (t, y)) ≡ false
from_here t x y h = ap (λ z. is_gt (ordering_then z (nat_cmp x y))) (itself t) ∙ go
  where
    go : is_gt (nat_cmp x y) ≡ false
    go = grind (arith, nat_tests)

pub keeps_but : (t k : ℕ) (old new : List Timed) → Sets t k false old new → KeepsBut old new t k
keeps_but t k old new sets u j h = go (is_eq (compared (t, k) (u, j))) refl
  where
    go : (b : Bool) → is_eq (compared (t, k) (u, j)) ≡ b → IsNoted new u j ⊎ ((u ≡ t) × (j ≡ k))
    go true e = let w = same_note (t, k) (u, j) e in inr (sym w.0, sym w.1)
    go false e = inl (stands (u, j) new (sets (u, j) ∙ ap (λ z. cond z false (is_found old (u, j))) e ∙ found (u, j) old h))

-- the first one from here on
module _ (t from : ℕ) (ks : List Timed) (a : Timed) (start : is_gt (compared (t, from) a) ≡ false) (least : (q : Timed) → is_gt (compared (t, from) q) ≡ false → is_found ks q ≡ true → is_gt (compared a q) ≡ false) where
  pub least_at : a.0 ≡ t → IsIn a ks → IsLeastFrom ks t from (a.1)
  least_at is i =
      let same : a ≡ (t, a.1) = λ j. (is j, a.1) in (
        subst (λ (z : Timed). IsIn z ks) same i,
        not_greater t from (a.1) (subst (λ (z : Timed). is_gt (compared (t, from) z) ≡ false) same start),
        λ k h le. not_greater t (a.1) k (subst (λ (z : Timed). is_gt (compared z (t, k)) ≡ false) same (least (t, k) (from_here t from k le) (found (t, k) ks h))),
      )

  pub none_at : (a.0 ≡ t → ⊥) → (k : ℕ) → IsNoted ks t k → k < from
  none_at off k h = go (nat_lt k from) refl
    where
      go : (b : Bool) → nat_lt k from ≡ b → k < from
      go true e = ltb-true k from e
      go false e =
          let le : from ≤ k = ltb-false k from e in
          let up : a.0 ≤ t = not_later (a.0) t (nat_cmp (a.1) k) (least (t, k) (from_here t from k le) (found (t, k) ks h)) in
          let down : t ≤ a.0 = not_later t (a.0) (nat_cmp from (a.1)) start in
          let same : a.0 ≡ t = omega (arith, up, down) in
          absurd (off same)

pub nothing_at : (t from : ℕ) (ks : List Timed) → ((q : Timed) → is_gt (compared (t, from) q) ≡ false → is_found ks q ≡ false) → (k : ℕ) → IsNoted ks t k → k < from
nothing_at t from ks none k h = go (nat_lt k from) refl
  where
    go : (b : Bool) → nat_lt k from ≡ b → k < from
    go true e = ltb-true k from e
    go false e = cc (found (t, k) ks h, none (t, k) (from_here t from k (ltb-false k from e)))

-- ---- the first note beside the others

at_or_before : (a b : Timed) → IsBefore a b → a.0 ≤ b.0
at_or_before a b (inl h) = omega (arith, h)
at_or_before a b (inr h) = omega (arith, h.0)

pub earliest : (a : Timed) (ks : List Timed) → IsFirst (Some a) ks → (t k : ℕ) → IsNoted (a ∷ ks) t k → a.0 ≤ t
earliest a ks f t k (inl e) = omega (arith, ap (λ (z : Timed). z.0) e)
earliest a ks f t k (inr h) = at_or_before a (t, k) (f (t, k) h)

pub first_of : (o : Option Timed) (ks : List Timed) → IsFirst o ks → MatchOption o (notes_of o ks ≡ []) (IsEarliest (notes_of o ks))
first_of (Some a) ks f = (inl refl, earliest a ks f)
first_of None ks f = f

pub later : (a : Timed) (ks : List Timed) → IsFirst (Some a) ks → (t from : ℕ) → t < a.0 → (k : ℕ) → IsNoted (a ∷ ks) t k → k < from
later a ks f t from h k i = absurd (omega (arith, h, earliest a ks f t k i))

pub least_first : (a : Timed) (ks : List Timed) → IsFirst (Some a) ks → (t from : ℕ) → a.0 ≡ t → from ≤ a.1 → IsLeastFrom (a ∷ ks) t from (a.1)
least_first a ks f t from is le = (inl (λ i. (sym is i, a.1)), le, λ k i from_k. go k i)
  where
    behind : (k : ℕ) → IsBefore a (t, k) → a.1 ≤ k
    behind k (inl h) = absurd (omega (arith, h, is))
    behind k (inr h) = omega (arith, h.1)

    go : (k : ℕ) → IsNoted (a ∷ ks) t k → a.1 ≤ k
    go k (inl e) = omega (arith, ap (λ (z : Timed). z.1) e)
    go k (inr h) = behind k (f (t, k) h)

module _ (a : Timed) (ks : List Timed) (t from : ℕ) (off : a.0 ≡ t → a.1 < from) where
  pub least_other : (k : ℕ) → IsLeastFrom ks t from k → IsLeastFrom (a ∷ ks) t from k
  least_other k (i, le, least) = (inr i, le, go)
    where
      go : (j : ℕ) → IsNoted (a ∷ ks) t j → from ≤ j → k ≤ j
      go j (inl e) from_j = absurd (omega (arith, off (sym (ap (λ (z : Timed). z.0) e)), ap (λ (z : Timed). z.1) e, from_j))
      go j (inr h) from_j = least j h from_j

  pub none_other : ((k : ℕ) → IsNoted ks t k → k < from) → (k : ℕ) → IsNoted (a ∷ ks) t k → k < from
  none_other none k (inl e) = omega (arith, off (sym (ap (λ (z : Timed). z.0) e)), ap (λ (z : Timed). z.1) e)
  none_other none k (inr h) = none k h

-- ---- a note is put beside the first one, or in its place

before_both : (a b c : Timed) → IsBefore a b → IsBefore b c → IsBefore a c
before_both a b c (inl h) (inl k) = inl (omega (arith, h, k))
before_both a b c (inl h) (inr k) = inl (omega (arith, h, k.0))
before_both a b c (inr h) (inl k) = inl (omega (arith, h.0, k))
before_both a b c (inr h) (inr k) = inr (h.0 ∙ k.0, omega (arith, h.1, k.1))

-- what is there once a note was put in
put_or_old : (t k : ℕ) (old new : List Timed) → Sets t k true old new → (b : Timed) → IsIn b new → (b ≡ (t, k)) ⊎ IsIn b old
put_or_old t k old new sets b h = go (is_eq (compared (t, k) b)) refl
  where
    go : (z : Bool) → is_eq (compared (t, k) b) ≡ z → (b ≡ (t, k)) ⊎ IsIn b old
    go true e = let w = same_note (t, k) b e in inl (λ i. (sym w.0 i, sym w.1 i))
    go false e = inr (stands b old (sym (sets b ∙ ap (λ z. cond z true (is_found old b)) e) ∙ found b new h))

pub put_first : (a n : Timed) (old new : List Timed) → IsFirst (Some a) old → IsBefore n a → Sets (a.0) (a.1) true old new → IsFirst (Some n) new
put_first a n old new f up sets b h = ⊎_elim (λ e. subst (λ z. IsBefore n z) (sym e) up) (λ i. before_both n a b up (f b i)) (put_or_old (a.0) (a.1) old new sets b h)

pub put_other : (a n : Timed) (old new : List Timed) → IsFirst (Some a) old → IsBefore a n → Sets (n.0) (n.1) true old new → IsFirst (Some a) new
put_other a n old new f up sets b h = ⊎_elim (λ e. subst (λ z. IsBefore a z) (sym e) up) (λ i. f b i) (put_or_old (n.0) (n.1) old new sets b h)

-- ---- a note is taken out

in_all : (P : Timed → Type 0) (ks : List Timed) → All P ks → (b : Timed) → IsIn b ks → P b
in_all P [] all b h = elim h [ ]
in_all P (x ∷ ks) all b (inl e) = subst P (sym e) (all 0 x (omega arith))
in_all P (x ∷ ks) all b (inr h) = in_all P ks (λ k d l. all (suc k) d (omega (arith, l))) b h

less_before : (a b : Timed) → compared a b ≡ Less → IsBefore a b
less_before a b h = go (nat_lt (a.0) (b.0)) (nat_eq (a.0) (b.0)) (nat_lt (a.1) (b.1)) refl refl refl h
  where
    go : (x y z : Bool) → nat_lt (a.0) (b.0) ≡ x → nat_eq (a.0) (b.0) ≡ y → nat_lt (a.1) (b.1) ≡ z → ordering_then (cond x Less (cond y Equal Greater)) (cond z Less (cond (nat_eq (a.1) (b.1)) Equal Greater)) ≡ Less → IsBefore a b
    go true y z e f g h = inl (ltb-true (a.0) (b.0) e)
    go false true true e f g h = inr (eqb-true (a.0) (b.0) f, ltb-true (a.1) (b.1) g)
    go false true false e f g h = absurd (not_less (nat_eq (a.1) (b.1)) h)
      where
        not_less : (q : Bool) → cond q Equal Greater ≡ Less → ⊥
        not_less true p = cc p
        not_less false p = cc p
    go false false z e f g h = cc h

pub first_popped : (o : Option Timed) (old new : List Timed) → IfSome o (λ k. All (λ b. compared k b ≡ Less) new) → IfNone o (new ≡ old) → (0 < length old → IsSome o) → IsFirst o new
first_popped (Some a) old new all none some = λ b h. less_before a b (in_all (λ b. compared a b ≡ Less) new all b h)
first_popped None old new all none some = none ∙ empty old (λ l. cc (some l))
  where
    empty : (ks : List Timed) → (0 < length ks → ⊥) → ks ≡ []
    empty [] h = refl
    empty (k ∷ ks) h = absurd (h (omega arith))

-- what is there still was there
taken_from : (t k : ℕ) (old new : List Timed) → Sets t k false old new → (b : Timed) → IsIn b new → IsIn b old
taken_from t k old new sets b h = go (is_eq (compared (t, k) b)) refl
  where
    go : (z : Bool) → is_eq (compared (t, k) b) ≡ z → IsIn b old
    go true e = cc (sym (found b new h) ∙ sets b ∙ ap (λ z. cond z false (is_found old b)) e)
    go false e = stands b old (sym (sets b ∙ ap (λ z. cond z false (is_found old b)) e) ∙ found b new h)

pub first_kept : (o : Option Timed) (t k : ℕ) (old new : List Timed) → IsFirst o old → Sets t k false old new → IsFirst o new
first_kept (Some a) t k old new f sets = λ b h. f b (taken_from t k old new sets b h)
first_kept None t k old [] f sets = refl
first_kept None t k old (n ∷ new) f sets = absurd (elim (subst (λ z. IsIn n z) f (taken_from t k old (n ∷ new) sets n (inl refl))) [ ])

pub keeps_beside : (o : Option Timed) (t k : ℕ) (old new : List Timed) → KeepsBut old new t k → KeepsBut (notes_of o old) (notes_of o new) t k
keeps_beside (Some a) t k old new kept u j (inl e) = inl (inl e)
keeps_beside (Some a) t k old new kept u j (inr h) = ⊎_elim (λ i. inl (inr i)) inr (kept u j h)
keeps_beside None t k old new kept u j h = kept u j h

pub shorter_beside : (o : Option Timed) (t k : ℕ) (old new : List Timed) → ((a : Timed) → o ≡ Some a → a.0 ≡ t → a.1 ≡ k → ⊥) → (IsNoted old t k → length new < length old) → IsNoted (notes_of o old) t k → length (notes_of o new) < length (notes_of o old)
shorter_beside (Some a) t k old new other gone (inl e) = absurd (other a refl (sym (ap (λ (z : Timed). z.0) e)) (sym (ap (λ (z : Timed). z.1) e)))
shorter_beside (Some a) t k old new other gone (inr h) = omega (arith, gone h)
shorter_beside None t k old new other gone h = gone h
