-- Passes that are too many go, and of a group that is no more nobody is left.
use Rattle.std.proofs.Common.{◌≡◌, ◌≤◌, ◌<◌, ◌⊎◌, inl, inr, ℕ, zero, suc, ◌+◌, List, [], ◌∷◌, refl, sym, ap, ◌∙◌, subst, arith, length, Bool, true, false, nat_eq, eq-eqb, Option, Some, None as Nothing}
use Rattle.std.specs.Prelude.{slice_get, MatchOption}
use Rattle.orc_word.specs.declared.view.View.{View}
use Rattle.orc_word.specs.Views.{group_of}
use Rattle.std.proofs.lemmas.Bool.{eqb-true}
use Rattle.orc_rules.specs.declared.limits.TheConstants.{MOST_GROUPS}
use Rattle.orc_indexes.specs.Same.{weight, is_this}
use Rattle.orc_indexes.proofs.Weight.{weight-in, some-in, this_is, this_not, this_one}
use Rattle.orc_indexes.proofs.Lists.{set-there, set-elsewhere, weight-set}
use Rattle.orc_ledger_spec.specs.Records.{Records}
use Rattle.orc_ledger_spec.specs.Next.{members, numbers_of}
use Rattle.orc_tables.specs.OpenGroups.{tokens_in, is_named}
use Rattle.orc_tables.specs.Steps.{group_at}
use Rattle.orc_tables.specs.declared.records.Token.{Token}
use Rattle.orc_tables.specs.declared.records.Call.{Call}
use Rattle.orc_tables.specs.declared.records.Group.{Group}
use Rattle.orc_book.specs.Held.{Hold, word_at, Becomes, Changes, KeepsTokens, TakesOne, AreHeld, AreLoose, IsLoose, IsSettled, IsThere, IsMissing, StayLoose, bag, records_in, held_at, kept_at, out_at, passes_of, kept_of, out_of}
use Rattle.orc_book.specs.Passes.{in_posts, of_owed}
use Rattle.orc_book.proofs.Posts.{length-becomes, word-kept}
use Rattle.orc_book.proofs.Given.{taken-posts}

-- a number is a group's, or it isn't
pub there-or : (s : Records) (i : ℕ) → IsThere s i ⊎ IsMissing s i
there-or s zero = inl (inl refl)
there-or s (suc i) = by (weight (is_named (suc i)) s.groups) refl
  where
    by : (n : ℕ) → weight (is_named (suc i)) s.groups ≡ n → IsThere s (suc i) ⊎ IsMissing s (suc i)
    by zero e = inr (λ z. absurd (omega (arith, z)), λ g there is. omega (arith, e, weight-in (is_named (suc i)) s.groups g there, this_is (suc i) g.number (sym is)))
    by (suc n) e = let g = some-in (is_named (suc i)) s.groups (omega (arith, e)) in inl (inr (g.0, (g.1, sym (this_one (suc i) (Group.number g.0) g.2))))

pub not-both : (s : Records) (i j : ℕ) → IsThere s i → IsMissing s j → i ≡ j → ⊥
not-both s i j (inl z) m e = m.0 (sym e ∙ z)
not-both s i j (inr g) m e = m.1 g.0 (g.1).0 ((g.1).1 ∙ e)

pub either : (i k : ℕ) → (i < k) ⊎ (k ≤ i)
either i zero = inr (omega arith)
either zero (suc k) = inl (omega arith)
either (suc i) (suc k) = elim (either i k) [ inl h ↦ inl (omega (arith, h)) | inr h ↦ inr (omega (arith, h)) ]

tokens-fewer : (s : Records) (i : ℕ) → tokens_in s.steps s.tokens i ≤ members (numbers_of s) s i
tokens-fewer s i = omega arith

-- a post there is, or there is none
of-post : (ps : List Hold) (i : ℕ) → ((p : Hold) × (slice_get ps i ≡ Some p)) ⊎ (slice_get ps i ≡ Nothing)
of-post ps i = by (slice_get ps i) refl
  where
    by : (o : Option Hold) → slice_get ps i ≡ o → ((p : Hold) × (slice_get ps i ≡ Some p)) ⊎ (slice_get ps i ≡ Nothing)
    by (Some p) e = inl (p, e)
    by Nothing e = inr e

got-in : (ps : List Hold) (i : ℕ) (p : Hold) → slice_get ps i ≡ Some p → i < length ps
got-in [] i p h = cc h
got-in (q ∷ ps) zero p h = omega arith
got-in (q ∷ ps) (suc i) p h = omega (arith, got-in ps i p h)

-- ---- settling

-- what the book has of a group is no less than its members
pub held-enough : (s : Records) (ps : List Hold) → AreLoose ps s → (i : ℕ) → members (numbers_of s) s i ≤ held_at ps i + out_at ps i
held-enough s ps L i = by (there-or s i)
  where
    by : IsThere s i ⊎ IsMissing s i → members (numbers_of s) s i ≤ held_at ps i + out_at ps i
    by (inl h) = (L.there i h).1
    by (inr m) = omega (arith, L.missing i m)

-- a group with members is there
some-there : (s : Records) (ps : List Hold) → AreLoose ps s → (i : ℕ) → 1 ≤ members (numbers_of s) s i → IsLoose s ps i
some-there s ps L i some = by (there-or s i)
  where
    by : IsThere s i ⊎ IsMissing s i → IsLoose s ps i
    by (inl h) = L.there i h
    by (inr m) = absurd (omega (arith, some, L.missing i m))

-- so no more of its tokens are out
pub out-within : (s : Records) (ps : List Hold) → AreLoose ps s → (i : ℕ) → 1 ≤ members (numbers_of s) s i → out_at ps i ≤ members (numbers_of s) s i
out-within s ps L i some = omega (arith, (some-there s ps L i some).0, tokens-fewer s i)

pub record AreSettling (s : Records) (first ps : List Hold) (k : ℕ) : Type 0 where
  pub loose : AreLoose ps s
  pub done : (i : ℕ) → i < k → IsLoose s ps i × (held_at ps i + out_at ps i ≡ members (numbers_of s) s i)
  pub count : length ps ≡ length first
  pub words : (i : ℕ) → word_at ps i ≡ word_at first i

module _ (s : Records) (first ps : List Hold) (k : ℕ) (C : AreSettling s first ps k) (ps' : List Hold) (p q : Hold) (B : Becomes ps k p q ps') (word : q.word ≡ p.word) (keeps : KeepsTokens (members (numbers_of s) s k) p q) (fits : length q.passes + q.out ≡ members (numbers_of s) s k) where
  its : (i : ℕ) → (i ≡ k → ⊥) → slice_get ps' i ≡ slice_get ps i
  its i off = ap (λ z. slice_get z i) B.1 ∙ set-elsewhere ps k i q off

  mine : slice_get ps' k ≡ Some q
  mine = ap (λ z. slice_get z k) B.1 ∙ set-there ps k p q B.0

  as-before : (i : ℕ) → (i ≡ k → ⊥) → IsLoose s ps i → IsLoose s ps' i
  as-before i off L = let same = its i off in (omega (arith, L.0, ap kept_of same, ap out_of same), omega (arith, L.1, ap passes_of same, ap out_of same))

  here : IsLoose s ps' k × (held_at ps' k + out_at ps' k ≡ members (numbers_of s) s k)
  here = (by (members (numbers_of s) s k) refl, omega (arith, fits, ap passes_of mine, ap out_of mine))
    where
      by : (n : ℕ) → members (numbers_of s) s k ≡ n → IsLoose s ps' k
      by zero z = (omega (arith, ap kept_of mine, ap out_of mine, (keeps.0 z).0, (keeps.0 z).1, z, tokens-fewer s k), omega (arith, z))
      by (suc n) z =
          let some : 1 ≤ members (numbers_of s) s k = omega (arith, z) in
          let L = some-there s ps C.loose k some in
          (omega (arith, L.0, ap kept_of mine, ap out_of mine, ap kept_of B.0, ap out_of B.0, (keeps.1 some).0, (keeps.1 some).1), omega (arith, fits, ap passes_of mine, ap out_of mine))

  pub settling-on : AreSettling s first ps' (k + 1)
  settling-on =
      record {
        loose = record { there = λ i h. there_by i h (nat_eq i k) refl; missing = C.loose.missing };
        done = λ i lt. done_by i (nat_eq i k) refl lt;
        count = omega (arith, C.count, length-becomes ps ps' k p q B);
        words = λ i. word-kept ps ps' k p q B word i ∙ C.words i;
      }
    where
      there_by : (i : ℕ) → IsThere s i → (b : Bool) → nat_eq i k ≡ b → IsLoose s ps' i
      there_by i h true e = subst (IsLoose s ps') (sym (eqb-true i k e)) here.0
      there_by i h false e = as-before i (λ x. cc (eq-eqb i k x, e)) (C.loose.there i h)

      less : (i k : ℕ) → i < k + 1 → (i ≡ k → ⊥) → i < k
      less i k lt off = omega (arith, lt, off)

      done_by : (i : ℕ) (b : Bool) → nat_eq i k ≡ b → i < k + 1 → IsLoose s ps' i × (held_at ps' i + out_at ps' i ≡ members (numbers_of s) s i)
      done_by i true e lt = subst (λ z. IsLoose s ps' z × (held_at ps' z + out_at ps' z ≡ members (numbers_of s) s z)) (sym (eqb-true i k e)) here
      done_by i false e lt =
          let off : i ≡ k → ⊥ = λ x. cc (eq-eqb i k x, e) in
          let same = its i off in
          let D = C.done i (less i k lt off) in
          (as-before i off D.0, omega (arith, D.1, ap passes_of same, ap out_of same))

-- the numbers up to k2 need nothing
pub settling-over : (s : Records) (first ps : List Hold) (k k2 : ℕ) → AreSettling s first ps k → ((i : ℕ) → k ≤ i → i < k2 → IsSettled s ps i) → AreSettling s first ps k2
settling-over s first ps k k2 C over = record { loose = C.loose; done = λ i lt. by i lt (either i k); count = C.count; words = C.words }
  where
    by : (i : ℕ) → i < k2 → (i < k) ⊎ (k ≤ i) → IsLoose s ps i × (held_at ps i + out_at ps i ≡ members (numbers_of s) s i)
    by i lt (inl less) = C.done i less
    by i lt (inr le) = let x = over i le lt in (some-there s ps C.loose i x.0, x.1)

pub settling-done : (s : Records) (first ps : List Hold) → AreSettling s first ps (length first) → length first ≤ MOST_GROUPS → AreHeld ps s
settling-done s first ps C few =
    record {
      tokens = λ i. (each i).0;
      passes = λ i. (each i).1;
      few = omega (arith, C.count, few);
    }
  where
    each : (i : ℕ) → (kept_at ps i + out_at ps i ≡ tokens_in s.steps s.tokens i) × (held_at ps i + out_at ps i ≡ members (numbers_of s) s i)
    each i = by (of-post ps i)
      where
        by : ((p : Hold) × (slice_get ps i ≡ Some p)) ⊎ (slice_get ps i ≡ Nothing) → (kept_at ps i + out_at ps i ≡ tokens_in s.steps s.tokens i) × (held_at ps i + out_at ps i ≡ members (numbers_of s) s i)
        by (inl x) = let D = C.done i (omega (arith, C.count, got-in ps i x.0 x.1)) in (D.0.0, D.1)
        by (inr x) =
            let none : members (numbers_of s) s i ≡ 0 = omega (arith, held-enough s ps C.loose i, ap passes_of x, ap out_of x) in
            (omega (arith, none, tokens-fewer s i, ap kept_of x, ap out_of x), omega (arith, none, ap passes_of x, ap out_of x))

-- ---- a book holds no more passes than there are records

-- 1 for a number from j on
abbrev from_on : ℕ → ℕ → ℕ
from_on zero n = 1
from_on (suc j) zero = 0
from_on (suc j) (suc n) = from_on j n

this-next : (j n : ℕ) → is_this (suc j) (suc n) ≡ is_this j n
this-next j n = by (nat_eq j n) refl
  where
    by : (b : Bool) → nat_eq j n ≡ b → is_this (suc j) (suc n) ≡ is_this j n
    by true e = let same = eqb-true j n e in omega (arith, this_is (suc j) (suc n) (ap suc same), this_is j n same)
    by false e =
        let off : j ≡ n → ⊥ = λ same. cc (eq-eqb j n same, e) in
        omega (arith, this_not (suc j) (suc n) (λ h. off (omega (arith, h))), this_not j n off)

one-more : (j n : ℕ) → is_this j n + from_on (suc j) n ≡ from_on j n
one-more zero zero = omega (arith, this_is 0 0 refl)
one-more zero (suc n) = omega (arith, this_not 0 (suc n) (λ e. absurd (omega (arith, e))))
one-more (suc j) zero = omega (arith, this_not (suc j) 0 (λ e. absurd (omega (arith, e))))
one-more (suc j) (suc n) = omega (arith, this-next j n, one-more j n)

one-at-most : (j n : ℕ) → from_on j n ≤ 1
one-at-most zero n = omega arith
one-at-most (suc j) zero = omega arith
one-at-most (suc j) (suc n) = one-at-most j n

all-more : {X : Type 0} (f : X → ℕ) (j : ℕ) (xs : List X) → weight (λ x. is_this j (f x)) xs + weight (λ x. from_on (suc j) (f x)) xs ≡ weight (λ x. from_on j (f x)) xs
all-more f j [] = refl
all-more f j (x ∷ xs) = omega (arith, one-more j (f x), all-more f j xs)

all-fewer : {X : Type 0} (f : X → ℕ) (j : ℕ) (xs : List X) → weight (λ x. from_on j (f x)) xs ≤ length xs
all-fewer f j [] = omega arith
all-fewer f j (x ∷ xs) = omega (arith, one-at-most j (f x), all-fewer f j xs)

-- of the records of groups from j on
bags-from : (s : Records) (ps : List Hold) (j : ℕ) → ((i : ℕ) → held_at ps i ≤ members (numbers_of s) s (i + j)) → weight bag ps ≤ weight (λ (t : Token). from_on j (group_at s.steps t.step)) s.tokens + (weight (λ (c : Call). from_on j (group_at s.steps c.step)) s.calls + weight (λ (g : Group). from_on j (group_at s.steps g.outer)) s.groups)
bags-from s [] j fewer = omega arith
bags-from s (p ∷ ps) j fewer =
    omega (
      arith,
      subst (λ z. held_at (p ∷ ps) 0 ≤ members (numbers_of s) s z) first (fewer 0),
      bags-from s ps (suc j) (λ i. subst (λ z. held_at ps i ≤ members (numbers_of s) s z) (next i) (fewer (suc i))),
      all-more (λ (t : Token). group_at s.steps t.step) j s.tokens,
      all-more (λ (c : Call). group_at s.steps c.step) j s.calls,
      all-more (λ (g : Group). group_at s.steps g.outer) j s.groups,
    )
  where
    first : 0 + j ≡ j
    first = omega arith

    next : (i : ℕ) → suc i + j ≡ i + suc j
    next i = omega arith

pub bags-within : (s : Records) (ps : List Hold) → AreHeld ps s → weight bag ps ≤ records_in s
bags-within s ps H =
    omega (
      arith,
      bags-from s ps 0 (λ i. subst (λ z. held_at ps i ≤ members (numbers_of s) s z) (same i) (omega (arith, H.passes i))),
      all-fewer (λ (t : Token). group_at s.steps t.step) 0 s.tokens,
      all-fewer (λ (c : Call). group_at s.steps c.step) 0 s.calls,
      all-fewer (λ (g : Group). group_at s.steps g.outer) 0 s.groups,
    )
  where
    same : (i : ℕ) → i ≡ i + 0
    same i = omega arith

pub held-fewer : (ps : List Hold) (i : ℕ) → held_at ps i ≤ weight bag ps
held-fewer [] i = omega arith
held-fewer (p ∷ ps) zero = omega arith
held-fewer (p ∷ ps) (suc i) = omega (arith, held-fewer ps i)

-- ---- a pass that is too many goes

module _ (s : Records) (ps : List Hold) (all : AreLoose ps s) (k : ℕ) (ps' : List Hold) (more : members (numbers_of s) s k + 1 ≤ held_at ps k + out_at ps k) (v : View) (C : Changes ps k ps' (TakesOne v)) where
  pub spare-loose : AreLoose ps' s
  spare-loose = record { there = λ i h. by i h (nat_eq i k) refl; missing = all.missing }
    where
      p : Hold
      p = C.0

      q : Hold
      q = C.1

      mine : slice_get ps' k ≡ Some q
      mine = ap (λ z. slice_get z k) (C.2).1 ∙ set-there ps k p q (C.2).0

      here : IsLoose s ps k → IsLoose s ps' k
      here L = (
        omega (arith, L.0, ap kept_of mine, ap out_of mine, ap kept_of (C.2).0, ap out_of (C.2).0, (C.4).1, (C.4).2),
        omega (arith, more, ap passes_of mine, ap out_of mine, ap passes_of (C.2).0, ap out_of (C.2).0, (C.4).0, (C.4).2),
      )

      by : (i : ℕ) → IsThere s i → (b : Bool) → nat_eq i k ≡ b → IsLoose s ps' i
      by i h true e = let same = eqb-true i k e in subst (IsLoose s ps') (sym same) (here (subst (IsLoose s ps) same (all.there i h)))
      by i h false e =
          let same : slice_get ps' i ≡ slice_get ps i = ap (λ z. slice_get z i) (C.2).1 ∙ set-elsewhere ps k i q (λ x. cc (eq-eqb i k x, e)) in
          let L = all.there i h in
          (omega (arith, L.0, ap kept_of same, ap out_of same), omega (arith, L.1, ap passes_of same, ap out_of same))

  pub spare-bags : weight bag ps' ≤ weight bag ps
  spare-bags = omega (arith, ap (weight bag) (C.2).1, weight-set bag ps k C.0 C.1 (C.2).0, (C.4).0)

  pub spare-held : (f : View → ℕ) → in_posts f ps' + f v ≡ in_posts f ps
  spare-held f = taken-posts ps ps' k C.0 C.1 v C.2 (C.4).3 f

  pub spare-count : length ps' ≡ length ps
  spare-count = length-becomes ps ps' k C.0 C.1 C.2

pub spared : (s : Records) (ps : List Hold) → AreLoose ps s → (k : ℕ) (ps' : List Hold) (o : Option View) → MatchOption o (ps' ≡ ps) (λ v. (group_of v ≡ Some (word_at ps k)) × (members (numbers_of s) s k + 1 ≤ held_at ps k + out_at ps k) × Changes ps k ps' (TakesOne v)) → StayLoose s ps ps' × ((f : View → ℕ) → in_posts f ps' + of_owed f o ≡ in_posts f ps)
spared s ps all k ps' Nothing same = (subst (StayLoose s ps) (sym same) (record { loose = all; bags = omega arith; count = refl; words = λ i. refl }), λ f. omega (arith, ap (in_posts f) same))
spared s ps all k ps' (Some v) x = (record { loose = spare-loose s ps all k ps' x.1 v x.2; bags = spare-bags s ps all k ps' x.1 v x.2; count = spare-count s ps all k ps' x.1 v x.2; words = word-kept ps ps' k (x.2).0 (x.2).1 (x.2).2 (x.2).3 }, spare-held s ps all k ps' x.1 v x.2)
