-- Calls without arguments, which a table counts by sites, beside the others, which a map counts by keys.
use Rattle.std.proofs.Common.{◌≡◌, ◌≤◌, ◌<◌, ◌+◌, ℕ, zero, suc, Bool, true, false, cond, nat_eq, List, [], ◌∷◌, ◌++◌, length, take, replicate, if◌then◌else◌, Option, Some, None, refl, sym, ap, subst, ◌∙◌, eqb-true, arith}
use Rattle.std.specs.Prelude.{◌&&◌, bytes_eq, slice_index_or, slice_set, unwrap_or}
use Rattle.std.specs.Map.{lookup}
use Rattle.std.proofs.lemmas.Bool.Decides.{nat_tests}
use Rattle.std.proofs.lemmas.List.{take_all}
use Rattle.orc_rules.specs.declared.value.Value.{Value}
use Rattle.orc_rules.specs.Sites.{values_eq}
use Rattle.orc_calls.specs.Counting.{amount_of, bare_entries, key, kind_of, nth_in, words_of, CountsOne, HasNoBare, IsSetAt}

abbrev Counted : Type 0
Counted = List (List ℕ × ℕ)

and_false : (b : Bool) → (b && false) ≡ false
and_false true = refl
and_false false = refl

-- what isn't found in front is looked for behind
behind : (q : List ℕ) (es fs : Counted) → lookup (bytes_eq q) es ≡ None → lookup (bytes_eq q) (es ++ fs) ≡ lookup (bytes_eq q) fs
behind q [] fs none = refl
behind q (e ∷ es) fs none = go (bytes_eq q e.0) refl (behind q es fs)
  where
    go : (b : Bool) → bytes_eq q e.0 ≡ b → (lookup (bytes_eq q) es ≡ None → lookup (bytes_eq q) (es ++ fs) ≡ lookup (bytes_eq q) fs) → cond (bytes_eq q e.0) (Some e.1) (lookup (bytes_eq q) (es ++ fs)) ≡ lookup (bytes_eq q) fs
    go true h rest = absurd (cc (ap (λ z. cond z (Some e.1) (lookup (bytes_eq q) es)) (sym h) ∙ none))
    go false h rest = ap (λ z. cond z (Some e.1) (lookup (bytes_eq q) (es ++ fs))) h ∙ rest (ap (λ z. cond z (Some e.1) (lookup (bytes_eq q) es)) (sym h) ∙ none)

-- and what is found there is found
in_front : (q : List ℕ) (v : ℕ) (es fs : Counted) → lookup (bytes_eq q) es ≡ Some v → lookup (bytes_eq q) (es ++ fs) ≡ Some v
in_front q v [] fs some = absurd (cc some)
in_front q v (e ∷ es) fs some = go (bytes_eq q e.0) refl (in_front q v es fs)
  where
    go : (b : Bool) → bytes_eq q e.0 ≡ b → (lookup (bytes_eq q) es ≡ Some v → lookup (bytes_eq q) (es ++ fs) ≡ Some v) → cond (bytes_eq q e.0) (Some e.1) (lookup (bytes_eq q) (es ++ fs)) ≡ Some v
    go true h rest = ap (λ z. cond z (Some e.1) (lookup (bytes_eq q) (es ++ fs))) h ∙ ap (λ z. cond z (Some e.1) (lookup (bytes_eq q) es)) (sym h) ∙ some
    go false h rest = ap (λ z. cond z (Some e.1) (lookup (bytes_eq q) (es ++ fs))) h ∙ rest (ap (λ z. cond z (Some e.1) (lookup (bytes_eq q) es)) (sym h) ∙ some)

-- no key with arguments is among those without
longer : (m a : ℕ) (ws : List ℕ) (k : ℕ) (ns : List ℕ) → lookup (bytes_eq (m ∷ a ∷ ws)) (bare_entries k ns) ≡ None
longer m a ws k [] = refl
longer m a ws k (n ∷ ns) = go (nat_eq n 0) (longer m a ws (suc k) ns)
  where
    go : (b : Bool) → lookup (bytes_eq (m ∷ a ∷ ws)) (bare_entries (suc k) ns) ≡ None → lookup (bytes_eq (m ∷ a ∷ ws)) (cond b (bare_entries (suc k) ns) ((k ∷ [], n) ∷ bare_entries (suc k) ns)) ≡ None
    go true rest = rest
    go false rest = ap (λ z. cond z (Some n) (lookup (bytes_eq (m ∷ a ∷ ws)) (bare_entries (suc k) ns))) (and_false (nat_eq m k)) ∙ rest

same_one : (m k : ℕ) (b : Bool) → nat_eq m k ≡ b → bytes_eq (m ∷ []) (k ∷ []) ≡ b
same_one m k true h = ap (λ z. z && true) h
same_one m k false h = ap (λ z. z && true) h

other : (m k : ℕ) → (m ≡ k → ⊥) → nat_eq m k ≡ false
other m k apart = grind (arith, nat_tests)

suc_eq : (m k : ℕ) → nat_eq (suc m) (suc k) ≡ nat_eq m k
suc_eq m k = grind (arith, nat_tests)

itself : (m : ℕ) → nat_eq m m ≡ true
itself m = grind (arith, nat_tests)

-- nor is a site before the first
before : (m k : ℕ) (ns : List ℕ) → m < k → lookup (bytes_eq (m ∷ [])) (bare_entries k ns) ≡ None
before m k [] lt = refl
before m k (n ∷ ns) lt = go (nat_eq n 0) (before m (suc k) ns (omega (arith, lt)))
  where
    go : (b : Bool) → lookup (bytes_eq (m ∷ [])) (bare_entries (suc k) ns) ≡ None → lookup (bytes_eq (m ∷ [])) (cond b (bare_entries (suc k) ns) ((k ∷ [], n) ∷ bare_entries (suc k) ns)) ≡ None
    go true rest = rest
    go false rest = ap (λ z. cond z (Some n) (lookup (bytes_eq (m ∷ [])) (bare_entries (suc k) ns))) (same_one m k false (other m k (λ e. omega (arith, lt, e)))) ∙ rest

abbrev seen : ℕ → Option ℕ
seen n = cond (nat_eq n 0) None (Some n)

-- what is found of a site
at : (m k i : ℕ) (ns : List ℕ) → m ≡ k + i → lookup (bytes_eq (m ∷ [])) (bare_entries k ns) ≡ seen (slice_index_or ns i 0)
at m k i [] is = refl
at m k zero (n ∷ ns) is = go (nat_eq n 0)
  where
    go : (b : Bool) → lookup (bytes_eq (m ∷ [])) (cond b (bare_entries (suc k) ns) ((k ∷ [], n) ∷ bare_entries (suc k) ns)) ≡ cond b None (Some n)
    go true = before m (suc k) ns (omega (arith, is))
    go false = ap (λ z. cond z (Some n) (lookup (bytes_eq (m ∷ [])) (bare_entries (suc k) ns))) (same_one m k true (ap (λ z. nat_eq z k) (omega (arith, is)) ∙ itself k))
at m k (suc i) (n ∷ ns) is = go (nat_eq n 0) (at m (suc k) i ns (omega (arith, is)))
  where
    go : (b : Bool) → lookup (bytes_eq (m ∷ [])) (bare_entries (suc k) ns) ≡ seen (slice_index_or ns i 0) → lookup (bytes_eq (m ∷ [])) (cond b (bare_entries (suc k) ns) ((k ∷ [], n) ∷ bare_entries (suc k) ns)) ≡ seen (slice_index_or ns i 0)
    go true rest = rest
    go false rest = ap (λ z. cond z (Some n) (lookup (bytes_eq (m ∷ [])) (bare_entries (suc k) ns))) (same_one m k false (other m k (λ e. omega (arith, is, e)))) ∙ rest

-- ---- beside a map that has no call without arguments

module _ (ns : List ℕ) (es : Counted) where
  -- the next call without arguments is the table's
  pub nth_bare : (m n : ℕ) → HasNoBare es → n ≡ slice_index_or ns m 0 → cond (nat_eq n 0) 1 n ≡ nth_in (bare_entries 0 ns ++ es) m []
  nth_bare m n none is = ap (λ z. cond (nat_eq z 0) 1 z) is ∙ go (nat_eq (slice_index_or ns m 0) 0) refl
    where
      go : (b : Bool) → nat_eq (slice_index_or ns m 0) 0 ≡ b → cond (nat_eq (slice_index_or ns m 0) 0) 1 (slice_index_or ns m 0) ≡ nth_in (bare_entries 0 ns ++ es) m []
      go true h = ap (λ z. cond z 1 (slice_index_or ns m 0)) h ∙ sym (ap (λ z. unwrap_or z 1) (behind (m ∷ []) (bare_entries 0 ns) es (at m 0 m ns (omega arith) ∙ ap (λ z. cond z None (Some (slice_index_or ns m 0))) h) ∙ none m))
      go false h = ap (λ z. cond z 1 (slice_index_or ns m 0)) h ∙ sym (ap (λ z. unwrap_or z 1) (in_front (m ∷ []) (slice_index_or ns m 0) (bare_entries 0 ns) es (at m 0 m ns (omega arith) ∙ ap (λ z. cond z None (Some (slice_index_or ns m 0))) h)))

  pub none_yet : (m n : ℕ) → HasNoBare es → n ≡ slice_index_or ns m 0 → n ≡ 0 → 1 ≡ nth_in (bare_entries 0 ns ++ es) m []
  none_yet m n none is zero_is = sym (ap (λ z. cond z 1 n) (ap (λ z. nat_eq z 0) zero_is ∙ itself 0)) ∙ nth_bare m n none is

  pub noted : (m n : ℕ) → HasNoBare es → n ≡ slice_index_or ns m 0 → (n ≡ 0 → ⊥) → n ≡ nth_in (bare_entries 0 ns ++ es) m []
  noted m n none is some = sym (ap (λ z. cond z 1 n) (other n 0 some)) ∙ nth_bare m n none is

  -- that with arguments the map's
  pub nth_by_key : (m : ℕ) (args : List Value) → 1 ≤ length args → nth_in es m args ≡ nth_in (bare_entries 0 ns ++ es) m args
  nth_by_key m [] some = absurd (omega (arith, some))
  nth_by_key m (a ∷ args) some = ap (λ z. unwrap_or z 1) (sym (behind (key m (a ∷ args)) (bare_entries 0 ns) es (longer m (kind_of a) (amount_of a ∷ words_of args) 0 ns)))

-- a call that is noted is not taken for none
next_is : (v n : ℕ) → v ≡ suc n → cond (nat_eq v 0) 1 v ≡ suc n
next_is v n is = ap (λ z. cond z 1 v) (other v 0 (λ e. omega (arith, is, e))) ∙ is

-- one more call of a site without arguments
pub adds_bare : (ns ns' : List ℕ) (es : Counted) (m v : ℕ) → HasNoBare es → v ≡ suc (nth_in (bare_entries 0 ns ++ es) m []) → IsSetAt m v ns ns' → CountsOne m [] (bare_entries 0 ns ++ es) (bare_entries 0 ns' ++ es)
adds_bare ns ns' es m v none is sets n [] = sym (nth_bare ns' es n (cond (nat_eq n m) v (slice_index_or ns n 0)) none (sym (sets n))) ∙ go (nat_eq n m) refl
  where
    go : (b : Bool) → nat_eq n m ≡ b → cond (nat_eq (cond (nat_eq n m) v (slice_index_or ns n 0)) 0) 1 (cond (nat_eq n m) v (slice_index_or ns n 0)) ≡ cond (nat_eq n m && true) (suc (nth_in (bare_entries 0 ns ++ es) n [])) (nth_in (bare_entries 0 ns ++ es) n [])
    go true h = rw h (next_is v (nth_in (bare_entries 0 ns ++ es) m []) is ∙ ap (λ z. suc (nth_in (bare_entries 0 ns ++ es) z [])) (sym (eqb-true n m h)))
    go false h = rw h (nth_bare ns es n (slice_index_or ns n 0) none refl)
adds_bare ns ns' es m v none is sets n (a ∷ args) =
    sym (nth_by_key ns' es n (a ∷ args) (omega arith)) ∙ nth_by_key ns es n (a ∷ args) (omega arith)
    ∙ sym (ap (λ z. cond z (suc (nth_in (bare_entries 0 ns ++ es) n (a ∷ args))) (nth_in (bare_entries 0 ns ++ es) n (a ∷ args))) (and_false (nat_eq n m)))

-- one more call with arguments, which the map counts
pub adds_by_key : (ns : List ℕ) (es fs : Counted) (m : ℕ) (args : List Value) → HasNoBare es → HasNoBare fs → 1 ≤ length args → CountsOne m args es fs → CountsOne m args (bare_entries 0 ns ++ es) (bare_entries 0 ns ++ fs)
adds_by_key ns es fs m [] none none' some one n others = absurd (omega (arith, some))
adds_by_key ns es fs m (a ∷ args) none none' some one n [] =
    sym (nth_bare ns fs n (slice_index_or ns n 0) none' refl) ∙ nth_bare ns es n (slice_index_or ns n 0) none refl
    ∙ sym (ap (λ z. cond z (suc (nth_in (bare_entries 0 ns ++ es) n [])) (nth_in (bare_entries 0 ns ++ es) n [])) (and_false (nat_eq n m)))
adds_by_key ns es fs m (a ∷ args) none none' some one n (b ∷ others) =
    sym (nth_by_key ns fs n (b ∷ others) (omega arith)) ∙ one n (b ∷ others)
    ∙ ap (λ z. cond (nat_eq n m && values_eq (b ∷ others) (a ∷ args)) (suc z) z) (nth_by_key ns es n (b ∷ others) (omega arith))

-- ---- the table

zeros : (m i : ℕ) → ◌≡◌ {A = ℕ} (slice_index_or (replicate m 0) i 0) 0
zeros zero i = refl
zeros (suc m) zero = refl
zeros (suc m) (suc i) = zeros m i

more_zeros : (ns : List ℕ) (m i : ℕ) → slice_index_or (ns ++ replicate m 0) i 0 ≡ slice_index_or ns i 0
more_zeros [] m i = zeros m i
more_zeros (n ∷ ns) m zero = refl
more_zeros (n ∷ ns) m (suc i) = more_zeros ns m i

-- further sites have no call
pub resized : (b : Bool) (ns ns' : List ℕ) (n m : ℕ) → ns' ≡ (if b then take n ns ++ replicate m 0 else ns) → length ns ≤ n → (i : ℕ) → slice_index_or ns' i 0 ≡ slice_index_or ns i 0
resized true ns ns' n m is le i = ap (λ z. slice_index_or z i 0) (is ∙ ap (λ z. z ++ replicate m 0) (take_all n ns le)) ∙ more_zeros ns m i
resized false ns ns' n m is le i = ap (λ z. slice_index_or z i 0) is

set_one : (ns : List ℕ) (m v i : ℕ) → m < length ns → slice_index_or (slice_set ns m v) i 0 ≡ cond (nat_eq i m) v (slice_index_or ns i 0)
set_one [] m v i lt = absurd (omega (arith, lt))
set_one (n ∷ ns) zero v zero lt = sym (ap (λ z. cond z v n) (itself 0))
set_one (n ∷ ns) zero v (suc i) lt = sym (ap (λ z. cond z v (slice_index_or ns i 0)) (other (suc i) 0 (λ e. omega (arith, e))))
set_one (n ∷ ns) (suc m) v zero lt = sym (ap (λ z. cond z v n) (other 0 (suc m) (λ e. omega (arith, e))))
set_one (n ∷ ns) (suc m) v (suc i) lt = set_one ns m v i (omega (arith, lt)) ∙ sym (ap (λ z. cond z v (slice_index_or ns i 0)) (suc_eq i m))

pub is_set : (first ns : List ℕ) (m v : ℕ) → m < length ns → ((i : ℕ) → slice_index_or ns i 0 ≡ slice_index_or first i 0) → IsSetAt m v first (slice_set ns m v)
is_set first ns m v lt same i = set_one ns m v i lt ∙ ap (λ z. cond (nat_eq i m) v z) (same i)
