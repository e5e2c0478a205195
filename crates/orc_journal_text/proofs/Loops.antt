-- Reading as a loop does.
use Rattle.std.proofs.Common.{◌≡◌, ℕ, suc, ◌+◌, ◌-◌, ◌<◌, ◌≤◌, List, [], ◌∷◌, ◌++◌, take, drop, Option, Some, None, refl, sym, ap, ◌∙◌, append_assoc, arith}
use Rattle.orc_rules.specs.declared.value.Value.{Value}
use Rattle.orc_journal_text.specs.Reading.{◌>>=◌, after, split_name, value_at, values_at}

-- ---- the bytes before a bracket

abbrev pub Split : List ℕ → ℕ → Type 0
Split bytes end = split_name bytes ≡ (take end bytes ++ (split_name (drop end bytes)).0, (split_name (drop end bytes)).1)

-- ---- values with commas between them

abbrev pub with_front : List Value → Option (List Value × List ℕ) → Option (List Value × List ℕ)
with_front front read = read >>= λ x. Some (front ++ x.0, x.1)

one_more : (count i : ℕ) → i < count → count - i ≡ suc (count - (i + 1))
one_more count i lt = omega arith

pub closed : (front : List Value) (count i : ℕ) (bytes behind rest : List ℕ) (v : Value) (total : Option (List Value × List ℕ)) → i < count → value_at bytes ≡ Some (v, behind) → after (41 ∷ []) behind ≡ Some rest
    → with_front front (values_at (count - i) bytes) ≡ total → total ≡ Some (front ++ v ∷ [], rest)
closed front count i bytes behind rest v total lt h a so_far = sym so_far ∙ rw (one_more count i lt, h, a) refl

regroup : (front : List Value) (v : Value) (read : Option (List Value × List ℕ)) → with_front front (read >>= λ x. Some (v ∷ x.0, x.1)) ≡ with_front (front ++ v ∷ []) read
regroup front v (Some x) = ap (λ (vs : List Value). Some (vs, x.1)) (sym (append_assoc front (v ∷ []) x.0))
regroup front v None = refl

pub goes_on : (front : List Value) (count i : ℕ) (bytes behind rest : List ℕ) (v : Value) (total : Option (List Value × List ℕ)) → i < count → value_at bytes ≡ Some (v, behind) → after (41 ∷ []) behind ≡ None → after (44 ∷ 32 ∷ []) behind ≡ Some rest
    → with_front front (values_at (count - i) bytes) ≡ total → with_front (front ++ v ∷ []) (values_at (count - (i + 1)) rest) ≡ total
goes_on front count i bytes behind rest v total lt h a b so_far =
    let one : with_front front (values_at (count - i) bytes) ≡ with_front (front ++ v ∷ []) (values_at (count - (i + 1)) rest) = rw (one_more count i lt, h, a, b) (regroup front v (values_at (count - (i + 1)) rest)) in
    sym one ∙ so_far

pub too_many : (front : List Value) (count i : ℕ) (bytes : List ℕ) (total : Option (List Value × List ℕ)) → count ≤ i → with_front front (values_at (count - i) bytes) ≡ total → total ≡ None
too_many front count i bytes total le so_far =
    let k : count - i ≡ 0 = omega arith in
    sym so_far ∙ rw k refl

one_up : (i : ℕ) → suc i + 1 ≡ suc (i + 1)
one_up i = omega arith
