-- The terms of numbered nodes.
use Rattle.std.proofs.Common.{◌≡◌, ◌<◌, ◌≤◌, ◌+◌, ℕ, zero, suc, List, [], ◌∷◌, ◌++◌, length, map, true, Option, Some, None, ◌⊎◌, get_or, refl, sym, ap, ◌∙◌, subst, inl, inr, arith, length-append}
use Rattle.std.proofs.lemmas.List.{get_or_append_left, append-nil}
use Rattle.std.proofs.Math.Seq.{get_or-append_seam}
use Rattle.std.specs.Prelude.{slice_get, option_map}
use Rattle.orc_rules.specs.declared.value.Value.{Value}
use Rattle.orc_rules.specs.Sites.{values_eq}
use Rattle.orc_rules.proofs.Values.{values_decide}
use Rattle.orc_search.specs.declared.node.Node.{Node}
use Rattle.orc_search.specs.declared.node.Node.TheVariants as node
use Rattle.orc_search.specs.declared.node.Summary.{Summary}
use Rattle.orc_search.specs.Small.{Small, nothing}
use Rattle.orc_search.specs.Nodes.{joined, small_at, small_of_node, smalls_from, smalls, HasParts, ArePartsFirst, summary_of, Extends}

-- one more node
pub smalls_last : (ts : List Small) (ns : List Node) (n : Node) → smalls_from ts (ns ++ n ∷ []) ≡ smalls_from ts ns ++ small_of_node (smalls_from ts ns) n ∷ []
smalls_last ts [] n = refl
smalls_last ts (m ∷ ns) n = smalls_last (ts ++ small_of_node ts m ∷ []) ns n

pub as_many : (ts : List Small) (ns : List Node) → length (smalls_from ts ns) ≡ length ts + length ns
as_many ts [] = omega arith
as_many ts (n ∷ ns) = let e = as_many (ts ++ small_of_node ts n ∷ []) ns in omega (arith, e, length-append ts (small_of_node ts n ∷ []))

pub same_len : (ns : List Node) → length (smalls ns) ≡ length ns
same_len ns = let e = as_many [] ns in omega (arith, e)

-- terms in front are the same
alike : (ts ts' : List Small) (m : ℕ) (n : Node) → HasParts m n → ((i : ℕ) → i < m → small_at ts i ≡ small_at ts' i) → small_of_node ts n ≡ small_of_node ts' n
alike ts ts' m (node.Tip t) h same = refl
alike ts ts' m (node.Pair j f g) h same = λ i. joined j (same f h.0 i) (same g h.1 i)

kept : (ts : List Small) (ns : List Node) (i : ℕ) → i < length ts → small_at (smalls_from ts ns) i ≡ small_at ts i
kept ts [] i lt = refl
kept ts (n ∷ ns) i lt = kept (ts ++ small_of_node ts n ∷ []) ns i (omega (arith, lt, length-append ts (small_of_node ts n ∷ []))) ∙ get_or_append_left ts (small_of_node ts n ∷ []) nothing i lt

abbrev or_else : {X : Type 0} → X → Option X → X
or_else d (Some z) = z
or_else d None = d

unfolded : (ts : List Small) (ns : List Node) (j k : ℕ) (n : Node) → k ≡ length ts + j → slice_get ns j ≡ Some n → HasParts k n → small_at (smalls_from ts ns) k ≡ small_of_node (smalls_from ts ns) n
unfolded ts [] j k n e h parts = cc h
unfolded ts (m ∷ ns) zero k n e h parts =
    let is : k ≡ length ts = omega (arith, e) in
    let same : m ≡ n = ap (or_else m) h in
    ap (small_at (smalls_from ts (m ∷ ns))) is ∙
    (kept (ts ++ small_of_node ts m ∷ []) ns (length ts) (omega (arith, length-append ts (small_of_node ts m ∷ []))) ∙
    (get_or-append_seam ts (small_of_node ts m) [] nothing ∙
    (ap (small_of_node ts) same ∙ alike ts (smalls_from ts (m ∷ ns)) k n parts (λ i lt. sym (kept ts (m ∷ ns) i (omega (arith, lt, is)))))))
unfolded ts (m ∷ ns) (suc j) k n e h parts = unfolded (ts ++ small_of_node ts m ∷ []) ns j k n (omega (arith, e, length-append ts (small_of_node ts m ∷ []))) h parts

pub there : (ts : List Small) (i : ℕ) → i < length ts → slice_get ts i ≡ Some (small_at ts i)
there [] i lt = absurd (omega (arith, lt))
there (t ∷ ts) zero lt = refl
there (t ∷ ts) (suc i) lt = there ts i (omega (arith, lt))

pub within : {X : Type 0} (xs : List X) (i : ℕ) (x : X) → slice_get xs i ≡ Some x → i < length xs
within [] i x h = cc h
within (y ∷ xs) zero x h = omega arith
within (y ∷ xs) (suc i) x h = let l = within xs i x h in omega (arith, l)

pub term_at : (ts : List Small) (i : ℕ) (t : Small) → slice_get ts i ≡ Some t → small_at ts i ≡ t
term_at [] i t h = cc h
term_at (u ∷ ts) zero t h = ap (or_else u) h
term_at (u ∷ ts) (suc i) t h = term_at ts i t h

pub node_term : (ns : List Node) (i : ℕ) (n : Node) → ArePartsFirst ns → slice_get ns i ≡ Some n → slice_get (smalls ns) i ≡ Some (small_of_node (smalls ns) n)
node_term ns i n first h = there (smalls ns) i (let l = within ns i n h in omega (arith, l, same_len ns)) ∙ ap Some (unfolded [] ns i i n (omega arith) h (first i n h))

pub none_term : {X : Type 0} (xs : List X) (i : ℕ) → slice_get xs i ≡ None → length xs ≤ i
none_term [] i h = omega arith
none_term (y ∷ xs) zero h = cc h
none_term (y ∷ xs) (suc i) h = let l = none_term xs i h in omega (arith, l)

-- one more node keeps parts first
pub at_end : {X : Type 0} (xs : List X) (x y : X) (i : ℕ) → slice_get (xs ++ x ∷ []) i ≡ Some y → (slice_get xs i ≡ Some y) ⊎ ((i ≡ length xs) × (x ≡ y))
at_end [] x y zero h = inr (omega arith, ap (or_else x) h)
at_end [] x y (suc i) h = cc h
at_end (z ∷ xs) x y zero h = inl h
at_end (z ∷ xs) x y (suc i) h = go (at_end xs x y i h) where
  go : (slice_get xs i ≡ Some y) ⊎ ((i ≡ length xs) × (x ≡ y)) → (slice_get xs i ≡ Some y) ⊎ ((suc i ≡ length (z ∷ xs)) × (x ≡ y))
  go (inl p) = inl p
  go (inr p) = inr (let e = p.0 in omega (arith, e), p.1)

pub first_last : (ns : List Node) (n : Node) → ArePartsFirst ns → HasParts (length ns) n → ArePartsFirst (ns ++ n ∷ [])
first_last ns n first parts i m h = go (at_end ns n m i h) where
  go : (slice_get ns i ≡ Some m) ⊎ ((i ≡ length ns) × (n ≡ m)) → HasParts i m
  go (inl p) = first i m p
  go (inr p) = subst (λ (k : ℕ). HasParts k m) (sym p.0) (subst (λ (k : Node). HasParts (length ns) k) p.1 parts)

pub mapped_get : {X Y : Type 0} (f : X → Y) (xs : List X) (i : ℕ) → slice_get (map f xs) i ≡ option_map f (slice_get xs i)
mapped_get f [] i = refl
mapped_get f (x ∷ xs) zero = refl
mapped_get f (x ∷ xs) (suc i) = mapped_get f xs i

pub map_last : {X Y : Type 0} (f : X → Y) (xs : List X) (x : X) → map f (xs ++ x ∷ []) ≡ map f xs ++ f x ∷ []
map_last f [] x = refl
map_last f (y ∷ xs) x = λ i. f y ∷ map_last f xs x i

pub extends_self : (ts : List Small) → Extends ts ts
extends_self ts = ([], sym (append-nil ts))

pub extends_last : (ns : List Node) (n : Node) → Extends (smalls ns) (smalls (ns ++ n ∷ []))
extends_last ns n = (small_of_node (smalls ns) n ∷ [], smalls_last [] ns n)

pub last_term : (ns : List Node) (n : Node) → slice_get (smalls (ns ++ n ∷ [])) (length ns) ≡ Some (small_of_node (smalls ns) n)
last_term ns n = ap (λ (ts : List Small). slice_get ts (length ns)) (smalls_last [] ns n) ∙ ap (slice_get (smalls ns ++ small_of_node (smalls ns) n ∷ [])) (sym (same_len ns)) ∙ seam (smalls ns) (small_of_node (smalls ns) n)
  where
    seam : (ts : List Small) (t : Small) → slice_get (ts ++ t ∷ []) (length ts) ≡ Some t
    seam [] t = refl
    seam (u ∷ ts) t = seam ts t

-- what is known of the terms, with one more
pub summaries_last : (ns : List Node) (n : Node) (ss : List Summary) (s : Summary) → ss ≡ map summary_of (smalls ns) → s ≡ summary_of (small_of_node (smalls ns) n) → ss ++ s ∷ [] ≡ map summary_of (smalls (ns ++ n ∷ []))
summaries_last ns n ss s e d = (λ i. e i ++ d i ∷ []) ∙ sym (map_last summary_of (smalls ns) (small_of_node (smalls ns) n)) ∙ ap (map summary_of) (sym (smalls_last [] ns n))

pub values_same : (vs ws : List Value) → values_eq vs ws ≡ true → vs ≡ ws
values_same vs ws e = (values_decide vs ws).0 e

-- what is known of a term, or of none
pub summary_get : (nodes nodes' : List Node) (ss : List Summary) (i : ℕ) → nodes ≡ nodes' → ss ≡ map summary_of (smalls nodes) → get_or ss i (summary_of nothing) ≡ summary_of (small_at (smalls nodes') i)
summary_get nodes nodes' ss i same e = ap (λ (xs : List Summary). get_or xs i (summary_of nothing)) e ∙ at (smalls nodes) i ∙ ap (λ (ns : List Node). summary_of (small_at (smalls ns) i)) same
  where
    at : (ts : List Small) (i : ℕ) → get_or (map summary_of ts) i (summary_of nothing) ≡ summary_of (small_at ts i)
    at [] i = refl
    at (t ∷ ts) zero = refl
    at (t ∷ ts) (suc i) = at ts i
