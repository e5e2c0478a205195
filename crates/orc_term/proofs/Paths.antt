-- The way up from a node is shorter than there are nodes.
use Rattle.std.proofs.Common.{◌≡◌, ◌≤◌, ◌<◌, ◌+◌, ℕ, zero, suc, List, [], ◌∷◌, length, Some, refl, ap, inl, inr, ◌⊎◌, ⊎_elim, arith}
use Rattle.std.specs.Prelude.{slice_get}
use Rattle.orc_term.specs.declared.arena.Node.{Node}
use Rattle.orc_term.specs.declared.arena.Single.TheVariants.{Feeds, Entered, Passed}
use Rattle.orc_term.specs.declared.arena.Double.TheVariants.{Both, Side}
use Rattle.orc_term.specs.Arena.{Tree, leaf, one, two, hits, count, Holds, StandOnce, Frame, on_one, on_left, on_right, plug}
use Rattle.orc_term.specs.Rising.{Stands}
use Rattle.orc_term.proofs.Trees.{hit, living-most}
use Rattle.orc_term.proofs.Rising.{far}

-- how many nodes a tree has
abbrev size : Tree → ℕ
size (leaf i k) = 1
size (one i k t) = 1 + size t
size (two i k t u) = 1 + (size t + size u)

-- how many of them have a number less than n
abbrev upto : ℕ → Tree → ℕ
upto zero t = 0
upto (suc n) t = upto n t + count n t

abbrev met : ℕ → ℕ → ℕ
met zero i = 0
met (suc n) i = met n i + hits n i

less_or : (i n : ℕ) → i < suc n → (i < n) ⊎ (i ≡ n)
less_or zero zero h = inr refl
less_or zero (suc n) h = inl (omega arith)
less_or (suc i) zero h = absurd (omega (arith, h))
less_or (suc i) (suc n) h = ⊎_elim (λ e. inl (omega (arith, e))) (λ e. inr (ap suc e)) (less_or i n (omega (arith, h)))

met_once : (n i : ℕ) → i < n → 1 ≤ met n i
met_once zero i h = absurd (omega (arith, h))
met_once (suc n) i h = ⊎_elim (λ e. omega (arith, met_once n i e)) (λ e. omega (arith, ap (λ z. hits n z) e, hit n)) (less_or i n h)

upto_leaf : (n i : ℕ) (k : _) → upto n (leaf i k) ≡ met n i
upto_leaf zero i k = refl
upto_leaf (suc n) i k = omega (arith, upto_leaf n i k)

upto_one : (n i : ℕ) (k : _) (t : Tree) → upto n (one i k t) ≡ met n i + upto n t
upto_one zero i k t = omega arith
upto_one (suc n) i k t = omega (arith, upto_one n i k t)

upto_two : (n i : ℕ) (k : _) (t u : Tree) → upto n (two i k t u) ≡ met n i + (upto n t + upto n u)
upto_two zero i k t u = omega arith
upto_two (suc n) i k t u = omega (arith, upto_two n i k t u)

upto_most : (nodes : List Node) (t : Tree) → StandOnce nodes t → (n : ℕ) → upto n t ≤ n
upto_most nodes t once zero = omega arith
upto_most nodes t once (suc n) = omega (arith, upto_most nodes t once n, once n, living-most (slice_get nodes n))

below : {X : Type 0} (xs : List X) (i : ℕ) (x : X) → slice_get xs i ≡ Some x → i < length xs
below [] i x h = cc h
below (y ∷ xs) zero x h = omega arith
below (y ∷ xs) (suc i) x h = omega (arith, below xs i x h)

all_below : (nodes : List Node) (n p : ℕ) (t : Tree) → Holds nodes n p t → size t ≤ upto (length nodes) t
all_below nodes n p (leaf i k) h = omega (arith, met_once (length nodes) i (below nodes i _ h.0), upto_leaf (length nodes) i k)
all_below nodes n p (one i k t) h = omega (arith, met_once (length nodes) i (below nodes i _ h.0), upto_one (length nodes) i k t, all_below nodes n i t h.2)
all_below nodes n p (two i k t u) h = omega (arith, met_once (length nodes) i (below nodes i _ h.0), upto_two (length nodes) i k t u, all_below nodes n i t h.1, all_below nodes n i u h.2)

longer : (k : List Frame) (t : Tree) → length k + size t ≤ size (plug k t)
longer [] t = omega arith
longer (on_one i s ∷ k) t = omega (arith, longer k (one i s t))
longer (on_left i d u ∷ k) t = omega (arith, longer k (two i d t u))
longer (on_right i d u ∷ k) t = omega (arith, longer k (two i d u t))

far_most : (k : List Frame) → far k ≤ length k
far_most [] = omega arith
far_most (on_one i (Feeds x g e) ∷ k) = omega arith
far_most (on_one i (Entered m g e) ∷ k) = omega (arith, far_most k)
far_most (on_one i Passed ∷ k) = omega (arith, far_most k)
far_most (on_left i d u ∷ k) = omega (arith, far_most k)
far_most (on_right i Both u ∷ k) = omega (arith, far_most k)
far_most (on_right i (Side c) u ∷ k) = omega arith

some_nodes : (t : Tree) → 1 ≤ size t
some_nodes (leaf i k) = omega arith
some_nodes (one i k t) = omega arith
some_nodes (two i k t u) = omega arith

-- the taker is less far than there are nodes
pub far_less : (nodes : List Node) (n i : ℕ) (k : List Frame) (t : Tree) → Stands nodes n i k t → far k < length nodes
far_less nodes n i k t s = omega (arith, far_most k, longer k t, some_nodes t, all_below nodes n 0 (plug k t) s.holds, upto_most nodes (plug k t) s.once (length nodes))
