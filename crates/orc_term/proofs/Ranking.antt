-- Ranks of nodes, and what they tell of the tree.
use Rattle.std.proofs.Common.{◌≡◌, ◌<◌, ◌≤◌, ◌+◌, ℕ, zero, suc, List, [], ◌∷◌, ◌++◌, length, get_or, Option, Some, None, Bool, true, false, cond, nat_eq, refl, sym, ap, ◌∙◌, subst, arith, max, length-set, inl, inr, ⊎_elim, ◌⊎◌}
use Rattle.std.proofs.lemmas.List.{get_or-set_other}
use Rattle.std.specs.Prelude.{slice_get, slice_set}
use Rattle.orc_term.specs.declared.arena.Node.{Node}
use Rattle.orc_term.specs.declared.arena.Kind.{Kind}
use Rattle.orc_term.specs.declared.arena.Kind.TheVariants.{Leaf, One, Two}
use Rattle.orc_term.specs.declared.arena.Double.{Double}
use Rattle.orc_term.specs.Arena.{Tree, leaf, one, two, place, Holds}
use Rattle.orc_term.specs.Grafting.{relink}
use Rattle.orc_term.specs.Hints.{lifted}
use Rattle.orc_term.specs.Ranks.{rank, IsPart, IsIn, AreRankedBut, AreRanked, levels_below, AreLevelsAtMost}
use Rattle.orc_term.specs.Rising.{nowhere}
use Rattle.orc_term.specs.Settling.{kind_at}
use Rattle.orc_term.proofs.Hints.{same_or, some_in, length_lifted}

of_some : {X : Type 0} → X → Option X → X
of_some d (Some x) = x
of_some d None = d

same_some : {X : Type 0} (x y : X) → Some x ≡ Some y → x ≡ y
unfolding of_some
same_some x y e = ap (of_some x) e

some_or : {X : Type 0} (xs : List X) (i : ℕ) (d x : X) → slice_get xs i ≡ Some x → get_or xs i d ≡ x
some_or [] i d x h = cc h
some_or (y ∷ xs) zero d x h = same_some y x h
some_or (y ∷ xs) (suc i) d x h = some_or xs i d x h

-- ---- lists

pub in_first : (j : ℕ) (xs ys : List ℕ) → IsIn j xs → IsIn j (xs ++ ys)
in_first j [] ys h = absurd h
in_first j (x ∷ xs) ys h = ⊎_elim (λ (e : j ≡ x). inl e) (λ (k : IsIn j xs). inr (in_first j xs ys k)) h

pub in_last : (j : ℕ) (xs : List ℕ) → IsIn j (xs ++ j ∷ [])
in_last j [] = inl refl
in_last j (x ∷ xs) = inr (in_last j xs)

in_popped : (j x : ℕ) (xs : List ℕ) → IsIn j (xs ++ x ∷ []) → IsIn j (x ∷ xs)
in_popped j x [] h = h
in_popped j x (y ∷ xs) h =
    ⊎_elim
    (λ (e : j ≡ y). inr (inl e))
    (λ (k : IsIn j (xs ++ x ∷ [])). ⊎_elim (λ (e : j ≡ x). inl e) (λ (l : IsIn j xs). inr (inr l)) (in_popped j x xs k))
    h

-- ---- ranks

grows : (ranks : List ℕ) (c r i : ℕ) → rank ranks c ≤ r → rank ranks i ≤ rank (slice_set ranks c r) i
grows [] c r i le = omega arith
grows (x ∷ ranks) zero r zero le = le
grows (x ∷ ranks) zero r (suc i) le = omega arith
grows (x ∷ ranks) (suc c) r zero le = omega arith
grows (x ∷ ranks) (suc c) r (suc i) le = grows ranks c r i le

low_set : (ranks : List ℕ) (c r most i : ℕ) → rank ranks i ≤ most → rank (slice_set ranks c r) i ≤ max most r
low_set [] c r most i le = omega (arith, le)
low_set (x ∷ ranks) zero r most zero le = omega arith
low_set (x ∷ ranks) zero r most (suc i) le = omega (arith, le)
low_set (x ∷ ranks) (suc c) r most zero le = omega (arith, le)
low_set (x ∷ ranks) (suc c) r most (suc i) le = low_set ranks c r most i le

pub zeros_more : (ranks : List ℕ) (i : ℕ) → rank ranks i ≡ 0 → rank (ranks ++ 0 ∷ []) i ≡ 0
zeros_more [] zero e = refl
zeros_more [] (suc i) e = refl
zeros_more (x ∷ ranks) zero e = e
zeros_more (x ∷ ranks) (suc i) e = zeros_more ranks i e

-- with none late each edge is right
sure : (nodes : List Node) (ranks : List ℕ) (most : ℕ) → AreRanked nodes ranks most → (j i : ℕ) (y x : Node) → slice_get nodes j ≡ Some y → slice_get nodes i ≡ Some x → x.parent ≡ j → IsPart y.kind i → rank ranks j < rank ranks i
sure nodes ranks most all j i y x a b up part = ⊎_elim (λ (z : IsIn j []). absurd z) (λ (lt : rank ranks j < rank ranks i). lt) (all.each j i y x a b up part)

-- ---- what changes of the nodes

-- all but one node stand below the same ones as before
abbrev pub StayBut : List Node → List Node → ℕ → Type 0
StayBut nodes nodes' but = (i : ℕ) (x : Node) → slice_get nodes' i ≡ Some x → (i ≡ but → ⊥) → (y : Node) × (slice_get nodes i ≡ Some y) × (y.parent ≡ x.parent)

-- what stands at a place that was written
set_same : (nodes : List Node) (i : ℕ) (v x : Node) → slice_get (slice_set nodes i v) i ≡ Some x → (y : Node) × (slice_get nodes i ≡ Some y) × (v ≡ x)
set_same [] i v x e = cc e
set_same (y ∷ nodes) zero v x e = (y, refl, same_some v x e)
set_same (y ∷ nodes) (suc i) v x e = set_same nodes i v x e

set_other : (nodes : List Node) (i j : ℕ) (v : Node) → (j ≡ i → ⊥) → slice_get (slice_set nodes i v) j ≡ slice_get nodes j
set_other [] i j v off = refl
set_other (y ∷ nodes) zero zero v off = absurd (off refl)
set_other (y ∷ nodes) zero (suc j) v off = refl
set_other (y ∷ nodes) (suc i) zero v off = refl
set_other (y ∷ nodes) (suc i) (suc j) v off = set_other nodes i j v (λ e. off (ap suc e))

stay_set : (nodes : List Node) (i : ℕ) (v : Node) → StayBut nodes (slice_set nodes i v) i
stay_set nodes i v j x e off = (x, sym (set_other nodes i j v off) ∙ e, refl)

relinked_parent : (nodes : List Node) (p j : ℕ) (k : Kind) (x : Node) → slice_get (slice_set nodes p (record { kind = k; parent = Node.parent (get_or nodes p nowhere) })) j ≡ Some x → (y : Node) × (slice_get nodes j ≡ Some y) × (y.parent ≡ x.parent)
relinked_parent nodes p j k x e =
    let v : Node = record { kind = k; parent = Node.parent (get_or nodes p nowhere) } in
    ⊎_elim
    (λ (s : j ≡ p).
    let w = set_same nodes p v x (ap (slice_get (slice_set nodes p v)) (sym s) ∙ e) in
    (w.0, ap (slice_get nodes) s ∙ w.1, ap Node.parent (sym (some_or nodes p nowhere w.0 w.1)) ∙ ap Node.parent w.2))
    (λ off. (x, sym (set_other nodes p j v off) ∙ e, refl))
    (same_or j p)

-- a node is lifted
pub stay_lifted : (nodes : List Node) (i both : ℕ) → StayBut nodes (lifted nodes i both) i
stay_lifted nodes i both j x e off =
    let old : Node = get_or nodes i nowhere in
    let below : List Node = slice_set nodes i (record { kind = old.kind; parent = both }) in
    let w = relinked_parent below old.parent j (relink (Node.kind (get_or below old.parent nowhere)) i both) x e in
    let u = stay_set nodes i (record { kind = old.kind; parent = both }) j w.0 w.1 off in
    (u.0, u.1, u.2 ∙ w.2)

-- where the lifted node stands
lifted_below : (nodes : List Node) (i both : ℕ) (x : Node) → slice_get (lifted nodes i both) i ≡ Some x → x.parent ≡ both
lifted_below nodes i both x e =
    let old : Node = get_or nodes i nowhere in
    let v : Node = record { kind = old.kind; parent = both } in
    let below : List Node = slice_set nodes i v in
    let w = relinked_parent below old.parent i (relink (Node.kind (get_or below old.parent nowhere)) i both) x e in
    let u = set_same nodes i v w.0 w.1 in
    sym w.2 ∙ ap Node.parent (sym u.2)

relinked_by : (b : Bool) (d : Double) (p q j c : ℕ) → IsPart (cond b (Two d j q) (Two d p j)) c → IsPart (Two d p q) c ⊎ (c ≡ j)
relinked_by true d p q j c h = ⊎_elim (λ (e : j ≡ c). inr (sym e)) (λ (e : q ≡ c). inl (inr e)) h
relinked_by false d p q j c h = ⊎_elim (λ (e : p ≡ c). inl (inl e)) (λ (e : j ≡ c). inr (sym e)) h

relinked_part : (k : Kind) (i j c : ℕ) → IsPart (relink k i j) c → IsPart k c ⊎ (c ≡ j)
relinked_part (Leaf k) i j c h = absurd h
relinked_part (One s p) i j c h = inr (sym h)
relinked_part (Two d p q) i j c h = relinked_by (nat_eq p i) d p q j c h

-- the node that stood at a place has the same kind
kind_below : (nodes : List Node) (i both j : ℕ) (y : Node) → slice_get (slice_set nodes i (record { kind = Node.kind (get_or nodes i nowhere); parent = both })) j ≡ Some y → (u : Node) × (slice_get nodes j ≡ Some u) × (u.kind ≡ y.kind)
kind_below nodes i both j y e =
    let v : Node = record { kind = Node.kind (get_or nodes i nowhere); parent = both } in
    ⊎_elim
    (λ (s : j ≡ i).
    let w = set_same nodes i v y (ap (slice_get (slice_set nodes i v)) (sym s) ∙ e) in
    (w.0, ap (slice_get nodes) s ∙ w.1, ap Node.kind (sym (some_or nodes i nowhere w.0 w.1)) ∙ ap Node.kind w.2))
    (λ off. (y, sym (set_other nodes i j v off) ∙ e, refl))
    (same_or j i)

-- a part of a node was its part, or came in the place of one
part_lifted : (nodes : List Node) (i both j c : ℕ) (y : Node) → slice_get (lifted nodes i both) j ≡ Some y → IsPart y.kind c → (u : Node) × (slice_get nodes j ≡ Some u) × (IsPart u.kind c ⊎ ((c ≡ both) × (j ≡ Node.parent (get_or nodes i nowhere))))
part_lifted nodes i both j c y e part =
    let old : Node = get_or nodes i nowhere in
    let below : List Node = slice_set nodes i (record { kind = old.kind; parent = both }) in
    let p : ℕ = old.parent in
    let above : Node = get_or below p nowhere in
    let v : Node = record { kind = relink above.kind i both; parent = above.parent } in
    ⊎_elim
    (λ (s : j ≡ p).
    let w = set_same below p v y (ap (slice_get (slice_set below p v)) (sym s) ∙ e) in
    let u = kind_below nodes i both p w.0 w.1 in
    let same : above.kind ≡ Node.kind u.0 = ap Node.kind (some_or below p nowhere w.0 w.1) ∙ sym u.2 in
    let is : IsPart (relink (Node.kind u.0) i both) c = subst (λ z. IsPart (relink z i both) c) same (subst (λ (z : Node). IsPart z.kind c) (sym w.2) part) in
    (u.0, ap (slice_get nodes) s ∙ u.1, ⊎_elim (λ (h : IsPart (Node.kind u.0) c). inl h) (λ (h : c ≡ both). inr (h, s)) (relinked_part (Node.kind u.0) i both c is)))
    (λ off.
    let u = kind_below nodes i both j y (sym (set_other below p j v off) ∙ e) in
    (u.0, u.1, inl (subst (λ z. IsPart z c) (sym u.2) part)))
    (same_or j p)

-- only the lifted node may have too small a rank
edge_lifted : (nodes : List Node) (ranks : List ℕ) (most i both : ℕ) → AreRanked nodes ranks most → rank ranks (Node.parent (get_or nodes i nowhere)) < rank ranks both → (j c : ℕ) (y x : Node) → slice_get (lifted nodes i both) j ≡ Some y → slice_get (lifted nodes i both) c ≡ Some x → x.parent ≡ j → IsPart y.kind c
    → ((j ≡ both) × (c ≡ i)) ⊎ (rank ranks j < rank ranks c)
edge_lifted nodes ranks most i both all lower j c y x a b up part =
    ⊎_elim
    (λ (s : c ≡ i). inl (sym up ∙ lifted_below nodes i both x (ap (slice_get (lifted nodes i both)) (sym s) ∙ b), s))
    (λ off.
    let w = stay_lifted nodes i both c x b off in
    let u = part_lifted nodes i both j c y a part in
    inr (
    ⊎_elim
    (λ (h : IsPart (Node.kind u.0) c). sure nodes ranks most all j c u.0 w.0 u.1 w.1 (w.2 ∙ up) h)
    (λ (h : (c ≡ both) × (j ≡ Node.parent (get_or nodes i nowhere))). omega (arith, lower, ap (rank ranks) h.0, ap (rank ranks) h.1))
    u.2
    ))
    (same_or c i)

pub late_lifted : (nodes : List Node) (ranks : List ℕ) (most i both : ℕ) → AreRanked nodes ranks most → rank ranks (Node.parent (get_or nodes i nowhere)) < rank ranks both → AreRankedBut (lifted nodes i both) ranks most (both ∷ [])
late_lifted nodes ranks most i both all lower =
    record {
      len = all.len ∙ sym (length_lifted nodes i both);
      low = all.low;
      each = λ j c y x a b up part.
          ⊎_elim
          (λ (h : (j ≡ both) × (c ≡ i)). inl (inl h.0))
          (λ (lt : rank ranks j < rank ranks c). inr lt)
          (edge_lifted nodes ranks most i both all lower j c y x a b up part);
    }

pub ranked_lifted : (nodes : List Node) (ranks : List ℕ) (most i both : ℕ) → AreRanked nodes ranks most → rank ranks (Node.parent (get_or nodes i nowhere)) < rank ranks both → rank ranks both < rank ranks i → AreRanked (lifted nodes i both) ranks most
ranked_lifted nodes ranks most i both all lower room =
    record {
      len = all.len ∙ sym (length_lifted nodes i both);
      low = all.low;
      each = λ j c y x a b up part.
          ⊎_elim
          (λ (h : (j ≡ both) × (c ≡ i)). inr (omega (arith, room, ap (rank ranks) h.0, ap (rank ranks) h.1)))
          (λ (lt : rank ranks j < rank ranks c). inr lt)
          (edge_lifted nodes ranks most i both all lower j c y x a b up part);
    }

-- ---- ranks become greater

pub late_popped : (nodes : List Node) (ranks : List ℕ) (most a : ℕ) (late : List ℕ) → AreRankedBut nodes ranks most (late ++ a ∷ []) → AreRankedBut nodes ranks most (a ∷ late)
late_popped nodes ranks most a late all =
    record {
      len = all.len;
      low = all.low;
      each = λ j i y x e f up part. ⊎_elim (λ (h : IsIn j (late ++ a ∷ [])). inl (in_popped j a late h)) (λ (lt : rank ranks j < rank ranks i). inr lt) (all.each j i y x e f up part);
    }

pub late_raised : (nodes : List Node) (ranks : List ℕ) (most a : ℕ) (late : List ℕ) (c r : ℕ) → rank ranks c ≤ r → AreRankedBut nodes ranks most (a ∷ late) → AreRankedBut nodes (slice_set ranks c r) (max most r) (a ∷ (late ++ c ∷ []))
late_raised nodes ranks most a late c r le all =
    record {
      len = length-set ranks c r ∙ all.len;
      low = λ i. low_set ranks c r most i (all.low i);
      each = λ j i y x e f up part.
          ⊎_elim
          (λ (h : IsIn j (a ∷ late)). inl (⊎_elim (λ (s : j ≡ a). inl s) (λ (l : IsIn j late). inr (in_first j late (c ∷ []) l)) h))
          (λ (lt : rank ranks j < rank ranks i).
          ⊎_elim
          (λ (s : j ≡ c). inl (inr (subst (λ z. IsIn j (late ++ z ∷ [])) s (in_last j late))))
          (λ off. inr (omega (arith, lt, get_or-set_other ranks c j r 0 off, grows ranks c r i le)))
          (same_or j c))
          (all.each j i y x e f up part);
    }

pub late_settled : (nodes : List Node) (ranks : List ℕ) (most a : ℕ) (late : List ℕ) → ((c : ℕ) → IsPart (kind_at nodes a) c → c < length ranks → rank ranks a < rank ranks c) → AreRankedBut nodes ranks most (a ∷ late) → AreRankedBut nodes ranks most late
late_settled nodes ranks most a late right all =
    record {
      len = all.len;
      low = all.low;
      each = λ j i y x e f up part.
          ⊎_elim
          (λ (h : IsIn j (a ∷ late)).
          ⊎_elim
          (λ (s : j ≡ a).
          let kind : kind_at nodes a ≡ y.kind = ap Node.kind (some_or nodes a nowhere y (ap (slice_get nodes) (sym s) ∙ e)) in
          inr (omega (arith, right i (subst (λ z. IsPart z i) (sym kind) part) (omega (arith, some_in nodes i x f, all.len)), ap (rank ranks) s)))
          (λ (l : IsIn j late). inl l)
          h)
          (λ (lt : rank ranks j < rank ranks i). inr lt)
          (all.each j i y x e f up part);
    }

pub all_late : (nodes : List Node) (ranks late : List ℕ) → length ranks ≡ length nodes → ((i : ℕ) → rank ranks i ≡ 0) → ((i : ℕ) → i < length nodes → IsIn i late) → AreRankedBut nodes ranks 0 late
all_late nodes ranks late len none each = record { len = len; low = λ i. omega (arith, none i); each = λ j i y x e f up part. inl (each j (some_in nodes j y e)) }

-- ---- the tree

head : (nodes : List Node) (m p : ℕ) (t : Tree) → Holds nodes m p t → (k : Kind) × (slice_get nodes (place t) ≡ Some (record { kind = k; parent = p }))
head nodes m p (leaf i k) h = (Leaf k, h.0)
head nodes m p (one i k t) h = (One k (place t), h.0)
head nodes m p (two i k t u) h = (Two k (place t) (place u), h.0)

module _ (nodes : List Node) (ranks : List ℕ) (most : ℕ) (all : AreRanked nodes ranks most) (m : ℕ) where
  part_lower : (i p : ℕ) (k : Kind) (t : Tree) → slice_get nodes i ≡ Some (record { kind = k; parent = p }) → IsPart k (place t) → Holds nodes m i t → rank ranks i < rank ranks (place t)
  part_lower i p k t here part h =
      let w = head nodes m i t h in
      sure nodes ranks most all i (place t) (record { kind = k; parent = p }) (record { kind = w.0; parent = i }) here w.1 refl part

  below_rank : (p : ℕ) (t : Tree) → Holds nodes m p t → levels_below t + rank ranks (place t) ≤ most
  below_rank p (leaf i k) h = omega (arith, all.low i)
  below_rank p (one i k t) h = omega (arith, part_lower i p (One k (place t)) t h.0 refl h.2, below_rank i t h.2)
  below_rank p (two i k t u) h = omega (arith, part_lower i p (Two k (place t) (place u)) t h.0 (inl refl) h.1, part_lower i p (Two k (place t) (place u)) u h.0 (inr refl) h.2, below_rank i t h.1, below_rank i u h.2)

pub levels_by_rank : (nodes : List Node) (ranks : List ℕ) (most : ℕ) → AreRanked nodes ranks most → AreLevelsAtMost nodes most
levels_by_rank nodes ranks most all m t h root = omega (arith, below_rank nodes ranks most all m 0 t h)
