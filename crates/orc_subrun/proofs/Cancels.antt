-- The calls that pend round a part are no affair of what is bound in it.
use Rattle.std.proofs.Common.{◌≡◌, ℕ, ◌+◌, List, [], ◌∷◌, ◌++◌, map, refl, sym, ap, subst, inl, inr}
use Rattle.std.specs.Prelude.{◌⊎◌}
use Rattle.orc_rules.specs.Term.{pending_of}
use Rattle.orc_rules.specs.Step.{binds}
use Rattle.orc_rules.specs.Marked.{Marked, erase}
use Rattle.orc_rules.specs.declared.value.Value.{Value}
use Rattle.orc_rules.specs.Timed.{Context, IsIn, AreDropped, CancelsAfter}
use Rattle.orc_subrun.specs.declared.numbers.Numbering.{Numbering}
use Rattle.orc_subrun.specs.Moved.{cell_in, moved_marked}
use Rattle.orc_subrun.proofs.Holes.{Hole, spot, left_of, right_of, main_of, side_of, feed_of, try_of, plug}
use Rattle.orc_subrun.proofs.Shapes.{pending_moved}

in_front : {X : Type 0} (x : X) (xs ys : List X) → IsIn x xs → IsIn x (xs ++ ys)
in_front x [] ys i = elim i [ ]
in_front x (z ∷ xs) ys (inl e) = inl e
in_front x (z ∷ xs) ys (inr i) = inr (in_front x xs ys i)

in_back : {X : Type 0} (x : X) (xs ys : List X) → IsIn x ys → IsIn x (xs ++ ys)
in_back x [] ys i = i
in_back x (z ∷ xs) ys i = inr (in_back x xs ys i)

in_either : {X : Type 0} (x : X) (xs ys : List X) → IsIn x (xs ++ ys) → IsIn x xs ⊎ IsIn x ys
in_either x [] ys i = inr i
in_either x (z ∷ xs) ys (inl e) = inl (inl e)
in_either x (z ∷ xs) ys (inr i) = elim (in_either x xs ys i) [ inl j ↦ inl (inr j) | inr j ↦ inr j ]

in_map : {X Y : Type 0} (f : X → Y) (x : X) (xs : List X) → IsIn x xs → IsIn (f x) (map f xs)
in_map f x [] i = elim i [ ]
in_map f x (z ∷ xs) (inl e) = inl (ap f e)
in_map f x (z ∷ xs) (inr i) = inr (in_map f x xs i)

of_map : {X Y : Type 0} (f : X → Y) (y : Y) (xs : List X) → IsIn y (map f xs) → (x : X) × (y ≡ f x) × IsIn x xs
of_map f y [] i = elim i [ ]
of_map f y (z ∷ xs) (inl e) = (z, e, inl refl)
of_map f y (z ∷ xs) (inr i) = let r = of_map f y xs i in (r.0, r.1, inr r.2)

abbrev Pends : ℕ → Marked → Type 0
Pends k m = IsIn k (pending_of (erase m))

-- what pends in the part pends in the whole
pends_within : (h : Hole) (k : ℕ) (m : Marked) → Pends k m → Pends k (plug h m)
pends_within spot k m i = i
pends_within (left_of h g) k m i = in_front k _ _ (pends_within h k m i)
pends_within (right_of f h) k m i = in_back k (pending_of (erase f)) _ (pends_within h k m i)
pends_within (main_of h c g) k m i = in_front k _ _ (pends_within h k m i)
pends_within (side_of f c h) k m i = in_back k (pending_of (erase f)) _ (pends_within h k m i)
pends_within (feed_of h x g) k m i = pends_within h k m i
pends_within (try_of n h g) k m i = pends_within h k m i

-- what pends in the whole pends in the part, or whatever the part is
pends_round : (h : Hole) (k : ℕ) (m : Marked) → Pends k (plug h m) → Pends k m ⊎ ((m' : Marked) → Pends k (plug h m'))
pends_round spot k m i = inl i
pends_round (left_of h g) k m i =
    elim (in_either k (pending_of (erase (plug h m))) (pending_of (erase g)) i) [
      | inl a ↦ elim (pends_round h k m a) [ inl b ↦ inl b | inr b ↦ inr (λ m'. in_front k _ _ (b m')) ]
      | inr a ↦ inr (λ m'. in_back k (pending_of (erase (plug h m'))) _ a)
    ]
pends_round (right_of f h) k m i =
    elim (in_either k (pending_of (erase f)) (pending_of (erase (plug h m))) i) [
      | inl a ↦ inr (λ m'. in_front k _ _ a)
      | inr a ↦ elim (pends_round h k m a) [ inl b ↦ inl b | inr b ↦ inr (λ m'. in_back k (pending_of (erase f)) _ (b m')) ]
    ]
pends_round (main_of h c g) k m i =
    elim (in_either k (pending_of (erase (plug h m))) (pending_of (erase g)) i) [
      | inl a ↦ elim (pends_round h k m a) [ inl b ↦ inl b | inr b ↦ inr (λ m'. in_front k _ _ (b m')) ]
      | inr a ↦ inr (λ m'. in_back k (pending_of (erase (plug h m'))) _ a)
    ]
pends_round (side_of f c h) k m i =
    elim (in_either k (pending_of (erase f)) (pending_of (erase (plug h m))) i) [
      | inl a ↦ inr (λ m'. in_front k _ _ a)
      | inr a ↦ elim (pends_round h k m a) [ inl b ↦ inl b | inr b ↦ inr (λ m'. in_back k (pending_of (erase f)) _ (b m')) ]
    ]
pends_round (feed_of h x g) k m i = pends_round h k m i
pends_round (try_of n h g) k m i = pends_round h k m i

-- a bind in the part that cancels nothing there cancels nothing in the whole
pub cancels_none : (x : Context) (n : Numbering) (h : Hole) (u v : Marked) (c : ℕ) (w : Value) → CancelsAfter x (binds c w) (erase u) (erase v) []
    → CancelsAfter x (binds (cell_in n c) w) (erase (plug h (moved_marked n u))) (erase (plug h (moved_marked n v))) []
cancels_none x n h u v c w d = (λ is. record { rising = tt; each = λ k i. elim i [ ]; all = λ k before gone. all (d.0 is) k before gone }, λ is. refl)
  where
    own : AreDropped (pending_of (erase u)) (pending_of (erase v)) [] → (k : ℕ) → Pends k (moved_marked n u) → (Pends k (moved_marked n v) → ⊥) → ⊥
    own a k i gone =
        let r = of_map (λ j. n.calls + j) k (pending_of (erase u)) (subst (IsIn k) (pending_moved n u) i) in
        a.all r.0 r.2 (λ there. gone (subst (IsIn k) (sym (pending_moved n v)) (subst (λ j. IsIn j (map (λ j. n.calls + j) (pending_of (erase v)))) (sym r.1) (in_map (λ j. n.calls + j) r.0 (pending_of (erase v)) there))))

    all : AreDropped (pending_of (erase u)) (pending_of (erase v)) [] → (k : ℕ) → Pends k (plug h (moved_marked n u)) → (Pends k (plug h (moved_marked n v)) → ⊥) → ⊥
    all a k i gone =
        elim (pends_round h k (moved_marked n u) i) [
          | inl j ↦ own a k j (λ there. gone (pends_within h k (moved_marked n v) there))
          | inr j ↦ gone (j (moved_marked n v))
        ]
