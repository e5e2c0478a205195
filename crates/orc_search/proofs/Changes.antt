-- Terms as they are changed.
use Rattle.std.proofs.Common.{◌≡◌, ◌<◌, ◌≤◌, ℕ, zero, suc, List, [], ◌∷◌, ◌++◌, length, map, Bool, true, false, Some, ◌⊎◌, refl, sym, ap, ◌∙◌, subst, inl, inr, arith, length-append}
use Rattle.std.proofs.lemmas.List.{get_or_append_left}
use Rattle.std.specs.Prelude.{cond, slice_get}
use Rattle.orc_rules.specs.declared.param.Param.{Param}
use Rattle.orc_search.specs.declared.change.Change.{Change}
use Rattle.orc_search.specs.declared.change.Change.TheVariants.{Put, Settle, Pass}
use Rattle.orc_search.specs.declared.images.Image.{Image}
use Rattle.orc_search.specs.declared.node.Joint.{Joint}
use Rattle.orc_search.specs.declared.node.Joint.TheVariants.{Both, Feeds, Prunes, Instead, Needs}
use Rattle.orc_search.specs.Small.{Small, nothing, asks, enters}
use Rattle.orc_search.specs.Nodes.{joined, small_at, Extends}
use Rattle.orc_search.specs.Changes.{changed, changed_param, left_stays, right_stays, IsImage, AreImages, IsIn, IsPart}
use Rattle.orc_search.proofs.Nodes.{at_end, there, within}

same_list : {X : Type 0} (xs : List X) → map (λ x. x) xs ≡ xs
same_list [] = refl
same_list (x ∷ xs) = λ i. x ∷ same_list xs i

pub changed_asks : (c : Change) (m : ℕ) (ps : List Param) → asks m (map (changed_param c) ps) ≡ changed c (asks m ps)
changed_asks (Put q x) m ps = refl
changed_asks (Settle w n) m ps = refl
changed_asks (Pass by) m ps = ap (asks m) (same_list ps)

pub changed_enters : (c : Change) (e : ℕ) (ps : List Param) → enters e (map (changed_param c) ps) ≡ changed c (enters e ps)
changed_enters (Put q x) e ps = refl
changed_enters (Settle w n) e ps = refl
changed_enters (Pass by) e ps = ap (enters e) (same_list ps)

changed_joined : (c : Change) (j : Joint) (f g : Small) → joined j (cond (left_stays c j) f (changed c f)) (cond (right_stays c j) g (changed c g)) ≡ changed c (joined j f g)
changed_joined (Put q x) Both f g = refl
changed_joined (Put q x) (Feeds y) f g = refl
changed_joined (Put q x) (Prunes y) f g = refl
changed_joined (Put q x) Instead f g = refl
changed_joined (Put q x) Needs f g = refl
changed_joined (Settle w n) Both f g = refl
changed_joined (Settle w n) (Feeds y) f g = refl
changed_joined (Settle w n) (Prunes y) f g = refl
changed_joined (Settle w n) Instead f g = refl
changed_joined (Settle w n) Needs f g = refl
changed_joined (Pass by) Both f g = refl
changed_joined (Pass by) (Feeds y) f g = refl
changed_joined (Pass by) (Prunes y) f g = refl
changed_joined (Pass by) Instead f g = refl
changed_joined (Pass by) Needs f g = refl

-- terms that are there stay
pub kept_get : (ts us : List Small) (i : ℕ) (t : Small) → Extends ts us → slice_get ts i ≡ Some t → slice_get us i ≡ Some t
kept_get ts us i t e is = ap (λ (vs : List Small). slice_get vs i) e.1 ∙ front ts e.0 i is
  where
    front : (ts more : List Small) (i : ℕ) → slice_get ts i ≡ Some t → slice_get (ts ++ more) i ≡ Some t
    front [] more i is = cc is
    front (u ∷ ts) more zero is = is
    front (u ∷ ts) more (suc i) is = front ts more i is

pub kept_at : (ts us : List Small) (i : ℕ) → Extends ts us → i < length ts → small_at us i ≡ small_at ts i
kept_at ts us i e lt = ap (λ (vs : List Small). small_at vs i) e.1 ∙ get_or_append_left ts e.0 nothing i lt

pub kept_len : (ts us : List Small) → Extends ts us → length ts ≤ length us
kept_len ts us e = let l = ap length e.1 in omega (arith, l, length-append ts e.0)

pub extends_both : (ts us vs : List Small) → Extends ts us → Extends us vs → Extends ts vs
extends_both ts us vs a b = (a.0 ++ b.0, b.1 ∙ ap (λ (ws : List Small). ws ++ b.0) a.1 ∙ assoc ts a.0 b.0)
  where
    assoc : (xs ys zs : List Small) → (xs ++ ys) ++ zs ≡ xs ++ (ys ++ zs)
    assoc [] ys zs = refl
    assoc (x ∷ xs) ys zs = λ i. x ∷ assoc xs ys zs i

kept_image : (ts us : List Small) (p : Image) → Extends ts us → IsImage ts p → IsImage us p
kept_image ts us p e is = (let l = kept_len ts us e in let m = is.0 in omega (arith, l, m), kept_get ts us p.to (changed p.change (small_at ts p.from)) e is.1 ∙ ap (λ (f : Small). Some (changed p.change f)) (sym (kept_at ts us p.from e is.0)))

pub kept_images : (ts us : List Small) (ps : List Image) → Extends ts us → AreImages ts ps → AreImages us ps
kept_images ts us ps e are k p is = kept_image ts us p e (are k p is)

pub no_images : (ts : List Small) (ps : List Image) → ps ≡ [] → AreImages ts ps
no_images ts ps none = subst (λ (qs : List Image). AreImages ts qs) (sym none) (λ (k : ℕ) (p : Image) is. cc is)

pub more_images : (ts : List Small) (ps qs : List Image) (p : Image) → AreImages ts ps → IsImage ts p → (qs ≡ ps) ⊎ (qs ≡ ps ++ p ∷ []) → AreImages ts qs
more_images ts ps qs p are is (inl same) = subst (λ (rs : List Image). AreImages ts rs) (sym same) are
more_images ts ps qs p are is (inr more) = subst (λ (rs : List Image). AreImages ts rs) (sym more) each
  where
    each : AreImages ts (ps ++ p ∷ [])
    each k q there = go (at_end ps p q k there)
      where
        go : (slice_get ps k ≡ Some q) ⊎ ((k ≡ length ps) × (p ≡ q)) → IsImage ts q
        go (inl e) = are k q e
        go (inr e) = subst (λ (r : Image). IsImage ts r) e.1 is

-- where there are as many or none
pub room_images : (ts : List Small) (ps qs : List Image) → AreImages ts ps → (qs ≡ ps) ⊎ (qs ≡ []) → AreImages ts qs
room_images ts ps qs are (inl same) = subst (λ (rs : List Image). AreImages ts rs) (sym same) are
room_images ts ps qs are (inr none) = no_images ts qs none

-- an image that is there
pub image_there : (ts : List Small) (ps : List Image) (c : Change) (at to : ℕ) → AreImages ts ps → IsIn ps c at to → IsPart ts c false at to
image_there ts ps c at to are is = are is.0 (record { change = c; from = at; to = to }) is.1

-- a part, with its image
module _ (ts : List Small) (c : Change) where
  pub part_there : (stays : Bool) (at to : ℕ) → at < length ts → IsPart ts c stays at to → to < length ts
  part_there true at to lt is = let e = is in omega (arith, lt, e)
  part_there false at to lt is = within ts to (changed c (small_at ts at)) is.1

  part_term : (stays : Bool) (at to : ℕ) → IsPart ts c stays at to → small_at ts to ≡ cond stays (small_at ts at) (changed c (small_at ts at))
  part_term true at to is = ap (small_at ts) is
  part_term false at to is = get ts to (changed c (small_at ts at)) is.1
    where
      get : (xs : List Small) (i : ℕ) (t : Small) → slice_get xs i ≡ Some t → small_at xs i ≡ t
      get [] i t h = cc h
      get (x ∷ xs) zero t h = cc h
      get (x ∷ xs) (suc i) t h = get xs i t h

  pub pair_image : (us : List Small) (j : Joint) (at f g left right to : ℕ) → small_at ts at ≡ joined j (small_at ts f) (small_at ts g) → IsPart ts c (left_stays c j) f left → IsPart ts c (right_stays c j) g right
      → slice_get us to ≡ Some (joined j (small_at ts left) (small_at ts right)) → slice_get us to ≡ Some (changed c (small_at ts at))
  pair_image us j at f g left right to is l r e =
      e ∙ ap Some ((λ i. joined j (part_term (left_stays c j) f left l i) (part_term (right_stays c j) g right r i)) ∙ changed_joined c j (small_at ts f) (small_at ts g) ∙ ap (changed c) (sym is))
