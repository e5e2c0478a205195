-- Trees of nodes: a part, what stands around it, and the change of a part.
use Rattle.std.proofs.Common.{◌≡◌, ◌≤◌, ◌+◌, ℕ, zero, suc, List, [], ◌∷◌, Option, Some, None, refl, sym, ap, ◌∙◌, subst, inl, inr, ◌⊎◌, ⊎_elim, arith, true, false, Bool, cond, nat_eq, eq-eqb}
use Rattle.std.proofs.lemmas.Bool.{ne_eqb, eqb-true}
use Rattle.std.specs.Prelude.{slice_get}
use Rattle.orc_term.specs.declared.arena.Node.{Node}
use Rattle.orc_term.specs.declared.arena.Tip.{Tip}
use Rattle.orc_term.specs.declared.arena.Single.{Single}
use Rattle.orc_term.specs.declared.arena.Kind.{Kind}
use Rattle.orc_term.specs.declared.arena.Kind.TheVariants.{Leaf, One, Two}
use Rattle.orc_term.specs.declared.arena.Tip.TheVariants.{Gone, Ended, Token, Bears, Waits}
use Rattle.orc_term.specs.declared.arena.Single.TheVariants.{Feeds, Entered, Passed}
use Rattle.orc_term.specs.Arena.{Tree, leaf, one, two, place, hits, count, at, TipIn, SingleIn, Holds, living, living_kind, StandOnce, IsTopped, Frame, on_one, on_left, on_right, plug}
use Rattle.orc_term.specs.Around.{above, around, HoldsAround}

abbrev pub node : Kind → ℕ → Node
node k p = record { kind = k; parent = p }

pub hit : (i : ℕ) → hits i i ≡ 1
hit i = ap {B = ℕ} (λ b. cond b 1 0) (eq-eqb i i refl)

pub missed : (u i : ℕ) → (u ≡ i → ⊥) → hits u i ≡ 0
missed u i h = ap {B = ℕ} (λ b. cond b 1 0) (ne_eqb u i h)

pub count-plug : (u : ℕ) (k : List Frame) (t : Tree) → count u (plug k t) ≡ around u k + count u t
count-plug u [] t = omega arith
count-plug u (on_one i s ∷ k) t = omega (arith, count-plug u k (one i s t))
count-plug u (on_left i d v ∷ k) t = omega (arith, count-plug u k (two i d t v))
count-plug u (on_right i d v ∷ k) t = omega (arith, count-plug u k (two i d v t))

module _ (nodes : List Node) (n p : ℕ) where
  pub holds-out : (k : List Frame) (t : Tree) → Holds nodes n p (plug k t) → HoldsAround nodes n p k (place t) × Holds nodes n (above p k) t
  holds-out [] t h = (tt, h)
  holds-out (on_one i s ∷ k) t h = let o = holds-out k (one i s t) h in ((o.1.0, o.1.1, o.0), o.1.2)
  holds-out (on_left i d v ∷ k) t h = let o = holds-out k (two i d t v) h in ((o.1.0, o.1.2, o.0), o.1.1)
  holds-out (on_right i d v ∷ k) t h = let o = holds-out k (two i d v t) h in ((o.1.0, o.1.1, o.0), o.1.2)

  pub holds-in : (k : List Frame) (t : Tree) → HoldsAround nodes n p k (place t) → Holds nodes n (above p k) t → Holds nodes n p (plug k t)
  holds-in [] t a h = h
  holds-in (on_one i s ∷ k) t a h = holds-in k (one i s t) a.2 (a.0, a.1, h)
  holds-in (on_left i d v ∷ k) t a h = holds-in k (two i d t v) a.2 (a.0, h, a.1)
  holds-in (on_right i d v ∷ k) t a h = holds-in k (two i d v t) a.2 (a.0, a.1, h)

-- nodes that stay
abbrev pub Kept : List Node → List Node → (ℕ → ℕ) → Type 0
Kept nodes nodes' weight = (u : ℕ) (x : Node) → 1 ≤ weight u → slice_get nodes u ≡ Some x → slice_get nodes' u ≡ Some x

module _ (nodes nodes' : List Node) (n n' : ℕ) (grows : n ≤ n') where
  pub tip_in : (k : Tip) → TipIn n k → TipIn n' k
  tip_in (Token s f e) h = omega (arith, h, grows)
  tip_in Gone h = tt
  tip_in Ended h = tt
  tip_in (Bears s v) h = tt
  tip_in (Waits k) h = tt

  pub single_in : (k : Single) → SingleIn n k → SingleIn n' k
  single_in (Feeds x g e) h = omega (arith, h, grows)
  single_in (Entered m g e) h = omega (arith, h, grows)
  single_in Passed h = tt

  pub holds_kept : (t : Tree) (p : ℕ) → Kept nodes nodes' (λ u. count u t) → Holds nodes n p t → Holds nodes' n' p t
  holds_kept (leaf i k) p same h = (same i _ (omega (arith, hit i)) h.0, tip_in k h.1)
  holds_kept (one i k t) p same h = (same i _ (omega (arith, hit i)) h.0, single_in k h.1, holds_kept t i (λ u x a e. same u x (omega (arith, a)) e) h.2)
  holds_kept (two i k t v) p same h =
      (same i _ (omega (arith, hit i)) h.0, holds_kept t i (λ u x a e. same u x (omega (arith, a)) e) h.1, holds_kept v i (λ u x a e. same u x (omega (arith, a)) e) h.2)

  pub around_kept : (k : List Frame) (p i : ℕ) → Kept nodes nodes' (λ u. around u k) → HoldsAround nodes n p k i → HoldsAround nodes' n' p k i
  around_kept [] p i same h = tt
  around_kept (on_one j s ∷ k) p i same h = (same j _ (omega (arith, hit j)) h.0, single_in s h.1, around_kept k p j (λ u x a e. same u x (omega (arith, a)) e) h.2)
  around_kept (on_left j d v ∷ k) p i same h =
      (same j _ (omega (arith, hit j)) h.0, holds_kept v j (λ u x a e. same u x (omega (arith, a)) e) h.1, around_kept k p j (λ u x a e. same u x (omega (arith, a)) e) h.2)
  around_kept (on_right j d v ∷ k) p i same h =
      (same j _ (omega (arith, hit j)) h.0, holds_kept v j (λ u x a e. same u x (omega (arith, a)) e) h.1, around_kept k p j (λ u x a e. same u x (omega (arith, a)) e) h.2)

pub living-most : (o : Option Node) → living o ≤ 1
living-most None = omega arith
living-most (Some x) = go x.kind
  where
    go : (k : Kind) → living_kind k ≤ 1
    go (Leaf Gone) = omega arith
    go (Leaf Ended) = omega arith
    go (Leaf (Token s f e)) = omega arith
    go (Leaf (Bears s v)) = omega arith
    go (Leaf (Waits k)) = omega arith
    go (One s i) = omega arith
    go (Two d i j) = omega arith

-- a part changes
module _ (nodes nodes' : List Node) (n n' p : ℕ) (grows : n ≤ n') (k : List Frame) (t t' : Tree) (once : StandOnce nodes (plug k t)) where
  pub holds_replaced : Holds nodes n p (plug k t) → place t' ≡ place t → ((u : ℕ) (x : Node) → count u t ≡ 0 → slice_get nodes u ≡ Some x → slice_get nodes' u ≡ Some x) → Holds nodes' n' (above p k) t' → Holds nodes' n' p (plug k t')
  holds_replaced h e same h' =
      let o = holds-out nodes n p k t h in
      holds-in nodes' n' p k t'
      (subst (λ i. HoldsAround nodes' n' p k i) (sym e)
      (around_kept nodes nodes' n n' grows k p (place t) (λ u x a s. same u x (omega (arith, a, once u, count-plug u k t, living-most (slice_get nodes u))) s) o.0))
      h'

  pub once_replaced : ((u : ℕ) → count u t' + living (slice_get nodes u) ≡ count u t + living (slice_get nodes' u)) → StandOnce nodes' (plug k t')
  once_replaced h u = omega (arith, h u, once u, count-plug u k t, count-plug u k t')

-- where a place stands
pub record Spot (i : ℕ) (t : Tree) : Type 0 where
  pub context : List Frame
  pub part : Tree
  pub is : plug context part ≡ t
  pub there : place part ≡ i

hits-true : (u i : ℕ) → 1 ≤ hits u i → u ≡ i
hits-true u i h = go (nat_eq u i) refl
  where
    go : (b : Bool) → nat_eq u i ≡ b → u ≡ i
    go true e = eqb-true u i e
    go false e = absurd (omega (arith, h, ap {B = ℕ} (λ b. cond b 1 0) e))

pub hits-both : (u i : ℕ) → (u ≡ i) ⊎ (hits u i ≡ 0)
hits-both u i = go (nat_eq u i) refl
  where
    go : (b : Bool) → nat_eq u i ≡ b → (u ≡ i) ⊎ (hits u i ≡ 0)
    go true e = inl (eqb-true u i e)
    go false e = inr (ap {B = ℕ} (λ b. cond b 1 0) e)

pub zero-or : (n : ℕ) → (n ≡ 0) ⊎ (1 ≤ n)
zero-or zero = inl refl
zero-or (suc n) = inr (omega arith)

pub spot : (i : ℕ) (t : Tree) (k : List Frame) → 1 ≤ count i t → Spot i (plug k t)
spot i (leaf j s) k h = record { context = k; part = leaf j s; is = refl; there = sym (hits-true i j h) }
spot i (one j s t) k h =
    ⊎_elim
    (λ e. record { context = k; part = one j s t; is = refl; there = sym e })
    (λ e. spot i t (on_one j s ∷ k) (omega (arith, h, e)))
    (hits-both i j)
spot i (two j d t v) k h =
    ⊎_elim
    (λ e. record { context = k; part = two j d t v; is = refl; there = sym e })
    (λ e. ⊎_elim
    (λ z. spot i v (on_right j d t ∷ k) (omega (arith, h, e, z)))
    (λ z. spot i t (on_left j d v ∷ k) z)
    (zero-or (count i t)))
    (hits-both i j)

-- a part without parts stands there alone
pub record Alone (i : ℕ) (k : Tip) (q : ℕ) (p : ℕ) (t : Tree) : Type 0 where
  pub is : t ≡ leaf i k
  pub below : p ≡ q

of_node : {X : Type 0} → (Node → X) → X → Option Node → X
of_node f d (Some n) = f n
of_node f d None = d

tip_of : Kind → Tip
tip_of (Leaf k) = k
tip_of _ = Gone

pub alone : (nodes : List Node) (n p i q : ℕ) (k : Tip) (t : Tree) → Holds nodes n p t → place t ≡ i → at nodes q i (Leaf k) → Alone i k q p t
unfolding of_node tip_of
alone nodes n p i q k (leaf j l) h e a =
    let same : Some (record { kind = Leaf l; parent = p }) ≡ Some (record { kind = Leaf k; parent = q }) = sym h.0 ∙ ap (slice_get nodes) e ∙ a in
    record { is = λ z. leaf (e z) (of_node (λ x. tip_of (Node.kind x)) Gone (same z)); below = ap (λ o. of_node Node.parent 0 o) same }
alone nodes n p i q k (one j s t) h e a =
    let same : One s (place t) ≡ Leaf k = ap (λ o. of_node Node.kind (Leaf Gone) o) (sym h.0 ∙ ap (slice_get nodes) e ∙ a) in
    absurd (cc same)
alone nodes n p i q k (two j d t v) h e a =
    let same : Two d (place t) (place v) ≡ Leaf k = ap (λ o. of_node Node.kind (Leaf Gone) o) (sym h.0 ∙ ap (slice_get nodes) e ∙ a) in
    absurd (cc same)

-- the outermost node stays where a part changes
pub topped-plug : (f : Frame) (k : List Frame) (t t' : Tree) → IsTopped (plug (f ∷ k) t) → IsTopped (plug (f ∷ k) t')
topped-plug (on_one i (Feeds x g e)) [] t t' h = h
topped-plug (on_one i (Entered n g e)) [] t t' h = h
topped-plug (on_one i Passed) [] t t' h = h
topped-plug (on_left i d u) [] t t' h = h
topped-plug (on_right i d u) [] t t' h = h
topped-plug (on_one i s) (f ∷ k) t t' h = topped-plug f k (one i s t) (one i s t') h
topped-plug (on_left i d u) (f ∷ k) t t' h = topped-plug f k (two i d t u) (two i d t' u) h
topped-plug (on_right i d u) (f ∷ k) t t' h = topped-plug f k (two i d u t) (two i d u t') h

pub place-plug : (k : List Frame) (t t' : Tree) → place t ≡ place t' → place (plug k t) ≡ place (plug k t')
place-plug [] t t' e = e
place-plug (on_one i s ∷ k) t t' e = place-plug k (one i s t) (one i s t') refl
place-plug (on_left i d u ∷ k) t t' e = place-plug k (two i d t u) (two i d t' u) refl
place-plug (on_right i d u ∷ k) t t' e = place-plug k (two i d u t) (two i d u t') refl
