-- A part's nodes in a list, and what is left when they are gone.
use Rattle.std.proofs.Common.{◌≡◌, ◌+◌, ◌<◌, ℕ, zero, suc, List, [], ◌∷◌, ◌++◌, length, map, get_or, refl, sym, ap, ◌∙◌, arith, length-append, ⊎_elim}
use Rattle.std.proofs.Math.Seq.{get_or-append_seam}
use Rattle.std.specs.Prelude.{slice_get, slice_set}
use Rattle.orc_term.specs.declared.arena.Node.{Node}
use Rattle.orc_term.specs.declared.arena.Kind.{Kind}
use Rattle.orc_term.specs.declared.arena.Kind.TheVariants.{Leaf}
use Rattle.orc_term.specs.declared.arena.Tip.TheVariants.{Gone}
use Rattle.orc_term.specs.Arena.{Tree, leaf, one, two, place, hits, count, at, Holds, living}
use Rattle.orc_term.specs.Rising.{nowhere}
use Rattle.orc_term.specs.Dropping.{weight, weigh, occurs, parts_of, IsDropped}
use Rattle.orc_term.proofs.Trees.{hit, hits-both}
use Rattle.orc_term.proofs.Lists.{get-set_other}
use Rattle.orc_term.proofs.Feeding.{own, own_kind}
use Rattle.orc_term.proofs.Rising.{get_or-some}

pub weight-append : (w : ℕ → ℕ) (is js : List ℕ) → weight w (is ++ js) ≡ weight w is + weight w js
weight-append w [] js = omega arith
weight-append w (i ∷ is) js = omega (arith, weight-append w is js)

abbrev pub weighs : (ℕ → ℕ) → List Tree → ℕ
weighs w [] = 0
weighs w (t ∷ ts) = weigh w t + weighs w ts

weighs-append : (w : ℕ → ℕ) (ts vs : List Tree) → weighs w (ts ++ vs) ≡ weighs w ts + weighs w vs
weighs-append w [] vs = omega arith
weighs-append w (t ∷ ts) vs = omega (arith, weighs-append w ts vs)

-- how often a place stands in a tree is such a sum
pub count-weigh : (u : ℕ) (t : Tree) → count u t ≡ weigh (hits u) t
count-weigh u (leaf i k) = refl
count-weigh u (one i k t) = omega (arith, count-weigh u t)
count-weigh u (two i k t v) = omega (arith, count-weigh u t, count-weigh u v)

places-append : (ts vs : List Tree) → map place (ts ++ vs) ≡ map place ts ++ map place vs
places-append [] vs = refl
places-append (t ∷ ts) vs = ap (λ z. place t ∷ z) (places-append ts vs)

append-append : (xs ys zs : List ℕ) → (xs ++ ys) ++ zs ≡ xs ++ (ys ++ zs)
append-append [] ys zs = refl
append-append (x ∷ xs) ys zs = ap (λ w. x ∷ w) (append-append xs ys zs)

-- each of these trees hangs together, below some node
abbrev pub Hang : List Node → ℕ → List Tree → Type 0
Hang nodes n [] = Unit {0}
Hang nodes n (t ∷ ts) = ((p : ℕ) × Holds nodes n p t) × Hang nodes n ts

hang-append : (nodes : List Node) (n : ℕ) (ts vs : List Tree) → Hang nodes n ts → Hang nodes n vs → Hang nodes n (ts ++ vs)
hang-append nodes n [] vs h k = k
hang-append nodes n (t ∷ ts) vs h k = (h.0, hang-append nodes n ts vs h.1 k)

-- the list so far: nodes whose parts are in it, and then the roots of parts whose parts aren't yet
pub record Spread (nodes : List Node) (n : ℕ) (t : Tree) (found : List ℕ) (next : ℕ) : Type 0 where
  pub done : List ℕ
  pub open_parts : List Tree
  pub hang : Hang nodes n open_parts
  pub is : found ≡ done ++ map place open_parts
  pub far : next ≡ length done
  pub counted : (w : ℕ → ℕ) → weight w done + weighs w open_parts ≡ weigh w t

abbrev pub Spreads : List Node → ℕ → List ℕ → ℕ → Type 0
Spreads nodes root found next = (n p : ℕ) (t : Tree) → Holds nodes n p t → place t ≡ root → Spread nodes n t found next

pub spreads_none : (nodes : List Node) (root : ℕ) → Spreads nodes root (root ∷ []) 0
spreads_none nodes root n p t h e = record { done = []; open_parts = t ∷ []; hang = ((p, h), tt); is = λ i. sym e i ∷ []; far = refl; counted = λ w. omega arith }

abbrev children : Tree → List Tree
children (leaf i k) = []
children (one i s t) = t ∷ []
children (two i d t u) = t ∷ u ∷ []

children-places : (t : Tree) → map place (children t) ≡ parts_of (own_kind t)
children-places (leaf i k) = refl
children-places (one i s t) = refl
children-places (two i d t u) = refl

children-weigh : (w : ℕ → ℕ) (t : Tree) → weigh w t ≡ w (place t) + weighs w (children t)
children-weigh w (leaf i k) = omega arith
children-weigh w (one i s t) = omega arith
children-weigh w (two i d t v) = omega arith

children-hang : (nodes : List Node) (n p : ℕ) (t : Tree) → Holds nodes n p t → Hang nodes n (children t)
children-hang nodes n p (leaf i k) h = tt
children-hang nodes n p (one i s t) h = ((i, h.2), tt)
children-hang nodes n p (two i d t u) h = ((i, h.1), ((i, h.2), tt))

-- the next node's parts come at the end
pub spreads_on : (nodes : List Node) (root : ℕ) (found found' : List ℕ) (next at : ℕ) (k : Kind) → Spreads nodes root found next → next < length found → at ≡ get_or found next at → k ≡ Node.kind (get_or nodes at nowhere) → found' ≡ found ++ parts_of k → Spreads nodes root found' (next + 1)
spreads_on nodes root found found' next at k s lt is_at is_k more n p t h r = let w = s n p t h r in go w.done w.open_parts w.hang w.is w.far w.counted
  where
    go : (done : List ℕ) (ts : List Tree) → Hang nodes n ts → found ≡ done ++ map place ts → next ≡ length done → ((w : ℕ → ℕ) → weight w done + weighs w ts ≡ weigh w t) → Spread nodes n t found' (next + 1)
    go done [] hang is far counted = absurd (omega (arith, lt, far, ap length is, length-append done []))
    go done (v ∷ ts) hang is far counted =
        let there : at ≡ place v = is_at ∙ (λ i. get_or (is i) (far i) at) ∙ get_or-append_seam done (place v) (map place ts) at in
        let own_k : k ≡ own_kind v = is_k ∙ ap (λ z. Node.kind (get_or nodes z nowhere)) there ∙ ap Node.kind (get_or-some nodes n nodes (place v) nowhere _ (own nodes n hang.0.0 v hang.0.1)) in
        record {
          done = done ++ place v ∷ [];
          open_parts = ts ++ children v;
          hang = hang-append nodes n ts (children v) hang.1 (children-hang nodes n hang.0.0 v hang.0.1);
          is =
              more ∙ (λ i. is i ++ (ap parts_of own_k ∙ sym (children-places v)) i)
              ∙ append-append done (place v ∷ map place ts) (map place (children v))
              ∙ sym (append-append done (place v ∷ []) (map place ts ++ map place (children v)))
              ∙ ap (λ z. (done ++ place v ∷ []) ++ z) (sym (places-append ts (children v)));
          far = omega (arith, far, length-append done (place v ∷ []));
          counted = λ w. omega (arith, counted w, weight-append w done (place v ∷ []), weighs-append w ts (children v), children-weigh w v);
        }

-- a node that is gone
abbrev pub gone : ℕ → Node
gone q = record { kind = Leaf Gone; parent = q }

gone_there : (nodes : List Node) (i q : ℕ) → living (slice_get (slice_set nodes i (gone q)) i) ≡ 0
gone_there [] i q = refl
gone_there (x ∷ nodes) zero q = refl
gone_there (x ∷ nodes) (suc i) q = gone_there nodes i q

-- one more is gone
pub dropped_on : (nodes nodes' nodes'' : List Node) (done done' : List ℕ) (i q : ℕ) → IsDropped nodes done nodes' → nodes'' ≡ slice_set nodes' i (gone q) → done' ≡ done ++ i ∷ [] → IsDropped nodes done' nodes''
dropped_on nodes nodes' nodes'' done done' i q d is more u =
    let o : occurs u done' ≡ occurs u done + hits u i = omega (arith, ap (occurs u) more, weight-append (hits u) done (i ∷ [])) in
    let w = d u in
    ⊎_elim
    (λ e. (
      λ z. absurd (omega (arith, z, o, hit i, ap (λ v. hits v i) e)),
      λ z. ap (λ l. living (slice_get l u)) is ∙ ap (λ v. living (slice_get (slice_set nodes' i (gone q)) v)) e ∙ gone_there nodes' i q,
    ))
    (λ e. let off : u ≡ i → ⊥ = λ y. omega (arith, e, hit i, ap (λ v. hits v i) y) in let same : slice_get nodes'' u ≡ slice_get nodes' u = ap (λ l. slice_get l u) is ∙ get-set_other nodes' i u (gone q) off in (
      λ z. same ∙ w.0 (omega (arith, z, o)),
      λ z. ap living same ∙ w.1 (omega (arith, z, o, e)),
    ))
    (hits-both u i)
