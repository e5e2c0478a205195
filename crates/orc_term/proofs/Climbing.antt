-- The walk of a publication from hint to hint.
use Rattle.std.proofs.Common.{◌≡◌, ◌≤◌, ◌+◌, ℕ, zero, suc, List, [], ◌∷◌, length, get_or, Option, Some, None, refl, sym, ap, ◌∙◌, subst, arith, Bool, true, false, cond, nat_eq}
use Rattle.std.proofs.lemmas.Bool.{eqb-true}
use Rattle.std.specs.Prelude.{slice_get, slice_set}
use Rattle.orc_term.specs.declared.arena.Node.{Node}
use Rattle.orc_term.specs.declared.arena.Kind.{Kind}
use Rattle.orc_term.specs.declared.arena.Kind.TheVariants.{Leaf, One, Two}
use Rattle.orc_term.specs.declared.arena.Single.TheVariants.{Feeds, Entered, Passed}
use Rattle.orc_term.specs.declared.arena.Double.TheVariants.{Both, Side}
use Rattle.orc_term.specs.declared.walk.Taker.{Taker}
use Rattle.orc_term.specs.declared.walk.Taker.TheVariants.{Whole, Fed, Bound}
use Rattle.orc_term.specs.Arena.{Tree, place, at, Frame, on_one, on_left, on_right, fit, plug, Holds, StandOnce}
use Rattle.orc_term.specs.Around.{place_of, above}
use Rattle.orc_term.specs.Rising.{takes, rest, risen, pass_node, nowhere, up, TakesThere, Stands, IsTaker, Rises}
use Rattle.orc_term.specs.Hints.{lets, Skips, IsAbove}
use Rattle.orc_term.proofs.Trees.{holds-out}
use Rattle.orc_term.proofs.Rising.{far, near, at_root, not_root, slot, get_or-some, parent_of, differ, Goes, upward, raised}
use Rattle.orc_term.proofs.Paths.{far_less}

-- a part above another, from which a publication goes on in the same way
pub record Jumped (nodes : List Node) (n j : ℕ) (o : List Frame) (u : Tree) : Type 0 where
  pub context : List Frame
  pub part : Tree
  pub stands : Stands nodes n j context part
  pub same : takes context ≡ takes o
  pub rest_same : rest context ≡ rest o
  pub risen_same : risen context part ≡ risen o u
  pub nearer : far context ≤ far o

module _ (nodes : List Node) (n : ℕ) where
  its_parent : (i : ℕ) (f : Frame) (k : List Frame) (u : Tree) (x : Node) → Stands nodes n i (f ∷ k) u → slice_get nodes i ≡ Some x → x.parent ≡ place_of f
  its_parent i f k u x s a = ap Node.parent (sym (get_or-some nodes n nodes i nowhere x a)) ∙ parent_of nodes n i f k u s

  its_kind : (j p : ℕ) (k : Kind) (x y : Node) → x.parent ≡ j → at nodes p j k → slice_get nodes x.parent ≡ Some y → y.kind ≡ k
  its_kind j p k x y e a b = ap Node.kind (sym (get_or-some nodes n nodes x.parent nowhere y b) ∙ ap (λ z. get_or nodes z nowhere) e ∙ get_or-some nodes n nodes j nowhere _ a)

  moved : (i : ℕ) (f : Frame) (k : List Frame) (u : Tree) (x : Node) → Stands nodes n i (f ∷ k) u → slice_get nodes i ≡ Some x → takes k ≡ takes (f ∷ k) → rest k ≡ rest (f ∷ k) → risen k (fit f u) ≡ risen (f ∷ k) u → far k ≤ far (f ∷ k) → Jumped nodes n x.parent (f ∷ k) u
  moved i f k u x s a same rest_same risen_same nearer =
      record {
        context = k;
        part = fit f u;
        stands = record { holds = s.holds; once = s.once; there = is f ∙ sym (its_parent i f k u x s a); root = s.root };
        same = same;
        rest_same = rest_same;
        risen_same = risen_same;
        nearer = nearer;
      }
    where
      is : (f : Frame) → place (fit f u) ≡ place_of f
      is (on_one j s) = refl
      is (on_left j d v) = refl
      is (on_right j d v) = refl

  -- over one node that lets everything through
  step : (i : ℕ) (o : List Frame) (u : Tree) (x y : Node) → Stands nodes n i o u → slice_get nodes i ≡ Some x → slice_get nodes x.parent ≡ Some y → lets y.kind i ≡ true → Jumped nodes n x.parent o u
  step i [] u x y s a b l =
      let w = slot nodes n u s.holds in
      let e : x.parent ≡ 0 = ap Node.parent (sym (get_or-some nodes n nodes i nowhere x a) ∙ get_or-some nodes n nodes i nowhere _ (ap (slice_get nodes) (sym s.there) ∙ w.1)) in
      record { context = []; part = u; stands = subst (λ z. Stands nodes n z [] u) (not_root nodes n i u s ∙ sym e) s; same = refl; rest_same = refl; risen_same = refl; nearer = omega arith }
  step i (on_one j (Feeds z g e) ∷ k) u x y s a b l =
      let h = holds-out nodes n 0 (on_one j (Feeds z g e) ∷ k) u s.holds in
      let w = its_kind j (above 0 k) _ x y (its_parent i (on_one j (Feeds z g e)) k u x s a) h.0.0 b in
      absurd (cc (sym l ∙ ap (λ v. lets v i) w))
  step i (on_one j (Entered m g e) ∷ k) u x y s a b l =
      let h = holds-out nodes n 0 (on_one j (Entered m g e) ∷ k) u s.holds in
      let w = its_kind j (above 0 k) _ x y (its_parent i (on_one j (Entered m g e)) k u x s a) h.0.0 b in
      absurd (cc (sym l ∙ ap (λ v. lets v i) w))
  step i (on_one j Passed ∷ k) u x y s a b l = moved i (on_one j Passed) k u x s a refl refl refl (omega arith)
  step i (on_left j d v ∷ k) u x y s a b l = moved i (on_left j d v) k u x s a refl refl refl (omega arith)
  step i (on_right j Both v ∷ k) u x y s a b l = moved i (on_right j Both v) k u x s a refl refl refl (omega arith)
  step i (on_right j (Side c) v ∷ k) u x y s a b l =
      let h = holds-out nodes n 0 (on_right j (Side c) v ∷ k) u s.holds in
      let w = its_kind j (above 0 k) _ x y (its_parent i (on_right j (Side c) v) k u x s a) h.0.0 b in
      absurd (differ nodes n i j (Side c) v u k s (eqb-true (place v) i (sym (ap (λ z. lets z i) w) ∙ l)))

  pub jump : (i j m : ℕ) (o : List Frame) (u : Tree) → Stands nodes n i o u → Skips nodes m i j → Jumped nodes n j o u
  jump i j zero o u s e = record { context = o; part = u; stands = subst (λ z. Stands nodes n z o u) e s; same = refl; rest_same = refl; risen_same = refl; nearer = omega arith }
  jump i j (suc m) o u s (x, y, a, b, l, r) =
      let w = step i o u x y s a b l in
      let v = jump x.parent j m w.context w.part w.stands r in
      record {
        context = v.context;
        part = v.part;
        stands = v.stands;
        same = v.same ∙ w.same;
        rest_same = v.rest_same ∙ w.rest_same;
        risen_same = v.risen_same ∙ w.risen_same;
        nearer = omega (arith, v.nearer, w.nearer);
      }

abbrev pub above_at : List Node → ℕ → ℕ
above_at nodes i = Node.parent (get_or nodes i nowhere)

abbrev pub taker_at : List Node → ℕ → Option Taker
taker_at nodes i = up (Node.kind (get_or nodes (above_at nodes i) nowhere)) i (above_at nodes i)

-- where the walk has come, in so many turns
abbrev pub Came : List Node → ℕ → ℕ → ℕ → Type 0
Came nodes i at turns = (n : ℕ) (k : List Frame) (t : Tree) → Stands nodes n i k t → (o : List Frame) × (u : Tree) × Stands nodes n at o u × (takes o ≡ takes k) × (turns + far o ≤ far k)

pub came_none : (nodes : List Node) (i : ℕ) → Came nodes i i 0
came_none nodes i n k t s = (k, t, s, refl, omega arith)

pub came_over : (nodes : List Node) (i at j turns : ℕ) → Came nodes i at turns → IsAbove nodes at j → Came nodes i j turns
came_over nodes i at j turns came w n k t s =
    let c = came n k t s in
    let v = jump nodes n at j w.0 c.0 c.1 c.2 w.1 in
    (v.context, v.part, v.stands, v.same ∙ c.3, omega (arith, c.4, v.nearer))

pub came_whole : (nodes : List Node) (i at turns : ℕ) → Came nodes i at turns → at ≡ 0 → IsTaker nodes i Whole
came_whole nodes i at turns came e n k t s =
    let c = came n k t s in
    sym (ap takes (at_root nodes n at c.0 c.1 c.2 e)) ∙ c.3

pub came_up : (nodes : List Node) (i at turns : ℕ) (r : Taker) → Came nodes i at turns → (at ≡ 0 → ⊥) → Some r ≡ taker_at nodes at → IsTaker nodes i r
came_up nodes i at turns r came off e n k t s =
    let c = came n k t s in
    let g = subst (λ z. Goes nodes n z at c.0 c.1) (sym e) (upward nodes n at c.0 c.1 c.2 off) in
    g.0 ∙ c.3

pub came_on : (nodes : List Node) (i at turns : ℕ) → Came nodes i at turns → (at ≡ 0 → ⊥) → None ≡ taker_at nodes at → Came nodes i (above_at nodes at) (turns + 1)
came_on nodes i at turns came off e n k t s =
    let c = came n k t s in
    let g = subst (λ z. Goes nodes n z at c.0 c.1) (sym e) (upward nodes n at c.0 c.1 c.2 off) in
    (g.context, g.part, g.stands, g.same ∙ c.3, omega (arith, c.4, g.farther))

-- it ends before there are as many turns as nodes
pub came_never : (nodes : List Node) (i at turns : ℕ) → Came nodes i at turns → length nodes ≤ turns → (n : ℕ) (k : List Frame) (t : Tree) → Stands nodes n i k t → ⊥
came_never nodes i at turns came le n k t s = let c = came n k t s in omega (arith, far_less nodes n i k t s, le, c.4)

-- how far a publication has come, in so many turns
abbrev pub Climbs : List Node → ℕ → List Node → ℕ → ℕ → Type 0
Climbs nodes i nodes' at turns = (n : ℕ) (k : List Frame) (t : Tree) → Stands nodes n i k t → (o : List Frame) × (u : Tree) × Stands nodes' n at o u × (turns + far o ≤ far k) × (rest o ≡ rest k) × (risen o u ≡ risen k t)

pub climbs_over : (nodes nodes' : List Node) (i at j turns : ℕ) → Climbs nodes i nodes' at turns → IsAbove nodes' at j → Climbs nodes i nodes' j turns
climbs_over nodes nodes' i at j turns climbs w n k t s =
    let c = climbs n k t s in
    let v = jump nodes' n at j w.0 c.0 c.1 c.2 w.1 in
    (v.context, v.part, v.stands, omega (arith, c.3, v.nearer), v.rest_same ∙ c.4, v.risen_same ∙ c.5)

pub climbs_on : (nodes nodes' nodes'' : List Node) (i at turns : ℕ) → Climbs nodes i nodes' at turns → (at ≡ 0 → ⊥) → None ≡ taker_at nodes' at → nodes'' ≡ slice_set nodes' (above_at nodes' at) (pass_node (get_or nodes' (above_at nodes' at) nowhere)) → Climbs nodes i nodes'' (above_at nodes' at) (turns + 1)
climbs_on nodes nodes' nodes'' i at turns climbs off e is n k t s =
    let c = climbs n k t s in
    let g = subst (λ z. Goes nodes' n z at c.0 c.1) (sym e) (upward nodes' n at c.0 c.1 c.2 off) in
    let r = raised nodes' n at c.0 c.1 (far g.context) c.2 g.farther in
    (r.context, r.part, subst (λ z. Stands z n (above_at nodes' at) r.context r.part) (sym is) r.stands, omega (arith, c.3, r.farther), r.rest_same ∙ c.4, r.risen_same ∙ c.5)

-- at the taker
arrived : (nodes nodes' : List Node) (i at turns : ℕ) (climbs : Climbs nodes i nodes' at turns) → ((n : ℕ) (k : List Frame) (t : Tree) (s : Stands nodes n i k t) → far ((climbs n k t s).0) ≡ 0) → Rises nodes i nodes'
arrived nodes nodes' i at turns climbs there n k t s =
    let c = climbs n k t s in
    let w = near c.0 c.1 (there n k t s) in
    let p : plug c.0 c.1 ≡ plug (rest k) (risen k t) = λ j. plug ((sym w.0 ∙ c.4) j) ((sym w.1 ∙ c.5) j) in
    (subst (λ y. Holds nodes' n 0 y) p c.2.holds, subst (λ y. StandOnce nodes' y) p c.2.once)

pub climbs_whole : (nodes nodes' : List Node) (i at turns : ℕ) → Climbs nodes i nodes' at turns → at ≡ 0 → Rises nodes i nodes'
climbs_whole nodes nodes' i at turns climbs e =
    arrived nodes nodes' i at turns climbs (λ n k t s. let c = climbs n k t s in ap far (at_root nodes' n at c.0 c.1 c.2 e))

pub climbs_up : (nodes nodes' : List Node) (i at turns : ℕ) (r : Taker) → Climbs nodes i nodes' at turns → (at ≡ 0 → ⊥) → Some r ≡ taker_at nodes' at → Rises nodes i nodes'
climbs_up nodes nodes' i at turns r climbs off e =
    arrived nodes nodes' i at turns climbs
    (λ n k t s.
    let c = climbs n k t s in
    let g = subst (λ z. Goes nodes' n z at c.0 c.1) (sym e) (upward nodes' n at c.0 c.1 c.2 off) in
    g.1)

pub climbs_out : (nodes nodes' : List Node) (i at turns : ℕ) → Climbs nodes i nodes' at turns → length nodes ≤ turns → Rises nodes i nodes'
climbs_out nodes nodes' i at turns climbs le = arrived nodes nodes' i at turns climbs (λ n k t s. let c = climbs n k t s in omega (arith, c.3, le, far_less nodes n i k t s))

-- what takes a publication to a cell is the node of its pruning
pub bound_up : (nodes : List Node) (i j : ℕ) (w : Taker) → up (Node.kind (get_or nodes j nowhere)) i j ≡ Some w → TakesThere nodes w
bound_up nodes i j w h = go (Node.kind (get_or nodes j nowhere)) refl h
  where
    same : (a b : Taker) → Some a ≡ Some b → a ≡ b
    same a b e = cc e

    by_side : (b : Bool) (c l r : ℕ) → Node.kind (get_or nodes j nowhere) ≡ Two (Side c) l r → cond b None (Some (Bound c j)) ≡ Some w → TakesThere nodes w
    by_side true c l r is e = cc e
    by_side false c l r is e = subst (TakesThere nodes) (same (Bound c j) w e) (l, r, is)

    go : (k : Kind) → Node.kind (get_or nodes j nowhere) ≡ k → up k i j ≡ Some w → TakesThere nodes w
    go (Leaf t) is e = cc e
    go (One (Feeds x g o) p) is e = subst (TakesThere nodes) (same (Fed j) w e) (x, g, o, p, is)
    go (One (Entered m g o) p) is e = cc e
    go (One Passed p) is e = cc e
    go (Two Both l r) is e = cc e
    go (Two (Side c) l r) is e = by_side (nat_eq l i) c l r is e
