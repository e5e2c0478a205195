-- How deep a marked term nests, from its nodes.
use Rattle.std.proofs.Common.{◌≡◌, ◌≤◌, ◌+◌, ℕ, suc, max, length, List, [], ◌∷◌, ◌++◌, refl, sym, ap, ◌∙◌, subst, arith}
use Rattle.orc_rules.specs.Term.{Term}
use Rattle.orc_rules.specs.Marked.{erase}
use Rattle.orc_rules.specs.Refusal.{depth}
use Rattle.orc_rules.specs.Timed.{Context}
use Rattle.orc_rules.specs.Journal.{Place}
use Rattle.orc_term.specs.declared.arena.Node.{Node}
use Rattle.orc_term.specs.declared.arena.Kind.{Kind}
use Rattle.orc_term.specs.declared.arena.Kind.TheVariants.{Leaf, One, Two}
use Rattle.orc_term.specs.declared.arena.Tip.TheVariants.{Gone, Ended, Token, Bears, Waits}
use Rattle.orc_term.specs.declared.arena.Single.TheVariants.{Feeds, Entered, Passed}
use Rattle.orc_term.specs.declared.arena.Double.TheVariants.{Both, Side}
use Rattle.orc_term.specs.Arena.{Tree, leaf, one, two, place, Holds, spelled}
use Rattle.orc_env.specs.Scopes.{Env, given, close, without, env_of}
use Rattle.orc_checker.specs.Checker.{State, Spells}
use Rattle.orc_term.specs.Dropping.{parts_of}
use Rattle.orc_term.specs.Settling.{kind_at}
use Rattle.orc_checker.proofs.Moving.{kind_of}
use Rattle.orc_rules.specs.Term.{put}
use Rattle.orc_verdict.specs.Depth.{own_levels, step_down, with_levels}
use Rattle.orc_term.specs.Ranks.{levels_below, AreLevelsAtMost}
use Rattle.orc_verdict.specs.Heights.{height, AreHeights, AreAtMost}
use Rattle.orc_verdict.proofs.Deepening.{put_depth}

close_depth : (e : Env) (f : Term) → depth (close e f) ≡ depth f
close_depth [] f = refl
close_depth (b ∷ e) f = close_depth e (put (given b.1) b.0 f) ∙ put_depth (given b.1) b.0 f

module _ (levels : List ℕ) where
  -- how deep a tree of nodes nests
  abbrev pub tree_depth : Tree → ℕ
  tree_depth (leaf i k) = own_levels levels (Leaf k)
  tree_depth (one i s t) = step_down (One s (place t)) + max (own_levels levels (One s (place t))) (tree_depth t)
  tree_depth (two i d t u) = suc (max (tree_depth t) (tree_depth u))

  module _ (code : ℕ → Term) (env : ℕ → Env) (are : AreHeights code levels) where
    spelled_depth : (t : Tree) → depth (erase (spelled code env t)) ≡ tree_depth t
    spelled_depth (leaf i Gone) = refl
    spelled_depth (leaf i Ended) = refl
    spelled_depth (leaf i (Token s f e)) = close_depth (env e) (code f) ∙ sym (are f)
    spelled_depth (leaf i (Bears s v)) = refl
    spelled_depth (leaf i (Waits k)) = refl
    spelled_depth (one i (Feeds x g e) t) = omega (arith, spelled_depth t, close_depth (without x (env e)) (code g), are g)
    spelled_depth (one i (Entered m g e) t) = omega (arith, spelled_depth t, close_depth (env e) (code g), are g)
    spelled_depth (one i Passed t) = omega (arith, spelled_depth t)
    spelled_depth (two i Both t u) = λ j. suc (max (spelled_depth t j) (spelled_depth u j))
    spelled_depth (two i (Side c) t u) = λ j. suc (max (spelled_depth t j) (spelled_depth u j))

  module _ (nodes : List Node) where
    -- a node to be looked at, with the levels above it, reaches this level
    abbrev pub Reaches : ℕ × ℕ → ℕ → Type 0
    Reaches x e = (n : ℕ) × (p : ℕ) × (t : Tree) × Holds nodes n p t × (place t ≡ x.0) × (e ≡ x.1 + tree_depth t)

    -- the deepest of those that are left reaches this level
    abbrev pub Left : List (ℕ × ℕ) → ℕ → Type 0
    Left [] d = d ≡ 0
    Left (x ∷ xs) d = (e : ℕ) × (r : ℕ) × Reaches x e × Left xs r × (d ≡ max e r)

    join : (xs ys : List (ℕ × ℕ)) (d e : ℕ) → Left xs d → Left ys e → (r : ℕ) × Left (xs ++ ys) r × (r ≡ max d e)
    join [] ys d e h k = (e, k, omega (arith, h))
    join (x ∷ xs) ys d e (f, r, is, rest, m) k = let j = join xs ys r e rest k in (max f j.0, (f, j.0, is, j.1, refl), omega (arith, j.2, m))

    part : (xs : List (ℕ × ℕ)) (x : ℕ × ℕ) (d : ℕ) → Left (xs ++ x ∷ []) d → (e : ℕ) × (r : ℕ) × Reaches x e × Left xs r × (d ≡ max r e)
    part [] x d (e, r, is, rest, m) = (e, 0, is, refl, omega (arith, rest, m))
    part (y ∷ xs) x d (f, s, is, rest, m) = let j = part xs x s rest in (j.0, max f j.1, j.2, (f, j.1, is, j.3, refl), omega (arith, j.4, m))

    -- what a node leaves to be looked at
    abbrev Leaves : Tree → ℕ → Kind → Type 0
    Leaves t a k = (r : ℕ) × Left (with_levels (a + step_down k) (parts_of k)) r × (a + tree_depth t ≡ max (a + step_down k + own_levels levels k) r)

    leaves : (n p : ℕ) (t : Tree) (a : ℕ) → Holds nodes n p t → Leaves t a (kind_at nodes (place t))
    leaves n p (leaf i k) a h = subst (Leaves (leaf i k) a) (sym (kind_of nodes i p (Leaf k) h.0)) (0, refl, omega arith)
    leaves n p (one i s t) a h =
        let k = One s (place t) in
        subst (Leaves (one i s t) a) (sym (kind_of nodes i p k h.0)) (a + step_down k + tree_depth t, (a + step_down k + tree_depth t, 0, (n, i, t, h.2, refl, refl), refl, omega arith), omega arith)
    leaves n p (two i d t u) a h =
        subst (Leaves (two i d t u) a) (sym (kind_of nodes i p (Two d (place t) (place u)) h.0)) (
          max (a + 1 + tree_depth t) (a + 1 + tree_depth u),
          (a + 1 + tree_depth t, a + 1 + tree_depth u, (n, i, t, h.1, refl, refl), (a + 1 + tree_depth u, 0, (n, i, u, h.2, refl, refl), refl, omega arith), refl),
          omega arith,
        )

    -- what was looked at and what is left have the levels of the whole
    abbrev pub IsLooked : List (ℕ × ℕ) → ℕ → Type 0
    IsLooked left deepest = (n : ℕ) (t : Tree) → Holds nodes n 0 t → place t ≡ 0 → (d : ℕ) × Left left d × (tree_depth t ≡ max deepest d)

    pub looks_first : IsLooked ((0, 0) ∷ []) 0
    looks_first n t h root = (tree_depth t, (tree_depth t, 0, (n, 0, t, h, root, omega arith), refl, omega arith), omega arith)

    pub looks_on : (left left' : List (ℕ × ℕ)) (i a b deepest deepest' : ℕ) → IsLooked (left ++ (i, a) ∷ []) deepest → b ≡ a + step_down (kind_at nodes i) → deepest' ≡ max deepest (b + own_levels levels (kind_at nodes i))
        → left' ≡ left ++ with_levels b (parts_of (kind_at nodes i)) → IsLooked left' deepest'
    looks_on left left' i a b deepest deepest' looked below now more n t h root =
        let w = looked n t h root in
        let s = part left (i, a) w.0 w.1 in
        let r = s.2 in
        let l = subst (λ z. Leaves r.2 a (kind_at nodes z)) r.4 (leaves r.0 r.1 r.2 a r.3) in
        let j = join left (with_levels (a + step_down (kind_at nodes i)) (parts_of (kind_at nodes i))) s.1 l.0 s.3 l.1 in (
          j.0,
          subst (λ z. Left z j.0) (ap (λ z. left ++ with_levels z (parts_of (kind_at nodes i))) (sym below) ∙ sym more) j.1,
          omega (arith, w.2, s.4, r.5, l.2, j.2, now, below),
        )

    pub looks_all : (left : List (ℕ × ℕ)) (deepest : ℕ) → left ≡ [] → IsLooked left deepest → (n : ℕ) (t : Tree) → Holds nodes n 0 t → place t ≡ 0 → deepest ≡ tree_depth t
    looks_all left deepest none looked n t h root = let w = looked n t h root in let z : w.0 ≡ 0 = subst (λ xs. Left xs w.0) none w.1 in omega (arith, w.2, z)

-- the place that a state spells nests so
pub place_depth : (x : Context) (code : ℕ → Term) (levels : List ℕ) (s : State) (p : Place) (d : ℕ) → AreHeights code levels → Spells x code s p → ((n : ℕ) (t : Tree) → Holds s.nodes n 0 t → place t ≡ 0 → d ≡ tree_depth levels t) → d ≡ depth (erase p.marked)
place_depth x code levels s p d are sp h =
    let dr = sp.drawn in
    h _ dr.tree dr.holds dr.root ∙ sym (spelled_depth levels code (env_of s.cells s.scopes) are dr.tree) ∙ ap (λ m. depth (erase m)) (sym dr.marked)

-- ---- at most

below_end : (levels : List ℕ) → height levels (length levels) ≡ 1
below_end [] = refl
below_end (b ∷ levels) = below_end levels

-- each node adds a level, and the lowest has no more than a term of the program
depth_most : (levels : List ℕ) (most : ℕ) → AreAtMost levels most → (t : Tree) → tree_depth levels t ≤ levels_below t + most
depth_most levels most low (leaf i (Token s f e)) = omega (arith, low f)
depth_most levels most low (leaf i Gone) = omega (arith, low (length levels), below_end levels)
depth_most levels most low (leaf i Ended) = omega (arith, low (length levels), below_end levels)
depth_most levels most low (leaf i (Bears s v)) = omega (arith, low (length levels), below_end levels)
depth_most levels most low (leaf i (Waits k)) = omega (arith, low (length levels), below_end levels)
depth_most levels most low (one i (Feeds x g e) t) = omega (arith, low g, depth_most levels most low t)
depth_most levels most low (one i (Entered m g e) t) = omega (arith, low g, depth_most levels most low t)
depth_most levels most low (one i Passed t) = omega (arith, depth_most levels most low t)
depth_most levels most low (two i d t u) = omega (arith, depth_most levels most low t, depth_most levels most low u)

pub place_most : (x : Context) (code : ℕ → Term) (levels : List ℕ) (s : State) (p : Place) (n most : ℕ) → AreHeights code levels → AreAtMost levels most → Spells x code s p → AreLevelsAtMost s.nodes n → depth (erase p.marked) ≤ n + most
place_most x code levels s p n most are low sp few =
    let dr = sp.drawn in
    let here : depth (erase p.marked) ≡ tree_depth levels dr.tree = ap (λ m. depth (erase m)) dr.marked ∙ spelled_depth levels code (env_of s.cells s.scopes) are dr.tree in
    omega (arith, here, depth_most levels most low dr.tree, few _ dr.tree dr.holds dr.root)
