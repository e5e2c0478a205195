-- A token's node changes: what the state spells afterwards.
use Rattle.std.proofs.Common.{◌≡◌, ◌≤◌, ◌+◌, ℕ, List, [], ◌∷◌, length, Some, refl, sym, ap, ◌∙◌, subst, arith}
use Rattle.std.specs.Prelude.{slice_get}
use Rattle.orc_term.specs.declared.arena.Node.{Node}
use Rattle.orc_term.specs.declared.arena.Tip.{Tip}
use Rattle.orc_term.specs.declared.arena.Kind.TheVariants.{Leaf}
use Rattle.orc_rules.specs.Term.{Term}
use Rattle.orc_term.specs.Arena.{Tree, leaf, place, count, hits, at, Holds, living, living_kind, StandOnce, spelled, IsTopped, Frame, plug}
use Rattle.orc_env.specs.Scopes.{env_of}
use Rattle.orc_term.specs.Around.{above}
use Rattle.orc_term.specs.Rising.{Stands}
use Rattle.orc_checker.specs.Checker.{State, Draws}
use Rattle.orc_rules.specs.Marked.{Marked}
use Rattle.orc_term.proofs.Trees.{place-plug, holds-out, holds_replaced, once_replaced, spot, alone, hit, topped-plug}
use Rattle.orc_checker.proofs.Spelling.{spelled-kept}

-- where a node without parts stands
pub record Found (nodes : List Node) (n p i : ℕ) (k : Tip) (q : ℕ) (t : Tree) : Type 0 where
  pub context : List Frame
  pub is : plug context (leaf i k) ≡ t
  pub holds : Holds nodes n p (plug context (leaf i k))
  pub once : StandOnce nodes (plug context (leaf i k))
  pub below : above p context ≡ q

pub says_of : (nodes : List Node) (n p i q : ℕ) (k : Tip) (t : Tree) → Holds nodes n p t → StandOnce nodes t → at nodes q i (Leaf k) → living_kind (Leaf k) ≡ 1 → Found nodes n p i k q t
says_of nodes n p i q k t h once a lives =
    let s = spot i t [] (omega (arith, once i, lives, ap living a)) in
    let o = holds-out nodes n p s.context s.part (subst (λ z. Holds nodes n p z) (sym s.is) h) in
    let l = alone nodes n (above p s.context) i q k s.part o.1 s.there a in
    let e : plug s.context (leaf i k) ≡ t = ap (plug s.context) (sym l.is) ∙ s.is in
    record {
      context = s.context;
      is = e;
      holds = subst (λ z. Holds nodes n p z) (sym e) h;
      once = subst (λ z. StandOnce nodes z) (sym e) once;
      below = l.below;
    }

-- the node of a part without parts becomes a tree, and the rest stays
pub record Becomes (s s' : State) (i q : ℕ) (t' : Tree) : Type 0 where
  pub grows : length s.scopes ≤ length s'.scopes
  pub kept : (e : ℕ) → e ≤ length s.scopes → env_of s.cells s.scopes e ≡ env_of s'.cells s'.scopes e
  pub there : place t' ≡ i
  pub same : (u : ℕ) (x : Node) → (u ≡ i → ⊥) → slice_get s.nodes u ≡ Some x → slice_get s'.nodes u ≡ Some x
  pub holds : Holds s'.nodes (length s'.scopes) q t'
  pub counted : (u : ℕ) → count u t' + living (slice_get s.nodes u) ≡ hits u i + living (slice_get s'.nodes u)

-- what the nodes draw then
pub record Changed (code : ℕ → Term) (s s' : State) (m : Marked) (tree : Tree) (i : ℕ) (k : Tip) (t' : Tree) : Type 0 where
  pub context : List Frame
  pub is : plug context (leaf i k) ≡ tree
  pub before : Stands s.nodes (length s.scopes) i context (leaf i k)
  pub was : m ≡ spelled code (env_of s'.cells s'.scopes) (plug context (leaf i k))
  pub holds : Holds s'.nodes (length s'.scopes) 0 (plug context t')
  pub once : StandOnce s'.nodes (plug context t')
  pub root : place (plug context t') ≡ 0
  pub top : IsTopped (plug context t')

hits-off : (u i : ℕ) → hits u i ≡ 0 → u ≡ i → ⊥
hits-off u i z e = omega (arith, z, hit i, ap (λ w. hits w i) e)

-- a node without parts isn't the one above the root
topped-leaf : (k : List Frame) (i : ℕ) (l : Tip) (t' : Tree) → IsTopped (plug k (leaf i l)) → IsTopped (plug k t')
topped-leaf [] i l t' h = absurd h
topped-leaf (f ∷ k) i l t' h = topped-plug f k (leaf i l) t' h

pub changed : (code : ℕ → Term) (s s' : State) (m : Marked) (d : Draws code s m) (i q : ℕ) (k : Tip) (t' : Tree) → at s.nodes q i (Leaf k) → living_kind (Leaf k) ≡ 1 → Becomes s s' i q t' → Changed code s s' m d.tree i k t'
changed code s s' m d i q k t' a lives b =
    let f = says_of s.nodes (length s.scopes) 0 i q k d.tree d.holds d.once a lives in
    record {
      context = f.context;
      is = f.is;
      before = record { holds = f.holds; once = f.once; there = refl; root = ap place f.is ∙ d.root };
      was = d.marked ∙ spelled-kept code (env_of s.cells s.scopes) (env_of s'.cells s'.scopes) (length s.scopes) b.kept s.nodes 0 d.tree d.holds ∙ ap (spelled code (env_of s'.cells s'.scopes)) (sym f.is);
      holds =
          holds_replaced s.nodes s'.nodes (length s.scopes) (length s'.scopes) 0 b.grows f.context (leaf i k) t' f.once f.holds b.there
          (λ u x z e. b.same u x (hits-off u i z) e)
          (subst (λ z. Holds s'.nodes (length s'.scopes) z t') (sym f.below) b.holds);
      once = once_replaced s.nodes s'.nodes (length s.scopes) (length s'.scopes) 0 b.grows f.context (leaf i k) t' f.once b.counted;
      root = place-plug f.context t' (leaf i k) b.there ∙ ap place f.is ∙ d.root;
      top = topped-leaf f.context i k t' (subst IsTopped (sym f.is) d.top);
    }
