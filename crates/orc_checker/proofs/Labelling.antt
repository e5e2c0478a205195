-- The cells around a part, and where its token stands.
use Rattle.std.proofs.Common.{◌≡◌, ℕ, List, [], ◌∷◌, ◌++◌, length, reverse, get_or, Option, refl, sym, ap, ◌∙◌, subst, cond, eq-eqb}
use Rattle.std.proofs.lemmas.Bool.{ne_eqb}
use Rattle.std.proofs.lemmas.List.{reverse-append}
use Rattle.orc_term.specs.declared.arena.Node.{Node}
use Rattle.orc_term.specs.declared.arena.Tip.{Tip}
use Rattle.orc_term.specs.declared.arena.Tip.TheVariants.{Gone, Ended, Token, Bears, Waits}
use Rattle.orc_term.specs.declared.arena.Single.TheVariants.{Feeds, Entered, Passed}
use Rattle.orc_term.specs.declared.arena.Double.TheVariants.{Both, Side}
use Rattle.orc_term.specs.declared.arena.Kind.TheVariants.{Leaf}
use Rattle.orc_rules.specs.declared.param.Param.TheVariants.{Is}
use Rattle.orc_rules.specs.declared.entry.Entry.{Entry}
use Rattle.orc_rules.specs.declared.entry.Label.{Label}
use Rattle.orc_rules.specs.Term.{Term, param}
use Rattle.orc_rules.specs.Marked.{Marked, token, Replaces, here, in_left, in_right, in_feeding, in_main, in_side, in_entered}
use Rattle.orc_rules.specs.Journal.{Place}
use Rattle.orc_rules.specs.Timed.{Context}
use Rattle.orc_term.specs.Arena.{Tree, leaf, one, two, place, at, living_kind, spelled, Frame, on_one, on_left, on_right, fit, plug}
use Rattle.orc_env.specs.Scopes.{Env, env_of, close}
use Rattle.orc_term.specs.Around.{place_of, above}
use Rattle.orc_term.specs.Rising.{Stands, nowhere}
use Rattle.orc_term.specs.Bearers.{Carries}
use Rattle.orc_checker.specs.Checker.{State, Spells}
use Rattle.orc_checker.specs.Labelling.{around_cells, cell_above, AreAround, StandsInside, IsLabel}
use Rattle.orc_term.proofs.Trees.{holds-out}
use Rattle.orc_checker.proofs.Change.{says_of}
use Rattle.orc_term.proofs.Feeding.{frame_kind, place-fit, fit-out}
use Rattle.orc_term.proofs.Rising.{parent_of, get_or-some, at_root, not_root, differ}

module _ (code : ℕ → Term) (env : ℕ → Env) where
  -- a part is replaced in the whole, inside the right sides around it
  pub replaces_inside : (k : List Frame) (t t' : Tree) {x y : Marked} {cs : List ℕ} → Replaces x y (spelled code env t) cs (spelled code env t') → Replaces x y (spelled code env (plug k t)) (around_cells k cs) (spelled code env (plug k t'))
  replaces_inside [] t t' r = r
  replaces_inside (on_one i (Feeds x g e) ∷ k) t t' r = replaces_inside k (one i (Feeds x g e) t) (one i (Feeds x g e) t') (in_feeding r)
  replaces_inside (on_one i (Entered n g e) ∷ k) t t' r = replaces_inside k (one i (Entered n g e) t) (one i (Entered n g e) t') (in_entered r)
  replaces_inside (on_one i Passed ∷ k) t t' r = replaces_inside k (one i Passed t) (one i Passed t') r
  replaces_inside (on_left i Both u ∷ k) t t' r = replaces_inside k (two i Both t u) (two i Both t' u) (in_left r)
  replaces_inside (on_left i (Side c) u ∷ k) t t' r = replaces_inside k (two i (Side c) t u) (two i (Side c) t' u) (in_main r)
  replaces_inside (on_right i Both u ∷ k) t t' r = replaces_inside k (two i Both u t) (two i Both u t') (in_right r)
  replaces_inside (on_right i (Side c) u ∷ k) t t' r = replaces_inside k (two i (Side c) u t) (two i (Side c) u t') (in_side r)

-- how far the walk has come
abbrev pub Collects : List Node → ℕ → ℕ → List ℕ → Type 0
Collects nodes from i cs = (n : ℕ) (k : List Frame) (t : Tree) → Stands nodes n from k t → (o : List Frame) × (u : Tree) × Stands nodes n i o u × (around_cells k [] ≡ around_cells o (reverse cs))

pub collects_none : (nodes : List Node) (from : ℕ) → Collects nodes from from []
collects_none nodes from n k t s = (k, t, s, refl)

pub collects_all : (nodes : List Node) (from i : ℕ) (cs : List ℕ) → Collects nodes from i cs → i ≡ 0 → AreAround nodes from (reverse cs)
collects_all nodes from i cs so_far e n k t s =
    let c = so_far n k t s in
    sym (c.3 ∙ ap (λ z. around_cells z (reverse cs)) (at_root nodes n i c.0 c.1 c.2 e))

abbrev pub above_of : List Node → ℕ → ℕ
above_of nodes i = Node.parent (get_or nodes i nowhere)

-- one node upward
pub collects_on : (nodes : List Node) (from i : ℕ) (cs : List ℕ) → Collects nodes from i cs → (i ≡ 0 → ⊥)
    → Collects nodes from (Node.parent (get_or nodes i nowhere)) (cs ++ cell_above (Node.kind (get_or nodes (Node.parent (get_or nodes i nowhere)) nowhere)) i)
collects_on nodes from i cs so_far off n k t s = let c = so_far n k t s in go c.0 c.1 c.2 c.3
  where
    step : (f : Frame) (o : List Frame) (u : Tree) → Stands nodes n i (f ∷ o) u → around_cells k [] ≡ around_cells (f ∷ o) (reverse cs) → around_cells (f ∷ o) (reverse cs) ≡ around_cells o (reverse (cs ++ cell_above (frame_kind f (place u)) i))
        → (o' : List Frame) × (u' : Tree) × Stands nodes n (above_of nodes i) o' u' × (around_cells k [] ≡ around_cells o' (reverse (cs ++ cell_above (Node.kind (get_or nodes (above_of nodes i) nowhere)) i)))
    step f o u st e more =
        let h = fit-out nodes n (above 0 o) f u (holds-out nodes n 0 o (fit f u) st.holds).1 in
        let p : above_of nodes i ≡ place_of f = parent_of nodes n i f o u st in
        let w : Node.kind (get_or nodes (above_of nodes i) nowhere) ≡ frame_kind f (place u) = ap Node.kind (ap (λ z. get_or nodes z nowhere) p ∙ get_or-some nodes n nodes (place_of f) nowhere _ h.0) in (
          o,
          fit f u,
          record { holds = st.holds; once = st.once; there = place-fit f u ∙ sym p; root = st.root },
          e ∙ more ∙ ap (λ z. around_cells o (reverse (cs ++ cell_above z i))) (sym w),
        )

    none : reverse cs ≡ reverse (cs ++ [])
    none = sym (reverse-append cs [])

    one_more : (c : ℕ) → c ∷ reverse cs ≡ reverse (cs ++ c ∷ [])
    one_more c = sym (reverse-append cs (c ∷ []))

    go : (o : List Frame) (u : Tree) → Stands nodes n i o u → around_cells k [] ≡ around_cells o (reverse cs) → (o' : List Frame) × (u' : Tree) × Stands nodes n (above_of nodes i) o' u' × (around_cells k [] ≡ around_cells o' (reverse (cs ++ cell_above (Node.kind (get_or nodes (above_of nodes i) nowhere)) i)))
    go [] u st e = absurd (off (not_root nodes n i u st))
    go (on_one a b ∷ o) u st e = step (on_one a b) o u st e (ap (around_cells o) none)
    go (on_left a Both v ∷ o) u st e = step (on_left a Both v) o u st e (ap (around_cells o) none)
    go (on_left a (Side c) v ∷ o) u st e = step (on_left a (Side c) v) o u st e (ap (around_cells o) (none ∙ sym (ap (λ b. reverse (cs ++ cond b [] (c ∷ []))) (eq-eqb (place u) i st.there))))
    go (on_right a Both v ∷ o) u st e = step (on_right a Both v) o u st e (ap (around_cells o) none)
    go (on_right a (Side c) v ∷ o) u st e = step (on_right a (Side c) v) o u st e (ap (around_cells o) (one_more c ∙ sym (ap (λ b. reverse (cs ++ cond b [] (c ∷ []))) (ne_eqb (place v) i (differ nodes n i a (Side c) v u o st)))))

-- a token stands inside the right sides around its node
pub stands_inside : (x : Context) (code : ℕ → Term) (s : State) (p : Place) (i q m : ℕ) (k : Tip) (cs : List ℕ) → Spells x code s p → at s.nodes q i (Leaf k) → Carries m k → AreAround s.nodes i cs → StandsInside p m cs
stands_inside x code s p i q m k cs sp a carries around =
    let d = sp.drawn in
    let env = env_of s.cells s.scopes in
    let f = says_of s.nodes (length s.scopes) 0 i q k d.tree d.holds d.once a (lives k carries) in
    let t = its_term k carries in
    let is : cs ≡ around_cells f.context [] = around (length s.scopes) f.context (leaf i k) (record { holds = f.holds; once = f.once; there = refl; root = ap place f.is ∙ d.root }) in
    let whole : spelled code env (plug f.context (leaf i k)) ≡ p.marked = ap (spelled code env) f.is ∙ sym d.marked in
    let r : Replaces (token m t.0) (token m t.0) (spelled code env (leaf i k)) [] (spelled code env (leaf i k)) = subst (λ z. Replaces (token m t.0) (token m t.0) z [] z) (sym t.1) here in (
      t.0,
      subst (λ z. Replaces (token m t.0) (token m t.0) p.marked z p.marked) (sym is) (subst (λ z. Replaces (token m t.0) (token m t.0) z (around_cells f.context []) z) whole (replaces_inside code env f.context (leaf i k) (leaf i k) r)),
    )
  where
    lives : (k : Tip) → Carries m k → living_kind (Leaf k) ≡ 1
    lives (Token r f e) h = refl
    lives (Bears r v) h = refl
    lives Gone h = absurd h
    lives Ended h = absurd h
    lives (Waits r) h = absurd h

    its_term : (k : Tip) → Carries m k → (t : Term) × (spelled code (env_of s.cells s.scopes) (leaf i k) ≡ token m t)
    its_term (Token r f e) h = (close (env_of s.cells s.scopes e) (code f), ap (λ z. token z (close (env_of s.cells s.scopes e) (code f))) h)
    its_term (Bears r v) h = (param (Is v), ap (λ z. token z (param (Is v))) h)
    its_term Gone h = absurd h
    its_term Ended h = absurd h
    its_term (Waits r) h = absurd h

pub label_so : (p : Place) (e e' : Entry) (label : Option Label) → e ≡ e' → IsLabel p e' label → IsLabel p e label
label_so p e e' label is h = subst (λ z. IsLabel p z label) (sym is) h
