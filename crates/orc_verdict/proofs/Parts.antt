-- The part of a marked term that a node with a name shows.
use Rattle.std.proofs.Common.{◌≡◌, ◌≤◌, ◌<◌, ◌+◌, ℕ, zero, suc, List, [], ◌∷◌, Some, length, refl, sym, ap, ◌∙◌, arith, inl, inr, ◌⊎◌, ⊎_elim}
use Rattle.std.specs.Prelude.{slice_get}
use Rattle.orc_rules.specs.Term.{Term}
use Rattle.orc_rules.specs.Marked.{Marked}
use Rattle.orc_rules.specs.Numbered.{mark, cell, once, times}
use Rattle.orc_term.specs.declared.arena.Node.{Node}
use Rattle.orc_term.specs.declared.arena.Kind.TheVariants.{Leaf, One, Two}
use Rattle.orc_term.specs.declared.arena.Tip.{Tip}
use Rattle.orc_term.specs.declared.arena.Tip.TheVariants.{Gone, Ended, Token, Bears, Waits}
use Rattle.orc_term.specs.declared.arena.Single.TheVariants.{Feeds, Entered, Passed}
use Rattle.orc_term.specs.declared.arena.Double.TheVariants.{Both, Side}
use Rattle.orc_term.specs.Arena.{Tree, leaf, one, two, place, Holds, of_tip, spelled}
use Rattle.orc_env.specs.Scopes.{Env, env_of}
use Rattle.orc_checker.specs.Checker.{State, Draws}
use Rattle.orc_term.proofs.Trees.{missed}
use Rattle.orc_verdict.specs.declared.finder.Name.{Name}
use Rattle.orc_verdict.specs.declared.finder.Name.TheVariants.{Mark, Call, Cell}
use Rattle.orc_verdict.specs.Finding.{name_at, named, HasNone, LacksAt}

module _ (code : ℕ → Term) (s : State) (m : Marked) (d : Draws code s m) where
  abbrev env : ℕ → Env
  env = env_of s.cells s.scopes

  tip_lacks : (name : Name) (k : Tip) → (name_at (Leaf k) ≡ Some name → ⊥) → times (named name) (of_tip code env k) ≡ 0
  tip_lacks name Gone h = refl
  tip_lacks name Ended h = refl
  tip_lacks (Mark r) (Token t f e) h = missed r t (λ e. h (ap (λ z. Some (Mark z)) (sym e)))
  tip_lacks (Call r) (Token t f e) h = refl
  tip_lacks (Cell r) (Token t f e) h = refl
  tip_lacks (Mark r) (Bears t v) h = missed r t (λ e. h (ap (λ z. Some (Mark z)) (sym e)))
  tip_lacks (Call r) (Bears t v) h = refl
  tip_lacks (Cell r) (Bears t v) h = refl
  tip_lacks (Mark r) (Waits k) h = refl
  tip_lacks (Call r) (Waits k) h = missed r k (λ e. h (ap (λ z. Some (Call z)) (sym e)))
  tip_lacks (Cell r) (Waits k) h = refl

  other_lacks : (name : Name) (n g e i : ℕ) → (name_at (One (Entered n g e) i) ≡ Some name → ⊥) → once (named name) (mark n) ≡ 0
  other_lacks (Mark r) n g e i h = missed r n (λ e. h (ap (λ z. Some (Mark z)) (sym e)))
  other_lacks (Call r) n g e i h = refl
  other_lacks (Cell r) n g e i h = refl

  side_lacks : (name : Name) (c i j : ℕ) → (name_at (Two (Side c) i j) ≡ Some name → ⊥) → once (named name) (cell c) ≡ 0
  side_lacks (Mark r) c i j h = refl
  side_lacks (Call r) c i j h = refl
  side_lacks (Cell r) c i j h = missed r c (λ e. h (ap (λ z. Some (Cell z)) (sym e)))

  -- a name that no node has stands nowhere
  lacks : (name : Name) → HasNone s.nodes name → (p : ℕ) (t : Tree) → Holds s.nodes (length s.scopes) p t → times (named name) (spelled code env t) ≡ 0
  lacks name none p (leaf i k) h = tip_lacks name k (none i _ h.0)
  lacks name none p (one i (Feeds x g e) t) h = lacks name none i t h.2
  lacks name none p (one i (Entered n g e) t) h = omega (arith, other_lacks name n g e (place t) (none i _ h.0), lacks name none i t h.2)
  lacks name none p (one i Passed t) h = lacks name none i t h.2
  lacks name none p (two i Both t u) h = omega (arith, lacks name none i t h.1, lacks name none i u h.2)
  lacks name none p (two i (Side c) t u) h = omega (arith, side_lacks name c (place t) (place u) (none i _ h.0), lacks name none i t h.1, lacks name none i u h.2)

  pub stands_nowhere : (name : Name) → HasNone s.nodes name → times (named name) m ≡ 0
  stands_nowhere name none = ap (times (named name)) d.marked ∙ lacks name none 0 d.tree d.holds

inside : {X : Type 0} (xs : List X) (i : ℕ) (x : X) → slice_get xs i ≡ Some x → i < length xs
inside [] i x h = cc h
inside (y ∷ xs) zero x h = omega arith
inside (y ∷ xs) (suc i) x h = omega (arith, inside xs i x h)

-- the nodes that were looked at so far don't have the name
abbrev pub NoneBelow : List Node → Name → ℕ → Type 0
NoneBelow nodes name n = (i : ℕ) → i < n → LacksAt nodes name i

pub none_next : (nodes : List Node) (name : Name) (n : ℕ) → NoneBelow nodes name n → LacksAt nodes name n → NoneBelow nodes name (n + 1)
none_next nodes name n so_far h i lt x e = ⊎_elim (λ y. so_far i y x e) (λ y. h x (ap (slice_get nodes) (sym y) ∙ e)) (less_or i n lt)
  where
    less_or : (i n : ℕ) → i < n + 1 → (i < n) ⊎ (i ≡ n)
    less_or zero zero h = inr refl
    less_or zero (suc n) h = inl (omega arith)
    less_or (suc i) zero h = absurd (omega (arith, h))
    less_or (suc i) (suc n) h = ⊎_elim (λ e. inl (omega (arith, e))) (λ e. inr (ap suc e)) (less_or i n (omega (arith, h)))

pub all_lack : (nodes : List Node) (name : Name) (n : ℕ) → length nodes ≤ n → NoneBelow nodes name n → HasNone nodes name
all_lack nodes name n le h i x e = h i (omega (arith, le, inside nodes i x e)) x e
