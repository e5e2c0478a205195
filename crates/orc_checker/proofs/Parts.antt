-- The node that a part of the marked term is.
use Rattle.std.proofs.Common.{◌≡◌, ℕ, List, length, refl, sym, subst, inl, inr, ◌⊎◌, ⊎_elim}
use Rattle.orc_rules.specs.Term.{Term}
use Rattle.orc_rules.specs.Marked.{Marked, ended, token, in_call, in_par, in_seq, in_opened, in_other, Replaces, here, in_left, in_right, in_feeding, in_main, in_side, in_entered}
use Rattle.orc_rules.specs.Journal.{Place}
use Rattle.orc_rules.specs.Refusal.{Stands, HasToken, HasCall, HasCell, HasOther}
use Rattle.orc_rules.specs.Timed.{Context}
use Rattle.orc_env.specs.Scopes.{Env, env_of}
use Rattle.orc_term.specs.declared.arena.Node.{Node}
use Rattle.orc_term.specs.declared.arena.Kind.TheVariants.{Leaf, One, Two}
use Rattle.orc_term.specs.declared.arena.Tip.{Tip}
use Rattle.orc_term.specs.declared.arena.Tip.TheVariants.{Gone, Ended, Token, Bears, Waits}
use Rattle.orc_term.specs.declared.arena.Single.TheVariants.{Feeds, Entered, Passed}
use Rattle.orc_term.specs.declared.arena.Double.TheVariants.{Both, Side}
use Rattle.orc_term.specs.Arena.{Tree, leaf, one, two, place, at, Holds, of_tip, spelled}
use Rattle.orc_term.specs.Bearers.{Carries}
use Rattle.orc_checker.specs.Checker.{State, Spells}
use Rattle.orc_checker.specs.Refusing.{NoToken, NoCall, NoPruning, NoOtherwise}

-- x is m or stands in it
abbrev pub IsPart : Marked → Marked → Type 0
IsPart x ended = x ≡ ended
IsPart x (token s t) = x ≡ token s t
IsPart x (in_call k) = x ≡ in_call k
IsPart x (in_par f g) = (x ≡ in_par f g) ⊎ (IsPart x f ⊎ IsPart x g)
IsPart x (in_seq f z g) = (x ≡ in_seq f z g) ⊎ IsPart x f
IsPart x (in_opened f c g) = (x ≡ in_opened f c g) ⊎ (IsPart x f ⊎ IsPart x g)
IsPart x (in_other n f g) = (x ≡ in_other n f g) ⊎ IsPart x f

itself : (x : Marked) → IsPart x x
itself ended = refl
itself (token s t) = refl
itself (in_call k) = refl
itself (in_par f g) = inl refl
itself (in_seq f z g) = inl refl
itself (in_opened f c g) = inl refl
itself (in_other n f g) = inl refl

pub part_of : {x y m m' : Marked} {cs : List ℕ} → Replaces x y m cs m' → IsPart x m
part_of {x} here = itself x
part_of (in_left r) = inr (inl (part_of r))
part_of (in_right r) = inr (inr (part_of r))
part_of (in_feeding r) = inr (part_of r)
part_of (in_main r) = inr (inl (part_of r))
part_of (in_side r) = inr (inr (part_of r))
part_of (in_entered r) = inr (part_of r)

-- whether a node has the token, the call, the pruning or the otherwise that a part is
abbrev pub IsNode : List Node → Marked → Type 0
IsNode nodes (token s t) = (p i : ℕ) × (k : Tip) × at nodes p i (Leaf k) × Carries s k
IsNode nodes (in_call k) = (p i : ℕ) × at nodes p i (Leaf (Waits k))
IsNode nodes (in_opened f c g) = (p i left right : ℕ) × at nodes p i (Two (Side c) left right)
IsNode nodes (in_other n f g) = (p i g e left : ℕ) × at nodes p i (One (Entered n g e) left)
IsNode nodes _ = Unit {0}

module _ (code : ℕ → Term) (env : ℕ → Env) (nodes : List Node) (n : ℕ) where
  tip_node : (p i : ℕ) (k : Tip) (x : Marked) → at nodes p i (Leaf k) → IsPart x (of_tip code env k) → IsNode nodes x
  tip_node p i Gone x a h = subst (IsNode nodes) (sym h) tt
  tip_node p i Ended x a h = subst (IsNode nodes) (sym h) tt
  tip_node p i (Token s f e) x a h = subst (IsNode nodes) (sym h) (p, i, Token s f e, a, refl)
  tip_node p i (Bears s v) x a h = subst (IsNode nodes) (sym h) (p, i, Bears s v, a, refl)
  tip_node p i (Waits k) x a h = subst (IsNode nodes) (sym h) (p, i, a)

  pub is_node : (p : ℕ) (t : Tree) (x : Marked) → Holds nodes n p t → IsPart x (spelled code env t) → IsNode nodes x
  is_node p (leaf i k) x h a = tip_node p i k x h.0 a
  is_node p (one i (Feeds z g e) t) x h a = ⊎_elim (λ b. subst (IsNode nodes) (sym b) tt) (λ b. is_node i t x h.2 b) a
  is_node p (one i (Entered m g e) t) x h a = ⊎_elim (λ b. subst (IsNode nodes) (sym b) (p, i, g, e, place t, h.0)) (λ b. is_node i t x h.2 b) a
  is_node p (one i Passed t) x h a = is_node i t x h.2 a
  is_node p (two i Both t u) x h a = ⊎_elim (λ b. subst (IsNode nodes) (sym b) tt) (λ b. ⊎_elim (λ c. is_node i t x h.1 c) (λ c. is_node i u x h.2 c) b) a
  is_node p (two i (Side c) t u) x h a = ⊎_elim (λ b. subst (IsNode nodes) (sym b) (p, i, place t, place u, h.0)) (λ b. ⊎_elim (λ d. is_node i t x h.1 d) (λ d. is_node i u x h.2 d) b) a

module _ (x : Context) (code : ℕ → Term) (s : State) (p : Place) (sp : Spells x code s p) where
  -- each part of the term is a node
  pub stands_node : (y : Marked) → Stands y p.marked → IsNode s.nodes y
  stands_node y st =
      let d = sp.drawn in
      is_node code (env_of s.cells s.scopes) s.nodes (length s.scopes) 0 d.tree y d.holds (subst (IsPart y) d.marked (part_of st.1))

  pub no_token : (m : ℕ) → NoToken s.nodes m → HasToken p m → ⊥
  no_token m none h = let w = stands_node (token m h.0) h.1 in none w.0 w.1 w.2 w.3 w.4

  pub no_call : (k : ℕ) → NoCall s.nodes k → HasCall p k → ⊥
  no_call k none h = let w = stands_node (in_call k) h in none w.0 w.1 w.2

  pub no_pruning : (c : ℕ) → NoPruning s.nodes c → HasCell p c → ⊥
  no_pruning c none h = let w = stands_node (in_opened h.0 c h.1) h.2 in none w.0 w.1 w.2 w.3 w.4

  pub no_otherwise : (m : ℕ) → NoOtherwise s.nodes m → HasOther p m → ⊥
  no_otherwise m none h = let w = stands_node (in_other m h.0 h.1) h.2 in none w.0 w.1 w.2 w.3 w.4 w.5
