-- The part of a marked term that a node shows.
use Rattle.std.proofs.Common.{◌≡◌, ℕ, List, [], Some, length, refl, sym, ap, ◌∙◌, subst, arith}
use Rattle.std.specs.Prelude.{slice_get}
use Rattle.orc_rules.specs.Term.{Term}
use Rattle.orc_rules.specs.Idle.{has_halted}
use Rattle.orc_rules.specs.Marked.{Marked, in_opened, in_other, erase, Replaces, here}
use Rattle.orc_rules.specs.Refusal.{Stands}
use Rattle.orc_env.specs.Scopes.{Env, close, env_of}
use Rattle.orc_term.specs.declared.arena.Node.{Node}
use Rattle.orc_term.specs.declared.arena.Kind.{Kind}
use Rattle.orc_term.specs.declared.arena.Kind.TheVariants.{Leaf, One, Two}
use Rattle.orc_term.specs.declared.arena.Single.TheVariants.{Feeds, Entered, Passed}
use Rattle.orc_term.specs.declared.arena.Double.TheVariants.{Both, Side}
use Rattle.orc_term.specs.Arena.{Tree, leaf, one, two, place, at, Holds, StandOnce, living, living_kind, of_tip, spelled, Frame, plug}
use Rattle.orc_term.specs.Around.{above}
use Rattle.orc_term.specs.Rising.{Stands as StandsAt}
use Rattle.orc_term.specs.Settling.{flag, Flagged}
use Rattle.orc_checker.specs.Checker.{State, Draws}
use Rattle.orc_term.proofs.Trees.{spot, holds-out}
use Rattle.orc_checker.proofs.Spelling.{replaces}
use Rattle.orc_term.proofs.Settling.{flag_says, flagged-out}

-- what a node shows of its part
abbrev pub Shows : (ℕ → Term) → State → Kind → Marked → Type 0
Shows code s (Leaf k) x = x ≡ of_tip code (env_of s.cells s.scopes) k
Shows code s (One (Entered n g e) i) x = (f : Marked) × (x ≡ in_other n f (close (env_of s.cells s.scopes e) (code g))) × (flag s.flags i ≡ has_halted (erase f))
Shows code s (Two (Side c) i j) x = (f g : Marked) × (x ≡ in_opened f c g) × (flag s.flags j ≡ has_halted (erase g))
Shows code s _ x = Unit {0}

same_some : {X : Type 0} (x y : X) → Some x ≡ Some y → x ≡ y
same_some x y e = cc e

-- a part of the marked term
pub record Shown (code : ℕ → Term) (s : State) (m : Marked) (i : ℕ) (k : Kind) : Type 0 where
  pub part : Marked
  pub stands : Stands part m
  pub shows : Shows code s k part
  pub context : List Frame
  pub tree : Tree
  pub there : StandsAt s.nodes (length s.scopes) i context tree
  pub is : spelled code (env_of s.cells s.scopes) tree ≡ part
  pub whole : spelled code (env_of s.cells s.scopes) (plug context tree) ≡ m

module _ (code : ℕ → Term) (s : State) (m : Marked) (d : Draws code s m) where
  abbrev env : ℕ → Env
  env = env_of s.cells s.scopes

  kind_is : (p q i j : ℕ) (k l : Kind) → at s.nodes p j k → j ≡ i → at s.nodes q i l → k ≡ l
  kind_is p q i j k l a e b = ap Node.kind (same_some (record { kind = k; parent = p }) (record { kind = l; parent = q }) (sym a ∙ ap (slice_get s.nodes) e ∙ b))

  shows_of : (p q i : ℕ) (k : Kind) (t : Tree) → Holds s.nodes (length s.scopes) p t → Flagged s.halts s.flags t → place t ≡ i → at s.nodes q i k → Shows code s k (spelled code env t)
  shows_of p q i k (leaf j l) h f e a = subst (λ z. Shows code s z (of_tip code env l)) (kind_is p q i j (Leaf l) k h.0 e a) refl
  shows_of p q i k (one j (Feeds x g c) t) h f e a = subst (λ z. Shows code s z (spelled code env (one j (Feeds x g c) t))) (kind_is p q i j (One (Feeds x g c) (place t)) k h.0 e a) tt
  shows_of p q i k (one j (Entered n g c) t) h f e a = subst (λ z. Shows code s z (spelled code env (one j (Entered n g c) t))) (kind_is p q i j (One (Entered n g c) (place t)) k h.0 e a) (spelled code env t, refl, flag_says code env s.halts d.flags.are_halts s.flags t f.1)
  shows_of p q i k (one j Passed t) h f e a = subst (λ z. Shows code s z (spelled code env t)) (kind_is p q i j (One Passed (place t)) k h.0 e a) tt
  shows_of p q i k (two j Both t u) h f e a = subst (λ z. Shows code s z (spelled code env (two j Both t u))) (kind_is p q i j (Two Both (place t) (place u)) k h.0 e a) tt
  shows_of p q i k (two j (Side c) t u) h f e a = subst (λ z. Shows code s z (spelled code env (two j (Side c) t u))) (kind_is p q i j (Two (Side c) (place t) (place u)) k h.0 e a) (spelled code env t, spelled code env u, refl, flag_says code env s.halts d.flags.are_halts s.flags u f.2)

  -- a node that isn't gone shows a part
  pub shown : (q i : ℕ) (k : Kind) → at s.nodes q i k → living_kind k ≡ 1 → Shown code s m i k
  shown q i k a lives =
      let w = spot i d.tree [] (omega (arith, d.once i, lives, ap living a)) in
      let n = length s.scopes in
      let hold : Holds s.nodes n 0 (plug w.context w.part) = subst (λ z. Holds s.nodes n 0 z) (sym w.is) d.holds in
      let flags = (flagged-out s.halts s.flags w.context w.part (subst (λ z. Flagged s.halts s.flags z) (sym w.is) d.flags.each)).1 in
      let o = holds-out s.nodes n 0 w.context w.part hold in
      let x = spelled code env w.part in
      let h : Replaces x x x [] x = here in
      let r = replaces code env w.context w.part w.part h in
      let whole : spelled code env (plug w.context w.part) ≡ m = ap (spelled code env) w.is ∙ sym d.marked in
      record {
        part = x;
        stands = (r.0, subst (λ z. Replaces x x z r.0 z) whole r.1);
        shows = shows_of (above 0 w.context) q i k w.part o.1 flags w.there a;
        context = w.context;
        tree = w.part;
        there = record { holds = hold; once = subst (λ z. StandOnce s.nodes z) (sym w.is) d.once; there = w.there; root = ap place w.is ∙ d.root };
        is = refl;
        whole = whole;
      }
