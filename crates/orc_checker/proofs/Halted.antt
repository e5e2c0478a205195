-- Sides that have halted, in the marked term and among its nodes.
use Rattle.std.proofs.Common.{◌≡◌, ℕ, List, length, Some, None, refl, sym, ap, ◌∙◌, subst, Bool, true, false, cond, nat_eq, eqb-true, eq-eqb, ⊎_elim}
use Rattle.orc_rules.specs.Term.{Term}
use Rattle.orc_rules.specs.Idle.{has_halted}
use Rattle.orc_rules.specs.Marked.{Marked, erase}
use Rattle.orc_rules.specs.Nodes.{Listing, code}
use Rattle.orc_rules.specs.Timed.{Context}
use Rattle.orc_rules.specs.Journal.{Place}
use Rattle.orc_env.specs.Scopes.{Env, env_of}
use Rattle.orc_term.specs.declared.arena.Node.{Node}
use Rattle.orc_term.specs.declared.arena.Kind.{Kind}
use Rattle.orc_term.specs.declared.arena.Kind.TheVariants.{Leaf, One, Two}
use Rattle.orc_term.specs.declared.arena.Tip.{Tip}
use Rattle.orc_term.specs.declared.arena.Tip.TheVariants.{Gone, Ended, Token, Bears, Waits}
use Rattle.orc_term.specs.declared.arena.Single.TheVariants.{Feeds, Entered, Passed}
use Rattle.orc_term.specs.declared.arena.Double.TheVariants.{Both, Side}
use Rattle.orc_checker.specs.declared.sides.Side.TheVariants.{Right, Left}
use Rattle.orc_term.specs.Arena.{Tree, leaf, one, two, place, at, Holds, of_tip, spelled}
use Rattle.orc_checker.specs.Checker.{State, Spells}
use Rattle.orc_term.specs.Halting.{AreHalts}
use Rattle.orc_checker.specs.Over.{side_of, FindsSide, LeftIs, RightIs, RunsOn}
use Rattle.orc_term.specs.Rising.{nowhere}
use Rattle.orc_term.specs.Settling.{flag, Flagged, kind_at, parent_at}
use Rattle.orc_term.specs.Sides.{is_set, is_side, is_side_at, HasEnded}
use Rattle.orc_term.proofs.Hints.{there_or_not}
use Rattle.orc_term.proofs.KeptSides.{ended_parts}
use Rattle.orc_checker.proofs.Moving.{flag_of_set, side_runs}
use Rattle.orc_checker.proofs.Offered.{left_is, right_is}
use Rattle.orc_checker.proofs.Parts.{IsPart, part_of}
use Rattle.orc_term.proofs.Settling.{flag_says}

-- where no side has halted, none in the marked term has
module _ (code : ℕ → Term) (env : ℕ → Env) (halts : List Bool) (are : AreHalts code halts) (nodes : List Node) (flags : List Bool) (len : length flags ≡ length nodes) (none : HasEnded nodes flags None) where
  tip_runs : (k : Tip) (x : Marked) → IsPart x (of_tip code env k) → RunsOn x
  tip_runs Gone x a = subst RunsOn (sym a) tt
  tip_runs Ended x a = subst RunsOn (sym a) tt
  tip_runs (Token s f e) x a = subst RunsOn (sym a) tt
  tip_runs (Bears s v) x a = subst RunsOn (sym a) tt
  tip_runs (Waits k) x a = subst RunsOn (sym a) tt

  part_runs : (n p : ℕ) (t : Tree) (x : Marked) → Holds nodes n p t → Flagged halts flags t → IsPart x (spelled code env t) → RunsOn x
  part_runs n p (leaf i k) x h f a = tip_runs k x a
  part_runs n p (one i (Feeds z g e) t) x h f a = ⊎_elim (λ b. subst RunsOn (sym b) tt) (λ b. part_runs n i t x h.2 f.1 b) a
  part_runs n p (one i (Entered m g e) t) x h f a =
      let runs : has_halted (erase (spelled code env t)) ≡ false = sym (flag_says code env halts are flags t f.1) ∙ side_runs nodes flags len none n i p (One (Entered m g e) (place t)) t h.0 h.2 (eq-eqb (place t) (place t) refl) in
      ⊎_elim (λ b. subst RunsOn (sym b) runs) (λ b. part_runs n i t x h.2 f.1 b) a
  part_runs n p (one i Passed t) x h f a = part_runs n i t x h.2 f.1 a
  part_runs n p (two i Both t u) x h f a = ⊎_elim (λ b. subst RunsOn (sym b) tt) (λ b. ⊎_elim (λ c. part_runs n i t x h.1 f.1 c) (λ c. part_runs n i u x h.2 f.2 c) b) a
  part_runs n p (two i (Side c) t u) x h f a =
      let runs : has_halted (erase (spelled code env u)) ≡ false = sym (flag_says code env halts are flags u f.2) ∙ side_runs nodes flags len none n i p (Two (Side c) (place t) (place u)) u h.0 h.2 (eq-eqb (place u) (place u) refl) in
      ⊎_elim (λ b. subst RunsOn (sym b) runs) (λ b. ⊎_elim (λ d. part_runs n i t x h.1 f.1 d) (λ d. part_runs n i u x h.2 f.2 d) b) a

module _ (x : Context) (l : Listing) (s : State) (p : Place) (sp : Spells x (code l) s p) where
  pub none_found : HasEnded s.nodes s.flags None → FindsSide p None
  none_found none y st =
      let d = sp.drawn in
      part_runs (code l) (env_of s.cells s.scopes) s.halts d.flags.are_halts s.nodes s.flags d.flags.len none (length s.scopes) 0 d.tree y d.holds d.flags.each (subst (IsPart y) d.marked (part_of st.1))

  -- a node with sides is there
  kind_there : (i : ℕ) (k : Kind) → kind_at s.nodes i ≡ k → (k ≡ Leaf Gone → ⊥) → at s.nodes (parent_at s.nodes i) i k
  kind_there i k is off = ⊎_elim (λ e. e ∙ ap (λ z. Some (record { kind = z; parent = parent_at s.nodes i })) is) (λ e. absurd (off (sym is ∙ ap Node.kind e))) (there_or_not s.nodes i nowhere)

  pub side_found : (j : ℕ) → HasEnded s.nodes s.flags (Some j) → FindsSide p (side_of (kind_at s.nodes (parent_at s.nodes j)) j)
  side_found j h = go (kind_at s.nodes i) refl w.1
    where
      i : ℕ
      i = parent_at s.nodes j

      w : (is_set s.flags j ≡ true) × (is_side_at s.nodes j ≡ true)
      w = ended_parts (is_set s.flags j) (is_side_at s.nodes j) h

      halted : (k : ℕ) → nat_eq k j ≡ true → flag s.flags k ≡ true
      halted k e = ap (flag s.flags) (eqb-true k j e) ∙ flag_of_set s.flags j w.0

      go : (k : Kind) → kind_at s.nodes i ≡ k → is_side k j ≡ true → FindsSide p (side_of k j)
      go (Leaf t) is e = cc e
      go (One (Feeds y g o) a) is e = cc e
      go (One (Entered n g o) a) is e = subst (λ z. FindsSide p (cond z (Some (Left n)) None)) (sym e) (subst (λ z. LeftIs p n z) (halted a e) (left_is x l s p sp (parent_at s.nodes i) i n g o a (kind_there i (One (Entered n g o) a) is (λ z. cc z))))
      go (One Passed a) is e = cc e
      go (Two Both a b) is e = cc e
      go (Two (Side c) a b) is e = subst (λ z. FindsSide p (cond z (Some (Right c)) None)) (sym e) (subst (λ z. RightIs p c z) (halted b e) (right_is x l s p sp (parent_at s.nodes i) i c a b (kind_there i (Two (Side c) a b) is (λ z. cc z))))
