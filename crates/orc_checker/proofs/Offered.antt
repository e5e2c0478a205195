-- What a token can do, by its node; whether the side of a node has halted.
use Rattle.std.proofs.Common.{◌≡◌, ℕ, List, map, Option, Some, None, refl, sym, ap, ◌∙◌, subst, inl, inr}
use Rattle.std.specs.Prelude.{IfSome}
use Rattle.orc_rules.specs.declared.value.Value.{Value}
use Rattle.orc_rules.specs.declared.value.Answer.{Answer}
use Rattle.orc_rules.specs.declared.value.Found.{Found}
use Rattle.orc_rules.specs.declared.value.Found.TheVariants.{After}
use Rattle.orc_rules.specs.declared.param.Param.TheVariants as is
use Rattle.orc_rules.specs.declared.param.Operand.{Operand}
use Rattle.orc_rules.specs.Term.{Term, param}
use Rattle.orc_rules.specs.Nodes.{Listing, code, param_of}
use Rattle.orc_rules.specs.Step.{publishes}
use Rattle.orc_rules.specs.Marked.{Marked, ended, token, Emits, emits}
use Rattle.orc_rules.specs.Timed.{Context}
use Rattle.orc_rules.specs.Journal.{Place}
use Rattle.orc_rules.specs.Refusal.{Stands}
use Rattle.orc_env.specs.declared.names.Bound.{Bound}
use Rattle.orc_env.specs.declared.names.Scope.{Scope}
use Rattle.orc_env.specs.Scopes.{Env, close, close_param, env_of}
use Rattle.orc_env.proofs.Scopes.{close-of-param, close-site}
use Rattle.orc_calls.specs.Due.{DueNow}
use Rattle.orc_term.specs.declared.arena.Kind.TheVariants.{Leaf, One, Two}
use Rattle.orc_term.specs.declared.arena.Tip.{Tip}
use Rattle.orc_term.specs.declared.arena.Single.TheVariants.{Entered}
use Rattle.orc_term.specs.declared.arena.Double.TheVariants.{Side}
use Rattle.orc_checker.specs.declared.next.Next.{Next}
use Rattle.orc_checker.specs.declared.next.Next.TheVariants as next
use Rattle.orc_term.specs.declared.walk.Taker.{Taker}
use Rattle.orc_term.specs.declared.walk.Taker.TheVariants.{Whole, Fed, Bound as To}
use Rattle.orc_term.specs.Arena.{at, living_kind, of_tip, spelled, plug}
use Rattle.orc_term.specs.Rising.{act_of, IsTaker}
use Rattle.orc_term.specs.Settling.{flag}
use Rattle.orc_checker.specs.Checker.{State, Spells}
use Rattle.orc_checker.specs.Offers.{Allows, HasAt, IsOperandAt, IsPublished, Offers, taken}
use Rattle.orc_checker.specs.Over.{LeftIs, RightIs}
use Rattle.orc_checker.proofs.CallsMade.{get-map}
use Rattle.orc_checker.proofs.Shown.{shown}
use Rattle.orc_checker.proofs.Takers.{emits_up}

pub if_some : {X : Type 0} {P Q : X → Type 0} (o : Option X) → ((x : X) → P x → Q x) → IfSome o P → IfSome o Q
if_some None f h = tt
if_some (Some x) f h = f x h

-- a cell at a position of the term on which a token stands
pub has_at : (cells : List Bound) (ss : List Scope) (e : ℕ) (t : Term) (i : ℕ) (o : Operand) (c : ℕ) → IsOperandAt t i o → close_param (env_of cells ss e) (param_of o) ≡ is.Cell c → HasAt i c (close (env_of cells ss e) t)
has_at cells ss e t i o c (inl (first, is)) means = subst (HasAt i c) (sym (ap (close (env_of cells ss e)) is ∙ close-of-param (env_of cells ss e) (param_of o))) (first, means)
has_at cells ss e t i o c (inr (m, ps, is, there)) means =
    let env = env_of cells ss e in
    subst (HasAt i c) (sym (ap (close env) is ∙ close-site env m (map param_of ps))) (get-map (close_param env) (map param_of ps) i (param_of o) (get-map param_of ps i o there) ∙ ap Some means)

module _ (x : Context) (l : Listing) (s : State) (p : Place) (sp : Spells x (code l) s p) where
  abbrev env : ℕ → Env
  env = env_of s.cells s.scopes

  -- the token of a node stands in the term
  pub token_stands : (q i : ℕ) (k : Tip) → at s.nodes q i (Leaf k) → living_kind (Leaf k) ≡ 1 → (r : ℕ) (t : Term) → of_tip (code l) env k ≡ token r t → Stands (token r t) p.marked
  token_stands q i k a lives r t is = let w = shown (code l) s p.marked sp.drawn q i (Leaf k) a lives in subst (λ z. Stands z p.marked) (w.shows ∙ is) w.stands

  pub offers_allowed : (r : ℕ) (t : Term) → Stands (token r t) p.marked → (n : Next) → Allows x.definitions t n → Offers x p r n
  offers_allowed r t st next.End h = subst (λ z. Stands (token r z) p.marked) h st
  offers_allowed r t st next.Fork (f, g, h) = λ a b. (f, g, subst (λ z. Stands (token r z) p.marked) h st)
  offers_allowed r t st next.Seq (f, g, y, h) = λ a. (f, g, y, subst (λ z. Stands (token r z) p.marked) h st)
  offers_allowed r t st next.Other (f, g, h) = λ a. (f, g, subst (λ z. Stands (token r z) p.marked) h st)
  offers_allowed r t st next.Def (e, ps, d, there, h) = λ a. (e, ps, d, there, subst (λ z. Stands (token r z) p.marked) h st)
  offers_allowed r t st next.Void h = (t, h, st)
  offers_allowed r t st next.Open (f, g, y, h) = λ c a b. (f, g, y, subst (λ z. Stands (token r z) p.marked) h st)
  offers_allowed r t st (next.Call m args) (ps, values, h) = λ k. (ps, values, subst (λ z. Stands (token r z) p.marked) h st)
  offers_allowed r t st next.Wait h = (t, st, h.0, h.1)
  offers_allowed r t st (next.Send v) h = absurd h
  offers_allowed r t st (next.Bind c v) h = absurd h
  offers_allowed r t st (next.Publish v) h = absurd h

  offers_taken : (r : ℕ) (v : Value) (w : Taker) → ((a : ℕ) → (m : Marked) × Emits r a v p.marked (act_of w v) m) → Offers x p r (taken w v)
  offers_taken r v Whole e = e p.mark
  offers_taken r v (Fed i) e = e
  offers_taken r v (To c i) e = e p.mark

  -- a token's value goes up to its taker
  pub published_up : (q i : ℕ) (k : Tip) → at s.nodes q i (Leaf k) → living_kind (Leaf k) ≡ 1 → (r : ℕ) (v : Value) → of_tip (code l) env k ≡ token r (param (is.Is v)) → (w : Taker) → IsTaker s.nodes i w → (b : ℕ) → (m : Marked) × Emits r b v p.marked (act_of w v) m
  published_up q i k a lives r v of w taker b =
      let sh = shown (code l) s p.marked sp.drawn q i (Leaf k) a lives in
      let first : Emits r b v (spelled (code l) env sh.tree) (publishes v) ended = subst (λ z. Emits r b v z (publishes v) ended) (sym (sh.is ∙ sh.shows ∙ of)) emits in
      let u = emits_up (code l) env sh.context sh.tree first in
      (u.0, subst (λ z. Emits r b v z (act_of w v) u.0) sh.whole (subst (λ z. Emits r b v (spelled (code l) env (plug sh.context sh.tree)) (act_of z v) u.0) (sym (taker _ sh.context sh.tree sh.there)) u.1))

  -- what takes a token's value
  pub offers_published : (q i : ℕ) (k : Tip) → at s.nodes q i (Leaf k) → living_kind (Leaf k) ≡ 1 → (r : ℕ) (v : Value) → of_tip (code l) env k ≡ token r (param (is.Is v)) → (n : Next) → IsPublished s.nodes i v n → Offers x p r n
  offers_published q i k a lives r v of n (w, taker, is) = subst (Offers x p r) (sym is) (offers_taken r v w (published_up q i k a lives r v of w taker))

  pub right_is : (q i c a b : ℕ) → at s.nodes q i (Two (Side c) a b) → RightIs p c (flag s.flags b)
  right_is q i c a b h = let w = shown (code l) s p.marked sp.drawn q i (Two (Side c) a b) h refl in (w.shows.0, w.shows.1, subst (λ z. Stands z p.marked) w.shows.2 w.stands, w.shows.3)

  pub left_is : (q i n g e a : ℕ) → at s.nodes q i (One (Entered n g e) a) → LeftIs p n (flag s.flags a)
  left_is q i n g e a h = let w = shown (code l) s p.marked sp.drawn q i (One (Entered n g e) a) h refl in (w.shows.0, _, subst (λ z. Stands z p.marked) w.shows.1 w.stands, w.shows.2)

-- a call with a due time is due with the table's answer
pub due_with : (made_at : ℕ) (f : Found) (a : Answer) (d t : ℕ) → f ≡ After a d → (b : Answer) × DueNow made_at f b t → DueNow made_at f a t
due_with made_at f a d t is (b, w) = let same : b ≡ a = cc (sym w.says ∙ is) in subst (λ z. DueNow made_at f z t) same w
