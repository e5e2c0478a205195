-- The cells among operands, one operand after another, and those of a node's term.
use Rattle.std.proofs.Common.{◌≡◌, ◌+◌, ◌<◌, ℕ, List, [], ◌∷◌, ◌++◌, refl, sym, ap, ◌∙◌, length, take, get_or}
use Rattle.std.proofs.lemmas.List.{take_more}
use Rattle.orc_rules.specs.declared.param.Param.{Param}
use Rattle.orc_rules.specs.declared.param.Param.TheVariants as is
use Rattle.orc_rules.specs.declared.param.Operand.{Operand}
use Rattle.orc_rules.specs.Term.{Term}
use Rattle.orc_rules.specs.Nodes.{param_of, unfold_node}
use Rattle.orc_env.specs.declared.names.Bound.TheVariants as bound
use Rattle.orc_env.specs.Scopes.{Env, close, close_param}
use Rattle.orc_env.proofs.Scopes.{close-of-param, close-call, close-given}
use Rattle.orc_env.proofs.Closing.{close-stop, close-par, close-other, close-seq, close-prune}
use Rattle.orc_graph.specs.Graph.{term_node}
use Rattle.orc_graph.specs.declared.node.Node.{Node}
use Rattle.orc_graph.specs.declared.node.Node.TheVariants as node
use Rattle.orc_frames.specs.Awaiting.{cells_among, cells_of}
use Rattle.orc_frames.specs.Doing.{closed}
use Rattle.orc_frames.specs.Paths.{standing}
use Rattle.orc_tables.specs.declared.records.Standing.{Standing}
use Rattle.orc_tables.specs.declared.records.Standing.TheVariants.{At, On}

-- one argument before others
before_them : (q : Param) (xs ys : List Param) (cs : List ℕ) → cells_among xs ≡ cells_among ys ++ cs → cells_among (q ∷ xs) ≡ cells_among (q ∷ ys) ++ cs
before_them (is.Cell c) xs ys cs h = ap (λ z. c ∷ z) h
before_them (is.Name x) xs ys cs h = h
before_them (is.Is v) xs ys cs h = h
before_them is.Void xs ys cs h = h

module _ (e : Env) where
  behind_them : (ps : List Operand) (p : Operand) → cells_among (closed e (ps ++ p ∷ [])) ≡ cells_among (closed e ps) ++ cells_among (close_param e (param_of p) ∷ [])
  behind_them [] p = refl
  behind_them (q ∷ ps) p = before_them (close_param e (param_of q)) (closed e (ps ++ p ∷ [])) (closed e ps) (cells_among (close_param e (param_of p) ∷ [])) (behind_them ps p)

  -- the walk goes on by one operand
  pub one-more : (ps : List Operand) (i : ℕ) (d : Operand) → i < length ps → (cs : List ℕ) → cs ≡ cells_among (closed e (take i ps)) → (q : Param) → close_param e (param_of (get_or ps i d)) ≡ q
      → (cs' : List ℕ) → cs' ≡ cs ++ cells_among (q ∷ []) → cs' ≡ cells_among (closed e (take (i + 1) ps))
  one-more ps i d lt cs so_far q is cs' next =
      next
      ∙ (λ j. so_far j ++ cells_among (sym is j ∷ []))
      ∙ sym (behind_them (take i ps) (get_or ps i d))
      ∙ sym (ap (λ z. cells_among (closed e z)) (take_more ps i d lt))

  -- a term that is no variable and no call of a site waits for no cell
  pub none-at : (cd : ℕ → Term) (lists : List (List Operand)) (t : Term) (n : Node) → t ≡ unfold_node cd lists (term_node n)
      → ((x : ℕ) → n ≡ node.Name x → ⊥) → ((m k : ℕ) → n ≡ node.Site m k → ⊥) → cells_of (close e t) ≡ []
  none-at cd lists t node.Stop h no_name no_site = ap (λ z. cells_of (close e z)) h ∙ ap cells_of (close-stop e)
  none-at cd lists t (node.Name x) h no_name no_site = absurd (no_name x refl)
  none-at cd lists t (node.Is v) h no_name no_site = ap (λ z. cells_of (close e z)) h ∙ ap cells_of (close-of-param e (is.Is v)) ∙ ap (λ z. cells_among (z ∷ [])) (close-given e (bound.Is v))
  none-at cd lists t (node.Site m k) h no_name no_site = absurd (no_site m k refl)
  none-at cd lists t (node.Call d k) h no_name no_site = ap (λ z. cells_of (close e z)) h ∙ ap cells_of (close-call e d _)
  none-at cd lists t (node.Par f g) h no_name no_site = ap (λ z. cells_of (close e z)) h ∙ ap cells_of (close-par e (cd f) (cd g))
  none-at cd lists t (node.Seq f x g) h no_name no_site = ap (λ z. cells_of (close e z)) h ∙ ap cells_of (close-seq e (cd f) x (cd g))
  none-at cd lists t (node.Prune f x g) h no_name no_site = ap (λ z. cells_of (close e z)) h ∙ ap cells_of (close-prune e (cd f) x (cd g))
  none-at cd lists t (node.Other f g) h no_name no_site = ap (λ z. cells_of (close e z)) h ∙ ap cells_of (close-other e (cd f) (cd g))

-- a token on a value waits for no cell
pub none-on : (cd : ℕ → Term) (env : ℕ → Env) (st : Standing) → ((n scope : ℕ) → st ≡ At n scope → ⊥) → cells_of (standing cd env st) ≡ []
none-on cd env (At n scope) no_node = absurd (no_node n scope refl)
none-on cd env (On v) no_node = refl
