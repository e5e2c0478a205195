-- The value on which a token stands.
use Rattle.std.proofs.Common.{◌≡◌, ℕ, List, ap, sym, refl, ◌∙◌, subst}
use Rattle.orc_rules.specs.declared.value.Value.{Value}
use Rattle.orc_rules.specs.declared.param.Operand.{Operand}
use Rattle.orc_rules.specs.declared.param.Param.TheVariants as is
use Rattle.orc_rules.specs.declared.program.TermNode.{TermNode}
use Rattle.orc_rules.specs.declared.program.TermNode.TheVariants as node
use Rattle.orc_rules.specs.Term.{Term, param}
use Rattle.orc_rules.specs.Nodes.{param_of, unfold_node}
use Rattle.orc_rules.specs.Marked.{token}
use Rattle.orc_env.specs.declared.names.Bound.{Bound}
use Rattle.orc_env.specs.declared.names.Bound.TheVariants as bound
use Rattle.orc_env.specs.declared.names.Scope.{Scope}
use Rattle.orc_env.specs.Scopes.{close, close_param, env_of}
use Rattle.orc_env.specs.Names.{AreOrdered, Means}
use Rattle.orc_env.proofs.Scopes.{close-of-param}
use Rattle.orc_term.specs.declared.arena.Tip.{Tip}
use Rattle.orc_term.specs.declared.arena.Tip.TheVariants.{Gone, Ended, Token, Bears, Waits}
use Rattle.orc_term.specs.declared.arena.Kind.TheVariants.{Leaf}
use Rattle.orc_term.specs.Arena.{living_kind, of_tip}
use Rattle.orc_term.specs.Bearers.{Carries, BearsOther, BearsValue}
use Rattle.orc_checker.proofs.Refusing.{sort, sort_under, operand_node}

-- a token on an operand that means a value stands on the value
pub bears_token : (code : ℕ → Term) (cells : List Bound) (ss : List Scope) (s : ℕ) (k : Tip) (m f e : ℕ) (p : Operand) (v : Value) → k ≡ Token m f e → Carries s k → code f ≡ param (param_of p) → Means cells ss e p (bound.Is v) → BearsValue code cells ss s k v
bears_token code cells ss s k m f e p v is carries node means ordered =
    let env = env_of cells ss e in
    ap (of_tip code (env_of cells ss)) is ∙ (λ j. token (subst (Carries s) is carries j) (close env (node j))) ∙ ap (token s) (close-of-param env (param_of p) ∙ ap param (means ordered))

module _ (code : ℕ → Term) (cells : List Bound) (ss : List Scope) (s : ℕ) (k : Tip) (m f e : ℕ) (v : Value) (is_token : k ≡ Token m f e) where
  -- the term under a token that stands on the value
  under_token : of_tip code (env_of cells ss) k ≡ token s (param (is.Is v)) → close (env_of cells ss e) (code f) ≡ param (is.Is v)
  under_token h = go (sym (ap (of_tip code (env_of cells ss)) is_token) ∙ h)
    where
      go : token m (close (env_of cells ss e) (code f)) ≡ token s (param (is.Is v)) → close (env_of cells ss e) (code f) ≡ param (is.Is v)
      go h = cc h

  -- a token on an operand that isn't the value doesn't stand on it
  pub other_operand : (p : Operand) → code f ≡ param (param_of p) → (Means cells ss e p (bound.Is v) → AreOrdered ss → ⊥) → BearsOther code cells ss s k v
  other_operand p node off ordered h =
      let env = env_of cells ss e in
      let same : param (close_param env (param_of p)) ≡ param (is.Is v) = sym (close-of-param env (param_of p)) ∙ sym (ap (close env) node) ∙ under_token h in
      off (λ o. cc same) ordered

  -- nor does one on another kind of node
  pub other_node_under : (lists : List (List Operand)) (n : TermNode) → code f ≡ unfold_node code lists n → ((p : Operand) → n ≡ node.Operand p → ⊥) → BearsOther code cells ss s k v
  other_node_under lists n is off ordered h =
      let w = operand_node n (sym (sort_under (env_of cells ss e) code lists n (code f) is) ∙ ap sort (under_token h)) in
      off w.0 w.1

-- the term on which a token stands
pub carried_token : (code : ℕ → Term) (cells : List Bound) (ss : List Scope) (s : ℕ) (k : Tip) → Carries s k → (living_kind (Leaf k) ≡ 1) × (t : Term) × (of_tip code (env_of cells ss) k ≡ token s t)
carried_token code cells ss s (Token m f e) h = (refl, close (env_of cells ss e) (code f), ap (λ z. token z (close (env_of cells ss e) (code f))) h)
carried_token code cells ss s (Bears m v) h = (refl, param (is.Is v), ap (λ z. token z (param (is.Is v))) h)
carried_token code cells ss s Gone h = absurd h
carried_token code cells ss s Ended h = absurd h
carried_token code cells ss s (Waits k) h = absurd h
