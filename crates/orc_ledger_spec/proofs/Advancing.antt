-- The word of a token, by the node or the value at which it stands, and what a move does by it.
use Rattle.std.proofs.Common.{◌≡◌, ◌≤◌, ◌<◌, ℕ, zero, suc, List, [], ◌∷◌, refl, sym, ap, ◌∙◌, subst, arith, map, length, Bool, true, false, Option, Some, None}
use Rattle.std.specs.Prelude.{IfNone, slice_get, nat_lt}
use Rattle.orc_rules.specs.declared.value.Value.{Value}
use Rattle.orc_rules.specs.declared.param.Param.{Param}
use Rattle.orc_rules.specs.declared.param.Param.TheVariants as is
use Rattle.orc_rules.specs.declared.param.Operand.{Operand}
use Rattle.orc_rules.specs.Term.{Term, stop, param, site, call, par, seq, prune, other, values_of}
use Rattle.orc_rules.specs.Nodes.{Listing, code, definitions, param_of}
use Rattle.orc_rules.specs.Idle.{has_void}
use Rattle.orc_rules.specs.Journal.{IsVoid}
use Rattle.orc_env.specs.declared.names.Bound.{Bound}
use Rattle.orc_env.specs.declared.names.Scope.{Scope}
use Rattle.orc_env.specs.Names.{AreOrdered, IsFree}
use Rattle.orc_env.specs.Scopes.{env_of, close, close_param}
use Rattle.orc_env.proofs.Scopes.{close-of-param, close-site}
use Rattle.orc_frames.specs.Spelling.{Path}
use Rattle.orc_ledger_spec.specs.Records.{Records, Sound, its_env, its_path, token_out}
use Rattle.orc_frames.specs.Paths.{standing, step_out, is_out, entered_out}
use Rattle.orc_frames.specs.Taking.{taker, IsEntered}
use Rattle.orc_frames.specs.Doing.{taken, of_param, what_site, what_def, what_by, scan, closed, Allows}
use Rattle.orc_ledger_spec.specs.Doing.{what_of, term_of}
use Rattle.orc_frames.specs.declared.takers.Taker.{Taker}
use Rattle.orc_frames.specs.declared.takers.Taker.TheVariants as by
use Rattle.orc_ledger_spec.specs.Moves.{StandsAt, IsThere, Does, Moves, Hinders, IsHindered}
use Rattle.orc_frames.specs.declared.action.Action.{Action}
use Rattle.orc_frames.specs.declared.action.Action.TheVariants.{Halt, Fork, Seq, Prune, Other, Void, Call, Wait}
use Rattle.orc_ledger_spec.specs.declared.faults.LedgerFault.{LedgerFault}
use Rattle.orc_ledger_spec.specs.declared.results.Moved.{Moved}
use Rattle.orc_tables.specs.declared.records.Standing.{Standing}
use Rattle.orc_tables.specs.declared.records.Standing.TheVariants.{At}
use Rattle.orc_tables.specs.declared.records.Token.{Token}
use Rattle.std.proofs.lemmas.Bool.{ltb-false}
use Rattle.orc_frames.proofs.Growth.{or_false}
use Rattle.orc_indexes.proofs.Weight.{none-in}
use Rattle.orc_ledger_spec.proofs.Closed.{none-got}
use Rattle.orc_rules.specs.Timed.{IsIn}
use Rattle.orc_frames.proofs.Forms.{scan-is, at-stop, at-site, at-call, at-par, at-seq, at-prune, at-other}
use Rattle.orc_frames.proofs.Meaning.{taken-taker, means, says}

module _ (l : Listing) (s : Records) (t : Token) where
  abbrev word : Action
  word = what_of (code l) (definitions l) s t

  abbrev round : Path
  round = its_path (code l) s t.step

  at-node : (node scope : ℕ) → t.standing ≡ At node scope → word ≡ what_by (definitions l) round (close (its_env (code l) s scope) (code l node))
  at-node node scope e = ap (λ (z : Standing). what_by (definitions l) round (standing (code l) (its_env (code l) s) z)) e

  pub word-stop : (scope : ℕ) → StandsAt l t scope stop → word ≡ Halt
  word-stop scope at = at-node at.0 scope at.1 ∙ sym (at-stop (definitions l) round (its_env (code l) s scope) (code l at.0) at.2)

  pub word-par : (scope : ℕ) (f g : Term) → StandsAt l t scope (par f g) → word ≡ Fork
  word-par scope f g at = at-node at.0 scope at.1 ∙ sym (at-par (definitions l) round (its_env (code l) s scope) (code l at.0) f g at.2)

  pub word-seq : (scope : ℕ) (f : Term) (x : ℕ) (g : Term) → StandsAt l t scope (seq f x g) → word ≡ Seq
  word-seq scope f x g at = at-node at.0 scope at.1 ∙ sym (at-seq (definitions l) round (its_env (code l) s scope) (code l at.0) f x g at.2)

  pub word-prune : (scope : ℕ) (f : Term) (x : ℕ) (g : Term) → StandsAt l t scope (prune f x g) → word ≡ Prune
  word-prune scope f x g at = at-node at.0 scope at.1 ∙ sym (at-prune (definitions l) round (its_env (code l) s scope) (code l at.0) f x g at.2)

  pub word-other : (scope : ℕ) (f g : Term) → StandsAt l t scope (other f g) → word ≡ Other
  word-other scope f g at = at-node at.0 scope at.1 ∙ sym (at-other (definitions l) round (its_env (code l) s scope) (code l at.0) f g at.2)

  pub word-call : (scope e : ℕ) (ps : List Param) → StandsAt l t scope (call e ps) → word ≡ what_def (slice_get (definitions l) e)
  word-call scope e ps at = at-node at.0 scope at.1 ∙ sym (at-call (definitions l) round (its_env (code l) s scope) (code l at.0) e ps at.2)

  pub word-site : (scope m : ℕ) (ops : List Operand) → StandsAt l t scope (site m (map param_of ops)) → word ≡ scan false None (closed (its_env (code l) s scope) ops)
  word-site scope m ops at = at-node at.0 scope at.1 ∙ sym (at-site (definitions l) round (its_env (code l) s scope) (code l at.0) m (map param_of ops) at.2)

  -- the term under a token at a parameter or at a call of a site
  pub stands-param : (scope : ℕ) (q r : Param) → StandsAt l t scope (param q) → close_param (its_env (code l) s scope) q ≡ r → term_of (code l) s t ≡ param r
  stands-param scope q r at is_r =
      ap (λ (z : Standing). standing (code l) (its_env (code l) s) z) at.1
      ∙ ap (close (its_env (code l) s scope)) at.2
      ∙ close-of-param (its_env (code l) s scope) q
      ∙ ap param is_r

  pub stands-site : (scope m : ℕ) (ops : List Operand) → StandsAt l t scope (site m (map param_of ops)) → term_of (code l) s t ≡ site m (closed (its_env (code l) s scope) ops)
  stands-site scope m ops at =
      ap (λ (z : Standing). standing (code l) (its_env (code l) s) z) at.1
      ∙ ap (close (its_env (code l) s scope)) at.2
      ∙ close-site (its_env (code l) s scope) m (map param_of ops)

  pub word-param : (r : Param) → term_of (code l) s t ≡ param r → word ≡ of_param round r
  word-param r form = ap (what_by (definitions l) round) form

  pub word-void : IsVoid (term_of (code l) s t) → word ≡ Void
  word-void h = says (definitions l) round Void (term_of (code l) s t) refl h

  pub word-value : (v : Value) → term_of (code l) s t ≡ param (is.Is v) → word ≡ taken v (taker round)
  word-value v form = word-param (is.Is v) form ∙ taken-taker v round

  pub void-param : term_of (code l) s t ≡ param is.Void → IsVoid (term_of (code l) s t)
  void-param form = subst IsVoid (sym form) refl

  pub void-site : (scope m : ℕ) (ops : List Operand) → StandsAt l t scope (site m (map param_of ops)) → scan false None (closed (its_env (code l) s scope) ops) ≡ Void → IsVoid (term_of (code l) s t)
  void-site scope m ops at void =
      let ps = closed (its_env (code l) s scope) ops in
      subst IsVoid (sym (stands-site scope m ops at)) (subst (λ w. Allows (definitions l) w round (site m ps)) (sym (scan-is ps) ∙ void) (means (definitions l) round (site m ps) tt))

  -- what a move does, and why it is refused, by the word
  module _ (slot : ℕ) (s' : Records) where
    pub moves-by : (m : Moved) (ks : List ℕ) (w : Action) → word ≡ w → Does l s slot t s' ks w m → Moves l s slot t m ks s'
    moves-by m ks w e d = subst (λ z. Does l s slot t s' ks z m) (sym e) d

  pub hindered-by : (fault : LedgerFault) (w : Action) → word ≡ w → Hinders s t w fault → IsHindered l s t fault
  hindered-by fault w e d = subst (λ z. Hinders s t z fault) (sym e) d

-- a call of a site that is neither made nor void waits
pub site-waits : (ps : List Param) → (scan false None ps ≡ Call → ⊥) → (scan false None ps ≡ Void → ⊥) → (c : ℕ) × (scan false None ps ≡ Wait c)
site-waits ps no_call no_void = go (has_void ps) (values_of ps) (scan-is ps)
  where
    go : (b : Bool) (o : Option (List Value)) → scan false None ps ≡ what_site ps b o → (c : ℕ) × (scan false None ps ≡ Wait c)
    go true o e = absurd (no_void e)
    go false (Some args) e = absurd (no_call e)
    go false None e = (_, e)

-- ---- what is there
get-below : {X : Type 0} (xs : List X) (k : ℕ) (x : X) → slice_get xs k ≡ Some x → k < length xs
get-below [] k x h = cc h
get-below (y ∷ xs) zero x h = omega arith
get-below (y ∷ xs) (suc k) x h = omega (arith, get-below xs k x h)

module _ (s : Records) (S : Sound s) where
  pub step-within : (t : Token) → IsIn t s.tokens → t.step ≤ length s.steps
  step-within t i = ltb-false (length s.steps) t.step (or_false (is_out (length s.scopes) t.standing) (nat_lt (length s.steps) t.step) (none-in (token_out (length s.scopes) (length s.steps)) s.tokens t S.tokens i)).1

  pub is-there : (k : Taker) → IsEntered s.steps k → IsThere s k
  is-there by.Whole h = tt
  is-there (by.SeqLeft x node scope outer) (k, p, got, entered, is_outer) = (
    ltb-false (length s.scopes) scope (sym (ap (entered_out (length s.scopes) s.next_mark) entered) ∙ none-got (step_out (length s.scopes) s.next_mark) s.steps k p S.steps got),
    omega (arith, S.outwards k p got, get-below s.steps k p got, is_outer),
  )
  is-there (by.PruneRight c outer) h = h

-- a name for which nothing stands stays itself
pub free-name : (cells : List Bound) (ss : List Scope) (e : ℕ) (p : Operand) → AreOrdered ss → (o : Option Bound) → IfNone o (IsFree cells ss e p) → IfNone o ((x : ℕ) × (close_param (env_of cells ss e) (param_of p) ≡ is.Name x))
free-name cells ss e p ordered (Some b) h = tt
free-name cells ss e p ordered None (x, is_name, same) = (x, ap (λ z. close_param (env_of cells ss e) (param_of z)) is_name ∙ same ordered)
