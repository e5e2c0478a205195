-- A publication into a `>x>`, as a move.
use Rattle.std.proofs.Common.{◌≡◌, ℕ, ◌+◌, List, [], ◌∷◌, refl, ap, Bool, true, false, Option, Some, None as Nothing, length}
use Rattle.std.specs.Prelude.{slice_get}
use Rattle.orc_rules.specs.Nodes.{Listing, code, definitions}
use Rattle.orc_rules.specs.Term.{Term, Definition, stop, param, site, call, par, seq, prune, other, pending, opened, values_of}
use Rattle.orc_rules.specs.Idle.{has_void}
use Rattle.orc_rules.specs.declared.value.Value.{Value}
use Rattle.orc_rules.specs.declared.param.Param.{Param}
use Rattle.orc_rules.specs.declared.param.Param.TheVariants as is
use Rattle.orc_rules.specs.declared.entry.Entry.TheVariants as entry
use Rattle.orc_env.specs.declared.names.Bound.TheVariants as bound
use Rattle.orc_frames.specs.Spelling.{Path, whole, feeding, aiding, trying}
use Rattle.orc_frames.specs.Doing.{taken, what_site, what_def, what_by, of_param}
use Rattle.orc_frames.specs.Taking.{crossed}
use Rattle.orc_frames.specs.declared.action.Action.TheVariants as what
use Rattle.orc_ledger_spec.specs.Records.{Records, its_path}
use Rattle.orc_ledger_spec.specs.Calls.{Crosses, born}
use Rattle.orc_ledger_spec.specs.Doing.{term_of}
use Rattle.orc_ledger_spec.specs.Moves.{Moves}
use Rattle.orc_ledger_spec.specs.declared.results.Moved.TheVariants as moved
use Rattle.orc_tables.specs.Steps.{group_at}
use Rattle.orc_tables.specs.Tokens.{IsHeld}
use Rattle.orc_tables.specs.declared.records.Token.{Token}
use Rattle.orc_ledger_spec.proofs.Advancing.{moves-by}
use Rattle.orc_book.specs.Feeding.{IsFedBy}
use Rattle.orc_book.specs.declared.send.Fed.{Fed}

-- what publishes into a `>x>` is a value
module _ (defs : List Definition) (v : Value) where
  of_value : (w : Value) (p : Path) → taken w p ≡ what.Send v → w ≡ v
  of_value w whole e = cc e
  of_value w (feeding x g p) e = cc e
  of_value w (aiding c p) e = cc e
  of_value w (trying n p) e = of_value w p e

  by_param : (p : Path) (q : Param) → of_param p q ≡ what.Send v → param q ≡ param (is.Is v)
  by_param p (is.Is w) e = ap (λ z. param (is.Is z)) (of_value w p e)
  by_param p is.Void e = cc e
  by_param p (is.Cell c) e = cc e
  by_param p (is.Name x) e = cc e

  by_site : (ps : List Param) (b : Bool) (o : Option (List Value)) → what_site ps b o ≡ what.Send v → ⊥
  by_site ps true o e = cc e
  by_site ps false (Some args) e = cc e
  by_site ps false Nothing e = cc e

  by_def : (o : Option Definition) → what_def o ≡ what.Send v → ⊥
  by_def (Some d) e = cc e
  by_def Nothing e = cc e

  pub sends-value : (p : Path) (u : Term) → what_by defs p u ≡ what.Send v → u ≡ param (is.Is v)
  sends-value p stop e = cc e
  sends-value p (param q) e = by_param p q e
  sends-value p (site m ps) e = absurd (by_site ps (has_void ps) (values_of ps) e)
  sends-value p (call k ps) e = absurd (by_def (slice_get defs k) e)
  sends-value p (par f g) e = cc e
  sends-value p (seq f x g) e = cc e
  sends-value p (prune f x g) e = cc e
  sends-value p (other f g) e = cc e
  sends-value p (pending k) e = cc e
  sends-value p (opened f c g) e = cc e

module _ (l : Listing) (s : Records) (t : Token) (f : Fed) (F : IsFedBy l s t f) where
  pub fed-form : term_of (code l) s t ≡ param (is.Is f.value)
  fed-form = sends-value (definitions l) f.value (its_path (code l) s t.step) (term_of (code l) s t) F.0

  -- the token that comes
  abbrev pub comer : Token
  comer = born s t s.next_mark f.right (length s.scopes + 1) f.outer

  pub fed-moves : (slot : ℕ) (s' : Records) (ks : List ℕ) → Crosses s s' t (comer ∷ []) (record { name = f.name; bound = bound.Is f.value; outer = f.scope } ∷ []) (crossed (its_path (code l) s t.step)) (entry.Send t.serial s.next_mark f.value) → IsHeld s'.slots slot comer → Moves l s slot t (moved.Sent (group_at s.steps t.step)) ks s'
  fed-moves slot s' ks T held = moves-by l s t slot s' (moved.Sent (group_at s.steps t.step)) ks (what.Send f.value) F.0 (record { name = f.name; right = f.right; scope = f.scope; outer = f.outer; takes = F.1; done = T; held = held }, refl)
