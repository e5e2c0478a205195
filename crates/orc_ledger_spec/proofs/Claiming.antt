-- Which words ask a claim, and why what they do is refused.
use Rattle.std.proofs.Common.{◌≡◌, ℕ, List, [], ◌∷◌, map, Bool, true, false, Option, Some, None, Result, Ok, Err, sym, subst}
use Rattle.std.specs.Prelude.{OnOk}
use Rattle.orc_rules.specs.declared.value.Value.{Value}
use Rattle.orc_rules.specs.declared.param.Param.{Param}
use Rattle.orc_rules.specs.declared.entry.Entry.TheVariants.{Bind, Cancel}
use Rattle.orc_rules.specs.Term.{Definition, values_of}
use Rattle.orc_rules.specs.Idle.{has_void}
use Rattle.orc_rules.specs.Nodes.{Listing, code, definitions}
use Rattle.orc_subrun.specs.Moved.{AreSilent}
use Rattle.orc_frames.specs.Doing.{scan, what_def, what_site}
use Rattle.orc_frames.proofs.Forms.{scan-is}
use Rattle.orc_frames.specs.declared.action.Action.{Action}
use Rattle.orc_frames.specs.declared.action.Action.TheVariants as action
use Rattle.orc_tables.specs.declared.records.Token.{Token}
use Rattle.orc_ledger_spec.specs.Records.{Records}
use Rattle.orc_ledger_spec.specs.Claims.{Claims, IsBarred, IsBarredAt, HasAsked}
use Rattle.orc_ledger_spec.specs.Doing.{what_of}
use Rattle.orc_ledger_spec.specs.Moves.{Hinders}
use Rattle.orc_ledger_spec.specs.declared.faults.LedgerFault.{LedgerFault}
use Rattle.orc_ledger_spec.specs.declared.faults.LedgerFault.TheVariants as fault

-- a bind and its cancels publish nothing, so they can be taken back
cancels_silent : (ks : List ℕ) → AreSilent (map Cancel ks)
cancels_silent [] = tt
cancels_silent (k ∷ ks) = (tt, cancels_silent ks)

pub bind-silent : (n c : ℕ) (v : Value) (ks : List ℕ) → AreSilent (Bind n c v ∷ map Cancel ks)
bind-silent n c v ks = (tt, cancels_silent ks)

-- ---- by the word of a token

pub never-hinders : (s : Records) (t : Token) (w : Action) → Hinders s t w fault.Unclaimed → ⊥
never-hinders s t action.Halt h = h
never-hinders s t action.Fork h = h
never-hinders s t action.Seq h = h
never-hinders s t action.Prune h = h
never-hinders s t action.Other h = h
never-hinders s t action.Def h = h
never-hinders s t action.Void h = h
never-hinders s t (action.Publish v) h = h
never-hinders s t (action.Send v) h = h
never-hinders s t (action.Bind c v) h = h
never-hinders s t action.Call h = h
never-hinders s t (action.Wait c) h = h

-- a call of a definition or of a site asks none
pub def-claims : (untouched got : Type 0) (o : Option Definition) → untouched → Claims untouched got (what_def o)
def-claims untouched got (Some d) same = same
def-claims untouched got None same = same

pub site-claims : (untouched got : Type 0) (ps : List Param) → untouched → Claims untouched got (scan false None ps)
site-claims untouched got ps same = subst (Claims untouched got) (sym (scan-is ps)) (go (has_void ps) (values_of ps))
  where
    go : (b : Bool) (o : Option (List Value)) → Claims untouched got (what_site ps b o)
    go true o = same
    go false (Some args) = same
    go false None = same

module _ (l : Listing) (s : Records) (t : Token) where
  abbrev word : Action
  word = what_of (code l) (definitions l) s t

  pub asked-by : (untouched got : Type 0) (w : Action) → word ≡ w → Claims untouched got w → HasAsked l s t untouched got
  asked-by untouched got w e h = subst (Claims untouched got) (sym e) h

  pub barred-by : (untouched lost : Type 0) (f : LedgerFault) (w : Action) → word ≡ w → IsBarred untouched (Claims ⊥ lost w) (Hinders s t w) f → IsBarredAt l s t untouched lost f
  barred-by untouched lost f w e h = subst (λ z. IsBarred untouched (Claims ⊥ lost z) (Hinders s t z) f) (sym e) h

  -- the same of what a move gives that asks none
  pub asked-none : {X : Type 0} (untouched got : Type 0) (r : Result X LedgerFault) (w : Action) → word ≡ w → Claims untouched got w → OnOk r (HasAsked l s t untouched got)
  asked-none untouched got (Ok x) w e h = asked-by untouched got w e h
  asked-none untouched got (Err f) w e h = tt
