-- Where a token can use a rule the run isn't idle; and entries are counted alike.
use Rattle.std.proofs.Common.{◌≡◌, ℕ, List, [], ◌∷◌, ap, sym, ◌∙◌, refl, arith, ⊎_elim, true, false, Some}
use Rattle.orc_rules.specs.declared.entry.Entry.{Entry}
use Rattle.orc_rules.specs.declared.entry.Entry.TheVariants as entry
use Rattle.orc_rules.specs.declared.entry.RuleFault.TheVariants as reason
use Rattle.orc_rules.specs.Nodes.{Listing, code, definitions}
use Rattle.orc_rules.specs.Sites.{Site}
use Rattle.orc_rules.specs.Lost.{IsMove}
use Rattle.orc_rules.specs.Timed.{IsIn, IsIdle}
use Rattle.orc_rules.specs.Journal.{moment}
use Rattle.orc_rules.proofs.Refusal.{meets_and_leads}
use Rattle.orc_journal.specs.Written.{count}
use Rattle.orc_indexes.specs.Same.{weight}
use Rattle.orc_ledger_spec.specs.Records.{Records, Lawful, context, counts}
use Rattle.orc_ledger_spec.specs.Doing.{what_of}
use Rattle.orc_frames.specs.Doing.{is_wait, names}
use Rattle.orc_ledger_spec.specs.Whole.{is_rule}
use Rattle.orc_tables.specs.declared.records.Token.{Token}
use Rattle.orc_tables.proofs.Placed.{same_some}
use Rattle.orc_frames.specs.declared.action.Action.{Action}
use Rattle.orc_frames.specs.declared.action.Action.TheVariants.{Halt, Fork, Seq, Prune, Other, Def, Void, Publish, Send, Bind, Call, Wait}
use Rattle.orc_ledger_spec.proofs.Offers.{names_fits}
use Rattle.orc_ledger_spec.proofs.Causes.{offer}
use Rattle.orc_ledger_spec.proofs.Withheld.{idle_moves}

not_wait : (w : Action) → is_rule w ≡ true → is_wait w ≡ false
not_wait Halt h = refl
not_wait Fork h = refl
not_wait Seq h = refl
not_wait Prune h = refl
not_wait Other h = refl
not_wait Def h = refl
not_wait Void h = refl
not_wait (Publish v) h = refl
not_wait (Send v) h = refl
not_wait (Bind c v) h = refl
not_wait Call h = refl
not_wait (Wait c) h = cc h

-- an entry that is a move of marks is no rule's
no_rule : (e : Entry) (serial : ℕ) (w : Action) → names e ≡ Some (serial, w) → IsMove e → is_rule w ≡ true → ⊥
no_rule (entry.End s) serial w is m r = let e : Halt ≡ w = ap (λ (z : ℕ × Action). z.1) (same_some {X = ℕ × Action} (s, Halt) (serial, w) is) in cc (ap is_rule e, r)
no_rule (entry.Fork s a b) serial w is m r = let e : Fork ≡ w = ap (λ (z : ℕ × Action). z.1) (same_some {X = ℕ × Action} (s, Fork) (serial, w) is) in cc (ap is_rule e, r)
no_rule (entry.Seq s a) serial w is m r = let e : Seq ≡ w = ap (λ (z : ℕ × Action). z.1) (same_some {X = ℕ × Action} (s, Seq) (serial, w) is) in cc (ap is_rule e, r)
no_rule (entry.Other s a) serial w is m r = let e : Other ≡ w = ap (λ (z : ℕ × Action). z.1) (same_some {X = ℕ × Action} (s, Other) (serial, w) is) in cc (ap is_rule e, r)
no_rule (entry.Def s a) serial w is m r = absurd m
no_rule (entry.Void s) serial w is m r = absurd m
no_rule (entry.Open s c a b) serial w is m r = absurd m
no_rule (entry.Send s a v) serial w is m r = absurd m
no_rule (entry.Call s k n args) serial w is m r = absurd m
no_rule (entry.Bind s c v) serial w is m r = absurd m
no_rule (entry.Publish s v) serial w is m r = absurd m
no_rule (entry.Return k a v) serial w is m r = absurd m
no_rule (entry.ReturnHalt k) serial w is m r = absurd m
no_rule (entry.Lost c) serial w is m r = absurd m
no_rule (entry.Right s a) serial w is m r = absurd m
no_rule (entry.Tick t) serial w is m r = absurd m
no_rule (entry.Cancel k) serial w is m r = absurd m

no_tick : (t serial : ℕ) (w : Action) (e : Entry) → e ≡ entry.Tick t → names e ≡ Some (serial, w) → ⊥
no_tick t serial w e same is = cc (sym (ap names same) ∙ is)

module _ (l : Listing) (sites : List Site) (s : Records) (L : Lawful l sites s) (t : Token) (i : IsIn t s.tokens) where
  -- a token that can use a rule
  pub not_idle : is_rule (what_of (code l) (definitions l) s t) ≡ true → IsIdle (context l sites) (moment L.place) → ⊥
  not_idle r idle =
      let o = offer l sites s L t i (not_wait (what_of (code l) (definitions l) s t) r) in
      let meets = (meets_and_leads (context l sites) L.place o.entry_is).1 o.after o.leads in
      let g = names_fits l sites s L t i o.entry_is o.what o.named (meets reason.Form) in
      ⊎_elim
      (λ m. no_rule o.entry_is t.serial o.what o.named m (ap is_rule (sym g.0) ∙ r))
      (λ d. no_tick d.0 t.serial o.what o.entry_is d.1 o.named)
      (idle_moves l sites s L idle o.entry_is o.after o.leads)

-- the cancels don't count
pub counted-so : (es : List Entry) → weight counts es ≡ count es
counted-so [] = refl
counted-so (entry.Cancel k ∷ es) = omega (arith, counted-so es)
counted-so (entry.End s ∷ es) = omega (arith, counted-so es)
counted-so (entry.Fork s a b ∷ es) = omega (arith, counted-so es)
counted-so (entry.Seq s a ∷ es) = omega (arith, counted-so es)
counted-so (entry.Other s a ∷ es) = omega (arith, counted-so es)
counted-so (entry.Def s a ∷ es) = omega (arith, counted-so es)
counted-so (entry.Void s ∷ es) = omega (arith, counted-so es)
counted-so (entry.Open s c a b ∷ es) = omega (arith, counted-so es)
counted-so (entry.Send s a v ∷ es) = omega (arith, counted-so es)
counted-so (entry.Call s k m args ∷ es) = omega (arith, counted-so es)
counted-so (entry.Bind s c v ∷ es) = omega (arith, counted-so es)
counted-so (entry.Publish s v ∷ es) = omega (arith, counted-so es)
counted-so (entry.Return k a v ∷ es) = omega (arith, counted-so es)
counted-so (entry.ReturnHalt k ∷ es) = omega (arith, counted-so es)
counted-so (entry.Lost c ∷ es) = omega (arith, counted-so es)
counted-so (entry.Right s a ∷ es) = omega (arith, counted-so es)
counted-so (entry.Tick t ∷ es) = omega (arith, counted-so es)
