-- An entry of a token that the place allows is the word of one of the records' tokens.
use Rattle.std.proofs.Common.{◌≡◌, ℕ, List, sym, ap, ◌∙◌, subst, ⊎_elim, Some}
use Rattle.orc_rules.specs.declared.entry.Entry.{Entry}
use Rattle.orc_rules.specs.declared.entry.Entry.TheVariants as entry
use Rattle.orc_rules.specs.declared.entry.RuleFault.TheVariants as reason
use Rattle.orc_rules.specs.Nodes.{Listing, code, definitions}
use Rattle.orc_rules.specs.Sites.{Site}
use Rattle.orc_rules.specs.Timed.{IsIn}
use Rattle.orc_rules.specs.Journal.{Place, Leads}
use Rattle.orc_rules.specs.Refusal.{HasToken, IsThere}
use Rattle.orc_rules.proofs.Refusal.{meets_and_leads}
use Rattle.orc_frames.specs.Spelling.{whole, stands}
use Rattle.orc_ledger_spec.specs.Records.{Records, Lawful, context}
use Rattle.orc_ledger_spec.specs.Doing.{term_of, what_of}
use Rattle.orc_frames.specs.Doing.{names, Asks}
use Rattle.orc_tables.specs.declared.records.Token.{Token}
use Rattle.orc_frames.specs.declared.action.Action.{Action}
use Rattle.orc_frames.specs.declared.action.Action.TheVariants.{Halt, Fork, Seq, Prune, Other, Def, Void, Publish, Send, Bind, Call as Calls}
use Rattle.orc_frames.proofs.Finding.{stands_row}
use Rattle.orc_ledger_spec.proofs.Offers.{some_0, names_fits}
use Rattle.orc_ledger_spec.proofs.Resting.{row_of}

named_there : (p : Place) (e : Entry) (serial : ℕ) (w : Action) → names e ≡ Some (serial, w) → IsThere p e → HasToken p serial
named_there p (entry.End s) serial w is h = subst (HasToken p) (some_0 (s, Halt) (serial, w) is) h
named_there p (entry.Fork s a b) serial w is h = subst (HasToken p) (some_0 (s, Fork) (serial, w) is) h
named_there p (entry.Seq s a) serial w is h = subst (HasToken p) (some_0 (s, Seq) (serial, w) is) h
named_there p (entry.Other s a) serial w is h = subst (HasToken p) (some_0 (s, Other) (serial, w) is) h
named_there p (entry.Def s a) serial w is h = subst (HasToken p) (some_0 (s, Def) (serial, w) is) h
named_there p (entry.Void s) serial w is h = subst (HasToken p) (some_0 (s, Void) (serial, w) is) h
named_there p (entry.Open s c a b) serial w is h = subst (HasToken p) (some_0 (s, Prune) (serial, w) is) h
named_there p (entry.Send s a v) serial w is h = subst (HasToken p) (some_0 (s, Send v) (serial, w) is) h
named_there p (entry.Call s k m args) serial w is h = subst (HasToken p) (some_0 (s, Calls) (serial, w) is) h
named_there p (entry.Bind s c v) serial w is h = subst (HasToken p) (some_0 (s, Bind c v) (serial, w) is) h.0
named_there p (entry.Publish s v) serial w is h = subst (HasToken p) (some_0 (s, Publish v) (serial, w) is) h
named_there p (entry.Return k a v) serial w is h = cc is
named_there p (entry.ReturnHalt k) serial w is h = cc is
named_there p (entry.Lost c) serial w is h = cc is
named_there p (entry.Right s a) serial w is h = cc is
named_there p (entry.Tick t) serial w is h = cc is
named_there p (entry.Cancel k) serial w is h = cc is

module _ (l : Listing) (sites : List Site) (s : Records) (L : Lawful l sites s) where
  -- the token with a mark of the place
  token_with : (serial : ℕ) → HasToken L.place serial → (t : Token) × IsIn t s.tokens × (t.serial ≡ serial)
  token_with serial h =
      let d = stands_row h.1.1 whole in
      ⊎_elim
      (λ a. let t : Token = a.0 in let e = a.2 in let same : t.serial ≡ serial = cc e in (a.0, a.1, same))
      (λ b. let e = b.2 in cc e)
      (row_of l sites s L (stands serial h.0 d.0) d.1)

  pub none-lost : (e : Entry) (q : Place) (serial : ℕ) (w : Action) → Leads (context l sites) L.place e q → names e ≡ Some (serial, w)
      → (t : Token) × IsIn t s.tokens × (t.serial ≡ serial) × (what_of (code l) (definitions l) s t ≡ w) × Asks e (term_of (code l) s t)
  none-lost e q serial w leads is =
      let meets = (meets_and_leads (context l sites) L.place e).1 q leads in
      let f = token_with serial (named_there L.place e serial w is (meets reason.Mark)) in
      let g = names_fits l sites s L f.0 f.1 e w (is ∙ ap (λ k. Some (k, w)) (sym f.2)) (meets reason.Form) in
      (f.0, f.1, f.2, g.0, g.1)
