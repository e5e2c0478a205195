-- No pending call is overdue: a tick goes no further than the least due time.
use Rattle.std.proofs.Common.{◌≡◌, ◌≢◌, ◌≤◌, ◌↔◌, ℕ, List, [], ◌∷◌, ◌++◌, refl, ap, subst, arith, ⊎_elim}
use Rattle.std.proofs.Math.Decide.{ℕ_discrete}
use Rattle.orc_rules.specs.declared.value.Answer.{Answer}
use Rattle.orc_rules.specs.declared.entry.Entry.{Entry}
use Rattle.orc_rules.specs.declared.entry.Entry.TheVariants.{End, Fork, Seq, Other, Def, Open, Send, Call, Return, ReturnHalt, Bind, Lost, Right, Publish, Tick, Cancel}
use Rattle.orc_rules.specs.declared.entry.Entry.TheVariants as entry
use Rattle.orc_rules.specs.Term.{pending_of}
use Rattle.orc_rules.specs.Nodes.{Listing, source}
use Rattle.orc_rules.specs.Sites.{Site}
use Rattle.orc_rules.specs.Marked.{erase}
use Rattle.orc_rules.specs.Timed.{Context, IsIn, IsDue}
use Rattle.orc_rules.specs.Journal.{Place, Leads, Journal, begin}
use Rattle.orc_rules.specs.Lost.{HoldsSource, AreSource}
use Rattle.orc_rules.specs.Numbered.{IsNumbered}
use Rattle.orc_rules.proofs.Numbered.{journal_is_numbered}
use Rattle.orc_rules.proofs.Sources.{journal_holds_source}
use Rattle.orc_rules.proofs.Listed.{program_is_source}
use Rattle.orc_rules.proofs.Pending.{pending_by_entry}
use Rattle.orc_rules.proofs.DueTimes.{due_by_entry}
use Rattle.orc_ledger_spec.specs.Records.{Records, Lawful, context}
use Rattle.orc_ledger_spec.proofs.Binding.{journal_more}

-- each pending call is due now or later, or never
abbrev pub IsFresh : Context → Place → Type 0
IsFresh x p = (k : ℕ) (a : Answer) (t : ℕ) → IsIn k (pending_of (erase p.marked)) → IsDue x.sites p.calls k a t → p.now ≤ t

module _ (x : Context) (p q : Place) (num : IsNumbered p) (src : HoldsSource p.marked) (ds : AreSource x.definitions) (fresh : IsFresh x p) where
  as_before : q.now ≡ p.now → (k : ℕ) (a : Answer) (t : ℕ) → IsIn k (pending_of (erase p.marked)) → IsDue x.sites p.calls k a t → q.now ≤ t
  as_before same k a t i d = omega (arith, fresh k a t i d, same)

  pub fresh_after : (e : Entry) → Leads x p e q → IsFresh x q
  fresh_after (End s) (o, h) k a t i due_t = as_before (ap (λ (w : Place). w.now) h.same) k a t ((pending_by_entry x p (End s) q num src ds (o, h) k).0 i) ((due_by_entry x p (End s) q num (o, h) k a t).0 due_t)
  fresh_after (Fork s b c) (o, (f, g, ea, eb, h)) k a t i due_t = as_before (ap (λ (w : Place). w.now) h.same) k a t ((pending_by_entry x p (Fork s b c) q num src ds (o, (f, g, ea, eb, h)) k).0 i) ((due_by_entry x p (Fork s b c) q num (o, (f, g, ea, eb, h)) k a t).0 due_t)
  fresh_after (Seq s b) (o, (f, g, z, ea, h)) k a t i due_t = as_before (ap (λ (w : Place). w.now) h.same) k a t ((pending_by_entry x p (Seq s b) q num src ds (o, (f, g, z, ea, h)) k).0 i) ((due_by_entry x p (Seq s b) q num (o, (f, g, z, ea, h)) k a t).0 due_t)
  fresh_after (Other s b) (o, (f, g, ea, h)) k a t i due_t = as_before (ap (λ (w : Place). w.now) h.same) k a t ((pending_by_entry x p (Other s b) q num src ds (o, (f, g, ea, h)) k).0 i) ((due_by_entry x p (Other s b) q num (o, (f, g, ea, h)) k a t).0 due_t)
  fresh_after (Def s b) (o, (e, ps, d, cs, ea, is, r, h)) k a t i due_t = as_before (ap (λ (w : Place). w.now) h.same) k a t ((pending_by_entry x p (Def s b) q num src ds (o, (e, ps, d, cs, ea, is, r, h)) k).0 i) ((due_by_entry x p (Def s b) q num (o, (e, ps, d, cs, ea, is, r, h)) k a t).0 due_t)
  fresh_after (entry.Void s) (o, (u, cs, is, r, h)) k a t i due_t = as_before (ap (λ (w : Place). w.now) h.same) k a t ((pending_by_entry x p (entry.Void s) q num src ds (o, (u, cs, is, r, h)) k).0 i) ((due_by_entry x p (entry.Void s) q num (o, (u, cs, is, r, h)) k a t).0 due_t)
  fresh_after (Open s c b d) (o, (f, g, z, cs, ec, ea, eb, r, h)) k a t i due_t = as_before (ap (λ (w : Place). w.now) h.same) k a t ((pending_by_entry x p (Open s c b d) q num src ds (o, (f, g, z, cs, ec, ea, eb, r, h)) k).0 i) ((due_by_entry x p (Open s c b d) q num (o, (f, g, z, cs, ec, ea, eb, r, h)) k a t).0 due_t)
  fresh_after (Send s b v) (o, (ea, e, h)) k a t i due_t = as_before (ap (λ (w : Place). w.now) h.same) k a t ((pending_by_entry x p (Send s b v) q num src ds (o, (ea, e, h)) k).0 i) ((due_by_entry x p (Send s b v) q num (o, (ea, e, h)) k a t).0 due_t)
  fresh_after (Return j b v) (o, (cs, ea, due, r, h)) k a t i due_t = as_before (ap (λ (w : Place). w.now) h.same) k a t (((pending_by_entry x p (Return j b v) q num src ds (o, (cs, ea, due, r, h)) k).0 i).0) ((due_by_entry x p (Return j b v) q num (o, (cs, ea, due, r, h)) k a t).0 due_t)
  fresh_after (ReturnHalt j) (o, (cs, due, r, h)) k a t i due_t = as_before (ap (λ (w : Place). w.now) h.same) k a t (((pending_by_entry x p (ReturnHalt j) q num src ds (o, (cs, due, r, h)) k).0 i).0) ((due_by_entry x p (ReturnHalt j) q num (o, (cs, due, r, h)) k a t).0 due_t)
  fresh_after (Bind s c v) (o, (e, h)) k a t i due_t = as_before (ap (λ (w : Place). w.now) h.same) k a t (((pending_by_entry x p (Bind s c v) q num src ds (o, (e, h)) k).4.0 i).0) ((due_by_entry x p (Bind s c v) q num (o, (e, h)) k a t).0 due_t)
  fresh_after (Lost c) (o, (f, g, cs, halted, r, h)) k a t i due_t = as_before (ap (λ (w : Place). w.now) h.same) k a t ((pending_by_entry x p (Lost c) q num src ds (o, (f, g, cs, halted, r, h)) k).0 i) ((due_by_entry x p (Lost c) q num (o, (f, g, cs, halted, r, h)) k a t).0 due_t)
  fresh_after (Right s b) (o, (f, g, cs, ea, halted, r, h)) k a t i due_t = as_before (ap (λ (w : Place). w.now) h.same) k a t ((pending_by_entry x p (Right s b) q num src ds (o, (f, g, cs, ea, halted, r, h)) k).0 i) ((due_by_entry x p (Right s b) q num (o, (f, g, cs, ea, halted, r, h)) k a t).0 due_t)
  fresh_after (Publish s v) (o, (e, h)) k a t i due_t = as_before (ap (λ (w : Place). w.now) h.same) k a t ((pending_by_entry x p (Publish s v) q num src ds (o, (e, h)) k).0 i) ((due_by_entry x p (Publish s v) q num (o, (e, h)) k a t).0 due_t)
  fresh_after (Cancel j) (o, (e, h)) k a t i due_t = as_before (ap (λ (w : Place). w.now) h) k a t ((pending_by_entry x p (Cancel j) q num src ds (o, (e, h)) k).0 i) ((due_by_entry x p (Cancel j) q num (o, (e, h)) k a t).0 due_t)
  fresh_after (Tick u) (o, (tick, h)) k a t i due_t = omega (arith, tick.least k a t ((pending_by_entry x p (Tick u) q num src ds (o, (tick, h)) k).0 i) ((due_by_entry x p (Tick u) q num (o, (tick, h)) k a t).0 due_t), ap (λ (w : Place). w.now) h)
  fresh_after (Call s j m args) (o, (ps, cs, ek, is, r, h)) k a t i due_t =
      let lead : Leads x p (Call s j m args) q = (o, (ps, cs, ek, is, r, h)) in
      let now : q.now ≡ p.now = ap (λ (w : Place). w.now) h.same in
      let due = due_by_entry x p (Call s j m args) q num lead k a t in
      let mine : k ≡ j → q.now ≤ t = λ e. let w = due.1.0 (subst (λ z. IsDue x.sites q.calls z a t) e due_t) in omega (arith, now, w.2) in
      ⊎_elim mine (λ old. by_number mine now (ℕ_discrete k j) old (λ off. due.0 off)) ((pending_by_entry x p (Call s j m args) q num src ds lead k).0 i)
    where
      by_number : (k ≡ j → q.now ≤ t) → q.now ≡ p.now → Dec (k ≡ j) → IsIn k (pending_of (erase p.marked)) → ((k ≢ j) → IsDue x.sites q.calls k a t ↔ IsDue x.sites p.calls k a t) → q.now ≤ t
      by_number mine now (yes e) old d = mine e
      by_number mine now (no off) old d = as_before now k a t old ((d off).0 due_t)

module _ (l : Listing) (sites : List Site) where
  fresh_along : (es ds : List Entry) (p q : Place) → Journal (context l sites) (begin (source l)) ds p → IsFresh (context l sites) p → Journal (context l sites) p es q → IsFresh (context l sites) q
  fresh_along [] ds p q d f h = subst (IsFresh (context l sites)) h f
  fresh_along (e ∷ es) ds p q d f (mid, lead, h) =
      let x = context l sites in
      let num = journal_is_numbered x (source l) ds p d in
      let src = journal_holds_source x (source l) ds p (program_is_source l).1 ((program_is_source l).0 l.root) d in
      fresh_along es (ds ++ e ∷ []) mid q (journal_more x (begin (source l)) p mid ds (e ∷ []) d (mid, lead, refl)) (fresh_after x p mid num src (program_is_source l).1 f e lead) h

  -- in a lawful book no call is overdue
  pub none-overdue : (s : Records) (L : Lawful l sites s) → IsFresh (context l sites) L.place
  none-overdue s L = fresh_along s.journal [] (begin (source l)) L.place refl (λ k a t i d. omega arith) L.leads
