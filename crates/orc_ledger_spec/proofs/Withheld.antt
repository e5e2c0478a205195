-- Where the rules are idle, as at each tick that they allow, work is a move of marks or a group that goes without an entry: nothing else withholds a tick.
use Rattle.std.proofs.Common.{◌≡◌, ◌<◌, ℕ, List, refl, ap, ◌∙◌, arith, inl, inr, ◌⊎◌, ⊎_elim}
use Rattle.orc_rules.specs.declared.value.Answer.TheVariants as answer
use Rattle.orc_rules.specs.declared.entry.Entry.{Entry}
use Rattle.orc_rules.specs.declared.entry.Entry.TheVariants.{End, Fork, Seq, Other, Def, Open, Send, Call, Return, ReturnHalt, Bind, Lost, Right, Publish, Tick, Cancel}
use Rattle.orc_rules.specs.declared.entry.Entry.TheVariants as entry
use Rattle.orc_rules.specs.Nodes.{Listing, code, source, definitions}
use Rattle.orc_rules.specs.Sites.{Site}
use Rattle.orc_rules.specs.Term.{Halted, pending_of}
use Rattle.orc_rules.specs.Step.{silent, publishes, binds, loses, opens, calls, returns}
use Rattle.orc_rules.specs.Marked.{erase}
use Rattle.orc_rules.specs.Lost.{IsMove}
use Rattle.orc_rules.specs.Timed.{IsIn, IsIdle, IsTick, IsQuiet}
use Rattle.orc_rules.specs.Journal.{Place, moment, Leads}
use Rattle.orc_rules.proofs.Pending.{halted_none, pending_by_names}
use Rattle.orc_rules.proofs.Explained.{entry_is_its_step}
use Rattle.orc_ledger_spec.specs.Records.{Records, Lawful, context}
use Rattle.orc_ledger_spec.specs.Told.{AreTold}
use Rattle.orc_ledger_spec.specs.Next.{Numbers, AreGrouped, Next, work, ticks, quiet, next_of}
use Rattle.orc_ledger_spec.specs.Laws.{Allowed, IsLeft, IsDelayed}
use Rattle.orc_ledger_spec.proofs.Lists.{holds_source}
use Rattle.orc_ledger_spec.proofs.Nexts.{next_ticks, next_quiet}
use Rattle.orc_ledger_spec.proofs.Working.{work-allowed}

module _ (l : Listing) (sites : List Site) (s : Records) (L : Lawful l sites s) (idle : IsIdle (context l sites) (moment L.place)) where
  -- an entry that the place allows is then a move of marks or a tick
  pub idle_moves : (e : Entry) (q : Place) → Leads (context l sites) L.place e q → IsMove e ⊎ ((t : ℕ) × (e ≡ Tick t))
  idle_moves (End r) q lead = inl tt
  idle_moves (Fork r a b) q lead = inl tt
  idle_moves (Seq r a) q lead = inl tt
  idle_moves (Other r a) q lead = inl tt
  idle_moves (Tick t) q lead = inr (t, refl)
  idle_moves (Cancel k) q lead = cc (lead.1.0, L.spells.none_due)
  idle_moves (Def r a) q lead = let d = entry_is_its_step (context l sites) (source l) s.journal L.place (Def r a) q L.leads lead in absurd (idle silent (erase q.marked) d.1.0.step)
  idle_moves (entry.Void r) q lead = let d = entry_is_its_step (context l sites) (source l) s.journal L.place (entry.Void r) q L.leads lead in absurd (idle silent (erase q.marked) d.1.0.step)
  idle_moves (Open r c a b) q lead = let d = entry_is_its_step (context l sites) (source l) s.journal L.place (Open r c a b) q L.leads lead in absurd (idle (opens c) (erase q.marked) d.1.0.step)
  idle_moves (Send r a v) q lead = let d = entry_is_its_step (context l sites) (source l) s.journal L.place (Send r a v) q L.leads lead in absurd (idle silent (erase q.marked) d.1.0.step)
  idle_moves (Call r k m args) q lead = let d = entry_is_its_step (context l sites) (source l) s.journal L.place (Call r k m args) q L.leads lead in absurd (idle (calls k m args d.0) (erase q.marked) d.1.0.step)
  idle_moves (Bind r c v) q lead = let d = entry_is_its_step (context l sites) (source l) s.journal L.place (Bind r c v) q L.leads lead in absurd (idle (binds c v) (erase q.marked) d.1.0.step)
  idle_moves (Lost c) q lead = let d = entry_is_its_step (context l sites) (source l) s.journal L.place (Lost c) q L.leads lead in absurd (idle (loses c) (erase q.marked) d.1.0.step)
  idle_moves (Right r a) q lead = let d = entry_is_its_step (context l sites) (source l) s.journal L.place (Right r a) q L.leads lead in absurd (idle silent (erase q.marked) d.1.0.step)
  idle_moves (Publish r v) q lead = let d = entry_is_its_step (context l sites) (source l) s.journal L.place (Publish r v) q L.leads lead in absurd (idle (publishes v) (erase q.marked) d.1.0.step)
  idle_moves (Return k a v) q lead =
      let d = entry_is_its_step (context l sites) (source l) s.journal L.place (Return k a v) q L.leads lead in
      let later : L.place.now < L.place.now = idle (returns k (answer.Value v)) (erase q.marked) d.1.0.step (answer.Value v) L.place.now d.1.0.timely in
      absurd (omega (arith, later))
  idle_moves (ReturnHalt k) q lead =
      let d = entry_is_its_step (context l sites) (source l) s.journal L.place (ReturnHalt k) q L.leads lead in
      let later : L.place.now < L.place.now = idle (returns k answer.Halt) (erase q.marked) d.1.0.step answer.Halt L.place.now d.1.0.timely in
      absurd (omega (arith, later))

  module _ (told : AreTold sites L.place.calls s.calls) (n : Numbers) (G : AreGrouped n s) where
    pub idle-work : next_of (code l) (definitions l) n s ≡ work → ((o : Allowed l sites L.place) × IsMove o.entry_is) ⊎ (IsLeft l n s ⊎ Halted (erase L.place.marked))
    idle-work h =
        ⊎_elim
        (λ o. ⊎_elim (λ m. inl (o, m)) (λ t. absurd (o.untimed t.0 t.1)) (idle_moves o.entry_is o.after o.leads))
        (λ z. inr z)
        (work-allowed l sites s L told n G h)

module _ (l : Listing) (sites : List Site) (s : Records) (L : Lawful l sites s) (told : AreTold sites L.place.calls s.calls) (n : Numbers) (G : AreGrouped n s) where
  not_halted_due : (k : ℕ) → IsIn k (pending_of (erase L.place.marked)) → Halted (erase L.place.marked) → ⊥
  not_halted_due k i h = omega (arith, halted_none k L.place.marked h, (pending_by_names L.place.marked (holds_source l sites s L) k).0 i)

  -- a tick that the rules allow is what comes next, but for moves of marks and groups that go
  pub tick-next : (t : ℕ) → IsTick (context l sites) (moment L.place) t → (next_of (code l) (definitions l) n s ≡ ticks t) ⊎ IsDelayed l n s sites L.place
  tick-next t tick = go (next_of (code l) (definitions l) n s) refl
    where
      go : (e : Next) → next_of (code l) (definitions l) n s ≡ e → (next_of (code l) (definitions l) n s ≡ ticks t) ⊎ IsDelayed l n s sites L.place
      go work e =
          ⊎_elim (λ a. inr (inl a)) (λ z. ⊎_elim (λ a. inr (inr a)) (λ h. absurd (not_halted_due tick.reached.0 tick.reached.2 h)) z)
          (idle-work l sites s L tick.idle told n G e)
      go quiet e = absurd ((next_quiet l sites s L told n G e).no_tick t tick)
      go (ticks u) e =
          let other = next_ticks l sites s L told n G u e in
          let same : u ≡ t = omega (arith, other.least tick.reached.0 tick.reached.1 t tick.reached.2 tick.reached.3, tick.least other.reached.0 other.reached.1 u other.reached.2 other.reached.3) in
          inl (e ∙ ap ticks same)

  -- and so is quiet
  pub quiet-next : IsQuiet (context l sites) (moment L.place) → (next_of (code l) (definitions l) n s ≡ quiet) ⊎ IsDelayed l n s sites L.place
  quiet-next q = go (next_of (code l) (definitions l) n s) refl
    where
      go : (e : Next) → next_of (code l) (definitions l) n s ≡ e → (next_of (code l) (definitions l) n s ≡ quiet) ⊎ IsDelayed l n s sites L.place
      go work e = ⊎_elim (λ a. inr (inl a)) (λ z. ⊎_elim (λ a. inr (inr a)) (λ h. absurd (q.running h)) z) (idle-work l sites s L q.idle told n G e)
      go quiet e = inl e
      go (ticks u) e = absurd (q.no_tick u (next_ticks l sites s L told n G u e))
