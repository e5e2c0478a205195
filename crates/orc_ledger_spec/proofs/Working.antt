-- Where the book finds work, the place allows an entry, or a group that is over can go, or the term has halted.
use Rattle.std.proofs.Common.{◌≡◌, ◌≤◌, ℕ, List, [], refl, sym, ap, ◌∙◌, subst, arith, inl, inr, ◌⊎◌, ⊎_elim, Bool, true, false, Some}
use Rattle.orc_rules.specs.declared.value.Answer.{Answer}
use Rattle.orc_rules.specs.declared.value.Answer.TheVariants.{Value as Gives, Halt}
use Rattle.orc_rules.specs.declared.entry.Entry.{Entry}
use Rattle.orc_rules.specs.declared.entry.Entry.TheVariants as entry
use Rattle.orc_rules.specs.Nodes.{Listing, code, definitions}
use Rattle.orc_rules.specs.Sites.{Site}
use Rattle.orc_rules.specs.Term.{Halted}
use Rattle.orc_rules.specs.Marked.{in_call, erase, Replaces, here}
use Rattle.orc_rules.specs.Timed.{IsIn, IsDue}
use Rattle.orc_rules.specs.Refusal.{HasCall}
use Rattle.orc_ledger_spec.specs.Records.{Records, Lawful, is_over}
use Rattle.orc_ledger_spec.specs.Told.{AreTold}
use Rattle.orc_frames.specs.Doing.{names}
use Rattle.orc_frames.specs.declared.action.Action.{Action}
use Rattle.orc_ledger_spec.specs.Next.{Numbers, AreGrouped, members, work, next_of}
use Rattle.orc_tables.specs.PendingCalls.{due_of}
use Rattle.orc_tables.specs.declared.records.Call.{Call}
use Rattle.orc_tables.specs.declared.records.Side.{Side}
use Rattle.orc_tables.specs.declared.records.Side.TheVariants.{Right, Left}
use Rattle.orc_tables.specs.declared.records.Group.{Group}
use Rattle.orc_ledger_spec.specs.Laws.{Allowed, IsLeft}
use Rattle.orc_frames.proofs.Around.{cells_of, replaced}
use Rattle.orc_ledger_spec.proofs.Lists.{call_found}
use Rattle.orc_ledger_spec.proofs.Causes.{leads_by, lost-leads, right-leads, offer}
use Rattle.orc_ledger_spec.proofs.Ended.{root-halted}
use Rattle.orc_ledger_spec.proofs.Nexts.{call_pends, next_work}
use Rattle.orc_ledger_spec.proofs.Keeping.{told-due}
use Rattle.orc_ledger_spec.proofs.Telling.{due_is}
use Rattle.orc_ledger_spec.proofs.Timely.{none-overdue}

module _ (l : Listing) (sites : List Site) (s : Records) (L : Lawful l sites s) where
  -- a tick names no token
  named_not : (e : Entry) (w : Action) (serial t : ℕ) → names e ≡ Some (serial, w) → e ≡ entry.Tick t → ⊥
  named_not e w serial t is h = let k = sym (ap names h) ∙ is in cc k

  has_call : (c : Call) → IsIn c s.calls → HasCall L.place c.number
  has_call c i = let f = call_found l sites s L c i in (cells_of f.around [], subst (λ m. Replaces (in_call c.number) (in_call c.number) m (cells_of f.around []) m) f.is (replaced f.around here))

  answered : (c : Call) → IsIn c s.calls → (a : Answer) → IsDue sites L.place.calls c.number a L.place.now → Allowed l sites L.place
  answered c i (Gives v) d =
      let q = leads_by l sites s L (entry.Return c.number L.place.mark v) L.spells.none_due (has_call c i) tt refl (d.by, d.delay, d.is_made, d.is_k, d.says) d tt in
      record { entry_is = entry.Return c.number L.place.mark v; after = q.0; leads = q.1; untimed = λ t e. cc e }
  answered c i Halt d =
      let q = leads_by l sites s L (entry.ReturnHalt c.number) L.spells.none_due (has_call c i) tt tt (d.by, d.delay, d.is_made, d.is_k, d.says) d tt in
      record { entry_is = entry.ReturnHalt c.number; after = q.0; leads = q.1; untimed = λ t e. cc e }

  module _ (told : AreTold sites L.place.calls s.calls) where
    -- a call whose due time has come is due now, and its return is allowed
    pub due-leads : (c : Call) (t : ℕ) → IsIn c s.calls → due_of c ≡ Some t → t ≤ s.now → Allowed l sites L.place
    due-leads c t i e le =
        let b = due_is c.made_at c.found t e in
        let due = (told-due l sites s L told c i b.answer t).1 (b.delay, b.says, b.sum, b.fits) in
        let now : t ≡ L.place.now = omega (arith, none-overdue l sites s L c.number b.answer t (call_pends l sites s L c i) due, le, L.spells.now) in
        answered c i b.answer (subst (λ z. IsDue sites L.place.calls c.number b.answer z) now due)

    module _ (n : Numbers) (G : AreGrouped n s) where
      by_side : (g : Group) → IsIn g s.groups → members n s (n.number g) ≡ 0 → (k : Side) → g.side ≡ k → (b : Bool) → is_over (code l) s k ≡ b → Allowed l sites L.place ⊎ IsLeft l n s
      by_side g i empty (Right c) e b over = let q = lost-leads l sites s L g i n G empty c e in inl (record { entry_is = entry.Lost c; after = q.0; leads = q.1; untimed = λ t e. cc e })
      by_side g i empty (Left m f scope) e false over = let q = right-leads l sites s L g i n G empty m f scope e over in inl (record { entry_is = entry.Right m s.next_mark; after = q.0; leads = q.1; untimed = λ t e. cc e })
      by_side g i empty (Left m f scope) e true over = inr (g, i, ap (is_over (code l) s) e ∙ over, empty)

      -- work is never found in vain
      pub work-allowed : next_of (code l) (definitions l) n s ≡ work → Allowed l sites L.place ⊎ (IsLeft l n s ⊎ Halted (erase L.place.marked))
      work-allowed h =
          ⊎_elim
          (λ a. let o = offer l sites s L a.0 a.1 a.2 in inl (record { entry_is = o.entry_is; after = o.after; leads = o.leads; untimed = λ t e. named_not o.entry_is o.what a.0.serial t o.named e }))
          (λ z. ⊎_elim
          (λ y. ⊎_elim
          (λ root. inr (inr (root-halted l sites s L n G root)))
          (λ g. ⊎_elim (λ a. inl a) (λ b. inr (inl b)) (by_side g.0 g.1 g.2 (Group.side g.0) refl (is_over (code l) s (Group.side g.0)) refl)) y)
          (λ c. inl (due-leads c.0 c.1 c.2 c.3 c.4)) z)
          (next_work l sites s L told n G h)
