-- Calls that are due now, and the answers that the table gives.
use Rattle.std.proofs.Common.{◌≡◌, ◌≤◌, ℕ, List, [], ◌∷◌, map, Some, cond, eq-eqb, refl, sym, ap, ◌∙◌, subst, arith, inl, inr}
use Rattle.orc_rules.specs.declared.value.Answer.{Answer}
use Rattle.orc_rules.specs.declared.value.Found.TheVariants.{After}
use Rattle.orc_rules.specs.Nodes.{Listing}
use Rattle.orc_rules.specs.Sites.{Site}
use Rattle.orc_rules.specs.Timed.{IsIn, IsDue, number_of}
use Rattle.orc_rules.specs.Numbered.{AreCounted}
use Rattle.orc_tables.specs.PendingCalls.{due_of, has_number, IsDueBeyond}
use Rattle.orc_indexes.specs.Same.{weight}
use Rattle.orc_indexes.proofs.Weight.{weight-in}
use Rattle.orc_tables.specs.declared.records.Call.{Call}
use Rattle.orc_ledger_spec.specs.Records.{Records}
use Rattle.orc_ledger_spec.specs.Kept.{Kept}
use Rattle.orc_ledger_spec.specs.Answers.{IsDueNow}
use Rattle.orc_ledger_spec.proofs.Lists.{numbered}
use Rattle.orc_ledger_spec.proofs.Nexts.{call_pends}
use Rattle.orc_ledger_spec.proofs.Keeping.{told-due}
use Rattle.orc_ledger_spec.proofs.Telling.{told_in, in_numbers, due_is}
use Rattle.orc_ledger_spec.proofs.Timely.{none-overdue}

-- numbers are counted from 1
counted_from : (ns : List ℕ) (n : ℕ) → AreCounted ns → IsIn n ns → 1 ≤ n
counted_from [] n h i = elim i [ ]
counted_from (m ∷ ns) n h (inl e) = omega (arith, e, h.0)
counted_from (m ∷ ns) n h (inr i) = counted_from ns n h.1 i

module _ (l : Listing) (sites : List Site) (counts : List (List ℕ × ℕ)) (sizes : List ℕ) (s : Records) (K : Kept l sites counts sizes s) where
  from_one : (c : Call) → IsIn c s.calls → 1 ≤ c.number
  from_one c i =
      let w = told_in sites K.lawful.place.calls s.calls K.told c i in
      omega (arith, w.is_k, counted_from (map number_of K.lawful.place.calls) (number_of w.by) (numbered l sites s K.lawful).calls (in_numbers w.by K.lawful.place.calls w.is_made))

  -- where no call is due now none is overdue
  pub none-owed : ((k : ℕ) → IsDueBeyond s.calls 0 s.now k → ⊥) → (c : Call) (t : ℕ) → IsIn c s.calls → due_of c ≡ Some t → t ≤ s.now → ⊥
  none-owed none c t i e le =
      let L = K.lawful in
      let b = due_is c.made_at c.found t e in
      let due = (told-due l sites s L K.told c i b.answer t).1 (b.delay, b.says, b.sum, b.fits) in
      let now : t ≡ s.now = omega (arith, none-overdue l sites s L c.number b.answer t (call_pends l sites s L c i) due, le, L.spells.now) in
      none c.number (c, i, refl, from_one c i, e ∙ ap Some now)

  -- the record of a call that is due has its answer
  pub owed : (k : ℕ) → IsDueBeyond s.calls 0 s.now k → (c : Call) → IsIn c s.calls → c.number ≡ k → (a : Answer) × (d : ℕ) × (c.found ≡ After a d) × IsDueNow l sites s c.number a
  owed k (o, i, number, beyond, e) c j same =
      let L = K.lawful in
      let b = due_is o.made_at o.found s.now e in
      let due : IsDue sites L.place.calls o.number b.answer s.now = (told-due l sites s L K.told o i b.answer s.now).1 (b.delay, b.says, b.sum, b.fits) in
      let its : IsDue sites L.place.calls c.number b.answer s.now = subst (λ z. IsDue sites L.place.calls z b.answer s.now) (number ∙ sym same) due in
      let d = (told-due l sites s L K.told c j b.answer s.now).0 its in
      (b.answer, d.0, d.1, (L.place, L.leads, subst (IsDue sites L.place.calls c.number b.answer) (sym L.spells.now) its))

  -- and so it is due with it
  pub owed-so : (k : ℕ) → IsDueBeyond s.calls 0 s.now k → (c : Call) → IsIn c s.calls → c.number ≡ k → (a : Answer) (d : ℕ) → c.found ≡ After a d → IsDueNow l sites s c.number a
  owed-so k due c i number a d found =
      let o = owed k due c i number in
      let same : After o.0 o.1 ≡ After a d = sym o.2 ∙ found in
      let answer : o.0 ≡ a = cc same in
      subst (IsDueNow l sites s c.number) answer o.3

pub not-none : (cs : List Call) (k : ℕ) (c : Call) → IsIn c cs → c.number ≡ k → weight (has_number k) cs ≡ 0 → ⊥
not-none cs k c i number none =
    let one : has_number k c ≡ 1 = ap (λ b. cond {A = ℕ} b 1 0) (eq-eqb k c.number (sym number)) in
    absurd (omega (arith, weight-in (has_number k) cs c i, none, one))
