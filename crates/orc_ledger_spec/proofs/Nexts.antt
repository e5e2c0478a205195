-- What a book does next is right: a tick and quiet by the rules' definitions; and work has one of three causes.
use Rattle.std.proofs.Common.{◌≡◌, ◌≤◌, ◌<◌, ℕ, zero, suc, ◌+◌, List, refl, sym, ap, ◌∙◌, arith, inl, inr, ◌⊎◌, ⊎_elim, Bool, true, false, cond, nat_eq, eq-eqb, Option, Some, None}
use Rattle.std.proofs.lemmas.Bool.{eqb-true, ltb-true, ltb-false}
use Rattle.std.specs.Prelude.{nat_lt}
use Rattle.orc_rules.specs.Nodes.{Listing, code, definitions}
use Rattle.orc_rules.specs.Sites.{Site}
use Rattle.orc_rules.specs.Term.{pending_of}
use Rattle.orc_rules.specs.Idle.{has_halted, can_move}
use Rattle.orc_rules.specs.Marked.{erase}
use Rattle.orc_rules.specs.Timed.{IsIn, CallMade, says_of, IsTick, IsQuiet}
use Rattle.orc_rules.specs.Journal.{moment}
use Rattle.orc_rules.specs.Numbered.{call as called, times}
use Rattle.orc_rules.specs.Pending.{PendsDue, IsNextDue}
use Rattle.orc_rules.proofs.Pending.{pending_by_names}
use Rattle.orc_rules.proofs.Tests.{tick_by_test, quiet_by_test}
use Rattle.orc_indexes.specs.Same.{weight}
use Rattle.orc_frames.specs.Spelling.{whole}
use Rattle.orc_ledger_spec.specs.Records.{Records, Lawful, context, token_row}
use Rattle.orc_tables.specs.PendingCalls.{has_number, due_of, next_due}
use Rattle.orc_ledger_spec.specs.Doing.{what_of}
use Rattle.orc_frames.specs.Doing.{is_wait}
use Rattle.orc_ledger_spec.specs.Told.{AreTold}
use Rattle.orc_ledger_spec.specs.Next.{Numbers, AreGrouped, members, is_empty, ready, ready_one, open_empty, Next, work, ticks, quiet, next_at, next_by, next_of}
use Rattle.orc_tables.specs.declared.records.Token.{Token}
use Rattle.orc_tables.specs.declared.records.Call.{Call}
use Rattle.orc_tables.specs.declared.records.Group.{Group}
use Rattle.orc_ledger_spec.specs.Laws.{Cause}
use Rattle.orc_indexes.proofs.Weight.{weight-in, weight-none, either_one, some-in}
use Rattle.orc_ledger_spec.proofs.Lists.{numbered, holds_source, rows-weigh, is_call, times-calls}
use Rattle.orc_ledger_spec.proofs.Telling.{told_in, one_call, due_is, is_due}
use Rattle.orc_tables.proofs.Ripe.{next_none, next_some, next_least}
use Rattle.orc_ledger_spec.proofs.Resting.{still_stands, still_going}

module _ (l : Listing) (sites : List Site) (s : Records) (L : Lawful l sites s) where
  -- the calls that pend are those of the records
  calls_weigh : (k : ℕ) → times (called k) L.place.marked ≡ weight (has_number k) s.calls
  calls_weigh k = omega (arith, times-calls k whole L.place.marked, rows-weigh l sites s L (is_call k), weight-none (λ (t : Token). is_call k (token_row (code l) s t)) s.tokens (λ t. refl))

  number_is : (k : ℕ) (c : Call) → 1 ≤ has_number k c → k ≡ c.number
  number_is k c h = go (nat_eq k c.number) refl h
    where
      go : (b : Bool) → nat_eq k c.number ≡ b → 1 ≤ cond {A = ℕ} b 1 0 → k ≡ c.number
      go true e h = eqb-true k c.number e
      go false e h = absurd (omega (arith, h))

  pub call_of : (k : ℕ) → IsIn k (pending_of (erase L.place.marked)) → (c : Call) × IsIn c s.calls × (k ≡ c.number)
  call_of k i =
      let d = some-in (has_number k) s.calls (omega (arith, calls_weigh k, (pending_by_names L.place.marked (holds_source l sites s L) k).0 i)) in
      (d.0, d.1, number_is k d.0 d.2)

  pub call_pends : (c : Call) → IsIn c s.calls → IsIn c.number (pending_of (erase L.place.marked))
  call_pends c i =
      let one : has_number c.number c ≡ 1 = ap (λ b. cond {A = ℕ} b 1 0) (eq-eqb c.number c.number refl) in
      (pending_by_names L.place.marked (holds_source l sites s L) c.number).1 (omega (arith, calls_weigh c.number, weight-in (has_number c.number) s.calls c i, one))

  module _ (told : AreTold sites L.place.calls s.calls) where
    -- a call of the records is due when they say
    pub pends_due : (c : Call) (t : ℕ) → IsIn c s.calls → due_of c ≡ Some t → PendsDue (context l sites) (moment L.place) t
    pends_due c t i e =
        let d = due_is c.made_at c.found t e in
        let w = told_in sites L.place.calls s.calls told c i in
        (c.number, d.answer, call_pends c i, record { by = w.by; is_made = w.is_made; is_k = w.is_k; delay = d.delay; says = w.says ∙ d.says; sum = d.sum ∙ ap (λ z. z + d.delay) (sym w.at); fits = d.fits })

    pub due_pends : (t : ℕ) → PendsDue (context l sites) (moment L.place) t → (c : Call) × IsIn c s.calls × (due_of c ≡ Some t)
    due_pends t (k, a, i, due) =
        let c = call_of k i in
        let w = told_in sites L.place.calls s.calls told c.0 c.1 in
        let same = one_call L.place.calls (numbered l sites s L).calls due.by w.by due.is_made w.is_made (due.is_k ∙ c.2 ∙ sym w.is_k) in
        (c.0, c.1, is_due (Call.made_at c.0) (Call.found c.0) t (record { answer = a; delay = due.delay; says = sym w.says ∙ sym (ap (says_of sites) same) ∙ due.says; sum = due.sum ∙ ap (λ z. z + due.delay) (ap (λ (m : CallMade). m.at) same ∙ w.at); fits = due.fits }))

    -- the least due time of the records is the next one of the place
    pub next_due_is : IsNextDue (context l sites) (moment L.place) (next_due s.calls)
    next_due_is = go (next_due s.calls) refl
      where
        some_nat : {A : Type 0} (t : ℕ) → Some t ≡ None → A
        some_nat t e = cc e

        go : (o : Option ℕ) → next_due s.calls ≡ o → IsNextDue (context l sites) (moment L.place) o
        go None e = λ t p. let c = due_pends t p in some_nat t (sym c.2 ∙ next_none s.calls e c.0 c.1)
        go (Some t) e = (let c = next_some s.calls t e in pends_due c.0 t c.1 c.2, λ u p. let c = due_pends u p in next_least s.calls t e c.0 u c.1 c.2)

    module _ (n : Numbers) (G : AreGrouped n s) where
      nothing : (k : ℕ) (now : ℕ) (o : Option ℕ) (e : Next) → next_by k now o ≡ e → (e ≡ work → ⊥) → (k ≡ 0) × (next_at now o ≡ e)
      nothing zero now o e h not_work = (refl, h)
      nothing (suc k) now o e h not_work = absurd (not_work (sym h))

      parts_none : (a b : ℕ) → a + b ≡ 0 → (a ≡ 0) × (b ≡ 0)
      parts_none a b h = (omega (arith, h), omega (arith, h))

      -- nothing can move where the book finds no work
      pub idle_now : (e : Next) → next_of (code l) (definitions l) n s ≡ e → (e ≡ work → ⊥) → (can_move (definitions l) (erase L.place.marked) ≡ false) × (has_halted (erase L.place.marked) ≡ false) × (next_at s.now (next_due s.calls) ≡ e)
      idle_now e h not_work =
          let k = nothing (ready (code l) (definitions l) s + open_empty n s) s.now (next_due s.calls) e h not_work in
          let z = parts_none (ready (code l) (definitions l) s) (open_empty n s) k.0 in
          (still_stands l sites s L n G z.1 z.0, still_going l sites s L n G z.1 z.0, k.1)

      at_ticks : (now t : ℕ) (o : Option ℕ) → next_at now o ≡ ticks t → (o ≡ Some t) × (now < t)
      at_ticks now t None h = cc h
      at_ticks now t (Some u) h = go (nat_lt now u) refl h
        where
          go : (b : Bool) → nat_lt now u ≡ b → cond b (ticks u) work ≡ ticks t → (Some u ≡ Some t) × (now < t)
          go true e h = let same : u ≡ t = cc h in (ap Some same, omega (arith, ltb-true now u e, same))
          go false e h = cc h

      at_quiet : (now : ℕ) (o : Option ℕ) → next_at now o ≡ quiet → o ≡ None
      at_quiet now None h = refl
      at_quiet now (Some u) h = go (nat_lt now u) h
        where
          go : (b : Bool) → cond b (ticks u) work ≡ quiet → Some u ≡ None
          go true h = cc h
          go false h = cc h

      -- a tick, exactly to the least due time
      pub next_ticks : (t : ℕ) → next_of (code l) (definitions l) n s ≡ ticks t → IsTick (context l sites) (moment L.place) t
      next_ticks t h =
          let k = idle_now (ticks t) h (λ e. cc e) in
          let d = at_ticks s.now t (next_due s.calls) k.2 in
          (tick_by_test (context l sites) (moment L.place) (next_due s.calls) next_due_is t).1 (k.0, d.0, omega (arith, d.1, L.spells.now))

      -- or quiet
      pub next_quiet : next_of (code l) (definitions l) n s ≡ quiet → IsQuiet (context l sites) (moment L.place)
      next_quiet h =
          let k = idle_now quiet h (λ e. cc e) in
          (quiet_by_test (context l sites) (moment L.place) (next_due s.calls) next_due_is).1 (k.1, k.0, at_quiet s.now (next_due s.calls) k.2)

      moves_not : (t : Token) → 1 ≤ ready_one (code l) (definitions l) s t → is_wait (what_of (code l) (definitions l) s t) ≡ false
      moves_not t h = go (is_wait (what_of (code l) (definitions l) s t)) h
        where
          go : (b : Bool) → 1 ≤ cond {A = ℕ} b 0 1 → b ≡ false
          go true h = absurd (omega (arith, h))
          go false h = refl

      empty_is : (k : ℕ) → 1 ≤ is_empty k → k ≡ 0
      empty_is zero h = refl
      empty_is (suc k) h = absurd (omega (arith, h))

      due_causes : (o : Option ℕ) → next_due s.calls ≡ o → next_at s.now o ≡ work → Cause l n s
      due_causes None e h = cc h
      due_causes (Some t) e h = go (nat_lt s.now t) refl h
        where
          go : (b : Bool) → nat_lt s.now t ≡ b → cond b (ticks t) work ≡ work → Cause l n s
          go true f h = cc h
          go false f h = let c = next_some s.calls t e in inr (inr (c.0, t, c.1, c.2, omega (arith, ltb-false s.now t f)))

      count_causes : (k : ℕ) → ready (code l) (definitions l) s + open_empty n s ≡ k → next_by k s.now (next_due s.calls) ≡ work → Cause l n s
      count_causes zero e h = due_causes (next_due s.calls) refl h
      count_causes (suc k) e h =
          ⊎_elim
          (λ (a : 1 ≤ ready (code l) (definitions l) s). let d = some-in (ready_one (code l) (definitions l) s) s.tokens a in inl (d.0, d.1, moves_not d.0 d.2))
          (λ (b : 1 ≤ open_empty n s). inr (inl (⊎_elim
          (λ (c : 1 ≤ is_empty (members n s 0)). inl (empty_is (members n s 0) c))
          (λ (c : 1 ≤ weight (λ (g : Group). is_empty (members n s (n.number g))) s.groups). let d = some-in (λ (g : Group). is_empty (members n s (n.number g))) s.groups c in inr (d.0, d.1, empty_is (members n s (n.number d.0)) d.2))
          (either_one (is_empty (members n s 0)) (weight (λ (g : Group). is_empty (members n s (n.number g))) s.groups) b))))
          (either_one (ready (code l) (definitions l) s) (open_empty n s) (omega (arith, e)))

      pub next_work : next_of (code l) (definitions l) n s ≡ work → Cause l n s
      next_work h = count_causes (ready (code l) (definitions l) s + open_empty n s) refl h

      some_work : (k now : ℕ) (o : Option ℕ) → 1 ≤ k → next_by k now o ≡ work
      some_work zero now o h = absurd (omega (arith, h))
      some_work (suc k) now o h = refl

      due_work : (k now t u : ℕ) → u ≤ t → t ≤ now → next_by k now (Some u) ≡ work
      due_work (suc k) now t u le on = refl
      due_work zero now t u le on = go (nat_lt now u) refl
        where
          go : (b : Bool) → nat_lt now u ≡ b → cond b (ticks u) work ≡ work
          go true e = absurd (omega (arith, ltb-true now u e, le, on))
          go false e = refl

      -- and each cause is work
      pub causes_work : Cause l n s → next_of (code l) (definitions l) n s ≡ work
      causes_work h = ⊎_elim of_token (λ z. ⊎_elim of_group of_call z) h
        where
          of_token : ((t : Token) × IsIn t s.tokens × (is_wait (what_of (code l) (definitions l) s t) ≡ false)) → next_of (code l) (definitions l) n s ≡ work
          of_token (t, i, e) =
              let one : ready_one (code l) (definitions l) s t ≡ 1 = ap (λ b. cond {A = ℕ} b 0 1) e in
              some_work (ready (code l) (definitions l) s + open_empty n s) s.now (next_due s.calls) (omega (arith, weight-in (ready_one (code l) (definitions l) s) s.tokens t i, one))

          of_group : ((members n s 0 ≡ 0) ⊎ ((g : Group) × IsIn g s.groups × (members n s (n.number g) ≡ 0))) → next_of (code l) (definitions l) n s ≡ work
          of_group (inl e) = some_work (ready (code l) (definitions l) s + open_empty n s) s.now (next_due s.calls) (omega (arith, ap is_empty e))
          of_group (inr (g, i, e)) = some_work (ready (code l) (definitions l) s + open_empty n s) s.now (next_due s.calls) (omega (arith, weight-in (λ (h : Group). is_empty (members n s (n.number h))) s.groups g i, ap is_empty e))

          of_call : ((c : Call) × (t : ℕ) × IsIn c s.calls × (due_of c ≡ Some t) × (t ≤ s.now)) → next_of (code l) (definitions l) n s ≡ work
          of_call (c, t, i, e, le) = go (next_due s.calls) refl
            where
              go : (o : Option ℕ) → next_due s.calls ≡ o → next_by (ready (code l) (definitions l) s + open_empty n s) s.now o ≡ work
              go None f = cc (e, next_none s.calls f c i)
              go (Some u) f = due_work (ready (code l) (definitions l) s + open_empty n s) s.now t u (next_least s.calls u f c t i e) le
