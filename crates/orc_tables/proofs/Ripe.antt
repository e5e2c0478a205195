-- What the notes say of the calls that are due.
use Rattle.std.proofs.Common.{◌≡◌, ◌≤◌, ◌<◌, ◌+◌, ⊎_elim, ℕ, List, [], refl, sym, ap, ◌∙◌, subst, arith, Option, Some, None, ◌∷◌, inl, inr, Bool, true, false, cond, not}
use Rattle.orc_rules.specs.Timed.{IsIn}
use Rattle.orc_indexes.specs.Dues.{IsNoted, IsEarliest, IsLeastFrom, KeepsBut}
use Rattle.orc_tables.specs.PendingCalls.{due_of, next_due, HaveNotes, IsDueBeyond, IsLeastBeyond, earlier}
use Rattle.orc_tables.specs.declared.records.Call.{Call}
use Rattle.std.proofs.lemmas.Bool.{ltb-true, ltb-false}
use Rattle.std.specs.Prelude.{nat_lt}

-- what the least is
pub next_none : (cs : List Call) → next_due cs ≡ None → (c : Call) → IsIn c cs → due_of c ≡ None
next_none [] h c i = elim i [ ]
next_none (d ∷ cs) h c i = go (due_of d) refl (next_due cs) refl h i (λ k j. next_none cs k c j)
  where
    go : (o : Option ℕ) → due_of d ≡ o → (r : Option ℕ) → next_due cs ≡ r → earlier o r ≡ None → IsIn c (d ∷ cs) → (next_due cs ≡ None → IsIn c cs → due_of c ≡ None) → due_of c ≡ None
    go None e r f h (inl s) ih = ap due_of s ∙ e
    go None e r f h (inr j) ih = ih (f ∙ h) j
    go (Some t) e None f h i ih = cc h
    go (Some t) e (Some u) f h i ih = cc h

pub next_some : (cs : List Call) (t : ℕ) → next_due cs ≡ Some t → (c : Call) × IsIn c cs × (due_of c ≡ Some t)
next_some [] t h = cc h
next_some (d ∷ cs) t h = go (due_of d) refl (next_due cs) refl h (λ u k. next_some cs u k)
  where
    go : (o : Option ℕ) → due_of d ≡ o → (r : Option ℕ) → next_due cs ≡ r → earlier o r ≡ Some t → ((u : ℕ) → next_due cs ≡ Some u → (c : Call) × IsIn c cs × (due_of c ≡ Some u)) → (c : Call) × IsIn c (d ∷ cs) × (due_of c ≡ Some t)
    go None e r f h ih = let k = ih t (f ∙ h) in (k.0, inr k.1, k.2)
    go (Some w) e None f h ih = (d, inl refl, e ∙ h)
    go (Some w) e (Some u) f h ih = least (nat_lt u w) h
      where
        least : (b : Bool) → Some (cond b u w) ≡ Some t → (c : Call) × IsIn c (d ∷ cs) × (due_of c ≡ Some t)
        least true h = let k = ih u f in (k.0, inr k.1, k.2 ∙ h)
        least false h = (d, inl refl, e ∙ h)

pub next_least : (cs : List Call) (t : ℕ) → next_due cs ≡ Some t → (c : Call) (u : ℕ) → IsIn c cs → due_of c ≡ Some u → t ≤ u
next_least [] t h c u i e = elim i [ ]
next_least (d ∷ cs) t h c u i e = go (due_of d) refl (next_due cs) refl h i (λ k j. next_none cs k c j) (λ w k j. next_least cs w k c u j e)
  where
    some_nat : (a b : ℕ) → Some a ≡ Some b → a ≡ b
    some_nat a b h = cc h

    go : (o : Option ℕ) → due_of d ≡ o → (r : Option ℕ) → next_due cs ≡ r → earlier o r ≡ Some t → IsIn c (d ∷ cs) → (next_due cs ≡ None → IsIn c cs → due_of c ≡ None) → ((w : ℕ) → next_due cs ≡ Some w → IsIn c cs → w ≤ u) → t ≤ u
    go None f r g h (inl s) none ih = cc (e, ap due_of s, f)
    go None f r g h (inr j) none ih = ih t (g ∙ h) j
    go (Some w) f None g h (inl s) none ih = omega (arith, some_nat u w (sym e ∙ ap due_of s ∙ f), some_nat w t h)
    go (Some w) f None g h (inr j) none ih = cc (e, none g j)
    go (Some w) f (Some v) g h (inl s) none ih = least (nat_lt v w) refl h
      where
        least : (b : Bool) → nat_lt v w ≡ b → Some (cond b v w) ≡ Some t → t ≤ u
        least true lt h = omega (arith, ltb-true v w lt, some_nat v t h, some_nat u w (sym e ∙ ap due_of s ∙ f))
        least false lt h = omega (arith, some_nat w t h, some_nat u w (sym e ∙ ap due_of s ∙ f))
    go (Some w) f (Some v) g h (inr j) none ih = least (nat_lt v w) refl h
      where
        least : (b : Bool) → nat_lt v w ≡ b → Some (cond b v w) ≡ Some t → t ≤ u
        least true lt h = omega (arith, some_nat v t h, ih v g j)
        least false lt h = omega (arith, ltb-false v w lt, some_nat w t h, ih v g j)

abbrev pub IsDueAt : List Call → ℕ → ℕ → Type 0
IsDueAt items t k = (c : Call) × IsIn c items × (c.number ≡ k) × (due_of c ≡ Some t)

some_nat : (a b : ℕ) → Some a ≡ Some b → a ≡ b
some_nat a b h = cc h

-- a note of a call that isn't due then goes
pub notes-less : (items : List Call) (notes notes' : List (ℕ × ℕ)) (t k : ℕ) → HaveNotes notes items → KeepsBut notes notes' t k → ((c : Call) → IsIn c items → c.number ≡ k → due_of c ≡ Some t → ⊥) → HaveNotes notes' items
notes-less items notes notes' t k have keeps not c i u due =
    ⊎_elim (λ a. a) (λ b. absurd (not c i b.1 (due ∙ ap Some b.0))) (keeps u c.number (have c i u due))

-- the earliest note, of a call that is due then, says the least due time
pub next-first : (items : List Call) (notes : List (ℕ × ℕ)) (t k : ℕ) → HaveNotes notes items → IsEarliest notes (t, k) → IsDueAt items t k → Some t ≡ next_due items
next-first items notes t k have first d = go (next_due items) refl
  where
    go : (o : Option ℕ) → next_due items ≡ o → Some t ≡ next_due items
    go None e = cc (next_none items e d.0 d.1, d.3)
    go (Some u) e =
        let c = next_some items u e in
        let low : t ≤ u = first.1 u (Call.number c.0) (have c.0 c.1 u c.2) in
        let high : u ≤ t = next_least items u e d.0 t d.1 d.3 in
        let same : t ≡ u = omega (arith, low, high) in
        ap Some same ∙ sym e

pub next-nothing : (items : List Call) (notes : List (ℕ × ℕ)) → HaveNotes notes items → notes ≡ [] → None ≡ next_due items
next-nothing items notes have is = go (next_due items) refl
  where
    go : (o : Option ℕ) → next_due items ≡ o → None ≡ next_due items
    go None e = sym e
    go (Some u) e =
        let c = next_some items u e in
        let z : IsNoted [] u (Call.number c.0) = subst (λ n. IsNoted n u (Call.number c.0)) is (have c.0 c.1 u c.2) in
        elim z [ ]

-- the least number from `beyond + 1` on that is noted
pub least-beyond : (items : List Call) (notes : List (ℕ × ℕ)) (t beyond k : ℕ) → HaveNotes notes items → IsLeastFrom notes t (beyond + 1) k → IsDueAt items t k → IsLeastBeyond items beyond t k
least-beyond items notes t beyond k have least d =
    ((d.0, d.1, d.2, omega (arith, least.1), d.3), λ j e. least.2 j (subst (IsNoted notes t) e.2 (have e.0 e.1 t e.4)) (omega (arith, e.3)))

pub none-beyond : (items : List Call) (notes : List (ℕ × ℕ)) (t beyond : ℕ) → HaveNotes notes items → ((k : ℕ) → IsNoted notes t k → k < beyond + 1) → (k : ℕ) → IsDueBeyond items beyond t k → ⊥
none-beyond items notes t beyond have none k e = absurd (omega (arith, none k (subst (IsNoted notes t) e.2 (have e.0 e.1 t e.4)), e.3))
