-- Which calls pend after an entry, and when calls are due.
use Rattle.std.proofs.Common.{◌≡◌, ◌≢◌, ◌<◌, ◌≤◌, ◌+◌, ◌↔◌, ℕ, zero, suc, List, [], ◌∷◌, ◌++◌, refl, sym, ap, subst, inl, inr, ◌⊎◌, ⊎_elim, arith}
use Rattle.orc_rules.specs.declared.value.Value.{Value}
use Rattle.orc_rules.specs.declared.param.Param.TheVariants.{Is, Void}
use Rattle.orc_rules.specs.declared.entry.Entry.{Entry}
use Rattle.orc_rules.specs.declared.entry.Entry.TheVariants.{End, Fork, Seq, Other, Def, Open, Send, Call, Return, ReturnHalt, Bind, Lost, Right, Publish, Tick, Cancel}
use Rattle.orc_rules.specs.declared.entry.Entry.TheVariants as entry
use Rattle.orc_rules.specs.Term.{Halted, pending_of}
use Rattle.orc_rules.specs.Step.{Act, calls, returns, binds, loses, publishes, silent, opens, within}
use Rattle.orc_rules.specs.Marked.{Marked, ended, token, in_call, in_par, in_seq, in_opened, in_other, erase, fill_marked, Replaces, here, in_left, in_right, in_feeding, in_main, in_side, in_entered, Emits, emits, on_left, on_right, on_feeding, is_fed, on_main, on_side, is_bound, on_entered, passes}
use Rattle.orc_rules.specs.Timed.{IsIn}
use Rattle.orc_rules.specs.Journal.{Place, Enters}
use Rattle.orc_rules.specs.Lost.{HoldsSource}
use Rattle.orc_rules.specs.Numbered.{once, times}
use Rattle.orc_rules.specs.Numbered.Name.{call}
use Rattle.orc_rules.specs.Idle.{calls_of}
use Rattle.orc_rules.specs.Pending.{PendingByNames, PendsAfter, PendingByEntry}
use Rattle.orc_rules.proofs.Idle.{in_front, in_back}
use Rattle.orc_rules.proofs.Counts.{pending_by_marks}
use Rattle.orc_rules.proofs.Sources.{entered_source}
use Rattle.orc_rules.proofs.Numbered.{index, name_is, once_same, once_other, times_replaced, times_filled}

in_append : (u : ℕ) (us vs : List ℕ) → IsIn u (us ++ vs) → IsIn u us ⊎ IsIn u vs
in_append u [] vs h = inr h
in_append u (w ∷ us) vs (inl e) = inl (inl e)
in_append u (w ∷ us) vs (inr h) = ⊎_elim (λ a. inl (inr a)) (λ b. inr b) (in_append u us vs h)

positive : (m n : ℕ) → 0 < m + n → (0 < m) ⊎ (0 < n)
positive zero n lt = inr (omega (arith, lt))
positive (suc m) n lt = inl (omega arith)

stands_in : (k : ℕ) (m : Marked) → IsIn k (calls_of m) → 0 < times (call k) m
stands_in k ended h = elim h [ ]
stands_in k (token s t) h = elim h [ ]
stands_in k (in_call j) (inl e) = omega (arith, once_same (call k) (call j) (ap call e))
stands_in k (in_call j) (inr h) = elim h [ ]
stands_in k (in_par f g) h = ⊎_elim (λ y. omega (arith, stands_in k f y)) (λ y. omega (arith, stands_in k g y)) (in_append k (calls_of f) (calls_of g) h)
stands_in k (in_seq f x g) h = stands_in k f h
stands_in k (in_opened f c g) h = ⊎_elim (λ y. omega (arith, stands_in k f y)) (λ y. omega (arith, stands_in k g y)) (in_append k (calls_of f) (calls_of g) h)
stands_in k (in_other n f g) h = omega (arith, stands_in k f h)

in_stands : (k : ℕ) (m : Marked) → 0 < times (call k) m → IsIn k (calls_of m)
in_stands k ended lt = absurd (omega (arith, lt))
in_stands k (token s t) lt = absurd (omega (arith, lt))
in_stands k (in_call j) lt = ⊎_elim (λ y. inl (ap index y.0)) (λ y. absurd (omega (arith, lt, once_other (call k) (call j) y.0))) (name_is (call k) (call j))
in_stands k (in_par f g) lt =
    ⊎_elim (λ y. in_front k (calls_of f) (calls_of g) (in_stands k f y)) (λ y. in_back k (calls_of f) (calls_of g) (in_stands k g y)) (positive (times (call k) f) (times (call k) g) lt)
in_stands k (in_seq f x g) lt = in_stands k f lt
in_stands k (in_opened f c g) lt =
    ⊎_elim (λ y. in_front k (calls_of f) (calls_of g) (in_stands k f y)) (λ y. in_back k (calls_of f) (calls_of g) (in_stands k g y)) (positive (times (call k) f) (times (call k) g) (omega (arith, lt)))
in_stands k (in_other n f g) lt = in_stands k f (omega (arith, lt))

pub pending_by_names : PendingByNames
pending_by_names m src k = (
  λ h. stands_in k m (subst (IsIn k) (pending_by_marks m src) h),
  λ lt. subst (IsIn k) (sym (pending_by_marks m src)) (in_stands k m lt),
)

-- nothing pends in what has halted
pub halted_none : (k : ℕ) (m : Marked) → Halted (erase m) → times (call k) m ≡ 0
halted_none k ended h = refl
halted_none k (token s t) h = refl
halted_none k (in_call j) h = elim h [ ]
halted_none k (in_par f g) h = omega (arith, halted_none k f h.0, halted_none k g h.1)
halted_none k (in_seq f x g) h = halted_none k f h
halted_none k (in_opened f c g) h = omega (arith, halted_none k f h.0, halted_none k g h.1)
halted_none k (in_other n f g) h = elim h [ ]

abbrev IsNoBind : Act → Type 0
IsNoBind (binds c v) = ⊥
IsNoBind _ = Unit {0}

no_bind : (c : ℕ) (b : Act) → IsNoBind (within c b) → IsNoBind b
no_bind c (calls k m args cs) h = h
no_bind c (returns k v) h = h
no_bind c (binds d v) h = h
no_bind c (loses d) h = h
no_bind c (publishes v) h = h
no_bind c silent h = h
no_bind c (opens d) h = h

-- a publication that binds nothing leaves the calls
calls_emitted : {s a : ℕ} {v : Value} {m m' : Marked} {b : Act} (k : ℕ) → Emits s a v m b m' → IsNoBind b → times (call k) m' ≡ times (call k) m
calls_emitted k emits n = refl
calls_emitted k (on_left e) n = omega (arith, calls_emitted k e n)
calls_emitted k (on_right e) n = omega (arith, calls_emitted k e n)
calls_emitted k (on_feeding i e) n = calls_emitted k e n
calls_emitted k (is_fed e) n = omega (arith, calls_emitted k e tt)
calls_emitted k (on_main e) n = omega (arith, calls_emitted k e n)
calls_emitted k (on_side {c = c} {b = b} i e) n = omega (arith, calls_emitted k e (no_bind c b n))
calls_emitted k (is_bound e) n = elim n [ ]
calls_emitted k (on_entered i e) n = omega (arith, calls_emitted k e n)
calls_emitted k (passes e) n = omega (arith, calls_emitted k e tt)

binds_within : (d : ℕ) (b : Act) (c : ℕ) (v : Value) → within d b ≡ binds c v → b ≡ binds c v
binds_within d (calls k m args cs) c v e = cc e
binds_within d (returns k w) c v e = cc e
binds_within d (binds e w) c v h = h
binds_within d (loses e) c v h = h
binds_within d (publishes w) c v h = h
binds_within d silent c v h = h
binds_within d (opens e) c v h = h

abbrev cell_of : Act → ℕ
cell_of (binds c v) = c
cell_of _ = 0

-- a publication that a pruning takes puts the filled left side in the pruning's place
pub bound_replaces : {s a : ℕ} {v : Value} {m m' : Marked} {b : Act} → Emits s a v m b m' → (c : ℕ) → b ≡ binds c v → (f g : Marked) × (cs : List ℕ) × Replaces (in_opened f c g) (fill_marked (Is v) c f) m cs m'
bound_replaces emits c h = cc h
bound_replaces (on_left e) c h = let r = bound_replaces e c h in (r.0, r.1, r.2, in_left r.3)
bound_replaces (on_right e) c h = let r = bound_replaces e c h in (r.0, r.1, r.2, in_right r.3)
bound_replaces (on_feeding i e) c h = let r = bound_replaces e c h in (r.0, r.1, r.2, in_feeding r.3)
bound_replaces (is_fed e) c h = cc h
bound_replaces (on_main e) c h = let r = bound_replaces e c h in (r.0, r.1, r.2, in_main r.3)
bound_replaces {v = v} (on_side {c = d} {b = b} i e) c h = let r = bound_replaces e c (binds_within d b c v h) in (r.0, r.1, _, in_side r.3)
bound_replaces {v = v} (is_bound {f = f} {g = g} {c = d} e) c h =
    subst (λ w. (f' g' : Marked) × (cs : List ℕ) × Replaces (in_opened f' w g') (fill_marked (Is v) w f') (in_opened f d g) cs (fill_marked (Is v) d f)) (ap cell_of h) (f, g, [], here)
bound_replaces (on_entered i e) c h = let r = bound_replaces e c h in (r.0, r.1, r.2, in_entered r.3)
bound_replaces (passes e) c h = cc h

-- what holds a source's terms has parts that do
part_source : {x y m m' : Marked} {cs : List ℕ} → Replaces x y m cs m' → HoldsSource m → HoldsSource x
part_source here s = s
part_source (in_left r) s = part_source r s.0
part_source (in_right r) s = part_source r s.1
part_source (in_feeding r) s = part_source r s.0
part_source (in_main r) s = part_source r s.0
part_source (in_side r) s = part_source r s.1
part_source (in_entered r) s = part_source r s.0

module _ (p q : Place) (src : HoldsSource p.marked) (src' : HoldsSource q.marked) (j : ℕ) where
  abbrev Pends : Marked → Type 0
  Pends m = IsIn j (pending_of (erase m))

  before : Pends p.marked ↔ (0 < times (call j) p.marked)
  before = pending_by_names p.marked src j

  after : Pends q.marked ↔ (0 < times (call j) q.marked)
  after = pending_by_names q.marked src' j

  kept : times (call j) q.marked ≡ times (call j) p.marked → Pends q.marked ↔ Pends p.marked
  kept e = (λ h. before.1 (omega (arith, e, after.0 h)), λ h. after.1 (omega (arith, e, before.0 h)))

  without : (g : Marked) → HoldsSource g → times (call j) q.marked + times (call j) g ≡ times (call j) p.marked → times (call j) p.marked ≤ 1 → Pends q.marked ↔ Pends p.marked × (Pends g → ⊥)
  without g s e le = (
    λ h. (before.1 (omega (arith, e, after.0 h)), λ y. omega (arith, e, le, after.0 h, (pending_by_names g s j).0 y)),
    λ h. after.1 (omega (arith, e, before.0 h.0, none (times (call j) g) (λ lt. h.1 ((pending_by_names g s j).1 lt)))),
  )
    where
      none : (m : ℕ) → (0 < m → ⊥) → m ≡ 0
      none m out = omega (arith, out)

  comes : (k : ℕ) → times (call j) q.marked ≡ times (call j) p.marked + once (call j) (call k) → Pends q.marked ↔ (j ≡ k) ⊎ Pends p.marked
  comes k e = (
    λ h. ⊎_elim (λ y. inl (ap index y.0)) (λ y. inr (before.1 (omega (arith, e, after.0 h, once_other (call j) (call k) y.0)))) (name_is (call j) (call k)),
    λ o. ⊎_elim (λ y. after.1 (omega (arith, e, once_same (call j) (call k) (ap call y)))) (λ y. after.1 (omega (arith, e, before.0 y))) o,
  )

  goes : (k : ℕ) → times (call j) q.marked + once (call j) (call k) ≡ times (call j) p.marked → times (call j) p.marked ≤ 1 → Pends q.marked ↔ Pends p.marked × (j ≢ k)
  goes k e le = (
    λ h. (before.1 (omega (arith, e, after.0 h)), λ y. omega (arith, e, le, after.0 h, once_same (call j) (call k) (ap call y))),
    λ h. after.1 (omega (arith, e, before.0 h.0, once_other (call j) (call k) (λ y. h.1 (ap index y)))),
  )

pub pending_by_entry : PendingByEntry
pending_by_entry x p e q num src ds lead j = entered_pends e lead.1
  where
    src' : HoldsSource q.marked
    src' = entered_source x p e q ds lead.1 src

    entered_pends : (e : Entry) → Enters x p e q → PendsAfter p e q j
    entered_pends (End s) h = kept p q src src' j (omega (arith, times_replaced (call j) h.part))
    entered_pends (Fork s a b) (f, g, ea, eb, h) = kept p q src src' j (omega (arith, times_replaced (call j) h.part))
    entered_pends (Seq s a) (f, g, z, ea, h) = kept p q src src' j (omega (arith, times_replaced (call j) h.part))
    entered_pends (Other s a) (f, g, ea, h) = kept p q src src' j (omega (arith, times_replaced (call j) h.part))
    entered_pends (Def s a) (e, ps, d, cs, ea, is, r, h) = kept p q src src' j (omega (arith, times_replaced (call j) r))
    entered_pends (entry.Void s) (t, cs, is, r, h) = kept p q src src' j (omega (arith, times_replaced (call j) r))
    entered_pends (Open s c a b) (f, g, z, cs, ec, ea, eb, r, h) = kept p q src src' j (omega (arith, times_replaced (call j) r))
    entered_pends (Send s a v) (ea, e, h) = kept p q src src' j (calls_emitted j e tt)
    entered_pends (Call s k m args) (ps, cs, ek, is, r, h) = comes p q src src' j k (omega (arith, times_replaced (call j) r))
    entered_pends (Return k a v) (cs, ea, due, r, h) = goes p q src src' j k (omega (arith, times_replaced (call j) r)) (num.single (call j))
    entered_pends (ReturnHalt k) (cs, due, r, h) = goes p q src src' j k (omega (arith, times_replaced (call j) r)) (num.single (call j))
    entered_pends (Bind s c v) (e, h) =
        let b = bound_replaces e c refl in
        (b.0, b.1, b.2, b.3, without p q src src' j b.1 (part_source b.3 src).1 (omega (arith, times_replaced (call j) b.3, times_filled (call j) (Is v) c b.0)) (num.single (call j)))
    entered_pends (Lost c) (f, g, cs, halted, r, h) = kept p q src src' j (omega (arith, times_replaced (call j) r, times_filled (call j) Void c f, halted_none j g halted))
    entered_pends (Right s a) (f, g, cs, ea, halted, r, h) = kept p q src src' j (omega (arith, times_replaced (call j) r, halted_none j f halted))
    entered_pends (Publish s v) (e, h) = kept p q src src' j (calls_emitted j e tt)
    entered_pends (Tick t) (tick, same) = kept p q src src' j (ap (λ (w : Place). times (call j) w.marked) same)
    entered_pends (Cancel k) (due, same) = kept p q src src' j (ap (λ (w : Place). times (call j) w.marked) same)
