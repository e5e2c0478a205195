-- An entry leads from a place to one place at most.
use Rattle.std.proofs.Common.{◌≡◌, ◌<◌, ℕ, List, [], ◌∷◌, Option, Some, None, refl, sym, ap, ◌∙◌, subst, inl, inr, ⊎_elim, arith}
use Rattle.std.specs.Prelude.{slice_get}
use Rattle.orc_rules.specs.declared.param.Param.{Param}
use Rattle.orc_rules.specs.declared.param.Param.TheVariants.{Cell, Void}
use Rattle.orc_rules.specs.declared.value.Value.{Value}
use Rattle.orc_rules.specs.declared.value.Answer.TheVariants.{Value as Gives, Halt}
use Rattle.orc_rules.specs.declared.entry.Entry.{Entry}
use Rattle.orc_rules.specs.declared.entry.Entry.TheVariants.{End, Fork, Seq, Other, Def, Open, Send, Call, Return, ReturnHalt, Bind, Lost, Right, Publish, Tick, Cancel}
use Rattle.orc_rules.specs.declared.entry.Entry.TheVariants as entry
use Rattle.orc_rules.specs.Term.{Term, call, par, seq, prune, other, Definition, put, put_all, pending_of}
use Rattle.orc_rules.specs.Step.{Act, calls, returns, binds, loses, publishes, silent, opens}
use Rattle.orc_rules.specs.Marked.{Marked, ended, token, in_par, in_seq, in_opened, in_other, erase, fill_marked}
use Rattle.orc_rules.specs.Timed.{Context, IsIn, IsRising, AreDropped, CancelsAfter, calls_after, cells_after}
use Rattle.orc_rules.specs.Journal.{Place, moment, Moves, Acts, Enters, Leads, LeadsToOne}
use Rattle.orc_rules.specs.Numbered.{mark, cell, IsNumbered}
use Rattle.orc_rules.specs.Numbered.Name.{call as pending_call}
use Rattle.orc_rules.proofs.Lookup.{same_part, same_left}
use Rattle.orc_rules.proofs.Emitted.{same_after}
use Rattle.orc_rules.proofs.Numbered.{journal_is_numbered}
use Rattle.orc_rules.proofs.Late.{from_cond}

-- the first of a rising list is the least
rising_least : (k : ℕ) (ks : List ℕ) → IsRising (k ∷ ks) → (j : ℕ) → IsIn j ks → k < j
rising_least k [] r j i = elim i [ ]
rising_least k (h ∷ ks) r j (inl e) = omega (arith, r.0, e)
rising_least k (h ∷ ks) r j (inr i) = omega (arith, r.0, rising_least h ks r.1 j i)

rising_rest : (k : ℕ) (ks : List ℕ) → IsRising (k ∷ ks) → IsRising ks
rising_rest k [] r = tt
rising_rest k (h ∷ ks) r = r.1

-- two rising lists with the same elements
pub rising_same : (ks js : List ℕ) → IsRising ks → IsRising js → ((w : ℕ) → IsIn w ks → IsIn w js) → ((w : ℕ) → IsIn w js → IsIn w ks) → ks ≡ js
rising_same [] [] r s f g = refl
rising_same [] (j ∷ js) r s f g = absurd (g j (inl refl))
rising_same (k ∷ ks) [] r s f g = absurd (f k (inl refl))
rising_same (k ∷ ks) (j ∷ js) r s f g =
    λ i. e i ∷ rising_same ks js (rising_rest k ks r) (rising_rest j js s) (λ w h. ⊎_elim (λ y. absurd (omega (arith, y, e, rising_least k ks r w h))) (λ y. y) (f w (inr h)))
    (λ w h. ⊎_elim (λ y. absurd (omega (arith, y, e, rising_least j js s w h))) (λ y. y) (g w (inr h))) i
  where
    e : k ≡ j
    e = ⊎_elim (λ y. y) (λ y. ⊎_elim (λ z. sym z) (λ z. absurd (omega (arith, rising_least j js s k y, rising_least k ks r j z))) (g j (inl refl))) (f k (inl refl))

-- the calls that a bind drops are one list
dropped_same : (before after after' ks js : List ℕ) → after ≡ after' → AreDropped before after ks → AreDropped before after' js → ks ≡ js
dropped_same before after after' ks js e a b =
    rising_same ks js a.rising b.rising (λ w h. let t = a.each w h in b.all w t.0 (λ i. t.1 (subst (IsIn w) (sym e) i)))
    (λ w h. let t = b.each w h in a.all w t.0 (λ i. t.1 (subst (IsIn w) e i)))

bound_same : (x : Context) (c : ℕ) (v : Value) (t u u' : Term) (ks js : List ℕ) → u ≡ u' → CancelsAfter x (binds c v) t u ks → CancelsAfter x (binds c v) t u' js → ks ≡ js
bound_same x c v t u u' ks js e a b =
    from_cond (Context.cancels x) (ks ≡ js) (λ y. dropped_same (pending_of t) (pending_of u) (pending_of u') ks js (ap pending_of e) (a.0 y) (b.0 y)) (λ y. a.1 y ∙ sym (b.1 y))

-- places after moves of marks and after acts
moved : (p q r : Place) (x y x' y' : Marked) (new : ℕ) → Moves p x y new q → Moves p x' y' new r → q.marked ≡ r.marked → q ≡ r
moved p q r x y x' y' new a b e = a.same ∙ ((λ i. record p { marked = e i; mark = new }) ∙ sym b.same)

acted : (x : Context) (p q r : Place) (a b : Act) (new : ℕ) → Acts x p a new q → Acts x p b new r → calls_after (moment p) a ≡ calls_after (moment p) b → cells_after (moment p) a ≡ cells_after (moment p) b → q.marked ≡ r.marked → q.to_cancel ≡ r.to_cancel → q ≡ r
acted x p q r a b new h k ec el e eo =
    h.same ∙ ((λ i. record { marked = e i; mark = new; now = p.now; calls = ec i; cells = el i; to_cancel = eo i }) ∙ sym k.same)

-- what an entry makes of the token that it names
abbrev forked : ℕ → ℕ → Marked → Marked
forked a b (token s (par f g)) = in_par (token a f) (token b g)
forked a b m = m

abbrev fed : ℕ → Marked → Marked
fed a (token s (seq f z g)) = in_seq (token a f) z g
fed a m = m

abbrev entered : ℕ → Marked → Marked
entered a (token s (other f g)) = in_other s (token a f) g
entered a m = m

abbrev body_of : ℕ → Option Definition → List Param → Marked
body_of a (Some d) ps = token a (put_all d.params ps d.body)
body_of a None ps = ended

abbrev unfolded : List Definition → ℕ → Marked → Marked
unfolded defs a (token s (call e ps)) = body_of a (slice_get defs e) ps
unfolded defs a m = m

abbrev opened : ℕ → ℕ → ℕ → Marked → Marked
opened c a b (token s (prune f z g)) = in_opened (token a (put (Cell c) z f)) c (token b g)
opened c a b m = m

abbrev lost : ℕ → Marked → Marked
lost c (in_opened f d g) = fill_marked Void c f
lost c m = m

abbrev started : ℕ → Marked → Marked
started a (in_other s f g) = token a g
started a m = m

pub entered_one : (x : Context) (p : Place) (e : Entry) (q r : Place) → IsNumbered p → Enters x p e q → Enters x p e r → q ≡ r
entered_one x p (End s) q r num h k = moved p q r _ _ _ _ _ h k (same_left (mark s) h.part k.part refl refl (num.single (mark s)) refl)
entered_one x p (Fork s a b) q r num (f, g, ea, eb, h) (f', g', ea', eb', k) =
    let one = num.single (mark s) in moved p q r _ _ _ _ _ h k (same_left (mark s) h.part k.part refl refl one (ap (forked a b) (same_part (mark s) h.part k.part refl refl one)))
entered_one x p (Seq s a) q r num (f, g, z, ea, h) (f', g', z', ea', k) =
    let one = num.single (mark s) in moved p q r _ _ _ _ _ h k (same_left (mark s) h.part k.part refl refl one (ap (fed a) (same_part (mark s) h.part k.part refl refl one)))
entered_one x p (Other s a) q r num (f, g, ea, h) (f', g', ea', k) =
    let one = num.single (mark s) in moved p q r _ _ _ _ _ h k (same_left (mark s) h.part k.part refl refl one (ap (entered a) (same_part (mark s) h.part k.part refl refl one)))
entered_one x p (Def s a) q r num (e, ps, d, cs, ea, is, t, h) (e', ps', d', cs', ea', is', t', k) =
    let one = num.single (mark s) in
    acted x p q r silent silent _ h k refl refl
    (same_left (mark s) t t' refl refl one (sym (ap (λ o. body_of a o ps) is) ∙ (ap (unfolded x.definitions a) (same_part (mark s) t t' refl refl one) ∙ ap (λ o. body_of a o ps') is')))
    (h.to_cancel ∙ sym k.to_cancel)
entered_one x p (entry.Void s) q r num (t, cs, is, w, h) (t', cs', is', w', k) =
    acted x p q r silent silent _ h k refl refl (same_left (mark s) w w' refl refl (num.single (mark s)) refl) (h.to_cancel ∙ sym k.to_cancel)
entered_one x p (Open s c a b) q r num (f, g, z, cs, ec, ea, eb, t, h) (f', g', z', cs', ec', ea', eb', t', k) =
    let one = num.single (mark s) in
    acted x p q r (opens c) (opens c) _ h k refl refl (same_left (mark s) t t' refl refl one (ap (opened c a b) (same_part (mark s) t t' refl refl one))) (h.to_cancel ∙ sym k.to_cancel)
entered_one x p (Send s a v) q r num (ea, e, h) (ea', e', k) = acted x p q r silent silent _ h k refl refl (same_after e e' (num.single (mark s))) (h.to_cancel ∙ sym k.to_cancel)
entered_one x p (Call s j m args) q r num (ps, cs, ek, is, t, h) (ps', cs', ek', is', t', k) =
    acted x p q r (calls j m args cs) (calls j m args cs') _ h k refl refl (same_left (mark s) t t' refl refl (num.single (mark s)) refl) (h.to_cancel ∙ sym k.to_cancel)
entered_one x p (Return j a v) q r num (cs, ea, due, t, h) (cs', ea', due', t', k) =
    acted x p q r (returns j (Gives v)) (returns j (Gives v)) _ h k refl refl (same_left (pending_call j) t t' refl refl (num.single (pending_call j)) refl) (h.to_cancel ∙ sym k.to_cancel)
entered_one x p (ReturnHalt j) q r num (cs, due, t, h) (cs', due', t', k) =
    acted x p q r (returns j Halt) (returns j Halt) _ h k refl refl (same_left (pending_call j) t t' refl refl (num.single (pending_call j)) refl) (h.to_cancel ∙ sym k.to_cancel)
entered_one x p (Bind s c v) q r num (e, h) (e', k) =
    let same = same_after e e' (num.single (mark s)) in
    acted x p q r (binds c v) (binds c v) _ h k refl refl same (bound_same x c v (erase p.marked) (erase q.marked) (erase r.marked) q.to_cancel r.to_cancel (ap erase same) h.to_cancel k.to_cancel)
entered_one x p (Lost c) q r num (f, g, cs, over, t, h) (f', g', cs', over', t', k) =
    let one = num.single (cell c) in
    acted x p q r (loses c) (loses c) _ h k refl refl (same_left (cell c) t t' refl refl one (ap (lost c) (same_part (cell c) t t' refl refl one))) (h.to_cancel ∙ sym k.to_cancel)
entered_one x p (Right s a) q r num (f, g, cs, ea, over, t, h) (f', g', cs', ea', over', t', k) =
    let one = num.single (mark s) in
    acted x p q r silent silent _ h k refl refl (same_left (mark s) t t' refl refl one (ap (started a) (same_part (mark s) t t' refl refl one))) (h.to_cancel ∙ sym k.to_cancel)
entered_one x p (Publish s v) q r num (e, h) (e', k) = acted x p q r (publishes v) (publishes v) _ h k refl refl (same_after e e' (num.single (mark s))) (h.to_cancel ∙ sym k.to_cancel)
entered_one x p (Tick t) q r num (tick, same) (tick', same') = same ∙ sym same'
entered_one x p (Cancel j) q r num (due, same) (due', same') = same ∙ ((λ i. record p { to_cancel = rest (sym due ∙ due') i }) ∙ sym same')
  where
    rest_of : List ℕ → List ℕ
    rest_of [] = []
    rest_of (k ∷ ks) = ks

    rest : {ks js : List ℕ} → j ∷ ks ≡ j ∷ js → ks ≡ js
    rest e = ap rest_of e

-- from a place whose numbers are in order
pub leads_one : (x : Context) (p : Place) (e : Entry) (q r : Place) → IsNumbered p → Leads x p e q → Leads x p e r → q ≡ r
leads_one x p e q r num h k = entered_one x p e q r num h.1 k.1

pub leads_to_one : LeadsToOne
leads_to_one x t es p e q r h a b = leads_one x p e q r (journal_is_numbered x t es p h) a b
