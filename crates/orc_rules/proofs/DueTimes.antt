-- When calls are due doesn't change, and the least due time of a list.
use Rattle.std.proofs.Common.{◌≡◌, ◌≢◌, ◌<◌, ◌+◌, ◌^◌, ◌↔◌, ℕ, List, [], ◌∷◌, map, refl, sym, ap, ◌∙◌, subst, inl, inr, ⊎_elim, arith}
use Rattle.std.proofs.lemmas.List.{length-map}
use Rattle.orc_rules.specs.declared.value.Answer.{Answer}
use Rattle.orc_rules.specs.declared.value.Found.TheVariants.{After}
use Rattle.orc_rules.specs.declared.entry.Entry.{Entry}
use Rattle.orc_rules.specs.declared.entry.Entry.TheVariants.{End, Fork, Seq, Other, Def, Open, Send, Call, Return, ReturnHalt, Bind, Lost, Right, Publish, Tick, Cancel}
use Rattle.orc_rules.specs.declared.entry.Entry.TheVariants as entry
use Rattle.orc_rules.specs.Timed.{Context, CallMade, IsIn, IsDue, says_of, nth_of, number_of}
use Rattle.orc_rules.specs.Journal.{Place, Enters}
use Rattle.orc_rules.specs.Pending.{DueAfter, DueByEntry, NextByList}
use Rattle.orc_rules.proofs.Numbered.{next_not}

in_numbers : (by : CallMade) (made : List CallMade) → IsIn by made → IsIn (number_of by) (map number_of made)
in_numbers by [] h = elim h [ ]
in_numbers by (c ∷ cs) (inl e) = inl (ap number_of e)
in_numbers by (c ∷ cs) (inr h) = inr (in_numbers by cs h)

module _ (x : Context) (p q : Place) (j : ℕ) (a : Answer) (t : ℕ) where
  same_due : q.calls ≡ p.calls → IsDue x.sites q.calls j a t ↔ IsDue x.sites p.calls j a t
  same_due e = (λ d. subst (λ l. IsDue x.sites l j a t) e d, λ d. subst (λ l. IsDue x.sites l j a t) (sym e) d)

  older : (c : CallMade) (cs : List CallMade) → IsDue x.sites cs j a t → IsDue x.sites (c ∷ cs) j a t
  older c cs d = record { by = d.by; is_made = inr d.is_made; is_k = d.is_k; delay = d.delay; says = d.says; sum = d.sum; fits = d.fits }

  not_newest : (c : CallMade) (cs : List CallMade) → j ≢ CallMade.number c → IsDue x.sites (c ∷ cs) j a t → IsDue x.sites cs j a t
  not_newest c cs n d =
      ⊎_elim (λ y. absurd (n (sym d.is_k ∙ ap number_of y))) (λ i. record { by = d.by; is_made = i; is_k = d.is_k; delay = d.delay; says = d.says; sum = d.sum; fits = d.fits }) d.is_made

  newest : (c : CallMade) (cs : List CallMade) → CallMade.number c ≡ j → (IsIn j (map number_of cs) → ⊥) → IsDue x.sites (c ∷ cs) j a t ↔ ((d : ℕ) × (says_of x.sites c ≡ After a d) × (t ≡ CallMade.at c + d) × (t < 2 ^ 64))
  newest c cs is out = (
    λ d. ⊎_elim
        (λ y. (d.delay, sym (ap (says_of x.sites) y) ∙ d.says, d.sum ∙ ap (λ (w : CallMade). w.at + d.delay) y, d.fits))
        (λ i. absurd (out (subst (λ w. IsIn w (map number_of cs)) d.is_k (in_numbers d.by cs i)))) d.is_made,
    λ w. record { by = c; is_made = inl refl; is_k = is; delay = w.0; says = w.1; sum = w.2; fits = w.3 },
  )

pub due_by_entry : DueByEntry
due_by_entry x p e q num lead j a t = entered_due e lead.1
  where
    entered_due : (e : Entry) → Enters x p e q → DueAfter x p e q j a t
    entered_due (End s) h = same_due x p q j a t (ap (λ (w : Place). w.calls) h.same)
    entered_due (Fork s b c) (f, g, ea, eb, h) = same_due x p q j a t (ap (λ (w : Place). w.calls) h.same)
    entered_due (Seq s b) (f, g, z, ea, h) = same_due x p q j a t (ap (λ (w : Place). w.calls) h.same)
    entered_due (Other s b) (f, g, ea, h) = same_due x p q j a t (ap (λ (w : Place). w.calls) h.same)
    entered_due (Def s b) (e, ps, d, cs, ea, is, r, h) = same_due x p q j a t (ap (λ (w : Place). w.calls) h.same)
    entered_due (entry.Void s) (u, cs, is, r, h) = same_due x p q j a t (ap (λ (w : Place). w.calls) h.same)
    entered_due (Open s c b d) (f, g, z, cs, ec, ea, eb, r, h) = same_due x p q j a t (ap (λ (w : Place). w.calls) h.same)
    entered_due (Send s b v) (ea, e, h) = same_due x p q j a t (ap (λ (w : Place). w.calls) h.same)
    entered_due (Call s k m args) (ps, cs, ek, is, r, h) =
        let made : CallMade = record { number = k; site = m; args = args; nth = nth_of m args p.calls; at = p.now } in
        let same : q.calls ≡ made ∷ p.calls = ap (λ (w : Place). w.calls) h.same in (
          λ n. (
            λ d. not_newest x p q j a t made p.calls n (subst (λ l. IsDue x.sites l j a t) same d),
            λ d. subst (λ l. IsDue x.sites l j a t) (sym same) (older x p q j a t made p.calls d),
          ),
          let n = newest x p q k a t made p.calls refl (λ i. next_not p.calls (map number_of p.calls) k (omega (arith, ek, length-map p.calls number_of)) num.calls i) in
              (λ d. n.0 (subst (λ l. IsDue x.sites l k a t) same d), λ w. subst (λ l. IsDue x.sites l k a t) (sym same) (n.1 w)),
        )
    entered_due (Return k b v) (cs, ea, due, r, h) = same_due x p q j a t (ap (λ (w : Place). w.calls) h.same)
    entered_due (ReturnHalt k) (cs, due, r, h) = same_due x p q j a t (ap (λ (w : Place). w.calls) h.same)
    entered_due (Bind s c v) (e, h) = same_due x p q j a t (ap (λ (w : Place). w.calls) h.same)
    entered_due (Lost c) (f, g, cs, halted, r, h) = same_due x p q j a t (ap (λ (w : Place). w.calls) h.same)
    entered_due (Right s b) (f, g, cs, ea, halted, r, h) = same_due x p q j a t (ap (λ (w : Place). w.calls) h.same)
    entered_due (Publish s v) (e, h) = same_due x p q j a t (ap (λ (w : Place). w.calls) h.same)
    entered_due (Tick u) (tick, same) = same_due x p q j a t (ap (λ (w : Place). w.calls) same)
    entered_due (Cancel k) (due, same) = same_due x p q j a t (ap (λ (w : Place). w.calls) same)

pub next_by_list : NextByList
next_by_list x s ds are = (
  λ e t p. none t p.0 (subst (λ l. IsIn {X = ℕ × ℕ} (t, p.0) l) e ((are t p.0).1 (p.2, p.1, p.3))),
  λ t k i least. let d = (are t k).0 i in ((k, d.1, d.0, d.2), λ u p. least u p.0 ((are u p.0).1 (p.2, p.1, p.3))),
)
  where
    none : (t k : ℕ) → IsIn {X = ℕ × ℕ} (t, k) [] → ⊥
    none t k h = elim h [ ]
