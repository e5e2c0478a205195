-- The calls that were made, and their answers.
use Rattle.std.proofs.Common.{◌≡◌, ◌<◌, ◌-◌, ◌+◌, ◌^◌, ℕ, zero, suc, List, [], ◌∷◌, length, map, Some, refl, sym, ap, ◌∙◌, subst, inl, inr, arith, length-append, false}
use Rattle.std.specs.Prelude.{slice_get}
use Rattle.std.specs.Bool.{Decides}
use Rattle.orc_rules.specs.declared.value.Answer.{Answer}
use Rattle.orc_rules.specs.declared.value.Found.{Found}
use Rattle.orc_rules.specs.declared.value.Found.TheVariants.{After}
use Rattle.orc_rules.specs.Sites.{Site}
use Rattle.orc_rules.specs.Timed.{Context, CallMade, IsIn, IsDue, says_of}
use Rattle.orc_rules.specs.Journal.{Place}
use Rattle.orc_rules.specs.Refusal.{IsAnswer}
use Rattle.orc_rules.specs.Term.{Term}
use Rattle.orc_checker.specs.declared.rest.Called.{Called}
use Rattle.orc_checker.specs.Calls.{Rest, AreNumbered, told, told_of, IsCall, IsDueNow}
use Rattle.orc_checker.specs.Checker.{State, Spells}
use Rattle.orc_term.proofs.Lists.{get-append, get-end}
use Rattle.orc_checker.proofs.CallsMade.{made_there, is_due}

length-told : (sites : List Site) (calls : List CallMade) → length (told_of sites calls) ≡ length calls
length-told sites [] = refl
length-told sites (c ∷ cs) = omega (arith, length-append (told_of sites cs) ((says_of sites c, c.at) ∷ []), length-told sites cs)

-- a call that was made, by its number
record Told (sites : List Site) (calls : List CallMade) (c : CallMade) : Type 0 where
  index : ℕ
  number : c.number ≡ suc index
  there : slice_get (told_of sites calls) index ≡ Some (says_of sites c, c.at)

told_there : (sites : List Site) (calls : List CallMade) (c : CallMade) → AreNumbered calls → IsIn c calls → Told sites calls c
told_there sites [] c n h = elim h [ ]
told_there sites (d ∷ cs) c n (inl e) =
    record {
      index = length cs;
      number = ap CallMade.number e ∙ n.0;
      there = get-end (told_of sites cs) ((says_of sites d, d.at) ∷ []) (length cs) (sym (length-told sites cs)) ∙ (λ j. Some (says_of sites (sym e j), CallMade.at (sym e j)));
    }
told_there sites (d ∷ cs) c n (inr h) =
    let t = told_there sites cs c n.1 h in
    record { index = t.index; number = t.number; there = get-append (told_of sites cs) ((says_of sites d, d.at) ∷ []) t.index _ t.there }

same_some : {X : Type 0} (x y : X) → Some x ≡ Some y → x ≡ y
same_some x y e = cc e

kept_there : (calls : List Called) (i : ℕ) (t : Found × ℕ) → slice_get (map told calls) i ≡ Some t → (c : Called) × (slice_get calls i ≡ Some c) × (told c ≡ t)
kept_there [] i t h = cc h
kept_there (d ∷ calls) zero t h = (d, refl, same_some (told d) t h)
kept_there (d ∷ calls) (suc i) t h = kept_there calls i t h

map_there : (calls : List Called) (i : ℕ) (c : Called) → slice_get calls i ≡ Some c → slice_get (map told calls) i ≡ Some (told c)
map_there [] i c h = cc h
map_there (d ∷ calls) zero c h = ap (λ z. Some (told z)) (same_some d c h)
map_there (d ∷ calls) (suc i) c h = map_there calls i c h

-- the call that is kept of one that was made
kept_of : (x : Context) (code : ℕ → Term) (s : State) (p : Place) → Spells x code s p → (by : CallMade) (k : ℕ) → IsIn by p.calls → by.number ≡ k → (c : Called) × IsCall s.rest k c × (told c ≡ (says_of x.sites by, by.at))
kept_of x code s p sp by k made is =
    let t = told_there x.sites p.calls by sp.rest.numbered made in
    let w = kept_there s.rest.calls t.index _ (ap (λ z. slice_get z t.index) sp.rest.calls_are ∙ t.there) in
    let at : t.index ≡ k - 1 = omega (arith, t.number, is) in
    let over : 0 < k = omega (arith, t.number, is) in
    (w.0, (over, ap (slice_get s.rest.calls) (sym at) ∙ w.1), w.2)

same_call : (r : Rest) (k : ℕ) (c d : Called) → IsCall r k c → IsCall r k d → c ≡ d
same_call r k c d a b = same_some c d (sym a.1 ∙ b.1)

found_is : (c : Called) (f : Found) (t : ℕ) → told c ≡ (f, t) → c.found ≡ f
found_is c f t e = ap (λ z. z.0) e

at_is : (c : Called) (f : Found) (t : ℕ) → told c ≡ (f, t) → c.at ≡ t
at_is c f t e = ap (λ z. z.1) e

module _ (x : Context) (code : ℕ → Term) (s : State) (p : Place) (sp : Spells x code s p) (k : ℕ) (a : Answer) where
  -- the answer of a call that is kept is the table's
  pub answer_found : (c : Called) → IsCall s.rest k c → (r : _) → Decides r ((d : ℕ) × (c.found ≡ After a d)) → Decides r (IsAnswer x p k a)
  answer_found c call r dec =
      let m = made_there x.sites p.calls (k - 1) (told c) sp.rest.numbered (ap (λ z. slice_get z (k - 1)) (sym sp.rest.calls_are) ∙ map_there s.rest.calls (k - 1) c call.1) in (
        λ h. let d = dec.0 h in (m.by, d.0, m.is_made, (let e : m.by.number ≡ k = omega (arith, m.number, call.0) in e), ap (λ z. z.0) m.tells ∙ d.1),
        λ h. let w = kept_of x code s p sp h.0 k h.2 h.3 in dec.1 (h.1, ap Called.found (same_call s.rest k c w.0 call w.1) ∙ found_is w.0 _ _ w.2 ∙ h.4),
      )

  pub answer_none : ((c : Called) → IsCall s.rest k c → ⊥) → Decides false (IsAnswer x p k a)
  answer_none none = (λ h. cc h, λ h. let w = kept_of x code s p sp h.0 k h.2 h.3 in absurd (none w.0 w.1))

  pub due_found : (c : Called) → IsCall s.rest k c → (r : _) (t : ℕ) → t ≡ p.now → Decides r (IsDueNow c a t) → Decides r (IsDue x.sites p.calls k a p.now)
  due_found c call r t now dec = (
    λ h. is_due x p.now p.calls p.to_cancel s.rest k c a sp.rest call (subst (IsDueNow c a) (now ∙ sp.rest.time) (dec.0 h)),
    λ h. let w = kept_of x code s p sp h.by k h.is_made h.is_k in
        let same = same_call s.rest k c w.0 call w.1 in
        dec.1 (record {
          delay = h.delay;
          says = ap Called.found same ∙ found_is w.0 _ _ w.2 ∙ h.says;
          sum = now ∙ h.sum ∙ ap (λ z. z + h.delay) (sym (ap Called.at same ∙ at_is w.0 _ _ w.2));
          fits = subst (λ z. z < 2 ^ 64) (sym now) h.fits;
        }),
  )

  pub due_none : ((c : Called) → IsCall s.rest k c → ⊥) → Decides false (IsDue x.sites p.calls k a p.now)
  due_none none = (λ h. cc h, λ h. let w = kept_of x code s p sp h.by k h.is_made h.is_k in absurd (none w.0 w.1))
