-- Each pending call's record keeps the table's word: kept by each entry.
use Rattle.std.proofs.Common.{◌≡◌, ◌≤◌, ◌<◌, ℕ, suc, ◌+◌, ◌^◌, List, [], ◌∷◌, ◌++◌, refl, sym, ap, ◌∙◌, subst, arith, Bool, true, false, cond, nat_eq, eq-eqb, not, map, length}
use Rattle.std.proofs.lemmas.Bool.{eqb-true}
use Rattle.std.proofs.lemmas.Bool.Decides.{Decides-int_eq}
use Rattle.std.proofs.lemmas.List.{length-map}
use Rattle.std.specs.Prelude.{◌↔◌, ◌&&◌, ◌||◌}
use Rattle.orc_rules.specs.declared.value.Value.{Value}
use Rattle.orc_rules.specs.declared.value.Value.TheVariants.{Number, Truth, Signal}
use Rattle.orc_rules.specs.declared.value.Answer.{Answer}
use Rattle.orc_rules.specs.declared.value.Answer.TheVariants.{Value as Gives, Halt}
use Rattle.orc_rules.specs.declared.value.Found.{Found}
use Rattle.orc_rules.specs.declared.value.Found.TheVariants.{After, Never}
use Rattle.orc_rules.specs.declared.entry.Entry.{Entry}
use Rattle.orc_rules.specs.declared.entry.Entry.TheVariants.{End, Fork, Seq, Other, Def, Open, Send, Call as Calls, Return, ReturnHalt, Bind, Lost, Right, Publish, Tick, Cancel}
use Rattle.orc_rules.specs.declared.entry.Entry.TheVariants as entry
use Rattle.orc_rules.specs.Nodes.{Listing, source}
use Rattle.orc_rules.specs.Sites.{Site, find, is_scripted, value_eq}
use Rattle.orc_rules.specs.Term.{Term}
use Rattle.orc_rules.specs.Timed.{Context, CallMade, IsIn, IsDue, says_of, nth_of, number_of}
use Rattle.orc_rules.specs.Journal.{Place, Enters, Journal, begin}
use Rattle.orc_rules.specs.Numbered.{AreCounted}
use Rattle.orc_rules.proofs.Determined.{leads_to_one}
use Rattle.orc_rules.proofs.Numbered.{next_not}
use Rattle.orc_calls.specs.Counting.{AreCounted as HaveCounts, CountsCall}
use Rattle.orc_indexes.specs.Same.{weight, only}
use Rattle.orc_ledger_spec.specs.Records.{Records, Lawful, context}
use Rattle.orc_ledger_spec.specs.Told.{found_eq, is_nth, is_told, AreTold}
use Rattle.orc_tables.specs.declared.records.Call.{Call}
use Rattle.orc_indexes.proofs.Weight.{none-weaker}
use Rattle.orc_ledger_spec.proofs.Binding.{journal_more}
use Rattle.orc_ledger_spec.proofs.Lists.{numbered}
use Rattle.orc_ledger_spec.proofs.Telling.{told_in, told_is, one_call, in_numbers}

pub journal_parts : (x : Context) (p q : Place) (es fs : List Entry) → Journal x p (es ++ fs) q → (m : Place) × Journal x p es m × Journal x m fs q
journal_parts x p q [] fs h = (p, refl, h)
journal_parts x p q (e ∷ es) fs (mid, lead, h) = let d = journal_parts x mid q es fs h in (d.0, (mid, lead, d.1), d.2)

-- a program's journal leads to one place
pub journal_one : (x : Context) (t : Term) (ds : List Entry) (p q r : Place) (es : List Entry) → Journal x (begin t) ds p → Journal x p es q → Journal x p es r → q ≡ r
journal_one x t ds p q r [] d h k = sym h ∙ k
journal_one x t ds p q r (e ∷ es) d (mid, lead, h) (mid', lead', k) =
    let same : mid' ≡ mid = leads_to_one x t ds p e mid' mid d lead' lead in
    journal_one x t (ds ++ e ∷ []) mid q r es (journal_more x (begin t) p mid ds (e ∷ []) d (mid, lead, refl)) h (subst (λ w. Journal x w es r) same k)

-- the calls made after an entry
abbrev pub CallsAfter : Place → Entry → Place → Type 0
CallsAfter p (Calls s k m args) q = q.calls ≡ record { number = k; site = m; args = args; nth = nth_of m args p.calls; at = p.now } ∷ p.calls
CallsAfter p _ q = q.calls ≡ p.calls

pub calls_entered : (x : Context) (p q : Place) (e : Entry) → Enters x p e q → CallsAfter p e q
calls_entered x p q (End s) h = ap (λ (w : Place). w.calls) h.same
calls_entered x p q (Fork s b c) (f, g, ea, eb, h) = ap (λ (w : Place). w.calls) h.same
calls_entered x p q (Seq s b) (f, g, z, ea, h) = ap (λ (w : Place). w.calls) h.same
calls_entered x p q (Other s b) (f, g, ea, h) = ap (λ (w : Place). w.calls) h.same
calls_entered x p q (Def s b) (e, ps, d, cs, ea, is, r, h) = ap (λ (w : Place). w.calls) h.same
calls_entered x p q (entry.Void s) (u, cs, is, r, h) = ap (λ (w : Place). w.calls) h.same
calls_entered x p q (Open s c b d) (f, g, z, cs, ec, ea, eb, r, h) = ap (λ (w : Place). w.calls) h.same
calls_entered x p q (Send s b v) (ea, e, h) = ap (λ (w : Place). w.calls) h.same
calls_entered x p q (Calls s k m args) (ps, cs, ek, is, r, h) = ap (λ (w : Place). w.calls) h.same
calls_entered x p q (Return k b v) (cs, ea, due, r, h) = ap (λ (w : Place). w.calls) h.same
calls_entered x p q (ReturnHalt k) (cs, due, r, h) = ap (λ (w : Place). w.calls) h.same
calls_entered x p q (Bind s c v) (e, h) = ap (λ (w : Place). w.calls) h.same
calls_entered x p q (Lost c) (f, g, cs, halted, r, h) = ap (λ (w : Place). w.calls) h.same
calls_entered x p q (Right s b) (f, g, cs, ea, halted, r, h) = ap (λ (w : Place). w.calls) h.same
calls_entered x p q (Publish s v) (e, h) = ap (λ (w : Place). w.calls) h.same
calls_entered x p q (Tick u) (tick, same) = ap (λ (w : Place). w.calls) same
calls_entered x p q (Cancel k) (due, same) = ap (λ (w : Place). w.calls) same

-- marks are counted from 1 on
from_one_on : (x : Context) (p q : Place) (e : Entry) → Enters x p e q → 1 ≤ p.mark → 1 ≤ q.mark
from_one_on x p q (End s) h one = omega (arith, one, ap (λ (w : Place). w.mark) h.same)
from_one_on x p q (Fork s b c) (f, g, ea, eb, h) one = omega (arith, ap (λ (w : Place). w.mark) h.same)
from_one_on x p q (Seq s b) (f, g, z, ea, h) one = omega (arith, ap (λ (w : Place). w.mark) h.same)
from_one_on x p q (Other s b) (f, g, ea, h) one = omega (arith, ap (λ (w : Place). w.mark) h.same)
from_one_on x p q (Def s b) (e, ps, d, cs, ea, is, r, h) one = omega (arith, ap (λ (w : Place). w.mark) h.same)
from_one_on x p q (entry.Void s) (u, cs, is, r, h) one = omega (arith, one, ap (λ (w : Place). w.mark) h.same)
from_one_on x p q (Open s c b d) (f, g, z, cs, ec, ea, eb, r, h) one = omega (arith, ap (λ (w : Place). w.mark) h.same)
from_one_on x p q (Send s b v) (ea, e, h) one = omega (arith, ap (λ (w : Place). w.mark) h.same)
from_one_on x p q (Calls s k m args) (ps, cs, ek, is, r, h) one = omega (arith, one, ap (λ (w : Place). w.mark) h.same)
from_one_on x p q (Return k b v) (cs, ea, due, r, h) one = omega (arith, ap (λ (w : Place). w.mark) h.same)
from_one_on x p q (ReturnHalt k) (cs, due, r, h) one = omega (arith, one, ap (λ (w : Place). w.mark) h.same)
from_one_on x p q (Bind s c v) (e, h) one = omega (arith, one, ap (λ (w : Place). w.mark) h.same)
from_one_on x p q (Lost c) (f, g, cs, halted, r, h) one = omega (arith, one, ap (λ (w : Place). w.mark) h.same)
from_one_on x p q (Right s b) (f, g, cs, ea, halted, r, h) one = omega (arith, ap (λ (w : Place). w.mark) h.same)
from_one_on x p q (Publish s v) (e, h) one = omega (arith, one, ap (λ (w : Place). w.mark) h.same)
from_one_on x p q (Tick u) (tick, same) one = omega (arith, one, ap (λ (w : Place). w.mark) same)
from_one_on x p q (Cancel k) (due, same) one = omega (arith, one, ap (λ (w : Place). w.mark) same)

from_one_along : (x : Context) (p q : Place) (es : List Entry) → 1 ≤ p.mark → Journal x p es q → 1 ≤ q.mark
from_one_along x p q [] one h = omega (arith, one, ap (λ (w : Place). w.mark) h)
from_one_along x p q (e ∷ es) one (mid, lead, h) = from_one_along x mid q es (from_one_on x p mid e lead.1 one) h

pub from_one : (l : Listing) (sites : List Site) (s : Records) → Lawful l sites s → 1 ≤ s.next_mark
from_one l sites s L = omega (arith, L.spells.mark, from_one_along (context l sites) (begin (source l)) L.place s.journal (omega arith) L.leads)

-- no entry makes a call
abbrev pub IsNoCall : Entry → Type 0
IsNoCall (Calls s k m args) = ⊥
IsNoCall _ = Unit {0}

abbrev pub AreNoCalls : List Entry → Type 0
AreNoCalls [] = Unit {0}
AreNoCalls (e ∷ es) = IsNoCall e × AreNoCalls es

same_calls : (p q : Place) (e : Entry) → IsNoCall e → CallsAfter p e q → q.calls ≡ p.calls
same_calls p q (Calls s k m args) none h = elim none [ ]
same_calls p q (End s) none h = h
same_calls p q (Fork s b c) none h = h
same_calls p q (Seq s b) none h = h
same_calls p q (Other s b) none h = h
same_calls p q (Def s b) none h = h
same_calls p q (entry.Void s) none h = h
same_calls p q (Open s c b d) none h = h
same_calls p q (Send s b v) none h = h
same_calls p q (Return k b v) none h = h
same_calls p q (ReturnHalt k) none h = h
same_calls p q (Bind s c v) none h = h
same_calls p q (Lost c) none h = h
same_calls p q (Right s b) none h = h
same_calls p q (Publish s v) none h = h
same_calls p q (Tick u) none h = h
same_calls p q (Cancel k) none h = h

pub journal_calls : (x : Context) (p q : Place) (es : List Entry) → AreNoCalls es → Journal x p es q → q.calls ≡ p.calls
journal_calls x p q [] none h = ap (λ (w : Place). w.calls) (sym h)
journal_calls x p q (e ∷ es) none (mid, lead, h) = journal_calls x mid q es none.1 h ∙ same_calls p mid e none.0 (calls_entered x p mid e lead.1)

-- the cancels of a bind are no calls
pub cancels_none : (ks : List ℕ) → AreNoCalls (map Cancel ks)
cancels_none [] = tt
cancels_none (k ∷ ks) = (tt, cancels_none ks)

value_self : (v : Value) → value_eq v v ≡ true
value_self (Number a) = (Decides-int_eq a a).1 refl
value_self (Truth true) = refl
value_self (Truth false) = refl
value_self Signal = refl

found_self : (f : Found) → found_eq f f ≡ true
found_self (After (Gives v) d) = λ i. value_self v i && eq-eqb d d refl i
found_self (After Halt d) = eq-eqb d d refl
found_self Never = refl

-- a new call's record, where it says what the table does
told_new : (sites : List Site) (ms : List CallMade) (m : ℕ) (args : List Value) (nth now : ℕ) (c : Call) → c.found ≡ find sites m args nth → (is_scripted sites m ≡ true → c.nth ≡ nth) → c.made_at ≡ now → is_told sites (record { number = c.number; site = m; args = args; nth = nth; at = now } ∷ ms) c ≡ true
told_new sites ms m args nth now c found which at =
    let same : found_eq (find sites m args nth) c.found ≡ true = ap (λ f. found_eq f c.found) (sym found) ∙ found_self c.found in
    λ i. cond (eq-eqb c.number c.number refl i) (same i && eq-eqb now c.made_at (sym at) i && nth_so (is_scripted sites m) which i) (is_told sites ms c)
  where
    nth_so : (b : Bool) → (b ≡ true → Call.nth c ≡ nth) → (not b || nat_eq nth (Call.nth c)) ≡ true
    nth_so true h = eq-eqb nth (Call.nth c) (sym (h refl))
    nth_so false h = refl

-- an older one's stays right
older : (sites : List Site) (ms : List CallMade) (made : CallMade) (d : Call) → number_of made ≡ suc (length (map number_of ms)) → AreCounted (map number_of ms) → not (is_told sites ms d) ≡ false → not (is_told sites (made ∷ ms) d) ≡ false
older sites ms made d first num h = go (nat_eq d.number made.number) refl
  where
    yes_not : (b : Bool) → not b ≡ false → b ≡ true
    yes_not true h = refl
    yes_not false h = cc h

    go : (b : Bool) → nat_eq d.number (CallMade.number made) ≡ b → not (cond b (found_eq (says_of sites made) d.found && nat_eq (CallMade.at made) d.made_at && is_nth sites made d.nth) (is_told sites ms d)) ≡ false
    go false e = h
    go true e =
        let w = told_is sites ms d (yes_not (is_told sites ms d) h) in
        absurd (next_not (map number_of ms) (map number_of ms) (number_of made) first num (subst (λ z. IsIn z (map number_of ms)) (w.is_k ∙ eqb-true d.number (CallMade.number made) e) (in_numbers w.by ms w.is_made)))

module _ (l : Listing) (sites : List Site) (s s' : Records) (L : Lawful l sites s) (L' : Lawful l sites s') where
  -- the journal that is added leads from the one place to the other
  pub added : (es : List Entry) → s'.journal ≡ s.journal ++ es → Journal (context l sites) L.place es L'.place
  added es e =
      let x = context l sites in
      let d = journal_parts x (begin (source l)) L'.place s.journal es (subst (λ z. Journal x (begin (source l)) z L'.place) e L'.leads) in
      subst (λ w. Journal x w es L'.place) (journal_one x (source l) [] (begin (source l)) d.0 L.place s.journal refl d.1 L.leads) d.2

  -- where no call comes, the others keep what they are told
  pub told-kept : (es : List Entry) → s'.journal ≡ s.journal ++ es → AreNoCalls es → ((w : Call → ℕ) → weight w s'.calls ≤ weight w s.calls) → AreTold sites L.place.calls s.calls → AreTold sites L'.place.calls s'.calls
  told-kept es e none fewer told =
      let same = journal_calls (context l sites) L.place L'.place es none (added es e) in
      subst (λ cs. AreTold sites cs s'.calls) (sym same) (omega (arith, fewer (only (λ c. not (is_told sites L.place.calls c)) (λ c. 1)), told))

  -- where no call comes, the calls stay counted
  pub counted-kept : (es : List Entry) → s'.journal ≡ s.journal ++ es → AreNoCalls es → (counts : List (List ℕ × ℕ)) → HaveCounts sites counts L.place.calls → HaveCounts sites counts L'.place.calls
  counted-kept es e none counts counted = subst (HaveCounts sites counts) (sym (journal_calls (context l sites) L.place L'.place es none (added es e))) counted

  -- a call that comes is counted
  pub counted-call : (serial k m : ℕ) (args : List Value) → s'.journal ≡ s.journal ++ Calls serial k m args ∷ [] → (counts counts' : List (List ℕ × ℕ)) → CountsCall sites m args counts counts' → HaveCounts sites counts L.place.calls → HaveCounts sites counts' L'.place.calls
  counted-call serial k m args e counts counts' more counted =
      let x = context l sites in
      let j = added (Calls serial k m args ∷ []) e in
      let made : CallMade = record { number = k; site = m; args = args; nth = nth_of m args L.place.calls; at = L.place.now } in
      let calls : L'.place.calls ≡ made ∷ L.place.calls = ap (λ (w : Place). w.calls) (sym j.2) ∙ calls_entered x L.place j.0 (Calls serial k m args) j.1.1 in
      subst (HaveCounts sites counts') (sym calls) (more L.place.calls made refl refl counted)

  -- a call that comes is told
  pub told-call : (serial : ℕ) (m : ℕ) (args : List Value) (c : Call) → s'.journal ≡ s.journal ++ Calls serial c.number m args ∷ []
      → c.number ≡ s.made + 1 → c.found ≡ find sites m args (nth_of m args L.place.calls) → (is_scripted sites m ≡ true → c.nth ≡ nth_of m args L.place.calls) → c.made_at ≡ s.now
      → ((w : Call → ℕ) → weight w s'.calls ≡ weight w s.calls + w c) → AreTold sites L.place.calls s.calls → AreTold sites L'.place.calls s'.calls
  told-call serial m args c e number found which at one told =
      let x = context l sites in
      let j = added (Calls serial c.number m args ∷ []) e in
      let made : CallMade = record { number = c.number; site = m; args = args; nth = nth_of m args L.place.calls; at = L.place.now } in
      let first : c.number ≡ suc (length (map number_of L.place.calls)) = omega (arith, number, L.spells.made, length-map L.place.calls number_of) in
      let mine : cond {A = ℕ} (not (is_told sites (made ∷ L.place.calls) c)) 1 0 ≡ 0 = ap (λ b. cond {A = ℕ} (not b) 1 0) (told_new sites L.place.calls m args (nth_of m args L.place.calls) L.place.now c found which (at ∙ sym L.spells.now)) in
      let calls : L'.place.calls ≡ made ∷ L.place.calls = ap (λ (w : Place). w.calls) (sym j.2) ∙ calls_entered x L.place j.0 (Calls serial c.number m args) j.1.1 in
      subst (λ cs. AreTold sites cs s'.calls) (sym calls) (omega (
        arith,
        one (only (λ d. not (is_told sites (made ∷ L.place.calls) d)) (λ d. 1)),
        none-weaker (λ d. not (is_told sites L.place.calls d)) (λ d. not (is_told sites (made ∷ L.place.calls) d)) s.calls told (λ d h. older sites L.place.calls made d first (numbered l sites s L).calls h),
        mine,
      ))

-- so the rules' word on when it is due, and with which answer, is the record's
module _ (l : Listing) (sites : List Site) (s : Records) (L : Lawful l sites s) (told : AreTold sites L.place.calls s.calls) where
  pub told-due : (c : Call) → IsIn c s.calls → (a : Answer) (t : ℕ) → IsDue sites L.place.calls c.number a t ↔ ((d : ℕ) × (c.found ≡ After a d) × (t ≡ c.made_at + d) × (t < 2 ^ 64))
  told-due c i a t = (there, back)
    where
      there : IsDue sites L.place.calls c.number a t → (d : ℕ) × (c.found ≡ After a d) × (t ≡ c.made_at + d) × (t < 2 ^ 64)
      there due =
          let w = told_in sites L.place.calls s.calls told c i in
          let same = one_call L.place.calls (numbered l sites s L).calls due.by w.by due.is_made w.is_made (due.is_k ∙ sym w.is_k) in
          (due.delay, sym w.says ∙ ap (says_of sites) (sym same) ∙ due.says, due.sum ∙ ap (λ z. z + due.delay) (ap (λ (m : CallMade). m.at) same ∙ w.at), due.fits)

      back : ((d : ℕ) × (c.found ≡ After a d) × (t ≡ c.made_at + d) × (t < 2 ^ 64)) → IsDue sites L.place.calls c.number a t
      back (d, says, sum, fits) =
          let w = told_in sites L.place.calls s.calls told c i in
          record { by = w.by; is_made = w.is_made; is_k = w.is_k; delay = d; says = w.says ∙ says; sum = sum ∙ ap (λ z. z + d) (sym w.at); fits = fits }
