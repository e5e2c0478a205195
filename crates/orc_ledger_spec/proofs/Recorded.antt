-- The entry of a pending call tells what it asks: the journal's call with its number has that site and those arguments.
use Rattle.std.proofs.Common.{◌≡◌, ℕ, zero, suc, List, [], ◌∷◌, Bool, true, false, not, Option, Some, None, refl, sym, ap, ◌∙◌, subst, inl, inr}
use Rattle.std.proofs.lemmas.Bool.{eqb-true}
use Rattle.std.specs.Prelude.{slice_get}
use Rattle.orc_rules.specs.declared.value.Value.{Value}
use Rattle.orc_rules.specs.declared.entry.Entry.{Entry}
use Rattle.orc_rules.specs.declared.entry.Entry.TheVariants.{Call as Calls}
use Rattle.orc_rules.specs.Nodes.{Listing, source}
use Rattle.orc_rules.specs.Sites.{Site, is_scripted}
use Rattle.orc_rules.specs.Timed.{Context, CallMade, IsIn, nth_of}
use Rattle.orc_rules.specs.Journal.{Place, Enters, Journal, begin}
use Rattle.orc_ledger_spec.specs.Kept.{Kept}
use Rattle.orc_ledger_spec.specs.Records.{Records, context, is_call, is_written}
use Rattle.orc_ledger_spec.specs.Requests.{IsAsked}
use Rattle.orc_tables.specs.declared.records.Call.{Call}
use Rattle.orc_ledger_spec.proofs.Keeping.{CallsAfter, calls_entered}
use Rattle.orc_ledger_spec.proofs.Lists.{numbered}
use Rattle.orc_ledger_spec.proofs.Telling.{told_in, one_call}
use Rattle.orc_indexes.proofs.Weight.{none-in}

-- what was made stays made
after-in : (p q : Place) (e : Entry) → CallsAfter p e q → (c : CallMade) → IsIn c p.calls → IsIn c q.calls
after-in p q (Calls s k m args) h c i = subst (λ z. IsIn c z) (sym h) (inr i)
after-in p q _ h c i = subst (λ z. IsIn c z) (sym h) i

made-along : (x : Context) (p q : Place) (es : List Entry) → Journal x p es q → (c : CallMade) → IsIn c p.calls → IsIn c q.calls
made-along x p q [] h c i = subst (λ (w : Place). IsIn c w.calls) h i
made-along x p q (e ∷ es) (mid, lead, h) c i = made-along x mid q es h c (after-in p mid e (calls_entered x p mid e lead.1) c i)

entry-or : Entry → Option Entry → Entry
entry-or d (Some e) = e
entry-or d None = d

-- the call of an entry
recorded : (x : Context) (p q : Place) (es : List Entry) → Journal x p es q → (i t k m : ℕ) (args : List Value) → slice_get es i ≡ Some (Calls t k m args) → (by : CallMade) × IsIn by q.calls × (by.number ≡ k) × (by.site ≡ m) × (by.args ≡ args)
unfolding entry-or
recorded x p q [] h i t k m args is = cc is
recorded x p q (e ∷ es) (mid, lead, h) zero t k m args is =
    let same : e ≡ Calls t k m args = ap (entry-or e) is in
    let made : CallMade = record { number = k; site = m; args = args; nth = nth_of m args p.calls; at = p.now } in
    let calls : mid.calls ≡ made ∷ p.calls = calls_entered x p mid (Calls t k m args) (subst (λ z. Enters x p z mid) same lead.1) in
    (made, made-along x mid q es h made (subst (λ z. IsIn made z) (sym calls) (inl refl)), refl, refl, refl)
recorded x p q (e ∷ es) (mid, lead, h) (suc i) t k m args is = recorded x mid q es h i t k m args is

not-false : (b : Bool) → not b ≡ false → b ≡ true
not-false true h = refl
not-false false h = cc h

-- nothing else is the entry of a call
pub some-only : (k : ℕ) (o : Option Entry) → is_call k o ≡ true → o ≡ None → ⊥
some-only k (Some e) h none = cc none
some-only k None h none = cc h

pub call-only : (k : ℕ) (e : Entry) → is_call k (Some e) ≡ true → ((t j m : ℕ) (args : List Value) → e ≡ Calls t j m args → ⊥) → ⊥
call-only k (Calls t j m args) h off = off t j m args refl
call-only k _ h off = cc h

module _ (l : Listing) (sites : List Site) (counts : List (List ℕ × ℕ)) (sizes : List ℕ) (s : Records) (K : Kept l sites counts sizes s) (call : Call) (i : IsIn call s.calls) where
  pub entry-there : is_call call.number (slice_get s.journal call.row) ≡ true
  entry-there = not-false (is_written s.journal call) (none-in (λ c. not (is_written s.journal c)) s.calls call K.lawful.written i)

  pub asked-there : (k t j m : ℕ) (args : List Value) → call.number ≡ k → slice_get s.journal call.row ≡ Some (Calls t j m args) → IsAsked l sites s k (record { site = m; args = args; made_at = call.made_at; nth = call.nth })
  asked-there k t j m args number is =
      let calls = K.lawful.place.calls in
      let r = recorded (context l sites) (begin (source l)) K.lawful.place s.journal K.lawful.leads call.row t j m args is in
      let w = told_in sites calls s.calls K.told call i in
      let its : call.number ≡ j = eqb-true call.number j (sym (ap (is_call call.number) is) ∙ entry-there) in
      let same : r.0 ≡ w.by = one_call calls (numbered l sites s K.lawful).calls r.0 w.by r.1 w.is_made (r.2 ∙ sym its ∙ sym w.is_k) in
      record {
        call = call;
        pends = (i, number);
        place = K.lawful.place;
        at = K.lawful.leads;
        by = r.0;
        is_made = r.1;
        number = r.2 ∙ sym its ∙ number;
        site = sym r.3;
        args = sym r.4;
        made_at = sym (ap (λ (b : CallMade). b.at) same ∙ w.at);
        nth = λ h. sym (ap (λ (b : CallMade). b.nth) same ∙ w.nth (ap (λ (b : CallMade). is_scripted sites b.site) (sym same) ∙ h));
      }
