-- What an entry uses up never comes back.
use Rattle.std.proofs.Common.{◌≡◌, ◌<◌, ◌≤◌, ℕ, List, [], ◌∷◌, refl, sym, ap, subst, inl, inr, ⊎_elim, arith}
use Rattle.orc_rules.specs.declared.param.Param.TheVariants.{Void}
use Rattle.orc_rules.specs.declared.entry.Entry.{Entry}
use Rattle.orc_rules.specs.declared.entry.Entry.TheVariants.{End, Fork, Seq, Other, Def, Open, Send, Call, Return, ReturnHalt, Bind, Lost, Right, Publish, Tick, Cancel}
use Rattle.orc_rules.specs.declared.entry.Entry.TheVariants as entry
use Rattle.orc_rules.specs.Term.{Term}
use Rattle.orc_rules.specs.Marked.{Marked, token, Replaces}
use Rattle.orc_rules.specs.Timed.{Context, IsIn}
use Rattle.orc_rules.specs.Journal.{Place, Enters, Journal}
use Rattle.orc_rules.specs.Numbered.{Name, mark, call, cell, once, times, IsGiven, IsNumbered, used_up, UsedUpForGood}
use Rattle.orc_rules.proofs.Numbered.{index, once_same, once_other, times_filled, times_replaced, times_part, times_emitted, entered_steps, entered_numbered, given_later}
use Rattle.orc_rules.proofs.Emitted.{stands}

-- the name stood before the entry and doesn't after it
record IsUsedUp (p q : Place) (n : Name) : Type 0 where
  stood : 0 < times n p.marked
  gone : times n q.marked ≡ 0

itself : (n : Name) → once n n ≡ 1
itself n = once_same n n refl

one_name : (p q : Place) (n m : Name) → IsUsedUp p q m → IsIn n (m ∷ []) → IsUsedUp p q n
one_name p q n m u (inl e) = subst (IsUsedUp p q) (sym e) u
one_name p q n m u (inr i) = elim i [ ]

new_mark : (p : Place) (s a : ℕ) → IsNumbered p → 0 < times (mark s) p.marked → p.mark ≤ a → once (mark s) (mark a) ≡ 0
new_mark p s a num lt le = once_other (mark s) (mark a) (λ e. let w : s ≡ a = ap index e in let g : s < p.mark = num.given (mark s) lt in omega (arith, w, g, le))

token_stood : (s : ℕ) {t : Term} {y m m' : Marked} {cs : List ℕ} → Replaces (token s t) y m cs m' → 0 < times (mark s) m
token_stood s r = omega (arith, times_part (mark s) r, itself (mark s))

entered_used : (x : Context) (p : Place) (e : Entry) (q : Place) (n : Name) → Enters x p e q → IsNumbered p → IsIn n (used_up e) → IsUsedUp p q n
entered_used x p (End s) q n h num i =
    one_name p q n (mark s) (record { stood = token_stood s h.part; gone = omega (arith, times_replaced (mark s) h.part, itself (mark s), num.single (mark s)) }) i
entered_used x p (Fork s a b) q n (f, g, ea, eb, h) num i =
    one_name p q n (mark s)
    (record {
      stood = token_stood s h.part;
      gone = omega (arith, times_replaced (mark s) h.part, itself (mark s), num.single (mark s), new_mark p s a num (token_stood s h.part) (omega (arith, ea)), new_mark p s b num (token_stood s h.part) (omega (arith, ea, eb)));
    }) i
entered_used x p (Seq s a) q n (f, g, z, ea, h) num i =
    one_name p q n (mark s) (record { stood = token_stood s h.part; gone = omega (arith, times_replaced (mark s) h.part, itself (mark s), num.single (mark s), new_mark p s a num (token_stood s h.part) (omega (arith, ea))) }) i
entered_used x p (Other s a) q n h num i = elim i [ ]
entered_used x p (Def s a) q n (e, ps, d, cs, ea, is, r, h) num i =
    one_name p q n (mark s) (record { stood = token_stood s r; gone = omega (arith, times_replaced (mark s) r, itself (mark s), num.single (mark s), new_mark p s a num (token_stood s r) (omega (arith, ea))) }) i
entered_used x p (entry.Void s) q n (t, cs, is, r, h) num i =
    one_name p q n (mark s) (record { stood = token_stood s r; gone = omega (arith, times_replaced (mark s) r, itself (mark s), num.single (mark s)) }) i
entered_used x p (Open s c a b) q n (f, g, z, cs, ec, ea, eb, r, h) num i =
    one_name p q n (mark s)
    (record {
      stood = token_stood s r;
      gone = omega (arith, times_replaced (mark s) r, itself (mark s), num.single (mark s), new_mark p s a num (token_stood s r) (omega (arith, ea)), new_mark p s b num (token_stood s r) (omega (arith, ea, eb)));
    }) i
entered_used x p (Send s a v) q n (ea, e, h) num i =
    one_name p q n (mark s) (record { stood = stands e; gone = omega (arith, times_emitted (mark s) e, itself (mark s), num.single (mark s), new_mark p s a num (stands e) (omega (arith, ea))) }) i
entered_used x p (Call s k m args) q n (ps, cs, ek, is, r, h) num i =
    one_name p q n (mark s) (record { stood = token_stood s r; gone = omega (arith, times_replaced (mark s) r, itself (mark s), num.single (mark s)) }) i
entered_used x p (Return k a v) q n (cs, ea, due, r, h) num i =
    one_name p q n (call k) (record { stood = omega (arith, times_part (call k) r, itself (call k)); gone = omega (arith, times_replaced (call k) r, itself (call k), num.single (call k)) }) i
entered_used x p (ReturnHalt k) q n (cs, due, r, h) num i =
    one_name p q n (call k) (record { stood = omega (arith, times_part (call k) r, itself (call k)); gone = omega (arith, times_replaced (call k) r, itself (call k), num.single (call k)) }) i
entered_used x p (Bind s c v) q n (e, h) num (inl i) =
    one_name p q n (mark s) (record { stood = stands e; gone = omega (arith, times_emitted (mark s) e, itself (mark s), num.single (mark s)) }) (inl i)
entered_used x p (Bind s c v) q n (e, h) num (inr i) =
    one_name p q n (cell c) (record { stood = omega (arith, times_emitted (cell c) e, itself (cell c)); gone = omega (arith, times_emitted (cell c) e, itself (cell c), num.single (cell c)) }) i
entered_used x p (Lost c) q n (f, g, cs, halted, r, h) num i =
    one_name p q n (cell c)
    (record {
      stood = omega (arith, times_part (cell c) r, itself (cell c));
      gone = omega (arith, times_replaced (cell c) r, itself (cell c), num.single (cell c), times_filled (cell c) Void c f);
    }) i
entered_used x p (Right s a) q n (f, g, cs, ea, halted, r, h) num i =
    let stood : 0 < times (mark s) p.marked = omega (arith, times_part (mark s) r, itself (mark s)) in
    one_name p q n (mark s) (record { stood = stood; gone = omega (arith, times_replaced (mark s) r, itself (mark s), num.single (mark s), new_mark p s a num stood (omega (arith, ea))) }) i
entered_used x p (Publish s v) q n (e, h) num i =
    one_name p q n (mark s) (record { stood = stands e; gone = omega (arith, times_emitted (mark s) e, itself (mark s), num.single (mark s)) }) i
entered_used x p (Tick t) q n h num i = elim i [ ]
entered_used x p (Cancel k) q n h num i = elim i [ ]

-- a name that was given out and doesn't stand
pub stays_gone : (x : Context) (p q : Place) (es : List Entry) (n : Name) → IsNumbered p → IsGiven p n → times n p.marked ≡ 0 → Journal x p es q → times n q.marked ≡ 0
stays_gone x p q [] n num g gone h = subst (λ (w : Place). times n w.marked ≡ 0) h gone
stays_gone x p q (e ∷ es) n num g gone (mid, lead, h) =
    let s = entered_steps x p e mid lead.1 num in
    stays_gone x mid q es n (entered_numbered x p e mid lead.1 num) (given_later p mid s.act s.counts n g) (⊎_elim (λ le. omega (arith, le, gone)) (λ y. absurd (y.2 g)) (s.grows n)) h

pub used_up_for_good : UsedUpForGood
used_up_for_good x p q r e es n num lead i h =
    let u = entered_used x p e q n lead.1 num i in
    let s = entered_steps x p e q lead.1 num in
    stays_gone x q r es n (entered_numbered x p e q lead.1 num) (given_later p q s.act s.counts n (num.given n u.stood)) u.gone h
