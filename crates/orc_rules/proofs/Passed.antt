-- An otherwise whose left side has published is gone.
use Rattle.std.proofs.Common.{◌≡◌, ◌<◌, ◌≤◌, ℕ, List, refl, ap, subst, arith}
use Rattle.orc_rules.specs.declared.value.Value.{Value}
use Rattle.orc_rules.specs.declared.param.Param.TheVariants.{Is}
use Rattle.orc_rules.specs.declared.entry.Entry.{Entry}
use Rattle.orc_rules.specs.declared.entry.Entry.TheVariants.{End, Fork, Seq, Other, Def, Open, Send, Call, Return, ReturnHalt, Bind, Lost, Right, Publish, Tick, Cancel}
use Rattle.orc_rules.specs.declared.entry.Entry.TheVariants as entry
use Rattle.orc_rules.specs.Term.{Term}
use Rattle.orc_rules.specs.Step.{Act, publishes, binds, silent, IsInner}
use Rattle.orc_rules.specs.Marked.{Marked, in_other, Replaces, here, in_left, in_right, in_feeding, in_main, in_side, in_entered, Emits, on_left, on_right, on_feeding, is_fed, on_main, on_side, is_bound, on_entered, passes}
use Rattle.orc_rules.specs.Timed.{Context}
use Rattle.orc_rules.specs.Journal.{Place, Enters}
use Rattle.orc_rules.specs.Numbered.{mark, once, times}
use Rattle.orc_rules.specs.Otherwise.{Publishes, NoRightAfter}
use Rattle.orc_rules.proofs.Numbered.{once_same, once_other, times_part, times_filled, times_emitted, entered_steps, entered_numbered, given_later, index}
use Rattle.orc_rules.proofs.Emitted.{stands, same_taker}
use Rattle.orc_rules.proofs.UsedUp.{stays_gone}

module _ (s a n : ℕ) (v : Value) (new : once (mark n) (mark a) ≡ 0) (f f' : Marked) (g : Term) (by : Emits s a v f (publishes v) f') where
  -- the token stands in each part that holds the otherwise, and so does the otherwise's number
  token_in : {w m m' : Marked} {cs : List ℕ} → Replaces (in_other n f g) w m cs m' → 0 < times (mark s) m
  token_in r = omega (arith, stands by, times_part (mark s) r)

  number_in : {w m m' : Marked} {cs : List ℕ} → Replaces (in_other n f g) w m cs m' → 0 < times (mark n) m
  number_in r = omega (arith, once_same (mark n) (mark n) refl, times_part (mark n) r)

  inner_not : {b : Act} → IsInner b → b ≡ publishes v → ⊥
  inner_not i e = subst IsInner e i

  passed_gone : {w m m1 m' : Marked} {cs : List ℕ} {b : Act} → Replaces (in_other n f g) w m cs m1 → Emits s a v m b m' → times (mark s) m ≤ 1 → times (mark n) m ≤ 1 → times (mark n) m' ≡ 0
  passed_gone here (on_entered i e) one only = absurd (inner_not i (same_taker e by (omega (arith, one))))
  passed_gone here (passes e) one only = omega (arith, only, once_same (mark n) (mark n) refl, times_emitted (mark n) e)
  passed_gone (in_left r) (on_left e) one only = omega (arith, passed_gone r e (omega (arith, one)) (omega (arith, only)), number_in r, only)
  passed_gone (in_left r) (on_right e) one only = absurd (omega (arith, one, token_in r, stands e))
  passed_gone (in_right r) (on_left e) one only = absurd (omega (arith, one, token_in r, stands e))
  passed_gone (in_right r) (on_right e) one only = omega (arith, passed_gone r e (omega (arith, one)) (omega (arith, only)), number_in r, only)
  passed_gone (in_feeding r) (on_feeding i e) one only = passed_gone r e one only
  passed_gone (in_feeding r) (is_fed e) one only = omega (arith, passed_gone r e one only, new)
  passed_gone (in_main r) (on_main e) one only = omega (arith, passed_gone r e (omega (arith, one)) (omega (arith, only)), number_in r, only)
  passed_gone (in_main r) (on_side i e) one only = absurd (omega (arith, one, token_in r, stands e))
  passed_gone (in_main r) (is_bound e) one only = absurd (omega (arith, one, token_in r, stands e))
  passed_gone (in_side r) (on_main e) one only = absurd (omega (arith, one, token_in r, stands e))
  passed_gone (in_side r) (on_side i e) one only = omega (arith, passed_gone r e (omega (arith, one)) (omega (arith, only)), number_in r, only)
  passed_gone (in_side r) (is_bound {f = h} {c = c} e) one only = omega (arith, times_filled (mark n) (Is v) c h, number_in r, only)
  passed_gone (in_entered r) (on_entered i e) one only = omega (arith, passed_gone r e (omega (arith, one)) (omega (arith, only)), number_in r, only)
  passed_gone (in_entered r) (passes e) one only = passed_gone r e (omega (arith, one)) (omega (arith, only))

-- the entry's publication, as one of the token
emits_of : (x : Context) (p q : Place) (e : Entry) (s : ℕ) (v : Value) → Publishes e s v → Enters x p e q → (b : Act) × Emits s p.mark v p.marked b q.marked
emits_of x p q (Send r a w) s v (es, ev) (ea, h, acts) = (silent, subst (λ t. Emits t p.mark v p.marked silent q.marked) es (subst (λ t. Emits r p.mark t p.marked silent q.marked) ev (subst (λ t. Emits r t w p.marked silent q.marked) ea h)))
emits_of x p q (Bind r c w) s v (es, ev) (h, acts) = (binds c w, subst (λ t. Emits t p.mark v p.marked (binds c w) q.marked) es (subst (λ t. Emits r p.mark t p.marked (binds c w) q.marked) ev h))
emits_of x p q (Publish r w) s v (es, ev) (h, acts) = (publishes w, subst (λ t. Emits t p.mark v p.marked (publishes w) q.marked) es (subst (λ t. Emits r p.mark t p.marked (publishes w) q.marked) ev h))
emits_of x p q (End r) s v h k = elim h [ ]
emits_of x p q (Fork r a b) s v h k = elim h [ ]
emits_of x p q (Seq r a) s v h k = elim h [ ]
emits_of x p q (Other r a) s v h k = elim h [ ]
emits_of x p q (Def r a) s v h k = elim h [ ]
emits_of x p q (entry.Void r) s v h k = elim h [ ]
emits_of x p q (Open r c a b) s v h k = elim h [ ]
emits_of x p q (Call r j m args) s v h k = elim h [ ]
emits_of x p q (Return j a w) s v h k = elim h [ ]
emits_of x p q (ReturnHalt j) s v h k = elim h [ ]
emits_of x p q (Lost c) s v h k = elim h [ ]
emits_of x p q (Right r a) s v h k = elim h [ ]
emits_of x p q (Tick t) s v h k = elim h [ ]
emits_of x p q (Cancel j) s v h k = elim h [ ]

pub no_right_after : NoRightAfter
no_right_after x p q r e es s n v num pub_ (f, f', g, (cs, at), by) lead h a u (o, (ff, gg, ds, ea, halted, part, acts)) =
    let number : 0 < times (mark n) p.marked = omega (arith, once_same (mark n) (mark n) refl, times_part (mark n) at) in
    let new : once (mark n) (mark p.mark) ≡ 0 = once_other (mark n) (mark p.mark) (λ y. let w : n ≡ p.mark = ap index y in let l : n < p.mark = num.given (mark n) number in omega (arith, w, l)) in
    let em = emits_of x p q e s v pub_ lead.1 in
    let gone = passed_gone s p.mark n v new f f' g by at em.1 (num.single (mark s)) (num.single (mark n)) in
    let k = entered_steps x p e q lead.1 num in
    let never = stays_gone x q r es (mark n) (entered_numbered x p e q lead.1 num) (given_later p q k.act k.counts (mark n) (num.given (mark n) number)) gone h in
    omega (arith, never, once_same (mark n) (mark n) refl, times_part (mark n) part)
