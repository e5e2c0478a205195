-- A journal keeps a source's terms under the marks.
use Rattle.std.proofs.Common.{◌≡◌, ℕ, zero, suc, List, [], ◌∷◌, Option, Some, None, sym, ap, subst, Bool, true, false, cond, nat_eq}
use Rattle.std.specs.Prelude.{slice_get}
use Rattle.orc_rules.specs.declared.value.Value.{Value}
use Rattle.orc_rules.specs.declared.param.Param.{Param}
use Rattle.orc_rules.specs.declared.param.Param.TheVariants.{Is, Cell, Void}
use Rattle.orc_rules.specs.declared.entry.Entry.{Entry}
use Rattle.orc_rules.specs.declared.entry.Entry.TheVariants.{End, Fork, Seq, Other, Def, Open, Send, Call, Return, ReturnHalt, Bind, Lost, Right, Publish, Tick, Cancel}
use Rattle.orc_rules.specs.declared.entry.Entry.TheVariants as entry
use Rattle.orc_rules.specs.Term.{Term, stop, param, site, call, par, seq, prune, other, pending, opened, Definition, put, fill, put_all}
use Rattle.orc_rules.specs.Step.{Act}
use Rattle.orc_rules.specs.Marked.{Marked, ended, token, in_call, in_par, in_seq, in_opened, in_other, erase, fill_marked, Replaces, here, in_left, in_right, in_feeding, in_main, in_side, in_entered, Emits, emits, on_left, on_right, on_feeding, is_fed, on_main, on_side, is_bound, on_entered, passes}
use Rattle.orc_rules.specs.Timed.{Context}
use Rattle.orc_rules.specs.Journal.{Place, Enters, Journal, begin}
use Rattle.orc_rules.specs.Lost.{IsSource, HoldsSource, AreSource, NothingLostFrom, JournalHoldsSource}
use Rattle.orc_rules.proofs.Lost.{nothing_lost}
use Rattle.orc_rules.proofs.Dropped.{cancels_exist}

cond_source : (b : Bool) (f g : Term) → IsSource f → IsSource g → IsSource (cond b f g)
cond_source true f g a b = a
cond_source false f g a b = b

pub put_source : (q : Param) (x : ℕ) (f : Term) → IsSource f → IsSource (put q x f)
put_source q x stop s = tt
put_source q x (param p) s = tt
put_source q x (site m ps) s = tt
put_source q x (call e ps) s = tt
put_source q x (par f g) s = (put_source q x f s.0, put_source q x g s.1)
put_source q x (seq f y g) s = (put_source q x f s.0, cond_source (nat_eq x y) g (put q x g) s.1 (put_source q x g s.1))
put_source q x (prune f y g) s = (cond_source (nat_eq x y) f (put q x f) s.0 (put_source q x f s.0), put_source q x g s.1)
put_source q x (other f g) s = (put_source q x f s.0, put_source q x g s.1)
put_source q x (pending k) s = s
put_source q x (opened f c g) s = elim s [ ]

pub fill_source : (w : Param) (c : ℕ) (f : Term) → IsSource f → IsSource (fill w c f)
fill_source w c stop s = tt
fill_source w c (param p) s = tt
fill_source w c (site m ps) s = tt
fill_source w c (call e ps) s = tt
fill_source w c (par f g) s = (fill_source w c f s.0, fill_source w c g s.1)
fill_source w c (seq f y g) s = (fill_source w c f s.0, fill_source w c g s.1)
fill_source w c (prune f y g) s = (fill_source w c f s.0, fill_source w c g s.1)
fill_source w c (other f g) s = (fill_source w c f s.0, fill_source w c g s.1)
fill_source w c (pending k) s = s
fill_source w c (opened f d g) s = elim s [ ]

pub put_all_source : (xs : List ℕ) (ps : List Param) (f : Term) → IsSource f → IsSource (put_all xs ps f)
put_all_source [] ps f s = s
put_all_source (x ∷ xs) [] f s = s
put_all_source (x ∷ xs) (p ∷ ps) f s = put_all_source xs ps (put p x f) (put_source p x f s)

pub fill_marked_source : (w : Param) (c : ℕ) (m : Marked) → HoldsSource m → HoldsSource (fill_marked w c m)
fill_marked_source w c ended s = tt
fill_marked_source w c (token k t) s = fill_source w c t s
fill_marked_source w c (in_call k) s = tt
fill_marked_source w c (in_par f g) s = (fill_marked_source w c f s.0, fill_marked_source w c g s.1)
fill_marked_source w c (in_seq f x g) s = (fill_marked_source w c f s.0, fill_source w c g s.1)
fill_marked_source w c (in_opened f d g) s = (fill_marked_source w c f s.0, fill_marked_source w c g s.1)
fill_marked_source w c (in_other n f g) s = (fill_marked_source w c f s.0, fill_source w c g s.1)

pub replaced_source : {x y m m' : Marked} {cs : List ℕ} → (HoldsSource x → HoldsSource y) → Replaces x y m cs m' → HoldsSource m → HoldsSource m'
replaced_source k here s = k s
replaced_source k (in_left r) s = (replaced_source k r s.0, s.1)
replaced_source k (in_right r) s = (s.0, replaced_source k r s.1)
replaced_source k (in_feeding r) s = (replaced_source k r s.0, s.1)
replaced_source k (in_main r) s = (replaced_source k r s.0, s.1)
replaced_source k (in_side r) s = (s.0, replaced_source k r s.1)
replaced_source k (in_entered r) s = (replaced_source k r s.0, s.1)

pub emits_source : {s a : ℕ} {v : Value} {m m' : Marked} {b : Act} → Emits s a v m b m' → HoldsSource m → HoldsSource m'
emits_source emits s = tt
emits_source (on_left e) s = (emits_source e s.0, s.1)
emits_source (on_right e) s = (s.0, emits_source e s.1)
emits_source (on_feeding i e) s = (emits_source e s.0, s.1)
emits_source {v = v} (is_fed {z = z} {g = g} e) s = ((emits_source e s.0, s.1), put_source (Is v) z g s.1)
emits_source (on_main e) s = (emits_source e s.0, s.1)
emits_source (on_side i e) s = (s.0, emits_source e s.1)
emits_source {v = v} (is_bound {f = f} {c = c} e) s = fill_marked_source (Is v) c f s.0
emits_source (on_entered i e) s = (emits_source e s.0, s.1)
emits_source (passes e) s = emits_source e s.0

pub body_source : (ds : List Definition) (e : ℕ) (d : Definition) → AreSource ds → slice_get ds e ≡ Some d → IsSource d.body
body_source [] e d s h = cc h
body_source (b ∷ ds) zero d s h = let is : b ≡ d = some_is b d h in subst (λ (w : Definition). IsSource w.body) is s.0
  where
    or_that : Definition → Option Definition → Definition
    or_that z (Some w) = w
    or_that z None = z

    some_is : (b d : Definition) → Some b ≡ Some d → b ≡ d
    some_is b d h = ap (or_that b) h
body_source (b ∷ ds) (suc e) d s h = body_source ds e d s.1 h

pub entered_source : (x : Context) (p : Place) (e : Entry) (q : Place) → AreSource x.definitions → Enters x p e q → HoldsSource p.marked → HoldsSource q.marked
entered_source x p (End s) q ds h src = replaced_source (λ k. tt) h.part src
entered_source x p (Fork s a b) q ds (f, g, ea, eb, h) src = replaced_source (λ k. k) h.part src
entered_source x p (Seq s a) q ds (f, g, z, ea, h) src = replaced_source (λ k. k) h.part src
entered_source x p (Other s a) q ds (f, g, ea, h) src = replaced_source (λ k. k) h.part src
entered_source x p (Def s a) q ds (e, ps, d, cs, ea, is, r, h) src = replaced_source (λ k. put_all_source d.params ps d.body (body_source x.definitions e d ds is)) r src
entered_source x p (entry.Void s) q ds (t, cs, is, r, h) src = replaced_source (λ k. tt) r src
entered_source x p (Open s c a b) q ds (f, g, z, cs, ec, ea, eb, r, h) src = replaced_source (λ k. (put_source (Cell c) z f k.0, k.1)) r src
entered_source x p (Send s a v) q ds (ea, e, h) src = emits_source e src
entered_source x p (Call s k m args) q ds (ps, cs, ek, is, r, h) src = replaced_source (λ k. tt) r src
entered_source x p (Return k a v) q ds (cs, ea, due, r, h) src = replaced_source (λ k. tt) r src
entered_source x p (ReturnHalt k) q ds (cs, due, r, h) src = replaced_source (λ k. tt) r src
entered_source x p (Bind s c v) q ds (e, h) src = emits_source e src
entered_source x p (Lost c) q ds (f, g, cs, halted, r, h) src = replaced_source (λ k. fill_marked_source Void c f k.0) r src
entered_source x p (Right s a) q ds (f, g, cs, ea, halted, r, h) src = replaced_source (λ k. k.1) r src
entered_source x p (Publish s v) q ds (e, h) src = emits_source e src
entered_source x p (Tick t) q ds (tick, same) src = subst (λ (w : Place). HoldsSource w.marked) (sym same) src
entered_source x p (Cancel k) q ds (due, same) src = subst HoldsSource (sym (ap (λ (w : Place). w.marked) same)) src

pub journal_source : (x : Context) (p q : Place) (es : List Entry) → AreSource x.definitions → Journal x p es q → HoldsSource p.marked → HoldsSource q.marked
journal_source x p q [] ds h src = subst (λ (w : Place). HoldsSource w.marked) h src
journal_source x p q (e ∷ es) ds (mid, lead, h) src = journal_source x mid q es ds h (entered_source x p e mid ds lead.1 src)

pub nothing_lost_from : NothingLostFrom
nothing_lost_from x t es p a u ds src h o next timely step =
    let w = cancels_exist x a (erase p.marked) u in
    (w.0, w.1, nothing_lost x p a u w.0 (journal_source x (begin t) p es ds h src) o next timely step w.1)

pub journal_holds_source : JournalHoldsSource
journal_holds_source x t es p ds src h = journal_source x (begin t) p es ds h src
