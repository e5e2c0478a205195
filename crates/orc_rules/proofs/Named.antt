-- A journal calls the program's sites alone.
use Rattle.std.proofs.Common.{◌≡◌, ℕ, zero, suc, List, [], ◌∷◌, Option, Some, None, length, sym, ap, subst, Bool, true, false, cond, nat_eq}
use Rattle.std.specs.Prelude.{slice_get}
use Rattle.orc_rules.specs.declared.value.Value.{Value}
use Rattle.orc_rules.specs.declared.param.Param.{Param}
use Rattle.orc_rules.specs.declared.param.Param.TheVariants.{Is, Cell, Void}
use Rattle.orc_rules.specs.declared.entry.Entry.{Entry}
use Rattle.orc_rules.specs.declared.entry.Entry.TheVariants.{End, Fork, Seq, Other, Def, Open, Send, Call, Return, ReturnHalt, Bind, Lost, Right, Publish, Tick, Cancel}
use Rattle.orc_rules.specs.declared.entry.Entry.TheVariants as entry
use Rattle.orc_rules.specs.Term.{Term, stop, param, site, call, par, seq, prune, other, pending, opened, Definition, put, fill, put_all}
use Rattle.orc_rules.specs.Step.{Act}
use Rattle.orc_rules.specs.Marked.{Marked, ended, token, in_call, in_par, in_seq, in_opened, in_other, fill_marked, Replaces, here, in_left, in_right, in_feeding, in_main, in_side, in_entered, Emits, emits, on_left, on_right, on_feeding, is_fed, on_main, on_side, is_bound, on_entered, passes}
use Rattle.orc_rules.specs.Text.{IsNamed}
use Rattle.orc_rules.specs.Timed.{Context}
use Rattle.orc_rules.specs.Journal.{Place, Enters, Journal}
use Rattle.orc_rules.specs.Named.{CallsWithin, BodiesCallWithin, MarksWithin, AreNamed, CallsAreNamed}

module _ (n : ℕ) where
  cond_within : (b : Bool) (f g : Term) → CallsWithin n f → CallsWithin n g → CallsWithin n (cond b f g)
  cond_within true f g a b = a
  cond_within false f g a b = b

  put_within : (q : Param) (x : ℕ) (f : Term) → CallsWithin n f → CallsWithin n (put q x f)
  put_within q x stop s = tt
  put_within q x (param p) s = tt
  put_within q x (site m ps) s = s
  put_within q x (call e ps) s = tt
  put_within q x (par f g) s = (put_within q x f s.0, put_within q x g s.1)
  put_within q x (seq f y g) s = (put_within q x f s.0, cond_within (nat_eq x y) g (put q x g) s.1 (put_within q x g s.1))
  put_within q x (prune f y g) s = (cond_within (nat_eq x y) f (put q x f) s.0 (put_within q x f s.0), put_within q x g s.1)
  put_within q x (other f g) s = (put_within q x f s.0, put_within q x g s.1)
  put_within q x (pending k) s = tt
  put_within q x (opened f c g) s = (put_within q x f s.0, put_within q x g s.1)

  fill_within : (w : Param) (c : ℕ) (f : Term) → CallsWithin n f → CallsWithin n (fill w c f)
  fill_within w c stop s = tt
  fill_within w c (param p) s = tt
  fill_within w c (site m ps) s = s
  fill_within w c (call e ps) s = tt
  fill_within w c (par f g) s = (fill_within w c f s.0, fill_within w c g s.1)
  fill_within w c (seq f y g) s = (fill_within w c f s.0, fill_within w c g s.1)
  fill_within w c (prune f y g) s = (fill_within w c f s.0, fill_within w c g s.1)
  fill_within w c (other f g) s = (fill_within w c f s.0, fill_within w c g s.1)
  fill_within w c (pending k) s = tt
  fill_within w c (opened f d g) s = (fill_within w c f s.0, fill_within w c g s.1)

  put_all_within : (xs : List ℕ) (ps : List Param) (f : Term) → CallsWithin n f → CallsWithin n (put_all xs ps f)
  put_all_within [] ps f s = s
  put_all_within (x ∷ xs) [] f s = s
  put_all_within (x ∷ xs) (p ∷ ps) f s = put_all_within xs ps (put p x f) (put_within p x f s)

  fill_marked_within : (w : Param) (c : ℕ) (m : Marked) → MarksWithin n m → MarksWithin n (fill_marked w c m)
  fill_marked_within w c ended s = tt
  fill_marked_within w c (token k t) s = fill_within w c t s
  fill_marked_within w c (in_call k) s = tt
  fill_marked_within w c (in_par f g) s = (fill_marked_within w c f s.0, fill_marked_within w c g s.1)
  fill_marked_within w c (in_seq f x g) s = (fill_marked_within w c f s.0, fill_within w c g s.1)
  fill_marked_within w c (in_opened f d g) s = (fill_marked_within w c f s.0, fill_marked_within w c g s.1)
  fill_marked_within w c (in_other m f g) s = (fill_marked_within w c f s.0, fill_within w c g s.1)

  replaced_within : {x y m m' : Marked} {cs : List ℕ} → (MarksWithin n x → MarksWithin n y) → Replaces x y m cs m' → MarksWithin n m → MarksWithin n m'
  replaced_within k here s = k s
  replaced_within k (in_left r) s = (replaced_within k r s.0, s.1)
  replaced_within k (in_right r) s = (s.0, replaced_within k r s.1)
  replaced_within k (in_feeding r) s = (replaced_within k r s.0, s.1)
  replaced_within k (in_main r) s = (replaced_within k r s.0, s.1)
  replaced_within k (in_side r) s = (s.0, replaced_within k r s.1)
  replaced_within k (in_entered r) s = (replaced_within k r s.0, s.1)

  -- what is replaced was there
  part_within : {x y m m' : Marked} {cs : List ℕ} → Replaces x y m cs m' → MarksWithin n m → MarksWithin n x
  part_within here s = s
  part_within (in_left r) s = part_within r s.0
  part_within (in_right r) s = part_within r s.1
  part_within (in_feeding r) s = part_within r s.0
  part_within (in_main r) s = part_within r s.0
  part_within (in_side r) s = part_within r s.1
  part_within (in_entered r) s = part_within r s.0

  emits_within : {s a : ℕ} {v : Value} {m m' : Marked} {b : Act} → Emits s a v m b m' → MarksWithin n m → MarksWithin n m'
  emits_within emits s = tt
  emits_within (on_left e) s = (emits_within e s.0, s.1)
  emits_within (on_right e) s = (s.0, emits_within e s.1)
  emits_within (on_feeding i e) s = (emits_within e s.0, s.1)
  emits_within {v = v} (is_fed {z = z} {g = g} e) s = ((emits_within e s.0, s.1), put_within (Is v) z g s.1)
  emits_within (on_main e) s = (emits_within e s.0, s.1)
  emits_within (on_side i e) s = (s.0, emits_within e s.1)
  emits_within {v = v} (is_bound {f = f} {c = c} e) s = fill_marked_within (Is v) c f s.0
  emits_within (on_entered i e) s = (emits_within e s.0, s.1)
  emits_within (passes e) s = emits_within e s.0

  body_within : (ds : List Definition) (e : ℕ) (d : Definition) → BodiesCallWithin n ds → slice_get ds e ≡ Some d → CallsWithin n d.body
  body_within [] e d s h = cc h
  body_within (b ∷ ds) zero d s h = let is : b ≡ d = some_is b d h in subst (λ (w : Definition). CallsWithin n w.body) is s.0
    where
      or_that : Definition → Option Definition → Definition
      or_that z (Some w) = w
      or_that z None = z

      some_is : (b d : Definition) → Some b ≡ Some d → b ≡ d
      some_is b d h = ap (or_that b) h
  body_within (b ∷ ds) (suc e) d s h = body_within ds e d s.1 h

  entered_within : (x : Context) (p : Place) (e : Entry) (q : Place) → BodiesCallWithin n x.definitions → Enters x p e q → MarksWithin n p.marked → MarksWithin n q.marked
  entered_within x p (End s) q ds h src = replaced_within (λ k. tt) h.part src
  entered_within x p (Fork s a b) q ds (f, g, ea, eb, h) src = replaced_within (λ k. k) h.part src
  entered_within x p (Seq s a) q ds (f, g, z, ea, h) src = replaced_within (λ k. k) h.part src
  entered_within x p (Other s a) q ds (f, g, ea, h) src = replaced_within (λ k. k) h.part src
  entered_within x p (Def s a) q ds (e, ps, d, cs, ea, is, r, h) src = replaced_within (λ k. put_all_within d.params ps d.body (body_within x.definitions e d ds is)) r src
  entered_within x p (entry.Void s) q ds (t, cs, is, r, h) src = replaced_within (λ k. tt) r src
  entered_within x p (Open s c a b) q ds (f, g, z, cs, ec, ea, eb, r, h) src = replaced_within (λ k. (put_within (Cell c) z f k.0, k.1)) r src
  entered_within x p (Send s a v) q ds (ea, e, h) src = emits_within e src
  entered_within x p (Call s k m args) q ds (ps, cs, ek, is, r, h) src = replaced_within (λ k. tt) r src
  entered_within x p (Return k a v) q ds (cs, ea, due, r, h) src = replaced_within (λ k. tt) r src
  entered_within x p (ReturnHalt k) q ds (cs, due, r, h) src = replaced_within (λ k. tt) r src
  entered_within x p (Bind s c v) q ds (e, h) src = emits_within e src
  entered_within x p (Lost c) q ds (f, g, cs, halted, r, h) src = replaced_within (λ k. fill_marked_within Void c f k.0) r src
  entered_within x p (Right s a) q ds (f, g, cs, ea, halted, r, h) src = replaced_within (λ k. k.1) r src
  entered_within x p (Publish s v) q ds (e, h) src = emits_within e src
  entered_within x p (Tick t) q ds (tick, same) src = subst (λ (w : Place). MarksWithin n w.marked) (sym same) src
  entered_within x p (Cancel k) q ds (due, same) src = subst (MarksWithin n) (sym (ap (λ (w : Place). w.marked) same)) src

-- a call is of a site that stood under a mark
entry_named : (x : Context) (names : List (List ℕ)) (p : Place) (e : Entry) (q : Place) → Enters x p e q → MarksWithin (length names) p.marked → IsNamed names e
entry_named x names p (End s) q h src = tt
entry_named x names p (Fork s a b) q h src = tt
entry_named x names p (Seq s a) q h src = tt
entry_named x names p (Other s a) q h src = tt
entry_named x names p (Def s a) q h src = tt
entry_named x names p (entry.Void s) q h src = tt
entry_named x names p (Open s c a b) q h src = tt
entry_named x names p (Send s a v) q h src = tt
entry_named x names p (Call s k m args) q (ps, cs, ek, is, r, h) src = part_within (length names) r src
entry_named x names p (Return k a v) q h src = tt
entry_named x names p (ReturnHalt k) q h src = tt
entry_named x names p (Bind s c v) q h src = tt
entry_named x names p (Lost c) q h src = tt
entry_named x names p (Right s a) q h src = tt
entry_named x names p (Publish s v) q h src = tt
entry_named x names p (Tick t) q h src = tt
entry_named x names p (Cancel k) q h src = tt

journal_named : (x : Context) (names : List (List ℕ)) (p q : Place) (es : List Entry) → BodiesCallWithin (length names) x.definitions → Journal x p es q → MarksWithin (length names) p.marked → AreNamed names es
journal_named x names p q [] ds h src = tt
journal_named x names p q (e ∷ es) ds (mid, lead, h) src =
    (entry_named x names p e mid lead.1 src, journal_named x names mid q es ds h (entered_within (length names) x p e mid ds lead.1 src))

pub calls_are_named : CallsAreNamed
calls_are_named x t names es p src ds h = journal_named x names _ p es ds h src
