-- Which entries fit what a token stands on.
use Rattle.std.proofs.Common.{◌≡◌, ◌≤◌, ℕ, List, [], ◌∷◌, Option, Some, None, refl, sym, ap, ◌∙◌, subst, Bool, true, false, nat_eq, eqb-true, eq-eqb, inl, inr}
use Rattle.std.specs.Prelude.{slice_get, is_some, ◌&&◌}
use Rattle.std.specs.Bool.{Decides}
use Rattle.std.specs.Ordering.{int_eq}
use Rattle.std.proofs.lemmas.Bool.Decides.{Decides-int_eq, Decides-and, Decides-like}
use Rattle.orc_rules.specs.declared.value.Value.{Value}
use Rattle.orc_rules.specs.declared.value.Value.TheVariants.{Number, Truth, Signal}
use Rattle.orc_rules.specs.declared.param.Param.{Param}
use Rattle.orc_rules.specs.declared.param.Param.TheVariants.{Name, Is, Cell, Void}
use Rattle.orc_rules.specs.declared.entry.Entry.{Entry}
use Rattle.orc_rules.specs.declared.entry.Entry.TheVariants as entry
use Rattle.orc_rules.specs.Term.{Term, Definition, stop, param, site, call, par, seq, prune, other, values_of, HasVoid}
use Rattle.orc_rules.specs.Sites.{value_eq}
use Rattle.orc_rules.specs.Idle.{has_void}
use Rattle.orc_rules.specs.Step.{Act, silent, publishes, binds}
use Rattle.orc_rules.specs.Marked.{Marked, token, Emits}
use Rattle.orc_rules.specs.Numbered.{mark, times}
use Rattle.orc_rules.specs.Timed.{Context}
use Rattle.orc_rules.specs.Journal.{Place, IsVoid}
use Rattle.orc_rules.specs.Refusal.{Stands, HasToken, Fits}
use Rattle.orc_rules.proofs.Standing.{token_one, emits_token, act_one}
use Rattle.orc_term.specs.declared.walk.Taker.{Taker}
use Rattle.orc_term.specs.declared.walk.Taker.TheVariants.{Whole, Fed, Bound}
use Rattle.orc_term.specs.Rising.{act_of}
use Rattle.orc_env.proofs.Scopes.{values-more}
use Rattle.orc_verdict.specs.declared.position.Standing.TheVariants.{Nothing, On}
use Rattle.orc_verdict.specs.Standing.{are_these, summary, mark_of, args_of, is_sent, is_bound, is_whole, is_value, is_void, is_call, is_stop, is_par, is_seq, is_prune, is_other, is_known, fits_as}

-- two values that are the same
number_is : (a b : _) → Number a ≡ Number b → a ≡ b
number_is a b e = cc e

pub value_decides : (v w : Value) → Decides (value_eq v w) (v ≡ w)
value_decides (Number a) (Number b) = Decides-like (int_eq a b) (λ e. ap Number e) (λ e. number_is a b e) (Decides-int_eq a b)
value_decides (Number a) (Truth b) = (λ e. cc e, λ e. cc e)
value_decides (Number a) Signal = (λ e. cc e, λ e. cc e)
value_decides (Truth a) (Number b) = (λ e. cc e, λ e. cc e)
value_decides (Truth true) (Truth true) = (λ e. refl, λ e. refl)
value_decides (Truth true) (Truth false) = (λ e. cc e, λ e. cc e)
value_decides (Truth false) (Truth true) = (λ e. cc e, λ e. cc e)
value_decides (Truth false) (Truth false) = (λ e. refl, λ e. refl)
value_decides (Truth a) Signal = (λ e. cc e, λ e. cc e)
value_decides Signal (Number b) = (λ e. cc e, λ e. cc e)
value_decides Signal (Truth b) = (λ e. cc e, λ e. cc e)
value_decides Signal Signal = (λ e. refl, λ e. refl)

-- the values of parameters, the first of which is one
first_values : (v : Value) (ps : List Param) (ws : List Value) → values_of (Is v ∷ ps) ≡ Some ws → (vs : List Value) × (values_of ps ≡ Some vs) × (v ∷ vs ≡ ws)
first_values v ps ws h = go (values_of ps) refl
  where
    go : (o : Option (List Value)) → values_of ps ≡ o → (vs : List Value) × (values_of ps ≡ Some vs) × (v ∷ vs ≡ ws)
    go (Some vs) e = (vs, e, cc (sym (values-more (Is v) ps v vs refl e) ∙ h))
    go None e = let none : values_of (Is v ∷ ps) ≡ None = rw e refl in cc (sym none ∙ h)

head_is : (v w : Value) (vs ws : List Value) → v ∷ vs ≡ w ∷ ws → v ≡ w
head_is v w vs ws e = cc e

tail_is : (v w : Value) (vs ws : List Value) → v ∷ vs ≡ w ∷ ws → vs ≡ ws
tail_is v w vs ws e = cc e

pub these_decide : (ps : List Param) (args : List Value) → Decides (are_these ps args) (values_of ps ≡ Some args)
these_decide [] [] = (λ e. refl, λ e. refl)
these_decide [] (w ∷ args) = (λ e. cc e, λ e. cc e)
these_decide (Is v ∷ ps) [] = (λ e. cc e, λ e. let f = first_values v ps [] e in cc f.2)
these_decide (Is v ∷ ps) (w ∷ args) =
    Decides-like (value_eq v w && are_these ps args)
    (λ h. values-more (Is v) ps v args refl h.1 ∙ ap (λ z. Some (z ∷ args)) h.0)
    (λ e. let f = first_values v ps (w ∷ args) e in (head_is v w f.0 args f.2, f.1 ∙ ap Some (tail_is v w f.0 args f.2)))
    (Decides-and (value_eq v w) (are_these ps args) (value_decides v w) (these_decide ps args))
these_decide (Name x ∷ ps) [] = (λ e. cc e, λ e. cc e)
these_decide (Name x ∷ ps) (w ∷ args) = (λ e. cc e, λ e. cc e)
these_decide (Cell c ∷ ps) [] = (λ e. cc e, λ e. cc e)
these_decide (Cell c ∷ ps) (w ∷ args) = (λ e. cc e, λ e. cc e)
these_decide (Void ∷ ps) [] = (λ e. cc e, λ e. cc e)
these_decide (Void ∷ ps) (w ∷ args) = (λ e. cc e, λ e. cc e)

void_decides : (ps : List Param) → Decides (has_void ps) (HasVoid ps)
void_decides [] = (λ e. cc e, λ h. absurd h)
void_decides (Void ∷ ps) = (λ e. inl refl, λ h. refl)
void_decides (Is v ∷ ps) = Decides-like (has_void ps) (λ h. inr h) (λ h. after h) (void_decides ps)
  where
    after : HasVoid (Is v ∷ ps) → HasVoid ps
    after (inl e) = cc e
    after (inr h) = h
void_decides (Name x ∷ ps) = Decides-like (has_void ps) (λ h. inr h) (λ h. after h) (void_decides ps)
  where
    after : HasVoid (Name x ∷ ps) → HasVoid ps
    after (inl e) = cc e
    after (inr h) = h
void_decides (Cell c ∷ ps) = Decides-like (has_void ps) (λ h. inr h) (λ h. after h) (void_decides ps)
  where
    after : HasVoid (Cell c ∷ ps) → HasVoid ps
    after (inl e) = cc e
    after (inr h) = h

both : (a b : Bool) → (a && b) ≡ true → (a ≡ true) × (b ≡ true)
both true true h = (refl, refl)
both true false h = cc h
both false b h = cc h

some_of : {X : Type 0} (o : Option X) → is_some o ≡ true → (d : X) × (o ≡ Some d)
some_of (Some d) h = (d, refl)
some_of None h = cc h

-- the term of a summary
module _ (defs : List Definition) (args : List Value) where
  stop_of : (t : Term) → is_stop (summary defs args t) ≡ true → t ≡ stop
  stop_of stop h = refl
  stop_of _ h = cc h

  par_of : (t : Term) → is_par (summary defs args t) ≡ true → (f g : Term) × (t ≡ par f g)
  par_of (par f g) h = (f, g, refl)
  par_of _ h = cc h

  seq_of : (t : Term) → is_seq (summary defs args t) ≡ true → (f g : Term) × (z : ℕ) × (t ≡ seq f z g)
  seq_of (seq f z g) h = (f, g, z, refl)
  seq_of _ h = cc h

  prune_of : (t : Term) → is_prune (summary defs args t) ≡ true → (f g : Term) × (z : ℕ) × (t ≡ prune f z g)
  prune_of (prune f z g) h = (f, g, z, refl)
  prune_of _ h = cc h

  other_of : (t : Term) → is_other (summary defs args t) ≡ true → (f g : Term) × (t ≡ other f g)
  other_of (other f g) h = (f, g, refl)
  other_of _ h = cc h

  call_of : (t : Term) → is_known (summary defs args t) ≡ true → (e : ℕ) × (ps : List Param) × (d : Definition) × (slice_get defs e ≡ Some d) × (t ≡ call e ps)
  call_of (call e ps) h = let d = some_of (slice_get defs e) h in (e, ps, d.0, d.1, refl)
  call_of _ h = cc h

  site_of : (m : ℕ) (t : Term) → is_call m (summary defs args t) ≡ true → (ps : List Param) × (values_of ps ≡ Some args) × (t ≡ site m ps)
  site_of m (site n ps) h = let b = both (nat_eq n m) (are_these ps args) h in (ps, (these_decide ps args).0 b.1, ap (λ z. site z ps) (eqb-true n m b.0))
  site_of m _ h = cc h

  void_of : (t : Term) → is_void (summary defs args t) ≡ true → IsVoid t
  void_of (param Void) h = refl
  void_of (param (Is v)) h = cc h
  void_of (param (Name x)) h = cc h
  void_of (param (Cell c)) h = cc h
  void_of (site m ps) h = (void_decides ps).0 h
  void_of _ h = cc h

  of_void : (t : Term) → IsVoid t → is_void (summary defs args t) ≡ true
  of_void (param p) h = ap (λ z. is_void (On z)) h
  of_void (site m ps) h = (void_decides ps).1 h
  of_void _ h = absurd h

  value_of : (v : Value) (t : Term) → is_value v (summary defs args t) ≡ true → t ≡ param (Is v)
  value_of v (param (Is w)) h = ap (λ z. param (Is z)) ((value_decides w v).0 h)
  value_of v (param Void) h = cc h
  value_of v (param (Name x)) h = cc h
  value_of v (param (Cell c)) h = cc h
  value_of v _ h = cc h

sent_of : (w : Taker) (v : Value) → is_sent (Some w) ≡ true → act_of w v ≡ silent
sent_of (Fed i) v h = refl
sent_of Whole v h = cc h
sent_of (Bound c i) v h = cc h

of_sent : (w : Taker) (v : Value) → act_of w v ≡ silent → is_sent (Some w) ≡ true
of_sent (Fed i) v h = refl
of_sent Whole v h = cc h
of_sent (Bound c i) v h = cc h

bound_of : (c : ℕ) (w : Taker) (v : Value) → is_bound c (Some w) ≡ true → act_of w v ≡ binds c v
bound_of c (Bound d i) v h = ap (λ z. binds z v) (eqb-true d c h)
bound_of c (Fed i) v h = cc h
bound_of c Whole v h = cc h

cell_is : (c d : ℕ) (v : Value) → binds d v ≡ binds c v → d ≡ c
cell_is c d v h = cc h

of_bound : (c : ℕ) (w : Taker) (v : Value) → act_of w v ≡ binds c v → is_bound c (Some w) ≡ true
of_bound c (Bound d i) v h = eq-eqb d c (cell_is c d v h)
of_bound c (Fed i) v h = cc h
of_bound c Whole v h = cc h

whole_of : (w : Taker) (v : Value) → is_whole (Some w) ≡ true → act_of w v ≡ publishes v
whole_of Whole v h = refl
whole_of (Fed i) v h = cc h
whole_of (Bound c i) v h = cc h

of_whole : (w : Taker) (v : Value) → act_of w v ≡ publishes v → is_whole (Some w) ≡ true
of_whole Whole v h = refl
of_whole (Fed i) v h = cc h
of_whole (Bound c i) v h = cc h

-- a token of the place, with its term and what takes its publications
module _ (x : Context) (p : Place) (s : ℕ) (t : Term) (w : Taker) (le : times (mark s) p.marked ≤ 1) (st : Stands (token s t) p.marked) (sends : (v : Value) (a : ℕ) → t ≡ param (Is v) → (m : Marked) × Emits s a v p.marked (act_of w v) m) where
  same : (u : Term) → Stands (token s u) p.marked → t ≡ u
  same u h = token_one s t u p.marked le st h

  moved : (u : Term) → t ≡ u → Stands (token s u) p.marked
  moved u e = subst (λ z. Stands (token s z) p.marked) e st

  -- a publication that is taken by a kind of taker
  sent : (a : ℕ) (v : Value) (args : List Value) (b : Act) (r : Bool) → (r ≡ true → act_of w v ≡ b) → (act_of w v ≡ b → r ≡ true) → Decides (is_value v (summary x.definitions args t) && r) ((m : Marked) × Emits s a v p.marked b m)
  sent a v args b r to from = (
    λ h. let k = both (is_value v (summary x.definitions args t)) r h in let e = sends v a (value_of x.definitions args v t k.0) in (e.0, subst (λ z. Emits s a v p.marked z e.0) (to k.1) e.1),
    λ h. let is = same (param (Is v)) (emits_token h.1) in let e = sends v a is in
        λ i. (ap (λ z. is_value v (summary x.definitions args z)) is ∙ (value_decides v v).1 refl) i && (from (act_one le e.1 h.1)) i,
  )

  pub fits_token : (e : Entry) → mark_of e ≡ Some s → Decides (fits_as e (summary x.definitions (args_of e) t) (Some w)) (Fits x p e)
  fits_token (entry.End r) h = let q : r ≡ s = cc h in subst (λ z. Decides (is_stop (summary x.definitions [] t)) (Stands (token z stop) p.marked)) (sym q) (λ k. moved stop (stop_of x.definitions [] t k), λ k. ap (λ z. is_stop (summary x.definitions [] z)) (same stop k))
  fits_token (entry.Fork r a b) h =
      let q : r ≡ s = cc h in
      subst (λ z. Decides (is_par (summary x.definitions [] t)) ((f g : Term) × Stands (token z (par f g)) p.marked)) (sym q)
      (λ k. let o = par_of x.definitions [] t k in (o.0, o.1, moved (par o.0 o.1) o.2), λ k. ap (λ z. is_par (summary x.definitions [] z)) (same (par k.0 k.1) k.2))
  fits_token (entry.Seq r a) h =
      let q : r ≡ s = cc h in
      subst (λ z. Decides (is_seq (summary x.definitions [] t)) ((f g : Term) × (y : ℕ) × Stands (token z (seq f y g)) p.marked)) (sym q)
      (λ k. let o = seq_of x.definitions [] t k in (o.0, o.1, o.2, moved (seq o.0 o.2 o.1) o.3), λ k. ap (λ z. is_seq (summary x.definitions [] z)) (same (seq k.0 k.2 k.1) k.3))
  fits_token (entry.Other r a) h =
      let q : r ≡ s = cc h in
      subst (λ z. Decides (is_other (summary x.definitions [] t)) ((f g : Term) × Stands (token z (other f g)) p.marked)) (sym q)
      (λ k. let o = other_of x.definitions [] t k in (o.0, o.1, moved (other o.0 o.1) o.2), λ k. ap (λ z. is_other (summary x.definitions [] z)) (same (other k.0 k.1) k.2))
  fits_token (entry.Def r a) h =
      let q : r ≡ s = cc h in
      subst (λ z. Decides (is_known (summary x.definitions [] t)) ((e : ℕ) × (ps : List Param) × (d : Definition) × (slice_get x.definitions e ≡ Some d) × Stands (token z (call e ps)) p.marked)) (sym q) (
        λ k. let o = call_of x.definitions [] t k in (o.0, o.1, o.2, o.3, moved (call o.0 o.1) o.4),
        λ k. ap (λ z. is_known (summary x.definitions [] z)) (same (call k.0 k.1) k.4) ∙ ap is_some k.3,
      )
  fits_token (entry.Void r) h =
      let q : r ≡ s = cc h in
      subst (λ z. Decides (is_void (summary x.definitions [] t)) ((u : Term) × IsVoid u × Stands (token z u) p.marked)) (sym q)
      (λ k. (t, void_of x.definitions [] t k, st), λ k. ap (λ z. is_void (summary x.definitions [] z)) (same k.0 k.2) ∙ of_void x.definitions [] k.0 k.1)
  fits_token (entry.Open r c a b) h =
      let q : r ≡ s = cc h in
      subst (λ z. Decides (is_prune (summary x.definitions [] t)) ((f g : Term) × (y : ℕ) × Stands (token z (prune f y g)) p.marked)) (sym q)
      (λ k. let o = prune_of x.definitions [] t k in (o.0, o.1, o.2, moved (prune o.0 o.2 o.1) o.3), λ k. ap (λ z. is_prune (summary x.definitions [] z)) (same (prune k.0 k.2 k.1) k.3))
  fits_token (entry.Call r k m args) h =
      let q : r ≡ s = cc h in
      subst (λ z. Decides (is_call m (summary x.definitions args t)) ((ps : List Param) × (values_of ps ≡ Some args) × Stands (token z (site m ps)) p.marked)) (sym q) (
        λ k. let o = site_of x.definitions args m t k in (o.0, o.1, moved (site m o.0) o.2),
        λ k. ap (λ z. is_call m (summary x.definitions args z)) (same (site m k.0) k.2) ∙ (λ i. eq-eqb m m refl i && (these_decide k.0 args).1 k.1 i),
      )
  fits_token (entry.Send r a v) h =
      let q : r ≡ s = cc h in
      subst (λ z. Decides (is_value v (summary x.definitions [] t) && is_sent (Some w)) ((m : Marked) × Emits z a v p.marked silent m)) (sym q) (sent a v [] silent (is_sent (Some w)) (sent_of w v) (of_sent w v))
  fits_token (entry.Bind r c v) h =
      let q : r ≡ s = cc h in
      subst (λ z. Decides (is_value v (summary x.definitions [] t) && is_bound c (Some w)) ((m : Marked) × Emits z p.mark v p.marked (binds c v) m)) (sym q) (sent p.mark v [] (binds c v) (is_bound c (Some w)) (bound_of c w v) (of_bound c w v))
  fits_token (entry.Publish r v) h =
      let q : r ≡ s = cc h in
      subst (λ z. Decides (is_value v (summary x.definitions [] t) && is_whole (Some w)) ((m : Marked) × Emits z p.mark v p.marked (publishes v) m)) (sym q) (sent p.mark v [] (publishes v) (is_whole (Some w)) (whole_of w v) (of_whole w v))
  fits_token (entry.Return k a v) h = cc h
  fits_token (entry.ReturnHalt k) h = cc h
  fits_token (entry.Lost c) h = cc h
  fits_token (entry.Right r a) h = cc h
  fits_token (entry.Tick u) h = cc h
  fits_token (entry.Cancel k) h = cc h

some_same : (r s : ℕ) → Some r ≡ Some s → r ≡ s
some_same r s h = cc h

-- what fits names a token that is there
pub fits_there : (x : Context) (p : Place) (s : ℕ) (e : Entry) → mark_of e ≡ Some s → Fits x p e → HasToken p s
fits_there x p s (entry.End r) h k = subst (HasToken p) (some_same r s h) (_, k)
fits_there x p s (entry.Fork r a b) h k = subst (HasToken p) (some_same r s h) (_, k.2)
fits_there x p s (entry.Seq r a) h k = subst (HasToken p) (some_same r s h) (_, k.3)
fits_there x p s (entry.Other r a) h k = subst (HasToken p) (some_same r s h) (_, k.2)
fits_there x p s (entry.Def r a) h k = subst (HasToken p) (some_same r s h) (_, k.4)
fits_there x p s (entry.Void r) h k = subst (HasToken p) (some_same r s h) (_, k.2)
fits_there x p s (entry.Open r c a b) h k = subst (HasToken p) (some_same r s h) (_, k.3)
fits_there x p s (entry.Send r a v) h k = subst (HasToken p) (some_same r s h) (_, emits_token k.1)
fits_there x p s (entry.Call r n m args) h k = subst (HasToken p) (some_same r s h) (_, k.2)
fits_there x p s (entry.Bind r c v) h k = subst (HasToken p) (some_same r s h) (_, emits_token k.1)
fits_there x p s (entry.Publish r v) h k = subst (HasToken p) (some_same r s h) (_, emits_token k.1)
fits_there x p s _ h k = cc h

-- no entry of a token fits where there is none
pub fits_nothing : (e : Entry) (s : ℕ) (w : Option Taker) → mark_of e ≡ Some s → fits_as e Nothing w ≡ false
fits_nothing (entry.Return k a v) s w h = cc h
fits_nothing (entry.ReturnHalt k) s w h = cc h
fits_nothing (entry.Lost c) s w h = cc h
fits_nothing (entry.Right r a) s w h = cc h
fits_nothing (entry.Tick u) s w h = cc h
fits_nothing (entry.Cancel k) s w h = cc h
fits_nothing _ s w h = refl
