-- The test is right: where it says no, each step is a return of a pending call.
use Rattle.std.proofs.Common.{◌≡◌, ◌<◌, ℕ, List, [], ◌∷◌, ◌++◌, Option, Some, None, refl, sym, ap, subst, inl, inr, ◌⊎◌, ⊎_elim, Bool, true, false}
use Rattle.std.specs.Prelude.{◌||◌, ◌&&◌, is_some, slice_get}
use Rattle.orc_rules.specs.declared.value.Value.{Value}
use Rattle.orc_rules.specs.declared.param.Param.{Param}
use Rattle.orc_rules.specs.declared.param.Param.TheVariants.{Name, Is, Cell, Void}
use Rattle.orc_rules.specs.declared.value.Answer.{Answer}
use Rattle.orc_rules.specs.Term.{Term, stop, param, site, call, par, seq, prune, other, pending, opened, Definition, values_of, HasVoid, Halted, pending_of}
use Rattle.orc_rules.specs.Step.{Act, calls, returns, binds, loses, publishes, silent, opens, within, Used, IsNew, Step, value_rule, void_value, site_call, void_call, return_rule, def_rule, par_left, par_right, seq_other, seq_value, prune_open, prune_left, prune_right, prune_bind, prune_lost, other_step, other_value, other_halt}
use Rattle.orc_rules.specs.Timed.{Context, Moment, IsIn, IsDue, IsLater, IsIdle, used}
use Rattle.orc_rules.specs.Idle.{has_halted, has_void, can_move}
use Rattle.orc_rules.specs.Tests.{IsOwn}

pub or_false : (a b : Bool) → (a || b) ≡ false → (a ≡ false) × (b ≡ false)
or_false true b h = cc h
or_false false b h = (refl, h)

pub halted_test : (f : Term) → Halted f → has_halted f ≡ true
halted_test stop h = refl
halted_test (par f g) h = λ i. halted_test f h.0 i && halted_test g h.1 i
halted_test (opened f c g) h = λ i. halted_test f h.0 i && halted_test g h.1 i
halted_test (seq f x g) h = halted_test f h
halted_test (param p) h = elim h [ ]
halted_test (site m ps) h = elim h [ ]
halted_test (call e ps) h = elim h [ ]
halted_test (prune f x g) h = elim h [ ]
halted_test (other f g) h = elim h [ ]
halted_test (pending k) h = elim h [ ]

void_test : (ps : List Param) → HasVoid ps → has_void ps ≡ true
void_test [] h = elim h [ ]
void_test (Void ∷ ps) h = refl
void_test (Is v ∷ ps) (inl e) = cc e
void_test (Name x ∷ ps) (inl e) = cc e
void_test (Cell c ∷ ps) (inl e) = cc e
void_test (Is v ∷ ps) (inr h) = void_test ps h
void_test (Name x ∷ ps) (inr h) = void_test ps h
void_test (Cell c ∷ ps) (inr h) = void_test ps h

-- the act is a return of one of these calls
pub record IsReturn (a : Act) (ks : List ℕ) : Type 0 where
  pub call : ℕ
  pub answer : Answer
  pub is : a ≡ returns call answer
  pub pends : IsIn call ks

pub in_front : (u : ℕ) (us vs : List ℕ) → IsIn u us → IsIn u (us ++ vs)
in_front u (w ∷ us) vs (inl e) = inl e
in_front u (w ∷ us) vs (inr h) = inr (in_front u us vs h)
in_front u [] vs h = elim h [ ]

pub in_back : (u : ℕ) (us vs : List ℕ) → IsIn u vs → IsIn u (us ++ vs)
in_back u [] vs h = h
in_back u (w ∷ us) vs h = inr (in_back u us vs h)

return_left : (a : Act) (ks js : List ℕ) → IsReturn a ks → IsReturn a (ks ++ js)
return_left a ks js r = record { call = r.call; answer = r.answer; is = r.is; pends = in_front r.call ks js r.pends }

return_right : (a : Act) (ks js : List ℕ) → IsReturn a js → IsReturn a (ks ++ js)
return_right a ks js r = record { call = r.call; answer = r.answer; is = r.is; pends = in_back r.call ks js r.pends }

return_within : (c : ℕ) (a : Act) (ks : List ℕ) → IsReturn a ks → IsReturn (within c a) ks
return_within c a ks r = record { call = r.call; answer = r.answer; is = ap (within c) r.is; pends = r.pends }

no_publication : {v : Value} {ks : List ℕ} {A : Type 0} → IsReturn (publishes v) ks → A
no_publication r = cc r.is

module _ (defs : List Definition) (used : Used) where
  pub idle_returns : {t u : Term} {a : Act} → Step defs used t a u → can_move defs t ≡ false → IsReturn a (pending_of t)
  idle_returns value_rule h = cc h
  idle_returns void_value h = cc h
  idle_returns (site_call {ps = ps} is new) h = cc (ap is_some is, (or_false (is_some (values_of ps)) (has_void ps) h).0)
  idle_returns (void_call {ps = ps} is) h = cc (void_test ps is, (or_false (is_some (values_of ps)) (has_void ps) h).1)
  idle_returns (return_rule {k = k} {a = b}) h = record { call = k; answer = b; is = refl; pends = inl refl }
  idle_returns (def_rule is) h = cc (ap is_some is, h)
  idle_returns (par_left {f = f} {g = g} d) h = return_left _ (pending_of f) (pending_of g) (idle_returns d (or_false (can_move defs f) (can_move defs g) h).0)
  idle_returns (par_right {f = f} {g = g} d) h = return_right _ (pending_of f) (pending_of g) (idle_returns d (or_false (can_move defs f) (can_move defs g) h).1)
  idle_returns (seq_other i d) h = idle_returns d h
  idle_returns (seq_value d) h = no_publication (idle_returns d h)
  idle_returns (prune_open new) h = cc h
  idle_returns (prune_left {f = f} {g = g} d) h =
      return_left _ (pending_of f) (pending_of g) (idle_returns d (or_false (can_move defs f) (can_move defs g || has_halted g) h).0)
  idle_returns (prune_right {f = f} {g = g} {c = c} {a = b} i d) h =
      let k = or_false (can_move defs g) (has_halted g) (or_false (can_move defs f) (can_move defs g || has_halted g) h).1 in
      return_within c b _ (return_right b (pending_of f) (pending_of g) (idle_returns d k.0))
  idle_returns (prune_bind {f = f} {g = g} d) h =
      let k = or_false (can_move defs g) (has_halted g) (or_false (can_move defs f) (can_move defs g || has_halted g) h).1 in
      no_publication (idle_returns d k.0)
  idle_returns (prune_lost {f = f} {g = g} is) h =
      let k = or_false (can_move defs g) (has_halted g) (or_false (can_move defs f) (can_move defs g || has_halted g) h).1 in
      cc (halted_test g is, k.1)
  idle_returns (other_step {f = f} i d) h = idle_returns d (or_false (can_move defs f) (has_halted f) h).0
  idle_returns (other_value {f = f} d) h = no_publication (idle_returns d (or_false (can_move defs f) (has_halted f) h).0)
  idle_returns (other_halt {f = f} is) h = cc (halted_test f is, (or_false (can_move defs f) (has_halted f) h).1)

-- where the test says no and each pending call is due later, no rule can be used
pub idle_by_test : (x : Context) (s : Moment) → can_move x.definitions s.term ≡ false → ((k : ℕ) (b : Answer) (t : ℕ) → IsIn k (pending_of s.term) → IsDue x.sites s.calls k b t → s.now < t) → IsIdle x s
idle_by_test x s h later a u d =
    let r = idle_returns x.definitions (used s) d h in
    subst (λ w. IsLater x.sites s w) (sym r.is) (λ b t due. later r.call b t r.pends due)

pub or_true : (a b : Bool) → (a || b) ≡ true → (a ≡ true) ⊎ (b ≡ true)
or_true true b h = inl refl
or_true false b h = inr h

both_true : (a b : Bool) → (a && b) ≡ true → (a ≡ true) × (b ≡ true)
both_true true b h = (refl, h)
both_true false b h = cc h

pub test_halted : (f : Term) → has_halted f ≡ true → Halted f
test_halted stop h = tt
test_halted (par f g) h = let k = both_true (has_halted f) (has_halted g) h in (test_halted f k.0, test_halted g k.1)
test_halted (opened f c g) h = let k = both_true (has_halted f) (has_halted g) h in (test_halted f k.0, test_halted g k.1)
test_halted (seq f x g) h = test_halted f h
test_halted (param p) h = cc h
test_halted (site m ps) h = cc h
test_halted (call e ps) h = cc h
test_halted (prune f x g) h = cc h
test_halted (other f g) h = cc h
test_halted (pending k) h = cc h

test_void : (ps : List Param) → has_void ps ≡ true → HasVoid ps
test_void [] h = cc h
test_void (Void ∷ ps) h = inl refl
test_void (Is v ∷ ps) h = inr (test_void ps h)
test_void (Name x ∷ ps) h = inr (test_void ps h)
test_void (Cell c ∷ ps) h = inr (test_void ps h)

module _ (defs : List Definition) (used : Used) (k c : ℕ) (new_k : IsNew k used.calls) (new_c : IsNew c used.cells) where
  pub record CanStep (t : Term) : Type 0 where
    pub act : Act
    pub after : Term
    pub step : Step defs used t act after
    pub own : IsOwn act

  site_steps : (m : ℕ) (ps : List Param) (o : Option (List Value)) → values_of ps ≡ o → (is_some o || has_void ps) ≡ true → CanStep (site m ps)
  site_steps m ps (Some args) is h = record { act = calls k m args []; after = pending k; step = site_call is new_k; own = tt }
  site_steps m ps None is h = record { act = silent; after = stop; step = void_call (test_void ps h); own = tt }

  def_steps : (e : ℕ) (ps : List Param) (o : Option Definition) → slice_get defs e ≡ o → is_some o ≡ true → CanStep (call e ps)
  def_steps e ps (Some d) is h = record { act = silent; after = _; step = def_rule is; own = tt }
  def_steps e ps None is h = cc h

  in_seq : (f g f' : Term) (z : ℕ) (a : Act) → Step defs used f a f' → IsOwn a → CanStep (seq f z g)
  in_seq f g f' z (publishes v) d o = record { act = silent; after = _; step = seq_value d; own = tt }
  in_seq f g f' z (returns j a) d o = elim o [ ]
  in_seq f g f' z (calls j m args cs) d o = record { act = _; after = _; step = seq_other tt d; own = tt }
  in_seq f g f' z (binds e v) d o = record { act = _; after = _; step = seq_other tt d; own = tt }
  in_seq f g f' z (loses e) d o = record { act = _; after = _; step = seq_other tt d; own = tt }
  in_seq f g f' z silent d o = record { act = _; after = _; step = seq_other tt d; own = tt }
  in_seq f g f' z (opens e) d o = record { act = _; after = _; step = seq_other tt d; own = tt }

  in_other : (f g f' : Term) (a : Act) → Step defs used f a f' → IsOwn a → CanStep (other f g)
  in_other f g f' (publishes v) d o = record { act = _; after = _; step = other_value d; own = tt }
  in_other f g f' (returns j a) d o = elim o [ ]
  in_other f g f' (calls j m args cs) d o = record { act = _; after = _; step = other_step tt d; own = tt }
  in_other f g f' (binds e v) d o = record { act = _; after = _; step = other_step tt d; own = tt }
  in_other f g f' (loses e) d o = record { act = _; after = _; step = other_step tt d; own = tt }
  in_other f g f' silent d o = record { act = _; after = _; step = other_step tt d; own = tt }
  in_other f g f' (opens e) d o = record { act = _; after = _; step = other_step tt d; own = tt }

  in_right : (f g g' : Term) (e : ℕ) (a : Act) → Step defs used g a g' → IsOwn a → CanStep (opened f e g)
  in_right f g g' e (publishes v) d o = record { act = _; after = _; step = prune_bind d; own = tt }
  in_right f g g' e (returns j a) d o = elim o [ ]
  in_right f g g' e (calls j m args cs) d o = record { act = calls j m args (e ∷ cs); after = _; step = prune_right tt d; own = tt }
  in_right f g g' e (binds b v) d o = record { act = binds b v; after = _; step = prune_right tt d; own = tt }
  in_right f g g' e (loses b) d o = record { act = loses b; after = _; step = prune_right tt d; own = tt }
  in_right f g g' e silent d o = record { act = silent; after = _; step = prune_right tt d; own = tt }
  in_right f g g' e (opens b) d o = record { act = opens b; after = _; step = prune_right tt d; own = tt }

  -- where the test says yes, a rule other than Return can be used
  pub can_step : (t : Term) → can_move defs t ≡ true → CanStep t
  can_step stop h = cc h
  can_step (param (Is v)) h = record { act = publishes v; after = stop; step = value_rule; own = tt }
  can_step (param Void) h = record { act = silent; after = stop; step = void_value; own = tt }
  can_step (param (Name x)) h = cc h
  can_step (param (Cell b)) h = cc h
  can_step (site m ps) h = site_steps m ps (values_of ps) refl h
  can_step (call e ps) h = def_steps e ps (slice_get defs e) refl h
  can_step (par f g) h =
      ⊎_elim (λ a. let s = can_step f a in record { act = s.act; after = par s.after g; step = par_left s.step; own = s.own })
      (λ b. let s = can_step g b in record { act = s.act; after = par f s.after; step = par_right s.step; own = s.own })
      (or_true (can_move defs f) (can_move defs g) h)
  can_step (seq f z g) h = let s = can_step f h in in_seq f g s.after z s.act s.step s.own
  can_step (prune f z g) h = record { act = opens c; after = _; step = prune_open new_c; own = tt }
  can_step (other f g) h =
      ⊎_elim (λ a. let s = can_step f a in in_other f g s.after s.act s.step s.own)
      (λ b. record { act = silent; after = g; step = other_halt (test_halted f b); own = tt })
      (or_true (can_move defs f) (has_halted f) h)
  can_step (pending j) h = cc h
  can_step (opened f e g) h =
      ⊎_elim (λ a. let s = can_step f a in record { act = s.act; after = opened s.after e g; step = prune_left s.step; own = s.own })
      (λ b. ⊎_elim (λ w. let s = can_step g w in in_right f g s.after e s.act s.step s.own)
      (λ w. record { act = loses e; after = _; step = prune_lost (test_halted g w); own = tt })
      (or_true (can_move defs g) (has_halted g) b))
      (or_true (can_move defs f) (can_move defs g || has_halted g) h)
