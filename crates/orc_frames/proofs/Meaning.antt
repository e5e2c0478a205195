-- What a token's word means: it is each move exactly where the term and the taker allow it.
use Rattle.std.proofs.Common.{◌≡◌, ℕ, List, [], ◌∷◌, Bool, true, false, not, Option, Some, None, refl, ap, ◌∙◌, inl, inr}
use Rattle.std.specs.Prelude.{◌||◌, slice_get, is_some}
use Rattle.orc_rules.specs.declared.value.Value.{Value}
use Rattle.orc_rules.specs.declared.param.Param.{Param}
use Rattle.orc_rules.specs.declared.param.Param.TheVariants as is
use Rattle.orc_rules.specs.Term.{Term, stop, param, site, call, par, seq, prune, other, pending, opened, Definition, values_of, HasVoid}
use Rattle.orc_rules.specs.Idle.{has_void, can_move}
use Rattle.orc_rules.specs.Lost.{IsSource}
use Rattle.orc_rules.specs.Journal.{IsVoid}
use Rattle.orc_frames.specs.Spelling.{Path, whole, feeding, aiding, trying}
use Rattle.orc_frames.specs.Taking.{taker}
use Rattle.orc_frames.specs.Doing.{taken, what_site, what_def, what_by, is_wait, moves_marks, Allows}
use Rattle.orc_frames.specs.declared.action.Action.{Action}
use Rattle.orc_frames.specs.declared.action.Action.TheVariants.{Halt, Fork, Seq, Prune, Other, Def, Void, Publish, Send, Bind, Call, Wait}

-- code looks at the taker alone
pub taken-taker : (v : Value) (p : Path) → taken v p ≡ taken v (taker p)
taken-taker v whole = refl
taken-taker v (feeding x g p) = refl
taken-taker v (aiding c p) = refl
taken-taker v (trying n p) = taken-taker v p

pub void_test : (ps : List Param) → HasVoid ps → has_void ps ≡ true
void_test [] h = elim h [ ]
void_test (is.Void ∷ ps) h = refl
void_test (is.Is v ∷ ps) (inl e) = cc e
void_test (is.Name x ∷ ps) (inl e) = cc e
void_test (is.Cell c ∷ ps) (inl e) = cc e
void_test (is.Is v ∷ ps) (inr h) = void_test ps h
void_test (is.Name x ∷ ps) (inr h) = void_test ps h
void_test (is.Cell c ∷ ps) (inr h) = void_test ps h

pub test_void : (ps : List Param) → has_void ps ≡ true → HasVoid ps
test_void [] h = cc h
test_void (is.Void ∷ ps) h = inl refl
test_void (is.Is v ∷ ps) h = inr (test_void ps h)
test_void (is.Name x ∷ ps) h = inr (test_void ps h)
test_void (is.Cell c ∷ ps) h = inr (test_void ps h)

-- values have no void among them
void_none : (ps : List Param) → has_void ps ≡ true → values_of ps ≡ None
void_none [] h = cc h
void_none (is.Void ∷ ps) h = refl
void_none (is.Name x ∷ ps) h = refl
void_none (is.Cell c ∷ ps) h = refl
void_none (is.Is v ∷ ps) h = rw (void_none ps h) refl

pub rest_none : (u : Value) (ps : List Param) → values_of (is.Is u ∷ ps) ≡ None → values_of ps ≡ None
rest_none u ps h = go (values_of ps) refl
  where
    go : (o : Option (List Value)) → values_of ps ≡ o → o ≡ None
    go None e = refl
    go (Some vs) e = let k = rw e at h in cc k

pub rest_some : (u : Value) (ps : List Param) (vs : List Value) → values_of (is.Is u ∷ ps) ≡ Some vs → (ws : List Value) × (values_of ps ≡ Some ws)
rest_some u ps vs h = go (values_of ps) refl
  where
    go : (o : Option (List Value)) → values_of ps ≡ o → (ws : List Value) × (values_of ps ≡ Some ws)
    go (Some ws) e = (ws, e)
    go None e = let k = rw e at h in cc k

values_void : (ps : List Param) (args : List Value) → values_of ps ≡ Some args → has_void ps ≡ false
values_void ps args h = go (has_void ps) refl
  where
    go : (b : Bool) → has_void ps ≡ b → b ≡ false
    go true e = cc (void_none ps e, h)
    go false e = refl

module _ (defs : List Definition) (p : Path) where
  taken_means : (v : Value) (q : Path) → taken v p ≡ taken v q → Allows defs (taken v q) p (param (is.Is v))
  taken_means v whole e = (e, refl)
  taken_means v (feeding x g q) e = (e, refl)
  taken_means v (aiding c q) e = (e, refl)
  taken_means v (trying n q) e = taken_means v q e

  site_means : (m : ℕ) (ps : List Param) (b : Bool) (o : Option (List Value)) → has_void ps ≡ b → values_of ps ≡ o → Allows defs (what_site ps b o) p (site m ps)
  site_means m ps true o e f = test_void ps e
  site_means m ps false (Some args) e f = (m, ps, args, f, refl)
  site_means m ps false None e f = (refl, λ i. is_some (f i) || e i)

  def_means : (e : ℕ) (ps : List Param) (o : Option Definition) → slice_get defs e ≡ o → Allows defs (what_def o) p (call e ps)
  def_means e ps (Some d) f = (e, ps, d, f, refl)
  def_means e ps None f = (refl, ap is_some f)

  -- the word is right
  pub means : (u : Term) → IsSource u → Allows defs (what_by defs p u) p u
  means stop src = refl
  means (param (is.Is v)) src = taken_means v p refl
  means (param is.Void) src = refl
  means (param (is.Cell c)) src = (refl, refl)
  means (param (is.Name x)) src = (refl, refl)
  means (site m ps) src = site_means m ps (has_void ps) (values_of ps) refl refl
  means (call e ps) src = def_means e ps (slice_get defs e) refl
  means (par f g) src = (f, g, refl)
  means (seq f x g) src = (f, x, g, refl)
  means (prune f x g) src = (f, x, g, refl)
  means (other f g) src = (f, g, refl)
  means (pending k) src = elim src [ ]
  means (opened f c g) src = elim src [ ]

  void_says : (u : Term) → IsVoid u → what_by defs p u ≡ Void
  void_says (param v) h = ap (λ z. what_by defs p (param z)) h
  void_says (site m ps) h = ap (λ b. what_site ps b (values_of ps)) (void_test ps h)
  void_says stop h = elim h [ ]
  void_says (call e ps) h = elim h [ ]
  void_says (par f g) h = elim h [ ]
  void_says (seq f x g) h = elim h [ ]
  void_says (prune f x g) h = elim h [ ]
  void_says (other f g) h = elim h [ ]
  void_says (pending k) h = elim h [ ]
  void_says (opened f c g) h = elim h [ ]

  -- and no other word is
  pub says : (w : Action) (u : Term) → is_wait w ≡ false → Allows defs w p u → what_by defs p u ≡ w
  says Halt u moving h = ap (what_by defs p) h
  says Fork u moving (f, g, e) = ap (what_by defs p) e
  says Seq u moving (f, z, g, e) = ap (what_by defs p) e
  says Prune u moving (f, z, g, e) = ap (what_by defs p) e
  says Other u moving (f, g, e) = ap (what_by defs p) e
  says Def u moving (e, ps, d, f, is) = ap (what_by defs p) is ∙ ap what_def f
  says Void u moving h = void_says u h
  says (Publish v) u moving (t, e) = ap (what_by defs p) e ∙ t
  says (Send v) u moving (t, e) = ap (what_by defs p) e ∙ t
  says (Bind c v) u moving (t, e) = ap (what_by defs p) e ∙ t
  says Call u moving (m, ps, args, f, is) = ap (what_by defs p) is ∙ (λ i. what_site ps (values_void ps args f i) (f i))
  says (Wait c) u moving h = cc moving

  taken_moves : (v : Value) (q : Path) → is_wait (taken v q) ≡ false
  taken_moves v whole = refl
  taken_moves v (feeding x g q) = refl
  taken_moves v (aiding c q) = refl
  taken_moves v (trying n q) = taken_moves v q

  site_waits : (ps : List Param) (b : Bool) (o : Option (List Value)) → is_wait (what_site ps b o) ≡ not (is_some o || b)
  site_waits ps true (Some args) = refl
  site_waits ps true None = refl
  site_waits ps false (Some args) = refl
  site_waits ps false None = refl

  def_waits : (o : Option Definition) → is_wait (what_def o) ≡ not (is_some o)
  def_waits (Some d) = refl
  def_waits None = refl

  -- a token waits exactly where its term is no move of marks and no rule can be used in it
  pub waits : (u : Term) → IsSource u → is_wait (what_by defs p u) ≡ not (moves_marks u || can_move defs u)
  waits stop src = refl
  waits (param (is.Is v)) src = taken_moves v p
  waits (param is.Void) src = refl
  waits (param (is.Cell c)) src = refl
  waits (param (is.Name x)) src = refl
  waits (site m ps) src = site_waits ps (has_void ps) (values_of ps)
  waits (call e ps) src = def_waits (slice_get defs e)
  waits (par f g) src = refl
  waits (seq f x g) src = refl
  waits (prune f x g) src = refl
  waits (other f g) src = refl
  waits (pending k) src = elim src [ ]
  waits (opened f c g) src = elim src [ ]
