-- A cell that is bound or lost is gone from the term for good.
use Rattle.std.proofs.Common.{◌≡◌, ◌<◌, ◌≤◌, ◌+◌, ℕ, List, [], ◌∷◌, refl, sym, ap, ◌∙◌, inl, inr, ◌⊎◌, ⊎_elim, arith}
use Rattle.orc_rules.specs.declared.value.Answer.{Answer}
use Rattle.orc_rules.specs.declared.value.Answer.TheVariants.{Value as Gives, Halt}
use Rattle.orc_rules.specs.declared.param.Param.{Param}
use Rattle.orc_rules.specs.declared.param.Param.TheVariants.{Is, Cell, Void}
use Rattle.orc_rules.specs.Term.{Term, stop, param, site, call, par, seq, prune, other, pending, opened, Definition, fill, answered}
use Rattle.orc_rules.specs.Step.{Act, calls, returns, binds, loses, publishes, silent, opens, within, Used, IsNew, Step, value_rule, void_value, site_call, void_call, return_rule, def_rule, par_left, par_right, seq_other, seq_value, prune_open, prune_left, prune_right, prune_bind, prune_lost, other_step, other_value, other_halt}
use Rattle.orc_rules.specs.Timed.{IsIn}
use Rattle.orc_rules.specs.Lost.{IsSource, AreSource}
use Rattle.orc_rules.specs.Numbered.{cell, once}
use Rattle.orc_rules.proofs.Numbered.{index, once_same, once_other}
use Rattle.orc_rules.proofs.Sources.{put_source, put_all_source, body_source, fill_source}

-- a term of a run: what hasn't begun is a source's
abbrev pub IsRunning : Term → Type 0
IsRunning (par f g) = IsRunning f × IsRunning g
IsRunning (seq f x g) = IsRunning f × IsSource g
IsRunning (prune f x g) = IsSource f × IsSource g
IsRunning (other f g) = IsRunning f × IsSource g
IsRunning (opened f c g) = IsRunning f × IsRunning g
IsRunning _ = Unit {0}

-- how often cell c is open in it
abbrev pub open_times : ℕ → Term → ℕ
open_times c (par f g) = open_times c f + open_times c g
open_times c (seq f x g) = open_times c f
open_times c (other f g) = open_times c f
open_times c (opened f d g) = once (cell c) (cell d) + (open_times c f + open_times c g)
open_times c _ = 0

pub source_runs : (t : Term) → IsSource t → IsRunning t
source_runs stop s = tt
source_runs (param p) s = tt
source_runs (site m ps) s = tt
source_runs (call e ps) s = tt
source_runs (par f g) s = (source_runs f s.0, source_runs g s.1)
source_runs (seq f x g) s = (source_runs f s.0, s.1)
source_runs (prune f x g) s = s
source_runs (other f g) s = (source_runs f s.0, s.1)
source_runs (pending k) s = tt
source_runs (opened f c g) s = elim s [ ]

pub source_opens : (c : ℕ) (t : Term) → IsSource t → open_times c t ≡ 0
source_opens c stop s = refl
source_opens c (param p) s = refl
source_opens c (site m ps) s = refl
source_opens c (call e ps) s = refl
source_opens c (par f g) s = omega (arith, source_opens c f s.0, source_opens c g s.1)
source_opens c (seq f x g) s = source_opens c f s.0
source_opens c (prune f x g) s = refl
source_opens c (other f g) s = source_opens c f s.0
source_opens c (pending k) s = refl
source_opens c (opened f d g) s = elim s [ ]

fill_runs : (w : Param) (c : ℕ) (t : Term) → IsRunning t → IsRunning (fill w c t)
fill_runs w c stop s = tt
fill_runs w c (param p) s = tt
fill_runs w c (site m ps) s = tt
fill_runs w c (call e ps) s = tt
fill_runs w c (par f g) s = (fill_runs w c f s.0, fill_runs w c g s.1)
fill_runs w c (seq f x g) s = (fill_runs w c f s.0, fill_source w c g s.1)
fill_runs w c (prune f x g) s = (fill_source w c f s.0, fill_source w c g s.1)
fill_runs w c (other f g) s = (fill_runs w c f s.0, fill_source w c g s.1)
fill_runs w c (pending k) s = tt
fill_runs w c (opened f d g) s = (fill_runs w c f s.0, fill_runs w c g s.1)

fill_opens : (w : Param) (d c : ℕ) (t : Term) → open_times c (fill w d t) ≡ open_times c t
fill_opens w d c stop = refl
fill_opens w d c (param p) = refl
fill_opens w d c (site m ps) = refl
fill_opens w d c (call e ps) = refl
fill_opens w d c (par f g) = λ i. fill_opens w d c f i + fill_opens w d c g i
fill_opens w d c (seq f x g) = fill_opens w d c f
fill_opens w d c (prune f x g) = refl
fill_opens w d c (other f g) = fill_opens w d c f
fill_opens w d c (pending k) = refl
fill_opens w d c (opened f e g) = λ i. once (cell c) (cell e) + (fill_opens w d c f i + fill_opens w d c g i)

-- the cell that an act opens, and the one that it settles
abbrev pub gains : ℕ → Act → ℕ
gains c (opens d) = once (cell c) (cell d)
gains c _ = 0

abbrev pub sheds : ℕ → Act → ℕ
sheds c (binds d v) = once (cell c) (cell d)
sheds c (loses d) = once (cell c) (cell d)
sheds c _ = 0

-- a call inside the right side of c
abbrev pub IsWithin : ℕ → Act → Type 0
IsWithin c (calls k m args cs) = IsIn c cs
IsWithin c _ = ⊥

gains_within : (c d : ℕ) (a : Act) → gains c (within d a) ≡ gains c a
gains_within c d (calls k m args cs) = refl
gains_within c d (returns k v) = refl
gains_within c d (binds e v) = refl
gains_within c d (loses e) = refl
gains_within c d (publishes v) = refl
gains_within c d silent = refl
gains_within c d (opens e) = refl

sheds_within : (c d : ℕ) (a : Act) → sheds c (within d a) ≡ sheds c a
sheds_within c d (calls k m args cs) = refl
sheds_within c d (returns k v) = refl
sheds_within c d (binds e v) = refl
sheds_within c d (loses e) = refl
sheds_within c d (publishes v) = refl
sheds_within c d silent = refl
sheds_within c d (opens e) = refl

within_either : (c d : ℕ) (a : Act) → IsWithin c (within d a) → (c ≡ d) ⊎ IsWithin c a
within_either c d (calls k m args cs) h = h
within_either c d (returns k v) h = elim h [ ]
within_either c d (binds e v) h = elim h [ ]
within_either c d (loses e) h = elim h [ ]
within_either c d (publishes v) h = elim h [ ]
within_either c d silent h = elim h [ ]
within_either c d (opens e) h = elim h [ ]

answer_runs : (a : Answer) → IsRunning (answered a)
answer_runs (Gives v) = tt
answer_runs Halt = tt

answer_opens : (c : ℕ) (a : Answer) → open_times c (answered a) ≡ 0
answer_opens c (Gives v) = refl
answer_opens c Halt = refl

not_used : (c e : ℕ) (us : List ℕ) → 0 < once (cell c) (cell e) → IsNew e us → IsIn c us → ⊥
not_used c e [] lt n i = elim i [ ]
not_used c e (u ∷ us) lt n (inl y) = omega (arith, lt, once_other (cell c) (cell e) (λ w. n.0 (sym (ap index w) ∙ y)))
not_used c e (u ∷ us) lt n (inr i) = not_used c e us lt n.1 i

module _ (defs : List Definition) (used : Used) (ds : AreSource defs) where
  pub step_runs : {t u : Term} {a : Act} → Step defs used t a u → IsRunning t → IsRunning u
  step_runs value_rule r = tt
  step_runs void_value r = tt
  step_runs (site_call is new) r = tt
  step_runs (void_call is) r = tt
  step_runs (return_rule {a = a}) r = answer_runs a
  step_runs (def_rule {e = e} {ps = ps} {d = d} is) r = source_runs _ (put_all_source d.params ps d.body (body_source defs e d ds is))
  step_runs (par_left d) r = (step_runs d r.0, r.1)
  step_runs (par_right d) r = (r.0, step_runs d r.1)
  step_runs (seq_other i d) r = (step_runs d r.0, r.1)
  step_runs (seq_value {g = g} {x = x} {v = v} d) r = ((step_runs d r.0, r.1), source_runs _ (put_source (Is v) x g r.1))
  step_runs (prune_open {f = f} {g = g} {x = x} {c = c} new) r = (source_runs _ (put_source (Cell c) x f r.0), source_runs g r.1)
  step_runs (prune_left d) r = (step_runs d r.0, r.1)
  step_runs (prune_right i d) r = (r.0, step_runs d r.1)
  step_runs (prune_bind {f = f} {c = c} {v = v} d) r = fill_runs (Is v) c f r.0
  step_runs (prune_lost {f = f} {c = c} is) r = fill_runs Void c f r.0
  step_runs (other_step i d) r = (step_runs d r.0, r.1)
  step_runs (other_value d) r = step_runs d r.0
  step_runs (other_halt {g = g} is) r = source_runs g r.1

  -- a step opens its cell alone, and takes away the one that it settles
  pub step_opens : (c : ℕ) {t u : Term} {a : Act} → Step defs used t a u → IsRunning t → open_times c u + sheds c a ≤ open_times c t + gains c a
  step_opens c value_rule r = omega arith
  step_opens c void_value r = omega arith
  step_opens c (site_call is new) r = omega arith
  step_opens c (void_call is) r = omega arith
  step_opens c (return_rule {a = a}) r = omega (arith, answer_opens c a)
  step_opens c (def_rule {e = e} {ps = ps} {d = d} is) r = omega (arith, source_opens c _ (put_all_source d.params ps d.body (body_source defs e d ds is)))
  step_opens c (par_left d) r = omega (arith, step_opens c d r.0)
  step_opens c (par_right d) r = omega (arith, step_opens c d r.1)
  step_opens c (seq_other i d) r = step_opens c d r.0
  step_opens c (seq_value {g = g} {x = x} {v = v} d) r = omega (arith, step_opens c d r.0, source_opens c _ (put_source (Is v) x g r.1))
  step_opens c (prune_open {f = f} {g = g} {x = x} {c = e} new) r = omega (arith, source_opens c _ (put_source (Cell e) x f r.0), source_opens c g r.1)
  step_opens c (prune_left d) r = omega (arith, step_opens c d r.0)
  step_opens c (prune_right {c = e} {a = b} i d) r = omega (arith, step_opens c d r.1, gains_within c e b, sheds_within c e b)
  step_opens c (prune_bind {f = f} {c = e} {v = v} d) r = omega (arith, fill_opens (Is v) e c f)
  step_opens c (prune_lost {f = f} {c = e} is) r = omega (arith, fill_opens Void e c f)
  step_opens c (other_step i d) r = step_opens c d r.0
  step_opens c (other_value d) r = step_opens c d r.0
  step_opens c (other_halt {g = g} is) r = omega (arith, source_opens c g r.1)

  -- a call stands inside right sides of cells that are open
  pub step_within : (c : ℕ) {t u : Term} {a : Act} → Step defs used t a u → IsWithin c a → 0 < open_times c t
  step_within c value_rule h = elim h [ ]
  step_within c void_value h = elim h [ ]
  step_within c (site_call is new) h = elim h [ ]
  step_within c (void_call is) h = elim h [ ]
  step_within c return_rule h = elim h [ ]
  step_within c (def_rule is) h = elim h [ ]
  step_within c (par_left d) h = omega (arith, step_within c d h)
  step_within c (par_right d) h = omega (arith, step_within c d h)
  step_within c (seq_other i d) h = step_within c d h
  step_within c (seq_value d) h = elim h [ ]
  step_within c (prune_open new) h = elim h [ ]
  step_within c (prune_left d) h = omega (arith, step_within c d h)
  step_within c (prune_right {c = e} {a = b} i d) h =
      ⊎_elim (λ y. omega (arith, once_same (cell c) (cell e) (ap cell y))) (λ y. omega (arith, step_within c d y)) (within_either c e b h)
  step_within c (prune_bind d) h = elim h [ ]
  step_within c (prune_lost is) h = elim h [ ]
  step_within c (other_step i d) h = step_within c d h
  step_within c (other_value d) h = elim h [ ]
  step_within c (other_halt is) h = elim h [ ]

  -- a cell that is opened is new
  pub step_new : (c : ℕ) {t u : Term} {a : Act} → Step defs used t a u → 0 < gains c a → IsIn c used.cells → ⊥
  step_new c value_rule lt = λ i. omega (arith, lt)
  step_new c void_value lt = λ i. omega (arith, lt)
  step_new c (site_call is new) lt = λ i. omega (arith, lt)
  step_new c (void_call is) lt = λ i. omega (arith, lt)
  step_new c return_rule lt = λ i. omega (arith, lt)
  step_new c (def_rule is) lt = λ i. omega (arith, lt)
  step_new c (par_left d) lt = step_new c d lt
  step_new c (par_right d) lt = step_new c d lt
  step_new c (seq_other i d) lt = step_new c d lt
  step_new c (seq_value d) lt = λ i. omega (arith, lt)
  step_new c (prune_open {c = e} new) lt = λ i. not_used c e used.cells lt new i
  step_new c (prune_left d) lt = step_new c d lt
  step_new c (prune_right {c = e} {a = b} i d) lt = step_new c d (omega (arith, lt, gains_within c e b))
  step_new c (prune_bind d) lt = λ i. omega (arith, lt)
  step_new c (prune_lost is) lt = λ i. omega (arith, lt)
  step_new c (other_step i d) lt = step_new c d lt
  step_new c (other_value d) lt = λ i. omega (arith, lt)
  step_new c (other_halt is) lt = λ i. omega (arith, lt)
