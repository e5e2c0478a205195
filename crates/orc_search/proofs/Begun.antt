-- Which calls pend after a step: what hasn't begun is a source's, so that a call pends only once it is made.
use Rattle.std.proofs.Common.{◌≡◌, ℕ, List, [], ◌++◌, ◌⊎◌, refl, subst, inl, inr}
use Rattle.orc_rules.specs.declared.value.Answer.{Answer}
use Rattle.orc_rules.specs.declared.value.Answer.TheVariants.{Value as Gives, Halt}
use Rattle.orc_rules.specs.declared.param.Param.{Param}
use Rattle.orc_rules.specs.declared.param.Param.TheVariants.{Is, Cell, Void}
use Rattle.orc_rules.specs.Term.{Term, stop, param, site, call, par, seq, prune, other, pending, opened, Definition, put, put_all, fill, answered, pending_of}
use Rattle.orc_rules.specs.Step.{Act, calls, returns, binds, loses, publishes, silent, opens, within, Used, Step, value_rule, void_value, site_call, void_call, return_rule, def_rule, par_left, par_right, seq_other, seq_value, prune_open, prune_left, prune_right, prune_bind, prune_lost, other_step, other_value, other_halt}
use Rattle.orc_rules.specs.Timed.{IsIn}
use Rattle.orc_rules.specs.Lost.{IsSource}
use Rattle.orc_rules.proofs.Idle.{in_front, in_back}
use Rattle.orc_rules.proofs.Sources.{put_source, put_all_source, fill_source}
use Rattle.orc_search.specs.Kept.{AreBodies}
use Rattle.orc_search.specs.Paths.{HoldsSource}
use Rattle.orc_search.proofs.Ticks.{in_either}

pub source_holds : (t : Term) → IsSource t → HoldsSource t
source_holds stop s = tt
source_holds (param p) s = tt
source_holds (site m ps) s = tt
source_holds (call e ps) s = tt
source_holds (par f g) s = (source_holds f s.0, source_holds g s.1)
source_holds (seq f x g) s = (source_holds f s.0, s.1)
source_holds (prune f x g) s = s
source_holds (other f g) s = (source_holds f s.0, s.1)
source_holds (pending k) s = tt
source_holds (opened f c g) s = elim s [ ]

fill_holds : (w : Param) (c : ℕ) (t : Term) → HoldsSource t → HoldsSource (fill w c t)
fill_holds w c stop h = tt
fill_holds w c (param p) h = tt
fill_holds w c (site m ps) h = tt
fill_holds w c (call e ps) h = tt
fill_holds w c (par f g) h = (fill_holds w c f h.0, fill_holds w c g h.1)
fill_holds w c (seq f x g) h = (fill_holds w c f h.0, fill_source w c g h.1)
fill_holds w c (prune f x g) h = (fill_source w c f h.0, fill_source w c g h.1)
fill_holds w c (other f g) h = (fill_holds w c f h.0, fill_source w c g h.1)
fill_holds w c (pending k) h = tt
fill_holds w c (opened f d g) h = (fill_holds w c f h.0, fill_holds w c g h.1)

answered_holds : (a : Answer) → HoldsSource (answered a)
answered_holds (Gives v) = tt
answered_holds Halt = tt

module _ (defs : List Definition) (used : Used) (bodies : AreBodies defs) where
  pub holds_after : {t u : Term} {a : Act} → HoldsSource t → Step defs used t a u → HoldsSource u
  holds_after h value_rule = tt
  holds_after h void_value = tt
  holds_after h (site_call has new) = tt
  holds_after h (void_call has) = tt
  holds_after h (return_rule {a = a}) = answered_holds a
  holds_after h (def_rule {e = e} {ps = ps} {d = d} has) = source_holds (put_all d.params ps d.body) (put_all_source d.params ps d.body (bodies e d has).0)
  holds_after h (par_left s) = (holds_after h.0 s, h.1)
  holds_after h (par_right s) = (h.0, holds_after h.1 s)
  holds_after h (seq_other i s) = (holds_after h.0 s, h.1)
  holds_after h (seq_value {g = g} {x = x} {v = v} s) = ((holds_after h.0 s, h.1), source_holds (put (Is v) x g) (put_source (Is v) x g h.1))
  holds_after h (prune_open {f = f} {g = g} {x = x} {c = c} new) = (source_holds (put (Cell c) x f) (put_source (Cell c) x f h.0), source_holds g h.1)
  holds_after h (prune_left s) = (holds_after h.0 s, h.1)
  holds_after h (prune_right i s) = (h.0, holds_after h.1 s)
  holds_after h (prune_bind {f = f} {c = c} {v = v} s) = fill_holds (Is v) c f h.0
  holds_after h (prune_lost {f = f} {c = c} over) = fill_holds Void c f h.0
  holds_after h (other_step i s) = (holds_after h.0 s, h.1)
  holds_after h (other_value s) = holds_after h.0 s
  holds_after h (other_halt {g = g} over) = source_holds g h.1

-- the call that an act makes
abbrev pub Makes : Act → ℕ → Type 0
Makes (calls k m args cs) j = j ≡ k
Makes _ j = ⊥

makes_within : (c : ℕ) (a : Act) (j : ℕ) → Makes a j → Makes (within c a) j
makes_within c (calls k m args cs) j h = h
makes_within c (returns k a) j h = h
makes_within c (binds d v) j h = h
makes_within c (loses d) j h = h
makes_within c (publishes v) j h = h
makes_within c silent j h = h
makes_within c (opens d) j h = h

source_pends : (j : ℕ) (t : Term) → IsSource t → IsIn j (pending_of t) → ⊥
source_pends j stop s i = elim i [ ]
source_pends j (param p) s i = elim i [ ]
source_pends j (site m ps) s i = elim i [ ]
source_pends j (call e ps) s i = elim i [ ]
source_pends j (par f g) s i = go (in_either j (pending_of f) (pending_of g) i) (source_pends j f s.0) (source_pends j g s.1) where
  go : IsIn j (pending_of f) ⊎ IsIn j (pending_of g) → (IsIn j (pending_of f) → ⊥) → (IsIn j (pending_of g) → ⊥) → ⊥
  go (inl l) a b = a l
  go (inr r) a b = b r
source_pends j (seq f x g) s i = source_pends j f s.0 i
source_pends j (prune f x g) s i = elim i [ ]
source_pends j (other f g) s i = source_pends j f s.0 i
source_pends j (pending k) s i = elim s [ ]
source_pends j (opened f c g) s i = elim s [ ]

fill_pends : (w : Param) (c : ℕ) (t : Term) → pending_of (fill w c t) ≡ pending_of t
fill_pends w c stop = refl
fill_pends w c (param p) = refl
fill_pends w c (site m ps) = refl
fill_pends w c (call e ps) = refl
fill_pends w c (par f g) = λ i. fill_pends w c f i ++ fill_pends w c g i
fill_pends w c (seq f x g) = fill_pends w c f
fill_pends w c (prune f x g) = refl
fill_pends w c (other f g) = fill_pends w c f
fill_pends w c (pending k) = refl
fill_pends w c (opened f d g) = λ i. fill_pends w c f i ++ fill_pends w c g i

answered_pends : (j : ℕ) (a : Answer) → IsIn j (pending_of (answered a)) → ⊥
answered_pends j (Gives v) i = elim i [ ]
answered_pends j Halt i = elim i [ ]

module _ (j : ℕ) {M : Type 0} where
  in_left : (xs ys zs : List ℕ) → (IsIn j xs → IsIn j zs ⊎ M) → IsIn j (xs ++ ys) → IsIn j (zs ++ ys) ⊎ M
  in_left xs ys zs f i = go (in_either j xs ys i) where
    more : IsIn j zs ⊎ M → IsIn j (zs ++ ys) ⊎ M
    more (inl z) = inl (in_front j zs ys z)
    more (inr m) = inr m

    go : IsIn j xs ⊎ IsIn j ys → IsIn j (zs ++ ys) ⊎ M
    go (inl l) = more (f l)
    go (inr r) = inl (in_back j zs ys r)

  in_right : (xs ys zs : List ℕ) → (IsIn j ys → IsIn j zs ⊎ M) → IsIn j (xs ++ ys) → IsIn j (xs ++ zs) ⊎ M
  in_right xs ys zs f i = go (in_either j xs ys i) where
    more : IsIn j zs ⊎ M → IsIn j (xs ++ zs) ⊎ M
    more (inl z) = inl (in_back j xs zs z)
    more (inr m) = inr m

    go : IsIn j xs ⊎ IsIn j ys → IsIn j (xs ++ zs) ⊎ M
    go (inl l) = inl (in_front j xs zs l)
    go (inr r) = more (f r)

  -- nothing of a part is there
  none_of : (xs ys zs : List ℕ) → (IsIn j ys → ⊥) → (IsIn j xs → IsIn j zs ⊎ M) → IsIn j (xs ++ ys) → IsIn j zs ⊎ M
  none_of xs ys zs none f i = go (in_either j xs ys i) where
    go : IsIn j xs ⊎ IsIn j ys → IsIn j zs ⊎ M
    go (inl l) = f l
    go (inr r) = absurd (none r)

module _ (defs : List Definition) (used : Used) (bodies : AreBodies defs) (j : ℕ) where
  pub pends : {t u : Term} {a : Act} → HoldsSource t → Step defs used t a u → IsIn j (pending_of u) → IsIn j (pending_of t) ⊎ Makes a j
  pends h value_rule i = elim i [ ]
  pends h void_value i = elim i [ ]
  pends h (site_call has new) (inl e) = inr e
  pends h (site_call has new) (inr never) = elim never [ ]
  pends h (void_call has) i = elim i [ ]
  pends h (return_rule {a = a}) i = absurd (answered_pends j a i)
  pends h (def_rule {e = e} {ps = ps} {d = d} has) i = absurd (source_pends j (put_all d.params ps d.body) (put_all_source d.params ps d.body (bodies e d has).0) i)
  pends h (par_left {f = f} {g = g} {f' = f'} s) i = in_left j (pending_of f') (pending_of g) (pending_of f) (λ p. pends h.0 s p) i
  pends h (par_right {f = f} {g = g} {g' = g'} s) i = in_right j (pending_of f) (pending_of g') (pending_of g) (λ p. pends h.1 s p) i
  pends h (seq_other k s) i = pends h.0 s i
  pends h (seq_value {f = f} {g = g} {f' = f'} {x = x} {v = v} s) i =
      none_of j (pending_of f') (pending_of (put (Is v) x g)) (pending_of f) (source_pends j (put (Is v) x g) (put_source (Is v) x g h.1)) (λ p. pends h.0 s p) i
  pends h (prune_open {f = f} {g = g} {x = x} {c = c} new) i =
      none_of j (pending_of (put (Cell c) x f)) (pending_of g) [] (source_pends j g h.1) (λ p. absurd (source_pends j (put (Cell c) x f) (put_source (Cell c) x f h.0) p)) i
  pends h (prune_left {f = f} {g = g} {f' = f'} s) i = in_left j (pending_of f') (pending_of g) (pending_of f) (λ p. pends h.0 s p) i
  pends h (prune_right {f = f} {g = g} {g' = g'} {c = c} {a = a} k s) i = in_right j (pending_of f) (pending_of g') (pending_of g) (λ p. inside (pends h.1 s p)) i where
    inside : IsIn j (pending_of g) ⊎ Makes a j → IsIn j (pending_of g) ⊎ Makes (within c a) j
    inside (inl l) = inl l
    inside (inr m) = inr (makes_within c a j m)
  pends h (prune_bind {f = f} {g = g} {c = c} {v = v} s) i = inl (in_front j (pending_of f) (pending_of g) (subst (IsIn j) (fill_pends (Is v) c f) i))
  pends h (prune_lost {f = f} {g = g} {c = c} over) i = inl (in_front j (pending_of f) (pending_of g) (subst (IsIn j) (fill_pends Void c f) i))
  pends h (other_step k s) i = pends h.0 s i
  pends h (other_value s) i = pends h.0 s i
  pends h (other_halt {g = g} over) i = absurd (source_pends j g h.1 i)
