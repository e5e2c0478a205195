-- A token that stands once has one taker, and its publication leaves one marked term.
use Rattle.std.proofs.Common.{◌≡◌, ◌<◌, ◌≤◌, ℕ, Option, Some, None, refl, sym, ap, ◌∙◌, ⊎_elim, arith}
use Rattle.std.specs.Prelude.{cond, option_map}
use Rattle.orc_rules.specs.declared.value.Value.{Value}
use Rattle.orc_rules.specs.declared.param.Param.TheVariants.{Is}
use Rattle.orc_rules.specs.Term.{Term, put}
use Rattle.orc_rules.specs.Step.{Act, calls, returns, binds, loses, publishes, silent, opens, within, IsInner}
use Rattle.orc_rules.specs.Marked.{Marked, ended, token, in_call, in_par, in_seq, in_opened, in_other, fill_marked, Emits, emits, on_left, on_right, on_feeding, is_fed, on_main, on_side, is_bound, on_entered, passes}
use Rattle.orc_rules.specs.Numbered.{mark, name_eq, times}
use Rattle.orc_rules.proofs.Numbered.{name_is, once_same}
use Rattle.orc_rules.proofs.Lookup.{first_of, some_is, not_here}

-- what a publication does: its act, and the marked term that it leaves
pub record Outcome : Type 0 where
  pub act : Act
  pub after : Marked

abbrev pub on : Act → Marked → Outcome
on b m = record { act = b; after = m }

-- the same around it: a left side, a right side, of `>x>`, of a pruning, and of an otherwise
abbrev fed : ℕ → ℕ → Term → Act → Marked → Outcome
fed a x g (publishes v) f = on silent (in_par (in_seq f x g) (token a (put (Is v) x g)))
fed a x g b f = on b (in_seq f x g)

abbrev taken : Marked → ℕ → Act → Marked → Outcome
taken f c (publishes v) g = on (binds c v) (fill_marked (Is v) c f)
taken f c b g = on (within c b) (in_opened f c g)

abbrev passed : ℕ → Term → Act → Marked → Outcome
passed n g (publishes v) f = on (publishes v) f
passed n g b f = on b (in_other n f g)

-- what happens where token s publishes v
abbrev emitted : ℕ → ℕ → Value → Marked → Option Outcome
emitted s a v ended = None
emitted s a v (token r t) = cond (name_eq (mark s) (mark r)) (Some (on (publishes v) ended)) None
emitted s a v (in_call k) = None
emitted s a v (in_par f g) = first_of (option_map (λ o. on (Outcome.act o) (in_par (Outcome.after o) g)) (emitted s a v f)) (option_map (λ o. on (Outcome.act o) (in_par f (Outcome.after o))) (emitted s a v g))
emitted s a v (in_seq f x g) = option_map (λ o. fed a x g (Outcome.act o) (Outcome.after o)) (emitted s a v f)
emitted s a v (in_opened f c g) = first_of (option_map (λ o. on (Outcome.act o) (in_opened (Outcome.after o) c g)) (emitted s a v f)) (option_map (λ o. taken f c (Outcome.act o) (Outcome.after o)) (emitted s a v g))
emitted s a v (in_other n f g) = option_map (λ o. passed n g (Outcome.act o) (Outcome.after o)) (emitted s a v f)

mute : (s a : ℕ) (v : Value) (m : Marked) → times (mark s) m ≡ 0 → emitted s a v m ≡ None
mute s a v ended h = refl
mute s a v (token r t) h = ap (λ b. cond b (Some (on (publishes v) ended)) None) (not_here (mark s) (mark r) h)
mute s a v (in_call k) h = refl
mute s a v (in_par f g) h =
    λ i. first_of (option_map (λ o. on (Outcome.act o) (in_par (Outcome.after o) g)) (mute s a v f (omega (arith, h)) i)) (option_map (λ o. on (Outcome.act o) (in_par f (Outcome.after o))) (mute s a v g (omega (arith, h)) i))
mute s a v (in_seq f x g) h = ap (option_map (λ o. fed a x g (Outcome.act o) (Outcome.after o))) (mute s a v f h)
mute s a v (in_opened f c g) h =
    λ i. first_of (option_map (λ o. on (Outcome.act o) (in_opened (Outcome.after o) c g)) (mute s a v f (omega (arith, h)) i)) (option_map (λ o. taken f c (Outcome.act o) (Outcome.after o)) (mute s a v g (omega (arith, h)) i))
mute s a v (in_other n f g) h = ap (option_map (λ o. passed n g (Outcome.act o) (Outcome.after o))) (mute s a v f (omega (arith, h)))

-- the token is there
pub stands : {s a : ℕ} {v : Value} {m m' : Marked} {b : Act} → Emits s a v m b m' → 0 < times (mark s) m
stands {s} emits = omega (arith, once_same (mark s) (mark s) refl)
stands (on_left e) = omega (arith, stands e)
stands (on_right e) = omega (arith, stands e)
stands (on_feeding i e) = stands e
stands (is_fed e) = stands e
stands (on_main e) = omega (arith, stands e)
stands (on_side i e) = omega (arith, stands e)
stands (is_bound e) = omega (arith, stands e)
stands (on_entered i e) = omega (arith, stands e)
stands (passes e) = omega (arith, stands e)

fed_inner : (a x : ℕ) (g : Term) (b : Act) (f : Marked) → IsInner b → fed a x g b f ≡ on b (in_seq f x g)
fed_inner a x g (publishes v) f i = elim i [ ]
fed_inner a x g (calls k m args cs) f i = refl
fed_inner a x g (returns k v) f i = refl
fed_inner a x g (binds c v) f i = refl
fed_inner a x g (loses c) f i = refl
fed_inner a x g silent f i = refl
fed_inner a x g (opens c) f i = refl

taken_inner : (f : Marked) (c : ℕ) (b : Act) (g : Marked) → IsInner b → taken f c b g ≡ on (within c b) (in_opened f c g)
taken_inner f c (publishes v) g i = elim i [ ]
taken_inner f c (calls k m args cs) g i = refl
taken_inner f c (returns k v) g i = refl
taken_inner f c (binds d v) g i = refl
taken_inner f c (loses d) g i = refl
taken_inner f c silent g i = refl
taken_inner f c (opens d) g i = refl

passed_inner : (n : ℕ) (g : Term) (b : Act) (f : Marked) → IsInner b → passed n g b f ≡ on b (in_other n f g)
passed_inner n g (publishes v) f i = elim i [ ]
passed_inner n g (calls k m args cs) f i = refl
passed_inner n g (returns k v) f i = refl
passed_inner n g (binds c v) f i = refl
passed_inner n g (loses c) f i = refl
passed_inner n g silent f i = refl
passed_inner n g (opens c) f i = refl

-- a publication is the one that is found
pub emitted_there : {s a : ℕ} {v : Value} {m m' : Marked} {b : Act} → Emits s a v m b m' → times (mark s) m ≤ 1 → emitted s a v m ≡ Some (on b m')
emitted_there {s} {v = v} emits le = ⊎_elim (λ y. ap (λ b. cond b (Some (on (publishes v) ended)) None) y.1) (λ y. absurd (y.0 refl)) (name_is (mark s) (mark s))
emitted_there {s} {a} {v} (on_left {f = f} {g = g} e) le =
    ap (λ w. first_of (option_map (λ o. on (Outcome.act o) (in_par (Outcome.after o) g)) w) (option_map (λ o. on (Outcome.act o) (in_par f (Outcome.after o))) (emitted s a v g))) (emitted_there e (omega (arith, le)))
emitted_there {s} {a} {v} (on_right {f = f} {g = g} e) le =
    λ i. first_of (option_map (λ o. on (Outcome.act o) (in_par (Outcome.after o) g)) (mute s a v f (omega (arith, le, stands e)) i)) (option_map (λ o. on (Outcome.act o) (in_par f (Outcome.after o))) (emitted_there e (omega (arith, le)) i))
emitted_there {a = a} (on_feeding {f' = f'} {z = z} {g = g} {b = b} i e) le =
    ap (option_map (λ o. fed a z g (Outcome.act o) (Outcome.after o))) (emitted_there e le) ∙ ap Some (fed_inner a z g b f' i)
emitted_there {a = a} (is_fed {z = z} {g = g} e) le = ap (option_map (λ o. fed a z g (Outcome.act o) (Outcome.after o))) (emitted_there e le)
emitted_there {s} {a} {v} (on_main {f = f} {g = g} {c = c} e) le =
    ap (λ w. first_of (option_map (λ o. on (Outcome.act o) (in_opened (Outcome.after o) c g)) w) (option_map (λ o. taken f c (Outcome.act o) (Outcome.after o)) (emitted s a v g))) (emitted_there e (omega (arith, le)))
emitted_there {s} {a} {v} (on_side {f = f} {g = g} {g' = g'} {c = c} {b = b} i e) le =
    (λ i. first_of (option_map (λ o. on (Outcome.act o) (in_opened (Outcome.after o) c g)) (mute s a v f (omega (arith, le, stands e)) i)) (option_map (λ o. taken f c (Outcome.act o) (Outcome.after o)) (emitted_there e (omega (arith, le)) i)))
    ∙ ap Some (taken_inner f c b g' i)
emitted_there {s} {a} {v} (is_bound {f = f} {g = g} {c = c} e) le =
    λ i. first_of (option_map (λ o. on (Outcome.act o) (in_opened (Outcome.after o) c g)) (mute s a v f (omega (arith, le, stands e)) i)) (option_map (λ o. taken f c (Outcome.act o) (Outcome.after o)) (emitted_there e (omega (arith, le)) i))
emitted_there (on_entered {n = n} {f' = f'} {g = g} {b = b} i e) le =
    ap (option_map (λ o. passed n g (Outcome.act o) (Outcome.after o))) (emitted_there e (omega (arith, le))) ∙ ap Some (passed_inner n g b f' i)
emitted_there (passes {n = n} {g = g} e) le = ap (option_map (λ o. passed n g (Outcome.act o) (Outcome.after o))) (emitted_there e (omega (arith, le)))

-- two publications of one token do the same, and leave the same
pub same_taker : {s a : ℕ} {v : Value} {m m' m'' : Marked} {b b' : Act} → Emits s a v m b m' → Emits s a v m b' m'' → times (mark s) m ≤ 1 → b ≡ b'
same_taker e e' le = ap (λ (o : Outcome). o.act) (some_is _ _ (sym (emitted_there e le) ∙ emitted_there e' le))

pub same_after : {s a : ℕ} {v : Value} {m m' m'' : Marked} {b b' : Act} → Emits s a v m b m' → Emits s a v m b' m'' → times (mark s) m ≤ 1 → m' ≡ m''
same_after e e' le = ap (λ (o : Outcome). o.after) (some_is _ _ (sym (emitted_there e le) ∙ emitted_there e' le))
