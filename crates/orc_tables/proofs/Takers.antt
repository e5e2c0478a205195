-- What takes a publication from each step, and which otherwises have their marks, as steps are added and left.
use Rattle.std.proofs.Common.{◌≡◌, ◌≤◌, ◌<◌, ◌+◌, ◌-◌, ℕ, zero, suc, List, [], ◌∷◌, ◌++◌, refl, sym, ap, ◌∙◌, subst, arith, length, get_or, Bool, true, false, cond, Option, Some, None, inl, inr, ◌⊎◌, ⊎_elim}
use Rattle.std.specs.Prelude.{slice_get, slice_set, option_to_list, MatchOption}
use Rattle.std.proofs.lemmas.List.{length-set}
use Rattle.std.proofs.Math.Decide.{ℕ_discrete}
use Rattle.orc_tables.specs.declared.records.Step.{Step}
use Rattle.orc_tables.specs.Steps.{step_at, AreOutwards, is_try, past_try, taker_among, taker_at, marked, mark_at, past_left, left_among, IsMarked, AreMarked, AreLinked}
use Rattle.orc_tables.proofs.Placed.{there, same_some, got-within, got-more, more-got, end-got, set-at, set-off}

at-more : (ss : List Step) (x : Step) (i : ℕ) → i ≤ length ss → step_at (ss ++ x ∷ []) i ≡ step_at ss i
at-more ss x zero le = refl
at-more ss x (suc k) le = let e = there ss k x (omega (arith, le)) in more-got ss x k (get_or ss k x) e ∙ sym e

pub outer-before : (ss : List Step) → AreOutwards ss → (i : ℕ) (p : Step) → step_at ss i ≡ Some p → p.outer < i
outer-before ss outwards zero p h = cc h
outer-before ss outwards (suc k) p h = omega (arith, outwards k p h)

-- ---- takers
past-alike : (f g : ℕ → ℕ) (i : ℕ) (o : Option Step) → ((p : Step) → o ≡ Some p → f p.outer ≡ g p.outer) → past_try f i o ≡ past_try g i o
past-alike f g i None same = refl
past-alike f g i (Some p) same = go (is_try p.entered)
  where
    go : (b : Bool) → cond b (f p.outer) i ≡ cond b (g p.outer) i
    go true = same p refl
    go false = refl

taker-more : (ss : List Step) (x : Step) → AreOutwards ss → (n i : ℕ) → i ≤ length ss → taker_among n (ss ++ x ∷ []) i ≡ taker_among n ss i
taker-more ss x outwards zero i le = refl
taker-more ss x outwards (suc n) i le =
    ap (past_try (λ j. taker_among n (ss ++ x ∷ []) j) i) (at-more ss x i le)
    ∙ past-alike (λ j. taker_among n (ss ++ x ∷ []) j) (λ j. taker_among n ss j) i (step_at ss i) (λ p h. taker-more ss x outwards n p.outer (omega (arith, outer-before ss outwards i p h, le)))

taker-none : (ss : List Step) (n i : ℕ) → i ≡ 0 → taker_among n ss i ≡ i
taker-none ss zero i e = refl
taker-none ss (suc n) i e = ap (past_try (λ j. taker_among n ss j) i) (ap (step_at ss) e)

-- as many steps outwards as there can be are enough
pub taker-enough : (ss : List Step) → AreOutwards ss → (n m i : ℕ) → i ≤ n → i ≤ m → taker_among n ss i ≡ taker_among m ss i
taker-enough ss outwards zero m i le lf = sym (taker-none ss m i (omega (arith, le)))
taker-enough ss outwards (suc n) zero i le lf = taker-none ss (suc n) i (omega (arith, lf))
taker-enough ss outwards (suc n) (suc m) i le lf =
    past-alike (λ j. taker_among n ss j) (λ j. taker_among m ss j) i (step_at ss i) (λ p h.
    let before = outer-before ss outwards i p h in
    taker-enough ss outwards n m p.outer (omega (arith, before, le)) (omega (arith, before, lf)))

-- a taker is no otherwise
pub taker-stops : (ss : List Step) → AreOutwards ss → (n i : ℕ) → i ≤ n → (p : Step) → step_at ss (taker_among n ss i) ≡ Some p → is_try p.entered ≡ false
taker-stops ss outwards zero i le p h = cc (sym (ap (step_at ss) (let e : i ≡ 0 = omega (arith, le) in e)) ∙ h)
taker-stops ss outwards (suc n) i le p h = go (step_at ss i) refl h (λ q less k. taker-stops ss outwards n q.outer (omega (arith, less, le)) p k)
  where
    go : (o : Option Step) → step_at ss i ≡ o → step_at ss (past_try (λ j. taker_among n ss j) i o) ≡ Some p → ((q : Step) → q.outer < i → step_at ss (taker_among n ss q.outer) ≡ Some p → is_try p.entered ≡ false) → is_try p.entered ≡ false
    go None e g past = cc (sym e ∙ g)
    go (Some q) e g past = on (is_try q.entered) refl g
      where
        on : (b : Bool) → is_try q.entered ≡ b → step_at ss (cond b (taker_among n ss q.outer) i) ≡ Some p → is_try p.entered ≡ false
        on true f k = past q (outer-before ss outwards i q e) k
        on false f k = ap (λ (z : Step). is_try z.entered) (same_some p q (sym k ∙ e)) ∙ f

-- the taker of a step that is added
new-taker : (ss : List Step) (x : Step) → taker_at (ss ++ x ∷ []) (suc (length ss)) ≡ cond (is_try x.entered) (taker_among (length ss) (ss ++ x ∷ []) x.outer) (suc (length ss))
new-taker ss x = ap (past_try (λ j. taker_among (length ss) (ss ++ x ∷ []) j) (suc (length ss))) (end-got ss x)

pub new-outer : (ss : List Step) (x : Step) → AreOutwards ss → x.outer ≤ length ss → is_try x.entered ≡ true → taker_at (ss ++ x ∷ []) (suc (length ss)) ≡ taker_at ss x.outer
new-outer ss x outwards within e =
    new-taker ss x
    ∙ ap (λ b. cond b (taker_among (length ss) (ss ++ x ∷ []) x.outer) (suc (length ss))) e
    ∙ taker-more ss x outwards (length ss) x.outer within
    ∙ taker-enough ss outwards (length ss) x.outer x.outer within (omega arith)

pub new-itself : (ss : List Step) (x : Step) → is_try x.entered ≡ false → taker_at (ss ++ x ∷ []) (suc (length ss)) ≡ suc (length ss)
new-itself ss x e = new-taker ss x ∙ ap (λ b. cond b (taker_among (length ss) (ss ++ x ∷ []) x.outer) (suc (length ss))) e

-- ---- a step is added
length-more : {X : Type 0} (xs : List X) (x : X) → length (xs ++ x ∷ []) ≡ suc (length xs)
length-more [] x = refl
length-more (y ∷ xs) x = ap suc (length-more xs x)

module _ (ss : List Step) (takers : List ℕ) (L : AreLinked ss takers) (x : Step) (within : x.outer ≤ length ss) (bare : x.published ≡ false) where
  outwards-push : AreOutwards (ss ++ x ∷ [])
  outwards-push k p h = ⊎_elim (λ old. L.outwards k p old) (λ new. omega (arith, new.0, ap (λ (z : Step). z.outer) new.1, within)) (got-more ss x k p h)

  marks-push : AreMarked (ss ++ x ∷ [])
  marks-push k p h tries has =
      ⊎_elim
      (λ old. λ q g. L.marks k p old tries has q (sym (at-more ss x p.outer (omega (arith, L.outwards k p old, got-within ss k p old))) ∙ g))
      (λ new. cc (sym has ∙ ap (λ (z : Step). z.published) new.1 ∙ bare))
      (got-more ss x k p h)

  pub linked-push : (t : ℕ) → t ≡ taker_at (ss ++ x ∷ []) (suc (length ss)) → AreLinked (ss ++ x ∷ []) (takers ++ t ∷ [])
  linked-push t is = record {
    outwards = outwards-push;
    count = length-more takers t ∙ ap suc L.count ∙ sym (length-more ss x);
    noted = λ k lt. go k (ℕ_discrete k (length ss)) (omega (arith, lt, length-more ss x));
    marks = marks-push;
  }
    where
      go : (k : ℕ) → Dec (k ≡ length ss) → k < suc (length ss) → slice_get (takers ++ t ∷ []) k ≡ Some (taker_at (ss ++ x ∷ []) (suc k))
      go k (yes e) lt = ap (slice_get (takers ++ t ∷ [])) (e ∙ sym L.count) ∙ end-got takers t ∙ ap Some (is ∙ ap (λ z. taker_at (ss ++ x ∷ []) (suc z)) (sym e))
      go k (no off) lt =
          let le : k < length ss = omega (arith, off, lt) in
          more-got takers t k (taker_at ss (suc k)) (L.noted k le) ∙ ap Some (sym (taker-more ss x L.outwards (suc k) (suc k) (omega (arith, le))))

-- ---- the last step goes
module _ (ss : List Step) (takers : List ℕ) (x : Step) (t : ℕ) (L : AreLinked (ss ++ x ∷ []) (takers ++ t ∷ [])) where
  outwards-dropped : AreOutwards ss
  outwards-dropped k p h = L.outwards k p (more-got ss x k p h)

  marks-dropped : AreMarked ss
  marks-dropped k p h tries has q g = L.marks k p (more-got ss x k p h) tries has q (at-more ss x p.outer (omega (arith, outwards-dropped k p h, got-within ss k p h)) ∙ g)

  count-dropped : length takers ≡ length ss
  count-dropped = omega (arith, L.count, length-more takers t, length-more ss x)

  pub linked-dropped : AreLinked ss takers
  linked-dropped = record {
    outwards = outwards-dropped;
    count = count-dropped;
    noted = λ k lt.
        let here = there takers k t (omega (arith, lt, count-dropped)) in
        here
        ∙ sym (more-got takers t k (get_or takers k t) here)
        ∙ L.noted k (omega (arith, lt, length-more ss x))
        ∙ ap Some (taker-more ss x outwards-dropped (suc k) (suc k) (omega (arith, lt)));
    marks = marks-dropped;
  }

-- as two lists are popped
pub linked-popped : (ss ss' : List Step) (takers takers' : List ℕ) (last : Option Step) (taker : Option ℕ) (n n' m m' : ℕ) → AreLinked ss takers → ss ≡ ss' ++ option_to_list last → takers ≡ takers' ++ option_to_list taker
    → MatchOption last ((n ≡ 0) × (n' ≡ 0)) (λ p. n' + 1 ≡ n) → 1 ≤ n → MatchOption taker ((m ≡ 0) × (m' ≡ 0)) (λ t. m' + 1 ≡ m) → 1 ≤ m → AreLinked ss' takers'
linked-popped ss ss' takers takers' None taker n n' m m' L e f a some b many = absurd (omega (arith, a, some))
linked-popped ss ss' takers takers' (Some p) None n n' m m' L e f a some b many = absurd (omega (arith, b, many))
linked-popped ss ss' takers takers' (Some p) (Some t) n n' m m' L e f a some b many = linked-dropped ss' takers' p t (subst (AreLinked (ss' ++ p ∷ [])) f (subst (λ z. AreLinked z takers) e L))

-- ---- otherwises are left
-- so it is with all but the one outside of which a publication is about to go
abbrev pub AreMarkedBut : List Step → ℕ → Type 0
AreMarkedBut ss at = (k : ℕ) (p : Step) → slice_get ss k ≡ Some p → is_try p.entered ≡ true → p.published ≡ true → (p.outer ≡ at) ⊎ IsMarked ss p.outer

pub marked-all : (ss : List Step) (at : ℕ) → AreMarkedBut ss at → IsMarked ss at → AreMarked ss
marked-all ss at but here k p h tries has = ⊎_elim (λ e. subst (IsMarked ss) (sym e) here) (λ w. w) (but k p h tries has)

set-same : (ss : List Step) (k : ℕ) (x : Step) → slice_get ss k ≡ Some x → slice_set ss k x ≡ ss
set-same [] k x h = cc h
set-same (z ∷ ss) zero x h = ap (λ w. w ∷ ss) (sym (same_some z x h))
set-same (z ∷ ss) (suc k) x h = ap (λ w. z ∷ w) (set-same ss k x h)

is-marked : (x : Step) → x.published ≡ true → marked x ≡ x
is-marked x e = λ i. record { entered = x.entered; outer = x.outer; group = x.group; depth = x.depth; published = sym e i }

-- past an otherwise with its mark there is none without
pub left-idle : (ss : List Step) → AreMarked ss → (n at : ℕ) → IsMarked ss at → left_among n ss at ≡ ss
left-idle ss all zero at here = refl
left-idle ss all (suc n) at here = go at (step_at ss at) refl here (λ p next. left-idle ss all n p.outer next)
  where
    go : (at : ℕ) (o : Option Step) → step_at ss at ≡ o → IsMarked ss at → ((p : Step) → IsMarked ss p.outer → left_among n ss p.outer ≡ ss) → past_left (λ rest j. left_among n rest j) ss at o ≡ ss
    go at None e here past = refl
    go zero (Some p) e here past = cc e
    go (suc k) (Some p) e here past = on (is_try p.entered) refl
      where
        on : (b : Bool) → is_try p.entered ≡ b → cond b (left_among n (slice_set ss k (marked p)) p.outer) ss ≡ ss
        on false f = refl
        on true f =
            let has = here p e f in
            ap (λ z. left_among n z p.outer) (ap (slice_set ss k) (is-marked p has) ∙ set-same ss k p e) ∙ past p (all k p e f has)

module _ (ss : List Step) (k : ℕ) (x : Step) (h : slice_get ss k ≡ Some x) where
  -- the steps once the one at k has its mark
  rest : List Step
  rest = slice_set ss k (marked x)

  same-step : (j : ℕ) (p : Step) → slice_get (slice_set ss k (marked x)) j ≡ Some p → (q : Step) × (slice_get ss j ≡ Some q) × (p.outer ≡ q.outer) × (p.entered ≡ q.entered) × ((p ≡ q) ⊎ (j ≡ k))
  same-step j p g = go (ℕ_discrete j k)
    where
      go : Dec (j ≡ k) → (q : Step) × (slice_get ss j ≡ Some q) × (p.outer ≡ q.outer) × (p.entered ≡ q.entered) × ((p ≡ q) ⊎ (j ≡ k))
      go (yes e) =
          let is : p ≡ marked x = same_some p (marked x) (sym g ∙ ap (slice_get (slice_set ss k (marked x))) e ∙ set-at ss k (marked x) (got-within ss k x h)) in
          (x, ap (slice_get ss) e ∙ h, ap (λ (z : Step). z.outer) is, ap (λ (z : Step). z.entered) is, inr e)
      go (no off) = (p, sym (set-off ss k j (marked x) off) ∙ g, refl, refl, inl refl)

  pub outwards-set : AreOutwards ss → AreOutwards (slice_set ss k (marked x))
  outwards-set outwards j p g = let w = same-step j p g in omega (arith, outwards j w.0 w.1, w.2)

  marked-set : (i : ℕ) → IsMarked ss i → IsMarked (slice_set ss k (marked x)) i
  marked-set zero here p g tries = cc g
  marked-set (suc j) here p g tries = go (ℕ_discrete j k)
    where
      go : Dec (j ≡ k) → p.published ≡ true
      go (yes e) = ap (λ (z : Step). z.published) (same_some p (marked x) (sym g ∙ ap (slice_get (slice_set ss k (marked x))) e ∙ set-at ss k (marked x) (got-within ss k x h)))
      go (no off) = here p (sym (set-off ss k j (marked x) off) ∙ g) tries

  marked-here : IsMarked (slice_set ss k (marked x)) (suc k)
  marked-here p g tries = ap (λ (z : Step). z.published) (same_some p (marked x) (sym g ∙ set-at ss k (marked x) (got-within ss k x h)))

  pub but-set : AreMarkedBut ss (suc k) → AreMarkedBut (slice_set ss k (marked x)) x.outer
  but-set but j p g tries has = go (ℕ_discrete j k)
    where
      go : Dec (j ≡ k) → (p.outer ≡ x.outer) ⊎ IsMarked (slice_set ss k (marked x)) p.outer
      go (yes e) = inl (ap (λ (z : Step). z.outer) (same_some p (marked x) (sym g ∙ ap (slice_get (slice_set ss k (marked x))) e ∙ set-at ss k (marked x) (got-within ss k x h))))
      go (no off) =
          ⊎_elim
          (λ e. inr (subst (IsMarked (slice_set ss k (marked x))) (sym e) marked-here))
          (λ w. inr (marked-set p.outer w))
          (but j p (sym (set-off ss k j (marked x) off) ∙ g) tries has)

  at-set : (f : ℕ → ℕ) (i : ℕ) → past_try f i (step_at (slice_set ss k (marked x)) i) ≡ past_try f i (step_at ss i)
  at-set f zero = refl
  at-set f (suc j) = go (ℕ_discrete j k)
    where
      go : Dec (j ≡ k) → past_try f (suc j) (slice_get (slice_set ss k (marked x)) j) ≡ past_try f (suc j) (slice_get ss j)
      go (yes e) =
          ap (past_try f (suc j)) (ap (slice_get (slice_set ss k (marked x))) e ∙ set-at ss k (marked x) (got-within ss k x h))
          ∙ ap (past_try f (suc j)) (sym (ap (slice_get ss) e ∙ h))
      go (no off) = ap (past_try f (suc j)) (set-off ss k j (marked x) off)

  taker-set : (n i : ℕ) → taker_among n (slice_set ss k (marked x)) i ≡ taker_among n ss i
  taker-set zero i = refl
  taker-set (suc n) i =
      at-set (λ j. taker_among n (slice_set ss k (marked x)) j) i
      ∙ past-alike (λ j. taker_among n (slice_set ss k (marked x)) j) (λ j. taker_among n ss j) i (step_at ss i) (λ p e. taker-set n p.outer)

marked-if : (ss : List Step) (at : ℕ) (x : Step) → step_at ss at ≡ Some x → (is_try x.entered ≡ true → x.published ≡ true) → IsMarked ss at
marked-if ss at x h here p g tries =
    let same : p ≡ x = same_some p x (sym g ∙ h) in
    ap (λ (z : Step). z.published) same ∙ here (ap (λ (z : Step). is_try z.entered) (sym same) ∙ tries)

-- all that the table keeps while a publication is on its way outwards
pub record AreLinkedBut (ss : List Step) (takers : List ℕ) (at : ℕ) : Type 0 where
  pub outwards : AreOutwards ss
  pub count : length takers ≡ length ss
  pub noted : (k : ℕ) → k < length ss → slice_get takers k ≡ Some (taker_at ss (suc k))
  pub marks : AreMarkedBut ss at

pub linked-end : (ss : List Step) (takers : List ℕ) (at : ℕ) → AreLinkedBut ss takers at → IsMarked ss at → AreLinked ss takers
linked-end ss takers at L here = record { outwards = L.outwards; count = L.count; noted = L.noted; marks = marked-all ss at L.marks here }

linked-set : (ss : List Step) (takers : List ℕ) (k : ℕ) (x : Step) → slice_get ss k ≡ Some x → AreLinkedBut ss takers (suc k) → AreLinkedBut (slice_set ss k (marked x)) takers x.outer
linked-set ss takers k x h L = record {
  outwards = outwards-set ss k x h L.outwards;
  count = L.count ∙ sym (length-set ss k (marked x));
  noted = λ j lt. L.noted j (omega (arith, lt, length-set ss k (marked x))) ∙ ap Some (sym (taker-set ss k x h (suc j) (suc j)));
  marks = but-set ss k x h L.marks;
}

-- the step that is read there
pub step-there : (ss : List Step) (at : ℕ) (x : Step) → at ≤ length ss → (at ≡ 0 → ⊥) → x ≡ get_or ss (at - 1) x → slice_get ss (at - 1) ≡ Some x
step-there ss at x within off is = there ss (at - 1) x (omega (arith, within, off)) ∙ ap Some (sym is)

-- ---- one step of the way, from step `at`
module _ (ss : List Step) (at : ℕ) (off : at ≡ 0 → ⊥) (x : Step) (h : slice_get ss (at - 1) ≡ Some x) where
  number : at ≡ suc (at - 1)
  number = omega (arith, off)

  here : step_at ss at ≡ Some x
  here = ap (step_at ss) number ∙ h

  -- it ends here
  pub way-ends : (is_try x.entered ≡ true → x.published ≡ true) → IsMarked ss at
  way-ends = marked-if ss at x here

  module _ (takers : List ℕ) (L : AreLinkedBut ss takers at) where
    pub way-linked : AreLinkedBut (slice_set ss (at - 1) (marked x)) takers x.outer
    way-linked = linked-set ss takers (at - 1) x h (subst (AreLinkedBut ss takers) number L)

    pub way-falls : x.outer < at
    way-falls = outer-before ss L.outwards at x here

    pub way-rest : (ending : List Step) → is_try x.entered ≡ true → ((n : ℕ) × (at ≤ n) × (left_among n ss at ≡ ending)) → (n : ℕ) × (x.outer ≤ n) × (left_among n (slice_set ss (at - 1) (marked x)) x.outer ≡ ending)
    way-rest ending tries r = go r.0 r.1 r.2
      where
        go : (n : ℕ) → at ≤ n → left_among n ss at ≡ ending → (n : ℕ) × (x.outer ≤ n) × (left_among n (slice_set ss (at - 1) (marked x)) x.outer ≡ ending)
        go zero le e = absurd (omega (arith, le, off))
        go (suc m) le e =
            (m, omega (arith, le, way-falls), ap (λ z. left_among m (mark_at ss z x) x.outer) (sym number) ∙ sym (ap (past_left (λ rest j. left_among m rest j) ss at) here ∙ ap (λ b. cond b (left_among m (mark_at ss at x) x.outer) ss) tries) ∙ e)
