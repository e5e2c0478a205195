-- The otherwises on a publication's way get their marks, one after another.
use Rattle.std.proofs.Common.{◌≡◌, ◌≤◌, ◌<◌, ◌-◌, ℕ, zero, suc, List, [], ◌∷◌, ◌++◌, append-nil, append_assoc, refl, sym, ap, ◌∙◌, subst, arith, length, map, Bool, true, false, cond, nat_eq, eq-eqb, Option, Some, None as Nothing}
use Rattle.std.specs.Prelude.{slice_get, slice_set, ◌||◌, ◌&&◌}
use Rattle.std.proofs.lemmas.Bool.{eqb-true}
use Rattle.orc_rules.specs.Term.{Term}
use Rattle.orc_env.specs.Scopes.{Env}
use Rattle.orc_frames.specs.Spelling.{trying, seen}
use Rattle.orc_frames.specs.Paths.{path, inwards, has_published, enters_left_of}
use Rattle.orc_frames.specs.Taking.{crossed, Publishes, left_all, bare}
use Rattle.orc_tables.specs.Steps.{AreOutwards, is_try, marked, past_left, left_among, left_from}
use Rattle.orc_tables.specs.declared.records.Frame.{Frame}
use Rattle.orc_tables.specs.declared.records.Frame.TheVariants.{SeqLeft, PruneRight, OtherwiseLeft}
use Rattle.orc_tables.specs.declared.records.Step.{Step}
use Rattle.orc_tables.proofs.Placed.{or-got}
use Rattle.orc_frames.proofs.Growth.{path-unfold, path-none}
use Rattle.orc_frames.proofs.Taken.{entered-try}
use Rattle.orc_rules.specs.Nodes.{code}

rest_of : {X : Type 0} → List X → List X
rest_of [] = []
rest_of (x ∷ xs) = xs

pub same_rest : {X : Type 0} (x y : X) (xs ys : List X) → (x ∷ xs) ≡ (y ∷ ys) → xs ≡ ys
unfolding rest_of
same_rest x y xs ys e = ap rest_of e

pub bare-length : (ss ss' : List Step) → map bare ss' ≡ map bare ss → length ss' ≡ length ss
bare-length [] [] e = refl
bare-length [] (p ∷ ss') e = cc e
bare-length (q ∷ ss) [] e = cc e
bare-length (q ∷ ss) (p ∷ ss') e = ap suc (bare-length ss ss' (same_rest (bare p) (bare q) (map bare ss') (map bare ss) e))

-- from the step `from` on, those up to the step `at` have their marks
pub record IsOn (old : List Step) (from : ℕ) (now : List Step) (at : ℕ) : Type 0 where
  pub alike : map bare now ≡ map bare old
  pub within : at ≤ length old
  pub done : List ℕ
  pub way : (code : ℕ → Term) (env : ℕ → Env) → crossed (seen (has_published old) (path code env old from)) ≡ done ++ crossed (seen (has_published old) (path code env old at))
  pub left : (m : ℕ) → has_published now m ≡ left_all done (has_published old) m

set-bare : (ss : List Step) (k : ℕ) (x y : Step) → slice_get ss k ≡ Some x → bare y ≡ bare x → map bare (slice_set ss k y) ≡ map bare ss
set-bare [] k x y h e = refl
set-bare (z ∷ ss) zero x y h e = ap (λ w. w ∷ map bare ss) (e ∙ ap (bare_or z) (sym h))
  where
    bare_or : Step → Option Step → Step
    bare_or d (Some w) = bare w
    bare_or d Nothing = bare d
set-bare (z ∷ ss) (suc k) x y h e = ap (λ w. bare z ∷ w) (set-bare ss k x y h e)

set-left : (ss : List Step) (k n m : ℕ) (x y : Step) → slice_get ss k ≡ Some x → y.entered ≡ OtherwiseLeft n → y.published ≡ true → x.entered ≡ OtherwiseLeft n → has_published (slice_set ss k y) m ≡ (nat_eq m n || has_published ss m)
set-left [] k n m x y h e p f = cc h
set-left (z ∷ ss) zero n m x y h e p f =
    (λ i. ((p i) && enters_left_of m (e i)) || has_published ss m) ∙ go (nat_eq m n) z.published (has_published ss m) ∙ sym (ap (λ w. nat_eq m n || ((z.published && enters_left_of m w) || has_published ss m)) (ap (entered_or z) h ∙ f))
  where
    entered_or : Step → Option Step → Frame
    entered_or d (Some w) = w.entered
    entered_or d Nothing = d.entered

    go : (a b r : Bool) → (a || r) ≡ (a || ((b && a) || r))
    go true b r = refl
    go false true r = refl
    go false false r = refl
set-left (z ∷ ss) (suc k) n m x y h e p f = ap (λ w. (z.published && enters_left_of m z.entered) || w) (set-left ss k n m x y h e p f) ∙ go (z.published && enters_left_of m z.entered) (nat_eq m n) (has_published ss m)
  where
    go : (a b r : Bool) → (a || (b || r)) ≡ (b || (a || r))
    go true true r = refl
    go true false r = refl
    go false b r = refl

left-snoc : (ns : List ℕ) (n : ℕ) (left : ℕ → Bool) (m : ℕ) → left_all (ns ++ n ∷ []) left m ≡ cond (nat_eq n m) true (left_all ns left m)
left-snoc [] n left m = refl
left-snoc (d ∷ ns) n left m = left-snoc ns n (λ j. cond (nat_eq d j) true (left j)) m

left-stays : (ns : List ℕ) (left : ℕ → Bool) (m : ℕ) → left m ≡ true → left_all ns left m ≡ true
left-stays [] left m h = h
left-stays (n ∷ ns) left m h = left-stays ns (λ j. cond (nat_eq n j) true (left j)) m (go (nat_eq n m) h)
  where
    go : (b : Bool) → left m ≡ true → cond b true (left m) ≡ true
    go true h = refl
    go false h = h

or_cond : (m n : ℕ) (b : Bool) → (nat_eq m n || b) ≡ cond (nat_eq n m) true b
or_cond m n b = go (nat_eq m n) refl (nat_eq n m) refl
  where
    go : (p : Bool) → nat_eq m n ≡ p → (q : Bool) → nat_eq n m ≡ q → (p || b) ≡ cond q true b
    go true e true f = refl
    go false e false f = refl
    go true e false f = cc (eq-eqb n m (sym (eqb-true m n e)), f)
    go false e true f = cc (eq-eqb m n (sym (eqb-true n m f)), e)

already : (m n : ℕ) (f : ℕ → Bool) → f n ≡ true → (nat_eq m n || f m) ≡ f m
already m n f h = go (nat_eq m n) refl
  where
    go : (b : Bool) → nat_eq m n ≡ b → (b || f m) ≡ f m
    go true e = sym (ap f (eqb-true m n e) ∙ h)
    go false e = refl

module _ (old : List Step) (from : ℕ) (outwards : AreOutwards old) (now : List Step) (at : ℕ) (o : IsOn old from now at) (off : at ≡ 0 → ⊥) (x : Step) (h : slice_get now (at - 1) ≡ Some x) where
  -- the same step at first
  was : (p : Step) × (slice_get old (at - 1) ≡ Some p) × (bare x ≡ bare p)
  was = find now old o.alike (at - 1) h
    where
      head_of : Step → List Step → Step
      head_of d [] = d
      head_of d (z ∷ zs) = z

      rest_of : List Step → List Step
      rest_of [] = []
      rest_of (z ∷ zs) = zs

      bare_or : Step → Option Step → Step
      bare_or d (Some w) = bare w
      bare_or d Nothing = bare d

      find : (xs ys : List Step) → map bare xs ≡ map bare ys → (k : ℕ) → slice_get xs k ≡ Some x → (p : Step) × (slice_get ys k ≡ Some p) × (bare x ≡ bare p)
      find [] ys e k g = cc g
      find (z ∷ xs) [] e k g = cc e
      find (z ∷ xs) (y ∷ ys) e zero g = (y, refl, ap (bare_or z) (sym g) ∙ ap (head_of (bare z)) e)
      find (z ∷ xs) (y ∷ ys) e (suc k) g = find xs ys (ap rest_of e) k g

  pub smaller : x.outer < at
  smaller = omega (arith, outwards (at - 1) was.0 was.1, ap (λ z. z.outer) was.2, off)

  unfolds : (code : ℕ → Term) (env : ℕ → Env) → path code env old at ≡ inwards code env x.entered (path code env old x.outer)
  unfolds code env = path-unfold code env old at (at - 1) was.0 (omega (arith, off)) was.1 (outwards (at - 1) was.0 was.1) ∙ ap (λ z. inwards code env z.entered (path code env old z.outer)) (sym was.2)

  pub marks-on : (n : ℕ) (y : Step) → x.entered ≡ OtherwiseLeft n → y.entered ≡ x.entered → y.outer ≡ x.outer → y.group ≡ x.group → y.depth ≡ x.depth → y.published ≡ true → IsOn old from (slice_set now (at - 1) y) y.outer
  marks-on n y is entered outer group depth published =
      subst (IsOn old from (slice_set now (at - 1) y)) (sym outer) (go (has_published old n) refl)
    where
      same : bare y ≡ bare x
      same = λ i. record { entered = entered i; outer = outer i; group = group i; depth = depth i; published = false }

      new_left : (m : ℕ) → has_published (slice_set now (at - 1) y) m ≡ (nat_eq m n || left_all o.done (has_published old) m)
      new_left m = set-left now (at - 1) n m x y h (entered ∙ is) published is ∙ ap (λ b. nat_eq m n || b) (o.left m)

      step_on : (code : ℕ → Term) (env : ℕ → Env) → crossed (seen (has_published old) (path code env old at)) ≡ crossed (cond (has_published old n) (seen (has_published old) (path code env old x.outer)) (trying n (seen (has_published old) (path code env old x.outer))))
      step_on code env = ap (λ z. crossed (seen (has_published old) z)) (unfolds code env ∙ ap (λ z. inwards code env z (path code env old x.outer)) is)

      fits : x.outer ≤ length old
      fits = omega (arith, smaller, o.within)

      go : (b : Bool) → has_published old n ≡ b → IsOn old from (slice_set now (at - 1) y) x.outer
      go true e = record {
        alike = set-bare now (at - 1) x y h same ∙ o.alike;
        within = fits;
        done = o.done;
        way = λ code env. o.way code env ∙ ap (λ z. o.done ++ z) (step_on code env ∙ ap (λ b. crossed (cond b (seen (has_published old) (path code env old x.outer)) (trying n (seen (has_published old) (path code env old x.outer))))) e);
        left = λ m. new_left m ∙ already m n (left_all o.done (has_published old)) (left-stays o.done (has_published old) n e);
      }
      go false e = record {
        alike = set-bare now (at - 1) x y h same ∙ o.alike;
        within = fits;
        done = o.done ++ n ∷ [];
        way = λ code env.
            let rest = crossed (seen (has_published old) (path code env old x.outer)) in
            o.way code env
            ∙ ap (λ z. o.done ++ z) (step_on code env ∙ ap (λ b. crossed (cond b (seen (has_published old) (path code env old x.outer)) (trying n (seen (has_published old) (path code env old x.outer))))) e)
            ∙ sym (append_assoc o.done (n ∷ []) rest);
        left = λ m. new_left m ∙ or_cond m n (left_all o.done (has_published old) m) ∙ sym (left-snoc o.done n (has_published old) m);
      }

  -- what is no otherwise ends the way
  pub ends-here : ((n : ℕ) → x.entered ≡ OtherwiseLeft n → ⊥) → (code : ℕ → Term) (env : ℕ → Env) → Publishes (crossed (seen (has_published old) (path code env old from))) old now
  ends-here other code env =
      let e : crossed (seen (has_published old) (path code env old from)) ≡ o.done = o.way code env ∙ ap (λ z. o.done ++ z) (ap (λ z. crossed (seen (has_published old) z)) (unfolds code env) ∙ none x.entered refl) ∙ append-nil o.done in
      record { left = λ m. o.left m ∙ ap (λ z. left_all z (has_published old) m) (sym e); alike = o.alike }
    where
      none : (z : Frame) → x.entered ≡ z → crossed (seen (has_published old) (inwards code env x.entered (path code env old x.outer))) ≡ []
      none (SeqLeft a g scope) f = ap (λ z. crossed (seen (has_published old) (inwards code env z (path code env old x.outer)))) f
      none (PruneRight c) f = ap (λ z. crossed (seen (has_published old) (inwards code env z (path code env old x.outer)))) f
      none (OtherwiseLeft n) f = absurd (other n f)

pub ends-out : (old : List Step) (from : ℕ) (now : List Step) (at : ℕ) → IsOn old from now at → at ≡ 0 → (code : ℕ → Term) (env : ℕ → Env) → Publishes (crossed (seen (has_published old) (path code env old from))) old now
ends-out old from now at o z code env =
    let e : crossed (seen (has_published old) (path code env old from)) ≡ o.done = o.way code env ∙ ap (λ w. o.done ++ w) (ap (λ i. crossed (seen (has_published old) (path code env old i))) z ∙ ap (λ w. crossed (seen (has_published old) w)) (path-none code env old)) ∙ append-nil o.done in
    record { left = λ m. o.left m ∙ ap (λ w. left_all w (has_published old) m) (sym e); alike = o.alike }

pub in_now : (old : List Step) (from : ℕ) (now : List Step) (at : ℕ) → IsOn old from now at → (at ≡ 0 → ⊥) → at - 1 < length now
in_now old from now at o off = omega (arith, o.within, off, bare-length old now o.alike)

module _ (old : List Step) (from : ℕ) (outwards : AreOutwards old) where
  marks-among : (n : ℕ) (now : List Step) (at : ℕ) → at ≤ n → IsOn old from now at → (code : ℕ → Term) (env : ℕ → Env) → Publishes (crossed (seen (has_published old) (path code env old from))) old (left_among n now at)
  marks-among zero now at le o code env = ends-out old from now at o (omega (arith, le)) code env
  marks-among (suc n) now zero le o code env = ends-out old from now zero o refl code env
  marks-among (suc n) now (suc k) le o code env = go (slice_get now k) refl (λ rest i less p. marks-among n rest i less p code env)
    where
      off : suc k ≡ 0 → ⊥
      off e = cc e

      before : suc k - 1 ≡ k
      before = omega arith

      go : (x : Option Step) → slice_get now k ≡ x → ((rest : List Step) (i : ℕ) → i ≤ n → IsOn old from rest i → Publishes (crossed (seen (has_published old) (path code env old from))) old (left_among n rest i)) → Publishes (crossed (seen (has_published old) (path code env old from))) old (past_left (λ rest j. left_among n rest j) now (suc k) x)
      go Nothing e next = cc (sym e ∙ or-got now k (record { entered = PruneRight 0; outer = 0; group = 0; depth = 0; published = false }) (omega (arith, in_now old from now (suc k) o off, before)))
      go (Some x) e next = on (is_try x.entered) refl
        where
          h : slice_get now (suc k - 1) ≡ Some x
          h = ap (slice_get now) before ∙ e

          on : (b : Bool) → is_try x.entered ≡ b → Publishes (crossed (seen (has_published old) (path code env old from))) old (cond b (left_among n (slice_set now k (marked x)) x.outer) now)
          on true f =
              let t = entered-try x.entered f in
              next (slice_set now k (marked x)) x.outer (omega (arith, smaller old from outwards now (suc k) o off x h, le))
              (subst (λ j. IsOn old from (slice_set now j (marked x)) x.outer) before (marks-on old from outwards now (suc k) o off x h t.0 (marked x) t.1 refl refl refl refl refl))
          on false f = ends-here old from outwards now (suc k) o off x h (λ m e. cc (sym f ∙ ap is_try e)) code env

-- a publication gives their marks to the otherwises that it leaves
pub publishes : (ss : List Step) (from : ℕ) → AreOutwards ss → from ≤ length ss → (code : ℕ → Term) (env : ℕ → Env) → Publishes (crossed (seen (has_published ss) (path code env ss from))) ss (left_from ss from)
publishes ss from outwards within = marks-among ss from outwards from ss from (omega arith) (record { alike = refl; within = within; done = []; way = λ code env. refl; left = λ m. refl })
