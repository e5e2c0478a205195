-- What comes changes no path and no name that is there.
use Rattle.std.proofs.Common.{◌≡◌, ◌≤◌, ◌<◌, ℕ, zero, suc, ◌+◌, List, drop, [], ◌∷◌, ◌++◌, refl, sym, ap, ◌∙◌, arith, length, length-append, get_or, Bool, true, false, cond, Option, Some, None as Nothing}
use Rattle.std.specs.Prelude.{◌&&◌, ◌||◌, slice_get}
use Rattle.std.proofs.lemmas.Bool.{ltb-false}
use Rattle.std.proofs.lemmas.List.{get_or_append_left}
use Rattle.std.proofs.Math.Seq.{get_or-append_seam}
use Rattle.orc_rules.specs.Term.{Term}
use Rattle.orc_env.specs.Scopes.{Env, close, without}
use Rattle.orc_indexes.specs.Same.{weight, only, None}
use Rattle.orc_frames.specs.Spelling.{Path, whole, feeding, seen}
use Rattle.orc_frames.specs.Paths.{standing, inwards, paths_from, path, enters_left_of, has_published, is_out, entered_out, step_out, tries, has_published_at}
use Rattle.orc_tables.specs.Steps.{step_at}
use Rattle.orc_tables.specs.declared.records.Standing.{Standing}
use Rattle.orc_tables.specs.declared.records.Standing.TheVariants.{At, On}
use Rattle.orc_tables.specs.declared.records.Frame.{Frame}
use Rattle.orc_tables.specs.declared.records.Frame.TheVariants.{SeqLeft, PruneRight, OtherwiseLeft}
use Rattle.orc_tables.specs.declared.records.Step.{Step}

pub or_false : (a b : Bool) → (a || b) ≡ false → (a ≡ false) × (b ≡ false)
or_false true b h = cc h
or_false false b h = (refl, h)

pub both_false : (a b : Bool) → a ≡ false → b ≡ false → (a || b) ≡ false
both_false a b e f = ap (λ x. x || b) e ∙ f

-- steps that come have not published
pub left-more : (n : ℕ) (ss ps : List Step) → has_published ps n ≡ false → has_published (ss ++ ps) n ≡ has_published ss n
left-more n [] ps h = h
left-more n (s ∷ ss) ps h = ap (λ b. (s.published && enters_left_of n s.entered) || b) (left-more n ss ps h)

-- no step's number is n, so it has not published
pub none-left : (n : ℕ) (ss : List Step) → weight (tries n) ss ≡ 0 → has_published ss n ≡ false
none-left n [] h = refl
none-left n (s ∷ ss) h = go s.published (enters_left_of n s.entered) h (none-left n ss)
  where
    go : (p q : Bool) → cond q 1 0 + weight (tries n) ss ≡ 0 → (weight (tries n) ss ≡ 0 → has_published ss n ≡ false) → ((p && q) || has_published ss n) ≡ false
    go p true h ih = absurd (omega (arith, h))
    go true false h ih = ih (omega (arith, h))
    go false false h ih = ih (omega (arith, h))

-- the one step that enters an otherwise tells whether a publication has left it
told_by : (n : ℕ) (ss : List Step) (k : ℕ) (p : Step) → slice_get ss k ≡ Some p → enters_left_of n p.entered ≡ true → weight (tries n) ss ≤ 1 → has_published ss n ≡ p.published
told_by n [] k p got is once = cc got
told_by n (s ∷ ss) zero p got is once =
    let same : s ≡ p = cc got in
    go s.published (enters_left_of n s.entered) (ap (λ (z : Step). enters_left_of n z.entered) same ∙ is) once ∙ ap (λ (z : Step). z.published) same
  where
    go : (b q : Bool) → q ≡ true → cond q 1 0 + weight (tries n) ss ≤ 1 → ((b && q) || has_published ss n) ≡ b
    go true true e h = refl
    go false true e h = none-left n ss (omega (arith, h))
    go b false e h = cc e
told_by n (s ∷ ss) (suc k) p got is once = go s.published (enters_left_of n s.entered) once (told_by n ss k p got is (omega (arith, once)))
  where
    some : (xs : List Step) (j : ℕ) → slice_get xs j ≡ Some p → 1 ≤ weight (tries n) xs
    some [] j h = cc h
    some (x ∷ xs) zero h = let same : x ≡ p = cc h in omega (arith, ap {B = ℕ} (λ b. cond b 1 0) (ap (λ (z : Step). enters_left_of n z.entered) same ∙ is))
    some (x ∷ xs) (suc j) h = omega (arith, some xs j h)

    go : (b q : Bool) → cond q 1 0 + weight (tries n) ss ≤ 1 → has_published ss n ≡ p.published → ((b && q) || has_published ss n) ≡ p.published
    go b true h ih = absurd (omega (arith, h, some ss k got))
    go true false h ih = ih
    go false false h ih = ih

pub left-told : (n : ℕ) (ss : List Step) (i : ℕ) (p : Step) → step_at ss i ≡ Some p → enters_left_of n p.entered ≡ true → weight (tries n) ss ≤ 1 → has_published ss n ≡ p.published
left-told n ss zero p got is once = cc got
left-told n ss (suc k) p got is once = told_by n ss k p got is once

module _ (code : ℕ → Term) (env env' : ℕ → Env) (n : ℕ) (same : (i : ℕ) → i ≤ n → env' i ≡ env i) where
  pub standing-same : (st : Standing) → is_out n st ≡ false → standing code env' st ≡ standing code env st
  standing-same (At node scope) h = ap (λ z. close z (code node)) (same scope (ltb-false n scope h))
  standing-same (On v) h = refl

  inwards-same : (next : ℕ) (e : Frame) (p : Path) → entered_out n next e ≡ false → inwards code env' e p ≡ inwards code env e p
  inwards-same next (SeqLeft x g scope) p h = ap (λ z. feeding x (close (without x z) (code g)) p) (same scope (ltb-false n scope h))
  inwards-same next (PruneRight c) p h = refl
  inwards-same next (OtherwiseLeft m) p h = refl

  pub paths-same : (next : ℕ) (ps : List Path) (ss : List Step) → None (step_out n next) ss → paths_from code env' ps ss ≡ paths_from code env ps ss
  paths-same next ps [] h = refl
  paths-same next ps (s ∷ ss) h = go (entered_out n next s.entered) refl h (λ qs h'. paths-same next qs ss h')
    where
      go : (b : Bool) → entered_out n next s.entered ≡ b → cond b 1 0 + weight (only (step_out n next) (λ z. 1)) ss ≡ 0 → ((qs : List Path) → None (step_out n next) ss → paths_from code env' qs ss ≡ paths_from code env qs ss)
          → paths_from code env' (ps ++ inwards code env' s.entered (get_or ps s.outer whole) ∷ []) ss ≡ paths_from code env (ps ++ inwards code env s.entered (get_or ps s.outer whole) ∷ []) ss
      go true e h ih = absurd (omega (arith, h))
      go false e h ih = ap (λ z. paths_from code env' (ps ++ z ∷ []) ss) (inwards-same next s.entered (get_or ps s.outer whole) e) ∙ ih (ps ++ inwards code env s.entered (get_or ps s.outer whole) ∷ []) (omega (arith, h))

module _ (code : ℕ → Term) (env : ℕ → Env) where
  pub paths-split : (ps : List Path) (ss more : List Step) → paths_from code env ps (ss ++ more) ≡ paths_from code env (paths_from code env ps ss) more
  paths-split ps [] more = refl
  paths-split ps (x ∷ ss) more = paths-split (ps ++ inwards code env x.entered (get_or ps x.outer whole) ∷ []) ss more

  pub paths-length : (ps : List Path) (ss : List Step) → length (paths_from code env ps ss) ≡ length ps + length ss
  paths-length ps [] = omega arith
  paths-length ps (x ∷ ss) = omega (arith, paths-length (ps ++ inwards code env x.entered (get_or ps x.outer whole) ∷ []) ss, length-append ps (inwards code env x.entered (get_or ps x.outer whole) ∷ []))

  paths-before : (ps : List Path) (ss : List Step) (i : ℕ) → i < length ps → get_or (paths_from code env ps ss) i whole ≡ get_or ps i whole
  paths-before ps [] i h = refl
  paths-before ps (x ∷ ss) i h =
      let new = inwards code env x.entered (get_or ps x.outer whole) in
      paths-before (ps ++ new ∷ []) ss i (omega (arith, h, length-append ps (new ∷ []))) ∙ get_or_append_left ps (new ∷ []) whole i h

  pub path-kept : (ss more : List Step) (i : ℕ) → i ≤ length ss → path code env (ss ++ more) i ≡ path code env ss i
  path-kept ss more i h = ap (λ z. get_or z i whole) (paths-split (whole ∷ []) ss more) ∙ paths-before (paths_from code env (whole ∷ []) ss) more i (omega (arith, h, paths-length (whole ∷ []) ss))

  pub path-new : (ss : List Step) (s : Step) (i : ℕ) → i ≡ length ss + 1 → path code env (ss ++ s ∷ []) i ≡ inwards code env s.entered (path code env ss s.outer)
  path-new ss s i e =
      let all = paths_from code env (whole ∷ []) ss in
      let here : i ≡ length all = omega (arith, e, paths-length (whole ∷ []) ss) in
      ap (λ z. get_or z i whole) (paths-split (whole ∷ []) ss (s ∷ [])) ∙ ap (λ z. get_or (all ++ inwards code env s.entered (path code env ss s.outer) ∷ []) z whole) here ∙ get_or-append_seam all (inwards code env s.entered (path code env ss s.outer)) [] whole

  index-end : {X : Type 0} (xs : List X) (y : X) (d : X) → get_or (xs ++ y ∷ []) (length xs) d ≡ y
  index-end [] y d = refl
  index-end (x ∷ xs) y d = index-end xs y d

  unfold_from : (ps : List Path) (ss : List Step) (k : ℕ) (p : Step) → slice_get ss k ≡ Some p → p.outer < length ps + k → get_or (paths_from code env ps ss) (length ps + k) whole ≡ inwards code env p.entered (get_or (paths_from code env ps ss) p.outer whole)
  unfold_from ps [] k p h lt = cc h
  unfold_from ps (r ∷ ss) zero p h lt =
      let is : r ≡ p = ap (λ o. or_else r o) h in
      let new = inwards code env r.entered (get_or ps r.outer whole) in
      let ps' = ps ++ new ∷ [] in
      let len : length ps' ≡ length ps + 1 = omega (arith, length-append ps (new ∷ [])) in
      let out : p.outer < length ps = omega (arith, lt) in
      ap (λ z. get_or (paths_from code env ps' ss) z whole) (let e : length ps + 0 ≡ length ps = omega arith in e)
      ∙ paths-before ps' ss (length ps) (omega (arith, len))
      ∙ index-end ps new whole
      ∙ ap (λ (z : Step). inwards code env z.entered (get_or ps z.outer whole)) is
      ∙ sym (ap (inwards code env p.entered) (paths-before ps' ss p.outer (omega (arith, len, out)) ∙ get_or_append_left ps (new ∷ []) whole p.outer out))
    where
      or_else : {X : Type 0} → X → Option X → X
      or_else d (Some z) = z
      or_else d Nothing = d
  unfold_from ps (r ∷ ss) (suc k) p h lt =
      let new = inwards code env r.entered (get_or ps r.outer whole) in
      let ps' = ps ++ new ∷ [] in
      let len : length ps' ≡ length ps + 1 = omega (arith, length-append ps (new ∷ [])) in
      let e : length ps + suc k ≡ length ps' + k = omega (arith, len) in
      ap (λ z. get_or (paths_from code env ps' ss) z whole) e ∙ unfold_from ps' ss k p h (omega (arith, lt, len))

  -- the path of a step, from that of the one round it
  pub path-unfold : (ss : List Step) (i k : ℕ) (p : Step) → i ≡ k + 1 → slice_get ss k ≡ Some p → p.outer ≤ k → path code env ss i ≡ inwards code env p.entered (path code env ss p.outer)
  path-unfold ss i k p e h le = ap (λ z. get_or (paths_from code env (whole ∷ []) ss) z whole) (let q : i ≡ 1 + k = omega (arith, e) in q) ∙ unfold_from (whole ∷ []) ss k p h (omega (arith, le))

  pub path-none : (ss : List Step) → path code env ss 0 ≡ whole
  path-none ss = paths-before (whole ∷ []) ss 0 (omega arith)

-- what a publication that comes later leaves is passed over too
pub seen-same : (left left' : ℕ → Bool) → ((n : ℕ) → left' n ≡ left n) → (p : Path) → seen left' p ≡ seen left p
seen-same left left' h p = ap (λ (z : ℕ → Bool). seen z p) (λ i n. h n i)

-- whether it was left, from one step on
pub left-next : (ss : List Step) (k n : ℕ) → k < length ss → has_published (drop k ss) n ≡ (has_published_at n (slice_get ss k) || has_published (drop (suc k) ss) n)
left-next [] k n lt = absurd (omega (arith, lt))
left-next (s ∷ ss) zero n lt = refl
left-next (s ∷ ss) (suc k) n lt = left-next ss k n (omega (arith, lt))
