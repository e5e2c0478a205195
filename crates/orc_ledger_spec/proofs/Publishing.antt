-- What the records spell once a publication has left otherwises, and that the book stays lawful.
use Rattle.std.proofs.Common.{◌≡◌, ◌≤◌, ℕ, zero, suc, ◌+◌, List, [], ◌∷◌, ◌++◌, refl, sym, ap, ◌∙◌, arith, map, length, length-append, get_or, Bool, true, false, cond, nat_eq, not, Option, Some, None as Nothing, ⊎_elim}
use Rattle.std.specs.Prelude.{nat_lt, slice_get}
use Rattle.std.proofs.lemmas.Bool.{ltb-false}
use Rattle.orc_rules.specs.declared.entry.Entry.{Entry}
use Rattle.orc_rules.specs.Term.{Term}
use Rattle.orc_rules.specs.Nodes.{Listing, code}
use Rattle.orc_rules.specs.Sites.{Site}
use Rattle.orc_rules.specs.Timed.{IsIn}
use Rattle.orc_env.specs.declared.names.Scope.{Scope}
use Rattle.orc_env.specs.Scopes.{Env, close, env_of}
use Rattle.orc_env.proofs.Scopes.{env-kept}
use Rattle.orc_indexes.specs.Same.{weight, only, None}
use Rattle.orc_frames.specs.Spelling.{Path, whole, feeding, aiding, trying, Row, stands, pends, Numbered, right_of, left_of, seen}
use Rattle.orc_ledger_spec.specs.Records.{Records, Sound, Lawful, its_env, raw_path, its_path, rows_of, sides_of, token_row, call_row, side_at, group_side, is_over, token_out, call_out, side_out, group_out, has_serial}
use Rattle.orc_frames.specs.Paths.{paths_from, inwards, has_published, standing, is_out, step_out, entered_out, enters_left_of, tries}
use Rattle.orc_ledger_spec.specs.Calls.{Crosses}
use Rattle.orc_frames.specs.Taking.{left_all, bare}
use Rattle.orc_tables.specs.declared.records.Frame.{Frame}
use Rattle.orc_tables.specs.declared.records.Token.{Token}
use Rattle.orc_tables.specs.declared.records.Step.{Step}
use Rattle.orc_tables.specs.declared.records.Side.{Side}
use Rattle.orc_tables.specs.declared.records.Side.TheVariants.{Right, Left}
use Rattle.orc_indexes.proofs.Weight.{weight-append, weight-map, weight-filter, weight-same, none-alike, none-weaker, none-in, either_one}
use Rattle.orc_frames.proofs.Growth.{or_false, both_false, standing-same, paths-same}
use Rattle.orc_ledger_spec.proofs.Turning.{lt_less, out_less}
use Rattle.orc_ledger_spec.proofs.Sound.{get_more, none-tries, entered_less}
use Rattle.orc_frames.proofs.Crossing.{cross, cross_rows, cross_all, leave_all}
use Rattle.orc_frames.proofs.Marking.{same_rest, bare-length}

seen-cross : (left left' : ℕ → Bool) (n : ℕ) → ((m : ℕ) → left' m ≡ cond (nat_eq n m) true (left m)) → (p : Path) → seen left' p ≡ cross n (seen left p)
seen-cross left left' n h whole = refl
seen-cross left left' n h (feeding x g p) = ap (feeding x g) (seen-cross left left' n h p)
seen-cross left left' n h (aiding c p) = ap (aiding c) (seen-cross left left' n h p)
seen-cross left left' n h (trying m p) = ap (λ b. cond b (seen left' p) (trying m (seen left' p))) (h m) ∙ go (nat_eq n m) refl (left m) (seen-cross left left' n h p)
  where
    go : (b : Bool) → nat_eq n m ≡ b → (o : Bool) → seen left' p ≡ cross n (seen left p) → cond (cond b true o) (seen left' p) (trying m (seen left' p)) ≡ cross n (cond o (seen left p) (trying m (seen left p)))
    go true e true ih = ih
    go true e false ih = ih ∙ sym (ap (λ z. cond z (cross n (seen left p)) (trying m (cross n (seen left p)))) e)
    go false e true ih = ih
    go false e false ih = ap (trying m) ih ∙ sym (ap (λ z. cond z (cross n (seen left p)) (trying m (cross n (seen left p)))) e)

pub seen-all : (ns : List ℕ) (left : ℕ → Bool) (p : Path) → seen (left_all ns left) p ≡ cross_all ns (seen left p)
seen-all [] left p = refl
seen-all (n ∷ ns) left p = seen-all ns (λ m. cond (nat_eq n m) true (left m)) p ∙ ap (cross_all ns) (seen-cross left (λ m. cond (nat_eq n m) true (left m)) n (λ m. refl) p)

-- rows and sides once these otherwises are left
rows-all : (ns : List ℕ) (s : ℕ) (t : Term) (p : Path) → cross_rows ns (stands s t p) ≡ stands s t (cross_all ns p)
rows-all [] s t p = refl
rows-all (n ∷ ns) s t p = rows-all ns s t (cross n p)

pends-all : (ns : List ℕ) (k : ℕ) (p : Path) → cross_rows ns (pends k p) ≡ pends k (cross_all ns p)
pends-all [] k p = refl
pends-all (n ∷ ns) k p = pends-all ns k (cross n p)

right-all : (ns : List ℕ) (v : Numbered → ℕ) (c : ℕ) (p : Path) → leave_all ns v (right_of c p) ≡ v (right_of c (cross_all ns p))
right-all [] v c p = refl
right-all (n ∷ ns) v c p = right-all ns v c (cross n p)

-- a left side that isn't left before weighs nothing once it is left
left-side-all : (ns : List ℕ) (left : ℕ → Bool) (v : Numbered → ℕ) (m : ℕ) (g : Term) (p : Path) → cond (not (left_all ns left m)) (v (left_of m g (cross_all ns p))) 0 ≡ cond (not (left m)) (leave_all ns v (left_of m g p)) 0
left-side-all [] left v m g p = refl
left-side-all (n ∷ ns) left v m g p = left-side-all ns (λ j. cond (nat_eq n j) true (left j)) v m g (cross n p) ∙ go (nat_eq n m) (left m)
  where
    go : (b o : Bool) → cond (not (cond b true o)) (leave_all ns v (left_of m g (cross n p))) 0 ≡ cond (not o) (cond b 0 (leave_all ns v (left_of m g (cross n p)))) 0
    go true true = refl
    go true false = refl
    go false true = refl
    go false false = refl

-- steps that agree but for their marks
bare-weight : (w : Frame → ℕ) (ss ss' : List Step) → map bare ss' ≡ map bare ss → weight (λ (p : Step). w p.entered) ss' ≡ weight (λ (p : Step). w p.entered) ss
bare-weight w ss ss' e =
    let f : Step → ℕ = λ z. w z.entered in
    sym (weight-map f bare ss') ∙ ap (weight f) e ∙ weight-map f bare ss

head_or : {X : Type 0} → X → List X → X
head_or d [] = d
head_or d (x ∷ xs) = x

same_head : {X : Type 0} (x y : X) (xs ys : List X) → (x ∷ xs) ≡ (y ∷ ys) → x ≡ y
unfolding head_or
same_head x y xs ys e = ap (head_or x) e

bare-outwards : (ss ss' : List Step) → map bare ss' ≡ map bare ss → (bound : ℕ → ℕ) → ((k : ℕ) (p : Step) → slice_get ss k ≡ Some p → p.outer ≤ bound k) → (k : ℕ) (p : Step) → slice_get ss' k ≡ Some p → p.outer ≤ bound k
bare-outwards ss [] e bound h k p g = cc g
bare-outwards [] (q ∷ ss') e bound h k p g = cc e
bare-outwards (r ∷ ss) (q ∷ ss') e bound h zero p g =
    let same : bare q ≡ bare r = same_head (bare q) (bare r) (map bare ss') (map bare ss) e in
    let outer : q.outer ≡ r.outer = ap (λ z. z.outer) same in
    let is : q.outer ≡ p.outer = ap (outer_or q.outer) g in
    omega (arith, h 0 r refl, outer, is)
  where
    outer_or : ℕ → Option Step → ℕ
    outer_or d (Some z) = z.outer
    outer_or d Nothing = d
bare-outwards (r ∷ ss) (q ∷ ss') e bound h (suc k) p g = bare-outwards ss ss' (same_rest (bare q) (bare r) (map bare ss') (map bare ss) e) (λ j. bound (suc j)) (λ j z i. h (suc j) z i) k p g

paths-bare : (code : ℕ → Term) (env : ℕ → Env) (ps : List Path) (ss ss' : List Step) → map bare ss' ≡ map bare ss → paths_from code env ps ss' ≡ paths_from code env ps ss
paths-bare code env ps [] [] e = refl
paths-bare code env ps [] (q ∷ ss') e = cc e
paths-bare code env ps (r ∷ ss) [] e = cc e
paths-bare code env ps (r ∷ ss) (q ∷ ss') e =
    let same : bare q ≡ bare r = same_head (bare q) (bare r) (map bare ss') (map bare ss) e in
    ap (λ z. paths_from code env (ps ++ inwards code env z.entered (get_or ps z.outer whole) ∷ []) ss') same
    ∙ paths-bare code env (ps ++ inwards code env r.entered (get_or ps r.outer whole) ∷ []) ss ss' (same_rest (bare q) (bare r) (map bare ss') (map bare ss) e)

module _ (l : Listing) (sites : List Site) (s : Records) (L : Lawful l sites s) (t : Token) (i : IsIn t s.tokens) (s' : Records) (births : List Token) (ss : List Scope) (ns : List ℕ) (e : Entry) (T : Crosses s s' t births ss ns e) where
  abbrev cd : ℕ → Term
  cd = code l

  pub more_scopes : length s'.scopes ≡ length s.scopes + length ss
  more_scopes = ap length T.scopes ∙ length-append s.scopes ss

  pub same_steps : length s'.steps ≡ length s.steps
  same_steps = bare-length s.steps s'.steps T.steps.alike

  pub env_same : (j : ℕ) → j ≤ length s.scopes → its_env cd s' j ≡ its_env cd s j
  env_same j h = (λ k. env_of (T.cells k) (T.scopes k) j) ∙ sym (env-kept s.cells s.scopes ss j h)

  raw_same : (j : ℕ) → raw_path cd s' j ≡ raw_path cd s j
  raw_same j =
      ap (λ z. get_or z j whole) (paths-bare cd (its_env cd s') (whole ∷ []) s.steps s'.steps T.steps.alike)
      ∙ ap (λ z. get_or z j whole) (paths-same cd (its_env cd s) (its_env cd s') (length s.scopes) env_same s.next_mark (whole ∷ []) s.steps L.sound.steps)

  pub path_crossed : (j : ℕ) → its_path cd s' j ≡ cross_all ns (its_path cd s j)
  path_crossed j =
      ap (seen (has_published s'.steps)) (raw_same j)
      ∙ ap (λ (z : ℕ → Bool). seen z (raw_path cd s j)) (λ k n. T.steps.left n k)
      ∙ seen-all ns (has_published s.steps) (raw_path cd s j)

  pub row_crossed : (u : Token) → token_out (length s.scopes) (length s.steps) u ≡ false → token_row cd s' u ≡ cross_rows ns (token_row cd s u)
  row_crossed u h =
      let b = or_false (is_out (length s.scopes) u.standing) (nat_lt (length s.steps) u.step) h in
      (λ j. stands u.serial (standing-same cd (its_env cd s) (its_env cd s') (length s.scopes) env_same u.standing b.0 j) (path_crossed u.step j))
      ∙ sym (rows-all ns u.serial (standing cd (its_env cd s) u.standing) (its_path cd s u.step))

  t_in : token_out (length s.scopes) (length s.steps) t ≡ false
  t_in = none-in (token_out (length s.scopes) (length s.steps)) s.tokens t L.sound.tokens i

  pub rows_crossed : (w : Row → ℕ) → weight w (rows_of cd s') + w (cross_rows ns (token_row cd s t)) ≡ weight (λ r. w (cross_rows ns r)) (rows_of cd s) + weight (λ u. w (token_row cd s' u)) births
  rows_crossed w =
      omega (
        arith,
        weight-append w (map (token_row cd s') s'.tokens) (map (call_row cd s') s'.calls),
        weight-append (λ r. w (cross_rows ns r)) (map (token_row cd s) s.tokens) (map (call_row cd s) s.calls),
        weight-map w (token_row cd s') s'.tokens,
        weight-map (λ r. w (cross_rows ns r)) (token_row cd s) s.tokens,
        weight-map w (call_row cd s') s'.calls,
        weight-map (λ r. w (cross_rows ns r)) (call_row cd s) s.calls,
        ap (weight (λ c. w (call_row cd s' c))) T.calls,
        weight-same (λ c. w (call_row cd s' c)) (λ c. w (cross_rows ns (call_row cd s c))) s.calls (λ c. ap (λ p. w (pends c.number p)) (path_crossed c.step) ∙ ap w (sym (pends-all ns c.number (its_path cd s c.step)))),
        T.tokens (λ u. w (token_row cd s' u)),
        none-alike (token_out (length s.scopes) (length s.steps)) (λ u. w (token_row cd s' u)) (λ u. w (cross_rows ns (token_row cd s u))) s.tokens L.sound.tokens (λ u h. ap w (row_crossed u h)),
        ap w (row_crossed t t_in),
      )

  side_crossed : (v : Numbered → ℕ) (j : ℕ) (k : Side) → side_out (length s.scopes) k ≡ false → cond (not (is_over cd s' k)) (v (side_at cd s' (its_path cd s' j) k)) 0 ≡ cond (not (is_over cd s k)) (leave_all ns v (side_at cd s (its_path cd s j) k)) 0
  side_crossed v j (Right c) h = ap (λ p. v (right_of c p)) (path_crossed j) ∙ sym (right-all ns v c (its_path cd s j))
  side_crossed v j (Left n g scope) h =
      (λ k. cond (not (T.steps.left n k)) (v (left_of n (close (env_same scope (ltb-false (length s.scopes) scope h) k) (cd g)) (path_crossed j k))) 0)
      ∙ left-side-all ns (has_published s.steps) v n (close (its_env cd s scope) (cd g)) (its_path cd s j)

  pub sides_crossed : (v : Numbered → ℕ) → weight v (sides_of cd s') ≡ weight (leave_all ns v) (sides_of cd s)
  sides_crossed v =
      weight-filter v (group_side cd s') (λ g. not (is_over cd s' g.side)) s'.groups
      ∙ ap (weight (only (λ g. not (is_over cd s' g.side)) (λ g. v (group_side cd s' g)))) T.groups
      ∙ none-alike (group_out (length s.scopes) (length s.steps)) (only (λ g. not (is_over cd s' g.side)) (λ g. v (group_side cd s' g))) (only (λ g. not (is_over cd s g.side)) (λ g. leave_all ns v (group_side cd s g))) s.groups L.sound.groups (λ g h. side_crossed v g.outer g.side (or_false (side_out (length s.scopes) g.side) (nat_lt (length s.steps) g.outer) h).0)
      ∙ sym (weight-filter (leave_all ns v) (group_side cd s) (λ g. not (is_over cd s g.side)) s.groups)

  side_less : (k : Side) → side_out (length s.scopes) k ≡ false → side_out (length s'.scopes) k ≡ false
  side_less (Right d) h = refl
  side_less (Left n g scope) h = lt_less scope (length s.scopes) (length s'.scopes) (omega (arith, more_scopes)) h

  pub sound_crossed : None (token_out (length s'.scopes) (length s'.steps)) births
      → ((k : ℕ) (p : Scope) → slice_get ss k ≡ Some p → p.outer ≤ length s.scopes + k)
      → ((m : ℕ) → 1 ≤ weight (has_serial m) births → s.next_mark ≤ m)
      → Sound s'
  sound_crossed births_in scope later =
      let tries_same : (m : ℕ) → weight (tries m) s'.steps ≡ weight (tries m) s.steps = λ m. bare-weight (λ z. cond (enters_left_of m z) 1 0) s.steps s'.steps T.steps.alike in
      record {
        tokens =
            let old : None (token_out (length s'.scopes) (length s'.steps)) s.tokens = none-weaker (token_out (length s.scopes) (length s.steps)) (token_out (length s'.scopes) (length s'.steps)) s.tokens L.sound.tokens (λ u k.
            let b = or_false (is_out (length s.scopes) u.standing) (nat_lt (length s.steps) u.step) k in
            both_false (is_out (length s'.scopes) u.standing) (nat_lt (length s'.steps) u.step) (out_less (length s.scopes) (length s'.scopes) u.standing (omega (arith, more_scopes)) b.0) (lt_less u.step (length s.steps) (length s'.steps) (omega (arith, same_steps)) b.1)) in
            omega (arith, T.tokens (only (token_out (length s'.scopes) (length s'.steps)) (λ u. 1)), old, births_in);
        calls = rw T.calls (none-weaker (call_out (length s.steps)) (call_out (length s'.steps)) s.calls L.sound.calls (λ c h. lt_less c.step (length s.steps) (length s'.steps) (omega (arith, same_steps)) h));
        groups = rw T.groups (none-weaker (group_out (length s.scopes) (length s.steps)) (group_out (length s'.scopes) (length s'.steps)) s.groups L.sound.groups (λ g k.
            let b = or_false (side_out (length s.scopes) g.side) (nat_lt (length s.steps) g.outer) k in
            both_false (side_out (length s'.scopes) g.side) (nat_lt (length s'.steps) g.outer) (side_less g.side b.0) (lt_less g.outer (length s.steps) (length s'.steps) (omega (arith, same_steps)) b.1)));
        steps =
            bare-weight (λ z. cond (entered_out (length s'.scopes) s'.next_mark z) 1 0) s.steps s'.steps T.steps.alike
            ∙ none-weaker (step_out (length s.scopes) s.next_mark) (step_out (length s'.scopes) s'.next_mark) s.steps L.sound.steps (λ p h. entered_less (length s.scopes) (length s'.scopes) s.next_mark s'.next_mark (omega (arith, more_scopes)) (omega (arith, T.mark)) p.entered h);
        outwards = bare-outwards s.steps s'.steps T.steps.alike (λ k. k) L.sound.outwards;
        scopes = λ k p h. ⊎_elim (λ a. L.sound.scopes k p a) (λ b. omega (arith, b.1, scope b.0 p b.2)) (get_more s.scopes ss k p (ap (λ z. slice_get z k) (sym T.scopes) ∙ h));
        own = rw T.cells L.sound.own;
        cells = rw (T.cells, T.groups) L.sound.cells;
        apart = λ m h.
            ⊎_elim (λ (old : 1 ≤ weight (has_serial m) s.tokens). tries_same m ∙ L.sound.apart m old)
            (λ (new : 1 ≤ weight (has_serial m) births). tries_same m ∙ none-tries (length s.scopes) s.next_mark m s.steps (later m new) L.sound.steps)
            (either_one (weight (has_serial m) s.tokens) (weight (has_serial m) births) (omega (arith, h, T.tokens (has_serial m))));
        once = λ m. omega (arith, tries_same m, L.sound.once m);
      }
