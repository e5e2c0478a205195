-- The right side of a cell is dropped from the records.
use Rattle.std.proofs.Common.{◌≡◌, ◌≤◌, ℕ, List, refl, sym, ap, ◌∙◌, arith, map, length, Bool, true, false, cond, nat_eq, eq-eqb, not, Some}
use Rattle.std.specs.Prelude.{slice_get, slice_set}
use Rattle.orc_rules.specs.Term.{Term, fill}
use Rattle.orc_rules.specs.Nodes.{Listing, code}
use Rattle.orc_env.specs.declared.names.Bound.{Bound}
use Rattle.orc_env.specs.declared.names.Bound.TheVariants.{Cell}
use Rattle.orc_env.specs.Scopes.{given, close, env_of}
use Rattle.orc_env.proofs.Filling.{fill_env, env_of-fill, closed-fill, code-stays}
use Rattle.orc_indexes.specs.Same.{weight, only, but}
use Rattle.orc_frames.specs.Spelling.{Path, aiding, Row, stands, pends, Numbered, right_of, left_of, inside, seen}
use Rattle.orc_ledger_spec.specs.Records.{Records, Sound, its_env, raw_path, its_path, rows_of, sides_of, token_row, call_row, side_at, group_side, is_over, is_own, is_settled, token_out, call_out, group_out, has_serial}
use Rattle.orc_frames.specs.Paths.{has_published, path}
use Rattle.orc_ledger_spec.specs.Calls.{Drops, token_goes, call_goes, group_goes, is_inside}
use Rattle.orc_tables.specs.declared.records.Token.{Token}
use Rattle.orc_tables.specs.declared.records.Call.{Call}
use Rattle.orc_tables.specs.declared.records.Step.{Step}
use Rattle.orc_tables.specs.declared.records.Side.{Side}
use Rattle.orc_tables.specs.declared.records.Side.TheVariants.{Right, Left}
use Rattle.orc_tables.specs.declared.records.Group.{Group}
use Rattle.orc_indexes.proofs.Weight.{weight-append, weight-map, weight-filter, weight-same, weight-least, weight-none, none-alike}
use Rattle.orc_frames.proofs.Kept.{fill_path, kept, kept_side}
use Rattle.orc_ledger_spec.proofs.Filled.{standing-fill, path-fill, seen-fill, inside-seen}
use Rattle.orc_ledger_spec.proofs.Cells.{becomes, own_filled, set_other}

-- what goes leaves nothing bad
pub dropped-less : {X : Type 0} (w : X → ℕ) (goes : X → Bool) (xs xs' : List X) → ((v : X → ℕ) → weight v xs' ≡ weight (but goes v) xs) → weight w xs' ≤ weight w xs
dropped-less w goes xs xs' h = omega (arith, h w, weight-least (but goes w) w xs (λ x. less (goes x) (w x)))
  where
    less : (b : Bool) (n : ℕ) → cond b 0 n ≤ n
    less true n = omega arith
    less false n = omega arith

module _ (l : Listing) (s s' : Records) (S : Sound s) (c : ℕ) (u : Bound) (D : Drops (code l) c u s s') (unbound : slice_get s.cells c ≡ Some (Cell c)) where
  abbrev cd : ℕ → Term
  cd = code l

  pub filled_so : (n : ℕ) → its_env cd s' n ≡ fill_env c u (its_env cd s n)
  filled_so n = (λ i. env_of (D.cells i) (D.scopes i) n) ∙ env_of-fill c u s.cells (slice_set s.cells c u) (becomes s.cells S.own c u unbound) s.scopes n

  pub stay : (i : ℕ) → fill (given u) c (cd i) ≡ cd i
  stay i = code-stays (given u) c l.lists l.nodes i

  pub path' : (i : ℕ) → its_path cd s' i ≡ fill_path c (given u) (its_path cd s i)
  path' i =
      ap (λ (z : List Step). seen (has_published z) (path cd (its_env cd s') z i)) D.steps
      ∙ ap (seen (has_published s.steps)) (path-fill cd c u stay (its_env cd s) (its_env cd s') filled_so s.steps i)
      ∙ seen-fill cd c u stay (its_env cd s) (its_env cd s') filled_so (has_published s.steps) (raw_path cd s i)

  inside-its : (i : ℕ) → inside c (raw_path cd s i) ≡ inside c (its_path cd s i)
  inside-its i = sym (inside-seen c (has_published s.steps) (raw_path cd s i))

  tokens_so : (w : Row → ℕ) (t : Token) → but (token_goes cd c s) (λ r. w (token_row cd s' r)) t ≡ kept c (given u) w (token_row cd s t)
  tokens_so w t =
      ap (λ b. cond b 0 (w (token_row cd s' t))) (inside-its t.step)
      ∙ (λ i. cond (inside c (its_path cd s t.step)) 0 (w (stands t.serial (standing-fill cd c u stay (its_env cd s) (its_env cd s') filled_so t.standing i) (path' t.step i))))

  calls_so : (w : Row → ℕ) (k : Call) → but (call_goes cd c s) (λ r. w (call_row cd s' r)) k ≡ kept c (given u) w (call_row cd s k)
  calls_so w k =
      ap (λ b. cond b 0 (w (call_row cd s' k))) (inside-its k.step)
      ∙ (λ i. cond (inside c (its_path cd s k.step)) 0 (w (pends k.number (path' k.step i))))

  -- what stays spells what is kept
  pub rows-dropped : (w : Row → ℕ) → weight w (rows_of cd s') ≡ weight (kept c (given u) w) (rows_of cd s)
  rows-dropped w =
      omega (
        arith,
        weight-append w (map (token_row cd s') s'.tokens) (map (call_row cd s') s'.calls),
        weight-map w (token_row cd s') s'.tokens,
        weight-map w (call_row cd s') s'.calls,
        weight-append (kept c (given u) w) (map (token_row cd s) s.tokens) (map (call_row cd s) s.calls),
        weight-map (kept c (given u) w) (token_row cd s) s.tokens,
        weight-map (kept c (given u) w) (call_row cd s) s.calls,
        D.tokens (λ r. w (token_row cd s' r)),
        D.calls (λ r. w (call_row cd s' r)),
        weight-same (but (token_goes cd c s) (λ r. w (token_row cd s' r))) (λ t. kept c (given u) w (token_row cd s t)) s.tokens (tokens_so w),
        weight-same (but (call_goes cd c s) (λ r. w (call_row cd s' r))) (λ k. kept c (given u) w (call_row cd s k)) s.calls (calls_so w),
      )

  over_same : (k : Side) → is_over cd s' k ≡ is_over cd s k
  over_same (Right d) = refl
  over_same (Left n g scope) = ap (λ (z : List Step). has_published z n) D.steps

  swap : (b e : Bool) (n : ℕ) → cond b 0 (cond e n 0) ≡ cond e (cond b 0 n) 0
  swap true true n = refl
  swap true false n = refl
  swap false true n = refl
  swap false false n = refl

  side_so : (v : Numbered → ℕ) (i : ℕ) (k : Side) → cond (is_inside c (raw_path cd s i) k) 0 (v (side_at cd s' (its_path cd s' i) k)) ≡ kept_side c (given u) v (side_at cd s (its_path cd s i) k)
  side_so v i (Right d) =
      ap (λ b. cond (cond (nat_eq c d) true b) 0 (v (right_of d (its_path cd s' i)))) (inside-its i)
      ∙ ap (λ p. cond (inside c (aiding d (its_path cd s i))) 0 (v (right_of d p))) (path' i)
  side_so v i (Left n g scope) =
      ap (λ b. cond b 0 (v (left_of n (close (its_env cd s' scope) (cd g)) (its_path cd s' i)))) (inside-its i)
      ∙ (λ j. cond (inside c (its_path cd s i)) 0 (v (left_of n (closed-fill cd c u stay (its_env cd s) (its_env cd s') filled_so scope g j) (path' i j))))

  groups_so : (v : Numbered → ℕ) (g : Group) → but (group_goes cd c s) (only (λ h. not (is_over cd s' h.side)) (λ h. v (group_side cd s' h))) g ≡ only (λ h. not (is_over cd s h.side)) (λ h. kept_side c (given u) v (group_side cd s h)) g
  groups_so v g =
      swap (is_inside c (raw_path cd s g.outer) g.side) (not (is_over cd s' g.side)) (v (group_side cd s' g))
      ∙ (λ i. cond (not (over_same g.side i)) (side_so v g.outer g.side i) 0)

  pub sides-dropped : (v : Numbered → ℕ) → weight v (sides_of cd s') ≡ weight (kept_side c (given u) v) (sides_of cd s)
  sides-dropped v =
      omega (
        arith,
        weight-filter v (group_side cd s') (λ h. not (is_over cd s' h.side)) s'.groups,
        weight-filter (kept_side c (given u) v) (group_side cd s) (λ h. not (is_over cd s h.side)) s.groups,
        D.groups (only (λ h. not (is_over cd s' h.side)) (λ h. v (group_side cd s' h))),
        weight-same (but (group_goes cd c s) (only (λ h. not (is_over cd s' h.side)) (λ h. v (group_side cd s' h)))) (only (λ h. not (is_over cd s h.side)) (λ h. kept_side c (given u) v (group_side cd s h))) s.groups (groups_so v),
      )

  abbrev none_or : Bool → Bool → ℕ
  none_or b e = cond b 0 (cond e 1 0)

  nothing : (b : Bool) → none_or b false ≡ 0
  nothing true = refl
  nothing false = refl

  still : (d : ℕ) (p : Path) → is_settled s.cells (Right d) ≡ false → none_or (inside c (aiding d p)) (is_settled s'.cells (Right d)) ≡ 0
  still d p h = go (nat_eq c d) refl
    where
      go : (b : Bool) → nat_eq c d ≡ b → none_or (cond b true (inside c p)) (is_settled s'.cells (Right d)) ≡ 0
      go true e = refl
      go false e =
          let off : d ≡ c → ⊥ = λ z. cc (eq-eqb c d (sym z), e) in
          let same : is_settled s'.cells (Right d) ≡ false = ap (λ z. not (is_own d (slice_get z d))) D.cells ∙ ap (λ z. not (is_own d z)) (set_other s.cells c d u off) ∙ h in
          ap (none_or (inside c p)) same ∙ nothing (inside c p)

  by_side : (i : ℕ) (k : Side) → is_settled s.cells k ≡ false → none_or (is_inside c (raw_path cd s i) k) (is_settled s'.cells k) ≡ 0
  by_side i (Right d) h = still d (raw_path cd s i) h
  by_side i (Left n f scope) h = nothing (inside c (raw_path cd s i))

  settled_so : (g : Group) → is_settled s.cells g.side ≡ false → but (group_goes cd c s) (only (λ h. is_settled s'.cells h.side) (λ h. 1)) g ≡ 0
  settled_so g h = by_side g.outer g.side h

  pub sound-dropped : ((d : ℕ) → u ≡ Cell d → ⊥) → Sound s'
  sound-dropped plain =
      record {
        tokens = rw (D.scopes, D.steps) (omega (arith, S.tokens, dropped-less (only (token_out (length s.scopes) (length s.steps)) (λ t. 1)) (token_goes cd c s) s.tokens s'.tokens D.tokens));
        calls = rw D.steps (omega (arith, S.calls, dropped-less (only (call_out (length s.steps)) (λ t. 1)) (call_goes cd c s) s.calls s'.calls D.calls));
        groups = rw (D.scopes, D.steps) (omega (arith, S.groups, dropped-less (only (group_out (length s.scopes) (length s.steps)) (λ t. 1)) (group_goes cd c s) s.groups s'.groups D.groups));
        steps = rw (D.scopes, D.steps, D.mark) S.steps;
        outwards = rw D.steps S.outwards;
        scopes = rw D.scopes S.scopes;
        own = rw D.cells (own_filled s.cells S.own c u unbound plain);
        cells = D.groups (only (λ h. is_settled s'.cells h.side) (λ h. 1)) ∙ none-alike (λ h. is_settled s.cells h.side) (but (group_goes cd c s) (only (λ h. is_settled s'.cells h.side) (λ h. 1))) (λ h. 0) s.groups S.cells settled_so ∙ weight-none (λ h. 0) s.groups (λ h. refl);
        apart = λ m h. rw D.steps (S.apart m (omega (arith, h, dropped-less (has_serial m) (token_goes cd c s) s.tokens s'.tokens D.tokens)));
        once = rw D.steps S.once;
      }
