-- A token goes and others come: what the records spell then, and that the book stays lawful.
use Rattle.std.proofs.Common.{◌≡◌, ◌≤◌, ◌<◌, ℕ, suc, ◌+◌, List, [], ◌∷◌, ◌++◌, refl, sym, ap, ◌∙◌, subst, arith, map, length, length-append, slice_index_or, false, cond, not}
use Rattle.std.specs.Prelude.{nat_lt}
use Rattle.std.proofs.lemmas.Bool.{ltb-false, le-ltb}
use Rattle.orc_rules.specs.declared.entry.Entry.{Entry}
use Rattle.orc_rules.specs.Term.{Term}
use Rattle.orc_rules.specs.Nodes.{Listing, code, source}
use Rattle.orc_rules.specs.Sites.{Site}
use Rattle.orc_rules.specs.Marked.{Marked}
use Rattle.orc_rules.specs.Timed.{IsIn}
use Rattle.orc_rules.specs.Journal.{Place, Leads, Journal, begin}
use Rattle.orc_env.specs.declared.names.Bound.{Bound}
use Rattle.orc_env.specs.declared.names.Scope.{Scope}
use Rattle.orc_env.specs.Scopes.{Env, close, current, envs_from, env_of}
use Rattle.orc_env.proofs.Scopes.{env-kept}
use Rattle.orc_indexes.specs.Same.{weight, only, None}
use Rattle.orc_frames.specs.Spelling.{whole, Row, stands, pends, Numbered, right_of, left_of, marks, sides, seen}
use Rattle.orc_ledger_spec.specs.Records.{Records, Sound, Lawful, context, its_env, raw_path, its_path, rows_of, sides_of, token_row, call_row, side_at, group_side, is_over, token_out, call_out, side_out, group_out, counts}
use Rattle.orc_frames.specs.Paths.{path, inwards, has_published, standing, is_out}
use Rattle.orc_ledger_spec.specs.Calls.{Turns}
use Rattle.orc_tables.specs.declared.records.Standing.{Standing}
use Rattle.orc_tables.specs.declared.records.Standing.TheVariants.{At, On}
use Rattle.orc_tables.specs.declared.records.Token.{Token}
use Rattle.orc_tables.specs.declared.records.Step.{Step}
use Rattle.orc_tables.specs.declared.records.Side.{Side}
use Rattle.orc_tables.specs.declared.records.Side.TheVariants.{Right, Left}
use Rattle.orc_tables.specs.declared.records.Group.{Group}
use Rattle.orc_ledger_spec.proofs.Written.{written-kept}
use Rattle.orc_indexes.proofs.Weight.{weight-append, weight-map, weight-filter, none-alike, none-weaker, none-in}
use Rattle.orc_frames.proofs.Around.{plug, unit, marks-plug, sides-plug}
use Rattle.orc_ledger_spec.proofs.Lists.{token_found}
use Rattle.orc_ledger_spec.proofs.Binding.{journal_more}
use Rattle.orc_frames.proofs.Growth.{or_false, both_false, left-more, standing-same, paths-same, path-kept, path-new, seen-same}

envs-current : (cells cells' : List Bound) → ((b : Bound) → current cells' b ≡ current cells b) → (es : List Env) (ss : List Scope) → envs_from cells' es ss ≡ envs_from cells es ss
envs-current cells cells' same es [] = refl
envs-current cells cells' same es (s ∷ ss) =
    let old : Env = (s.name, current cells s.bound) ∷ slice_index_or es s.outer [] in
    ap (λ b. envs_from cells' (es ++ ((s.name, b) ∷ slice_index_or es s.outer []) ∷ []) ss) (same s.bound) ∙ envs-current cells cells' same (es ++ old ∷ []) ss

pub lt_less : (a b b' : ℕ) → b ≤ b' → nat_lt b a ≡ false → nat_lt b' a ≡ false
lt_less a b b' le h = le-ltb b' a (omega (arith, ltb-false b a h, le))

pub out_less : (n n' : ℕ) (st : Standing) → n ≤ n' → is_out n st ≡ false → is_out n' st ≡ false
out_less n n' (At node scope) le h = lt_less scope n n' le h
out_less n n' (On v) le h = refl

module _ (l : Listing) (sites : List Site) (s : Records) (L : Lawful l sites s) (t : Token) (i : IsIn t s.tokens) (s' : Records) (births : List Token) (ss : List Scope) (ps : List Step) (gs : List Group) (cs : List Bound) (e : Entry) (T : Turns s s' t births ss ps gs cs e) (fresh : (n : ℕ) → has_published ps n ≡ false) (plain : (b : Bound) → current s'.cells b ≡ current s.cells b) where
  abbrev cd : ℕ → Term
  cd = code l

  pub more_scopes : length s'.scopes ≡ length s.scopes + length ss
  more_scopes = ap length T.scopes ∙ length-append s.scopes ss

  pub more_steps : length s'.steps ≡ length s.steps + length ps
  more_steps = ap length T.steps ∙ length-append s.steps ps

  pub env_same : (j : ℕ) → j ≤ length s.scopes → its_env cd s' j ≡ its_env cd s j
  env_same j h =
      ap (λ z. slice_index_or z j []) (envs-current s.cells s'.cells plain ([] ∷ []) s'.scopes) ∙ ap (λ z. env_of s.cells z j) T.scopes ∙ sym (env-kept s.cells s.scopes ss j h)

  pub left_same : (n : ℕ) → has_published s'.steps n ≡ has_published s.steps n
  left_same n = ap (λ z. has_published z n) T.steps ∙ left-more n s.steps ps (fresh n)

  pub raw_same : (j : ℕ) → j ≤ length s.steps → raw_path cd s' j ≡ raw_path cd s j
  raw_same j h =
      ap (λ z. path cd (its_env cd s') z j) T.steps
      ∙ path-kept cd (its_env cd s') s.steps ps j h
      ∙ ap (λ z. slice_index_or z j whole) (paths-same cd (its_env cd s) (its_env cd s') (length s.scopes) env_same s.next_mark (whole ∷ []) s.steps L.sound.steps)

  -- the paths that were there, with the new names
  pub raw_env : (j : ℕ) → path cd (its_env cd s') s.steps j ≡ raw_path cd s j
  raw_env j = ap (λ z. slice_index_or z j whole) (paths-same cd (its_env cd s) (its_env cd s') (length s.scopes) env_same s.next_mark (whole ∷ []) s.steps L.sound.steps)

  pub cells_env : (j : ℕ) → env_of s'.cells s.scopes j ≡ its_env cd s j
  cells_env j = ap (λ z. slice_index_or z j []) (envs-current s.cells s'.cells plain ([] ∷ []) s.scopes)

  -- the path of a step that comes
  pub new_path : (p : Step) → ps ≡ p ∷ [] → its_path cd s' (length s.steps + 1) ≡ seen (has_published s.steps) (inwards cd (its_env cd s') p.entered (raw_path cd s p.outer))
  new_path p one =
      seen-same (has_published s.steps) (has_published s'.steps) left_same (raw_path cd s' (length s.steps + 1))
      ∙ ap (seen (has_published s.steps))
      (ap (λ z. path cd (its_env cd s') z (length s.steps + 1)) (T.steps ∙ ap (λ z. s.steps ++ z) one)
      ∙ path-new cd (its_env cd s') s.steps p (length s.steps + 1) refl
      ∙ ap (inwards cd (its_env cd s') p.entered) (raw_env p.outer))

  pub path_same : (j : ℕ) → j ≤ length s.steps → its_path cd s' j ≡ its_path cd s j
  path_same j h = seen-same (has_published s.steps) (has_published s'.steps) left_same (raw_path cd s' j) ∙ ap (seen (has_published s.steps)) (raw_same j h)

  pub row_same : (u : Token) → token_out (length s.scopes) (length s.steps) u ≡ false → token_row cd s' u ≡ token_row cd s u
  row_same u h =
      let b = or_false (is_out (length s.scopes) u.standing) (nat_lt (length s.steps) u.step) h in
      λ j. stands u.serial (standing-same cd (its_env cd s) (its_env cd s') (length s.scopes) env_same u.standing b.0 j) (path_same u.step (ltb-false (length s.steps) u.step b.1) j)

  pub t_in : token_out (length s.scopes) (length s.steps) t ≡ false
  t_in = none-in (token_out (length s.scopes) (length s.steps)) s.tokens t L.sound.tokens i

  pub rows_turned : (w : Row → ℕ) → weight w (rows_of cd s') + w (token_row cd s t) ≡ weight w (rows_of cd s) + weight (λ u. w (token_row cd s' u)) births
  rows_turned w =
      omega (
        arith,
        weight-append w (map (token_row cd s') s'.tokens) (map (call_row cd s') s'.calls),
        weight-append w (map (token_row cd s) s.tokens) (map (call_row cd s) s.calls),
        weight-map w (token_row cd s') s'.tokens,
        weight-map w (token_row cd s) s.tokens,
        weight-map w (call_row cd s') s'.calls,
        weight-map w (call_row cd s) s.calls,
        ap (weight (λ c. w (call_row cd s' c))) T.calls,
        none-alike (call_out (length s.steps)) (λ c. w (call_row cd s' c)) (λ c. w (call_row cd s c)) s.calls L.sound.calls (λ c h. ap (λ p. w (pends c.number p)) (path_same c.step (ltb-false (length s.steps) c.step h))),
        T.tokens (λ u. w (token_row cd s' u)),
        none-alike (token_out (length s.scopes) (length s.steps)) (λ u. w (token_row cd s' u)) (λ u. w (token_row cd s u)) s.tokens L.sound.tokens (λ u h. ap w (row_same u h)),
        ap w (row_same t t_in),
      )

  over_same : (k : Side) → is_over cd s' k ≡ is_over cd s k
  over_same (Right d) = refl
  over_same (Left n g scope) = left_same n

  side_same : (v : Numbered → ℕ) (j : ℕ) (k : Side) → side_out (length s.scopes) k ≡ false → j ≤ length s.steps → v (side_at cd s' (its_path cd s' j) k) ≡ v (side_at cd s (its_path cd s j) k)
  side_same v j (Right d) h le = ap (λ p. v (right_of d p)) (path_same j le)
  side_same v j (Left n g scope) h le = λ k. v (left_of n (close (env_same scope (ltb-false (length s.scopes) scope h) k) (cd g)) (path_same j le k))

  pub sides_turned : (v : Numbered → ℕ) → weight v (sides_of cd s') ≡ weight v (sides_of cd s) + weight (only (λ g. not (is_over cd s' g.side)) (λ g. v (group_side cd s' g))) gs
  sides_turned v =
      omega (
        arith,
        weight-filter v (group_side cd s') (λ g. not (is_over cd s' g.side)) s'.groups,
        weight-filter v (group_side cd s) (λ g. not (is_over cd s g.side)) s.groups,
        T.groups (only (λ g. not (is_over cd s' g.side)) (λ g. v (group_side cd s' g))),
        none-alike (group_out (length s.scopes) (length s.steps)) (only (λ g. not (is_over cd s' g.side)) (λ g. v (group_side cd s' g))) (only (λ g. not (is_over cd s g.side)) (λ g. v (group_side cd s g))) s.groups L.sound.groups (λ g h.
            let b = or_false (side_out (length s.scopes) g.side) (nat_lt (length s.steps) g.outer) h in
            λ j. cond (not (over_same g.side j)) (side_same v g.outer g.side b.0 (ltb-false (length s.steps) g.outer b.1) j) 0),
      )

  -- the tokens and what is kept stay in range
  pub tokens_in : None (token_out (length s'.scopes) (length s'.steps)) births → None (token_out (length s'.scopes) (length s'.steps)) s'.tokens
  tokens_in h =
      let old : None (token_out (length s'.scopes) (length s'.steps)) s.tokens = none-weaker (token_out (length s.scopes) (length s.steps)) (token_out (length s'.scopes) (length s'.steps)) s.tokens L.sound.tokens (λ u k.
      let b = or_false (is_out (length s.scopes) u.standing) (nat_lt (length s.steps) u.step) k in
      both_false (is_out (length s'.scopes) u.standing) (nat_lt (length s'.steps) u.step) (out_less (length s.scopes) (length s'.scopes) u.standing (omega (arith, more_scopes)) b.0) (lt_less u.step (length s.steps) (length s'.steps) (omega (arith, more_steps)) b.1)) in
      omega (arith, T.tokens (only (token_out (length s'.scopes) (length s'.steps)) (λ u. 1)), old, h)

  pub calls_in : None (call_out (length s'.steps)) s'.calls
  calls_in = rw T.calls (none-weaker (call_out (length s.steps)) (call_out (length s'.steps)) s.calls L.sound.calls (λ c h. lt_less c.step (length s.steps) (length s'.steps) (omega (arith, more_steps)) h))

  side_less : (k : Side) → side_out (length s.scopes) k ≡ false → side_out (length s'.scopes) k ≡ false
  side_less (Right d) h = refl
  side_less (Left n g scope) h = lt_less scope (length s.scopes) (length s'.scopes) (omega (arith, more_scopes)) h

  pub groups_in : None (group_out (length s'.scopes) (length s'.steps)) gs → None (group_out (length s'.scopes) (length s'.steps)) s'.groups
  groups_in h =
      let old : None (group_out (length s'.scopes) (length s'.steps)) s.groups = none-weaker (group_out (length s.scopes) (length s.steps)) (group_out (length s'.scopes) (length s'.steps)) s.groups L.sound.groups (λ g k.
      let b = or_false (side_out (length s.scopes) g.side) (nat_lt (length s.steps) g.outer) k in
      both_false (side_out (length s'.scopes) g.side) (nat_lt (length s'.steps) g.outer) (side_less g.side b.0) (lt_less g.outer (length s.steps) (length s'.steps) (omega (arith, more_steps)) b.1)) in
      omega (arith, T.groups (only (group_out (length s'.scopes) (length s'.steps)) (λ u. 1)), old, h)

  -- the part under the token's mark becomes another, which the births and the new groups spell
  pub turned : (q : Place) (new : Marked) → q.marked ≡ plug (token_found l sites s L t i).around new → Leads (context l sites) L.place e q
      → ((w : Row → ℕ) → weight w (marks (its_path cd s t.step) new) ≡ weight (λ u. w (token_row cd s' u)) births)
      → ((v : Numbered → ℕ) → weight v (sides (its_path cd s t.step) new) ≡ weight (only (λ g. not (is_over cd s' g.side)) (λ g. v (group_side cd s' g))) gs)
      → q.mark ≡ s'.next_mark → length s'.cells ≡ suc (length q.cells) → q.now ≡ s'.now → length q.calls ≡ s'.made → q.to_cancel ≡ []
      → length births ≤ 2 → counts e ≡ 1 → s.entries < s.limit → Sound s' → Lawful l sites s'
  turned q new is leads rows sides' mark cells now made due few real room sound =
      let f = token_found l sites s L t i in
      let k = f.around in
      let r = token_row cd s t in
      record {
        place = q;
        leads = subst (λ es. Journal (context l sites) (begin (source l)) es q) (sym T.journal) (journal_more (context l sites) (begin (source l)) L.place q s.journal (e ∷ []) L.leads (q, leads, refl));
        spells = record {
          rows = λ w. omega (arith, ap (λ m. weight w (marks whole m)) is, marks-plug w k new, ap (λ p. weight w (marks p new)) f.path, rows w, rows_turned w, L.spells.rows w, ap (λ m. weight w (marks whole m)) f.is, marks-plug w k (unit r), ap (λ p. w (stands t.serial (standing cd (its_env cd s) t.standing) p)) f.path);
          sides = λ v. omega (arith, ap (λ m. weight v (sides whole m)) is, sides-plug v k new, ap (λ p. weight v (sides p new)) f.path, sides' v, sides_turned v, L.spells.sides v, ap (λ m. weight v (sides whole m)) f.is, sides-plug v k (unit r));
          mark = mark;
          cells = cells;
          now = now;
          made = made;
          none_due = due;
        };
        sound = sound;
        entries = omega (arith, L.entries, T.entries, ap (weight counts) T.journal, weight-append counts s.journal (e ∷ []), real);
        within = omega (arith, T.entries, T.limit, room);
        small = omega (arith, T.limit, L.small);
        counted = omega (arith, L.counted, T.mark, few, T.entries);
        written = written-kept s s' (e ∷ []) T.journal (λ w. omega (arith, ap (weight w) T.calls)) L.written;
      }
