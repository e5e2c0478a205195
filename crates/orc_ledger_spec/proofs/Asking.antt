-- A call of a site, and its answer, keep the book lawful.
use Rattle.std.proofs.Common.{◌≡◌, ◌≤◌, ◌<◌, ℕ, suc, ◌+◌, List, [], ◌∷◌, refl, sym, ap, ◌∙◌, subst, arith, inr, map, length, false, cond, not, Some, ⊎_elim}
use Rattle.std.specs.Prelude.{nat_lt}
use Rattle.orc_rules.specs.declared.value.Value.{Value}
use Rattle.orc_rules.specs.declared.value.Answer.TheVariants as answer
use Rattle.orc_rules.specs.declared.param.Param.{Param}
use Rattle.orc_rules.specs.declared.param.Param.TheVariants as is
use Rattle.orc_rules.specs.declared.entry.Entry.{Entry}
use Rattle.orc_rules.specs.declared.entry.Entry.TheVariants as entry
use Rattle.orc_rules.specs.Term.{param, site, values_of}
use Rattle.orc_rules.specs.Nodes.{Listing, code, source}
use Rattle.orc_rules.specs.Sites.{Site}
use Rattle.orc_rules.specs.Marked.{Marked, ended, token, in_call, Replaces, here}
use Rattle.orc_rules.specs.Timed.{IsIn, IsDue, CallMade, nth_of}
use Rattle.orc_rules.specs.Journal.{Place, Leads, Journal, begin}
use Rattle.orc_env.specs.Scopes.{close, env_of}
use Rattle.orc_indexes.specs.Same.{weight, only, None}
use Rattle.orc_frames.specs.Spelling.{Path, whole, Row, stands, pends, Numbered, right_of, left_of, marks, sides, seen}
use Rattle.orc_ledger_spec.specs.Records.{Records, Lawful, context, its_env, its_path, rows_of, sides_of, token_row, call_row, side_at, group_side, is_over, token_out, call_out, has_serial, counts, is_written}
use Rattle.orc_frames.specs.Paths.{path, has_published, standing, is_out, step_out}
use Rattle.orc_ledger_spec.specs.Calls.{Exchanges}
use Rattle.orc_tables.specs.declared.records.Standing.TheVariants.{On}
use Rattle.orc_tables.specs.declared.records.Token.{Token}
use Rattle.orc_tables.specs.declared.records.Call.{Call}
use Rattle.orc_tables.specs.declared.records.Side.{Side}
use Rattle.orc_tables.specs.declared.records.Side.TheVariants.{Right, Left}
use Rattle.orc_ledger_spec.proofs.Written.{written-more, written-last}
use Rattle.orc_indexes.proofs.Weight.{weight-append, weight-map, weight-filter, weight-same, none-weaker, none-in, either_one}
use Rattle.orc_frames.proofs.Around.{Found, plug, path_of, path_in, unit, cells_of, replaced, marks-plug, sides-plug}
use Rattle.orc_ledger_spec.proofs.Lists.{token_found, call_found}
use Rattle.orc_ledger_spec.proofs.Binding.{journal_more}
use Rattle.orc_frames.proofs.Growth.{or_false}
use Rattle.orc_ledger_spec.proofs.Leaves.{later_one}
use Rattle.orc_ledger_spec.proofs.Sound.{none-tries, entered_less}

module _ (l : Listing) (sites : List Site) (s : Records) (L : Lawful l sites s) (s' : Records) (ts ts' : List Token) (cs cs' : List Call) (made : ℕ) (e : Entry) (T : Exchanges s s' ts ts' cs cs' made e) where
  path_same : (j : ℕ) → its_path (code l) s' j ≡ its_path (code l) s j
  path_same j = λ i. seen (has_published (T.steps i)) (path (code l) (env_of (T.cells i) (T.scopes i)) (T.steps i) j)

  row_same : (u : Token) → token_row (code l) s' u ≡ token_row (code l) s u
  row_same u = λ i. stands u.serial (standing (code l) (env_of (T.cells i) (T.scopes i)) u.standing) (path_same u.step i)

  pub rows_exchanged : (w : Row → ℕ) → weight w (rows_of (code l) s') + (weight (λ u. w (token_row (code l) s u)) ts + weight (λ c. w (call_row (code l) s c)) cs) ≡ weight w (rows_of (code l) s) + (weight (λ u. w (token_row (code l) s u)) ts' + weight (λ c. w (call_row (code l) s c)) cs')
  rows_exchanged w =
      omega (
        arith,
        weight-append w (map (token_row (code l) s') s'.tokens) (map (call_row (code l) s') s'.calls),
        weight-append w (map (token_row (code l) s) s.tokens) (map (call_row (code l) s) s.calls),
        weight-map w (token_row (code l) s') s'.tokens,
        weight-map w (token_row (code l) s) s.tokens,
        weight-map w (call_row (code l) s') s'.calls,
        weight-map w (call_row (code l) s) s.calls,
        weight-same (λ c. w (call_row (code l) s' c)) (λ c. w (call_row (code l) s c)) s'.calls (λ c. ap (λ p. w (pends c.number p)) (path_same c.step)),
        weight-same (λ u. w (token_row (code l) s' u)) (λ u. w (token_row (code l) s u)) s'.tokens (λ u. ap w (row_same u)),
        T.calls (λ c. w (call_row (code l) s c)),
        T.tokens (λ u. w (token_row (code l) s u)),
      )

  over_same : (k : Side) → is_over (code l) s' k ≡ is_over (code l) s k
  over_same (Right d) = refl
  over_same (Left m f sc) = ap (λ z. has_published z m) T.steps

  side_same : (v : Numbered → ℕ) (j : ℕ) (k : Side) → v (side_at (code l) s' (its_path (code l) s' j) k) ≡ v (side_at (code l) s (its_path (code l) s j) k)
  side_same v j (Right d) = ap (λ p. v (right_of d p)) (path_same j)
  side_same v j (Left m f sc) = λ i. v (left_of m (close (env_of (T.cells i) (T.scopes i) sc) (code l f)) (path_same j i))

  sides_exchanged : (v : Numbered → ℕ) → weight v (sides_of (code l) s') ≡ weight v (sides_of (code l) s)
  sides_exchanged v =
      weight-filter v (group_side (code l) s') (λ h. not (is_over (code l) s' h.side)) s'.groups
      ∙ ap (weight (only (λ h. not (is_over (code l) s' h.side)) (λ h. v (group_side (code l) s' h)))) T.groups
      ∙ weight-same (only (λ h. not (is_over (code l) s' h.side)) (λ h. v (group_side (code l) s' h))) (only (λ h. not (is_over (code l) s h.side)) (λ h. v (group_side (code l) s h))) s.groups (λ h i. cond (not (over_same h.side i)) (side_same v h.outer h.side i) 0)
      ∙ sym (weight-filter v (group_side (code l) s) (λ h. not (is_over (code l) s h.side)) s.groups)

  -- one row's part becomes another part, which has no sides
  pub exchanged : (r : Row) (f : Found r L.place.marked) (new : Marked) (q : Place) → q.marked ≡ plug f.around new → Leads (context l sites) L.place e q
      → ((w : Row → ℕ) → weight w (rows_of (code l) s') + w r ≡ weight w (rows_of (code l) s) + weight w (marks (path_in r) new))
      → ((v : Numbered → ℕ) (p : Path) → weight v (sides p new) ≡ 0)
      → ((p : Path) → p ≡ path_in r → (w : Row → ℕ) → weight w (marks p (unit r)) ≡ w r)
      → ((v : Numbered → ℕ) (p : Path) → weight v (sides p (unit r)) ≡ 0)
      → q.mark ≡ s'.next_mark → q.cells ≡ L.place.cells → q.now ≡ s'.now → length q.calls ≡ s'.made → q.to_cancel ≡ [] → length ts' ≤ 1 → counts e ≡ 1 → s.entries < s.limit
      → None (token_out (length s.scopes) (length s.steps)) ts' → None (call_out (length s.steps)) cs' → None (λ c. not (is_written s'.journal c)) cs' → ((m : ℕ) → 1 ≤ weight (has_serial m) ts' → s.next_mark ≤ m) → Lawful l sites s'
  exchanged r f new q is leads rows none_new unit_row unit_none mark cells now made_so due few real room tokens_in calls_in of_calls later =
      let k = f.around in
      record {
        place = q;
        leads = subst (λ es. Journal (context l sites) (begin (source l)) es q) (sym T.journal) (journal_more (context l sites) (begin (source l)) L.place q s.journal (e ∷ []) L.leads (q, leads, refl));
        spells = record {
          rows = λ w. omega (arith, ap (λ m. weight w (marks whole m)) is, marks-plug w k new, ap (λ p. weight w (marks p new)) f.path, rows w, L.spells.rows w, ap (λ m. weight w (marks whole m)) f.is, marks-plug w k (unit r), unit_row (path_of k) f.path w);
          sides = λ v. omega (arith, ap (λ m. weight v (sides whole m)) is, sides-plug v k new, none_new v (path_of k), sides_exchanged v, L.spells.sides v, ap (λ m. weight v (sides whole m)) f.is, sides-plug v k (unit r), unit_none v (path_of k));
          mark = mark;
          cells = ap length T.cells ∙ L.spells.cells ∙ ap (λ z. suc (length z)) (sym cells);
          now = now;
          made = made_so;
          none_due = due;
        };
        sound = record {
          tokens = rw (T.scopes, T.steps) (omega (arith, T.tokens (only (token_out (length s.scopes) (length s.steps)) (λ t. 1)), L.sound.tokens, tokens_in));
          calls = rw T.steps (omega (arith, T.calls (only (call_out (length s.steps)) (λ t. 1)), L.sound.calls, calls_in));
          groups = rw (T.scopes, T.steps, T.groups) L.sound.groups;
          steps = rw (T.scopes, T.steps) (none-weaker (step_out (length s.scopes) s.next_mark) (step_out (length s.scopes) s'.next_mark) s.steps L.sound.steps (λ z h. entered_less (length s.scopes) (length s.scopes) s.next_mark s'.next_mark (omega arith) (omega (arith, T.mark)) z.entered h));
          outwards = rw T.steps L.sound.outwards;
          scopes = rw T.scopes L.sound.scopes;
          own = rw T.cells L.sound.own;
          cells = rw (T.cells, T.groups) L.sound.cells;
          apart = λ m h.
              rw T.steps
              (⊎_elim (λ (old : 1 ≤ weight (has_serial m) s.tokens). L.sound.apart m old)
              (λ (mine : 1 ≤ weight (has_serial m) ts'). none-tries (length s.scopes) s.next_mark m s.steps (later m mine) L.sound.steps)
              (either_one (weight (has_serial m) s.tokens) (weight (has_serial m) ts') (omega (arith, h, T.tokens (has_serial m)))));
          once = rw T.steps L.sound.once;
        };
        entries = omega (arith, L.entries, T.entries, ap (weight counts) T.journal, weight-append counts s.journal (e ∷ []), real);
        within = omega (arith, T.entries, T.limit, room);
        small = omega (arith, T.limit, L.small);
        counted = omega (arith, L.counted, T.mark, few, T.entries);
        written = written-more s s' (e ∷ []) cs' T.journal (λ w. omega (arith, T.calls w)) of_calls L.written;
      }

module _ (l : Listing) (sites : List Site) (s : Records) (L : Lawful l sites s) where
  -- token t asks a site
  pub call-lawful : (t : Token) → IsIn t s.tokens → (m : ℕ) (ps : List Param) (args : List Value) → standing (code l) (its_env (code l) s) t.standing ≡ site m ps → values_of ps ≡ Some args → s.entries < s.limit
      → (c : Call) → c.number ≡ s.made + 1 → c.step ≡ t.step → c.row ≡ length s.journal → (s' : Records) → Exchanges s s' (t ∷ []) [] [] (c ∷ []) 1 (entry.Call t.serial c.number m args) → Lawful l sites s'
  call-lawful t i m ps args form values room c number step row s' T =
      let f = token_found l sites s L t i in
      let E = entry.Call t.serial c.number m args in
      let x = context l sites in
      let new = in_call c.number in
      let made : CallMade = record { number = c.number; site = m; args = args; nth = nth_of m args L.place.calls; at = L.place.now } in
      let q : Place = record L.place { marked = plug f.around new; calls = made ∷ L.place.calls } in
      let was : plug f.around (token t.serial (site m ps)) ≡ L.place.marked = ap (λ z. plug f.around (token t.serial z)) (sym form) ∙ f.is in
      let part = subst (λ z. Replaces (token t.serial (site m ps)) new z (cells_of f.around []) (plug f.around new)) was (replaced f.around here) in
      let next_number : c.number ≡ suc (length L.place.calls) = omega (arith, number, L.spells.made) in
      let leads : Leads x L.place E q = (inr L.spells.none_due, (ps, cells_of f.around [], next_number, values, part, record { to_cancel = L.spells.none_due; same = refl })) in
      let t_in : token_out (length s.scopes) (length s.steps) t ≡ false = none-in (token_out (length s.scopes) (length s.steps)) s.tokens t L.sound.tokens i in
      let c_in : call_out (length s.steps) c ≡ false = ap (λ z. nat_lt (length s.steps) z) step ∙ (or_false (is_out (length s.scopes) t.standing) (nat_lt (length s.steps) t.step) t_in).1 in
      exchanged l sites s L s' (t ∷ []) [] [] (c ∷ []) 1 E T (token_row (code l) s t) f new q refl leads
      (λ w. omega (arith, rows_exchanged l sites s L s' (t ∷ []) [] [] (c ∷ []) 1 E T w, ap (λ z. w (pends c.number (its_path (code l) s z))) step))
      (λ v p. refl) (λ p same w. omega (arith, ap (λ z. w (stands t.serial (standing (code l) (its_env (code l) s) t.standing) z)) same)) (λ v p. refl)
      (omega (arith, L.spells.mark, T.mark)) refl (L.spells.now ∙ sym T.now) (omega (arith, L.spells.made, T.made_so)) L.spells.none_due (omega arith) refl room
      refl (omega (arith, ap {B = ℕ} (λ b. cond b 1 0) c_in)) (omega (arith, ap {B = ℕ} (λ b. cond b 1 0) (written-last s s' t.serial m args c T.journal row))) (λ n h. absurd (omega (arith, h)))

  -- a pending call is answered
  pub return-lawful : (c : Call) → IsIn c s.calls → (v : Value) → IsDue sites L.place.calls c.number (answer.Value v) L.place.now → s.entries < s.limit
      → (s' : Records) → Exchanges s s' [] (record { serial = s.next_mark; standing = On v; step = c.step } ∷ []) (c ∷ []) [] 0 (entry.Return c.number s.next_mark v) → Lawful l sites s'
  return-lawful c i v due room s' T =
      let f = call_found l sites s L c i in
      let n = s.next_mark in
      let t : Token = record { serial = n; standing = On v; step = c.step } in
      let E = entry.Return c.number n v in
      let x = context l sites in
      let new = token n (param (is.Is v)) in
      let q : Place = record L.place { marked = plug f.around new; mark = suc n } in
      let part = subst (λ z. Replaces (in_call c.number) new z (cells_of f.around []) (plug f.around new)) f.is (replaced f.around here) in
      let leads : Leads x L.place E q = (inr L.spells.none_due, (cells_of f.around [], sym L.spells.mark, due, part, record { to_cancel = L.spells.none_due; same = refl })) in
      let c_in : call_out (length s.steps) c ≡ false = none-in (call_out (length s.steps)) s.calls c L.sound.calls i in
      exchanged l sites s L s' [] (t ∷ []) (c ∷ []) [] 0 E T (call_row (code l) s c) f new q refl leads
      (λ w. omega (arith, rows_exchanged l sites s L s' [] (t ∷ []) (c ∷ []) [] 0 E T w))
      (λ u p. refl) (λ p same w. omega (arith, ap (λ z. w (pends c.number z)) same)) (λ u p. refl)
      (omega (arith, T.mark)) refl (L.spells.now ∙ sym T.now) (omega (arith, L.spells.made, T.made_so)) L.spells.none_due (omega arith) refl room
      (omega (arith, ap {B = ℕ} (λ b. cond b 1 0) c_in)) refl refl (λ m h. later_one m n h)

  pub return_halt-lawful : (c : Call) → IsIn c s.calls → IsDue sites L.place.calls c.number answer.Halt L.place.now → s.entries < s.limit
      → (s' : Records) → Exchanges s s' [] [] (c ∷ []) [] 0 (entry.ReturnHalt c.number) → Lawful l sites s'
  return_halt-lawful c i due room s' T =
      let f = call_found l sites s L c i in
      let E = entry.ReturnHalt c.number in
      let x = context l sites in
      let q : Place = record L.place { marked = plug f.around ended } in
      let part = subst (λ z. Replaces (in_call c.number) ended z (cells_of f.around []) (plug f.around ended)) f.is (replaced f.around here) in
      let leads : Leads x L.place E q = (inr L.spells.none_due, (cells_of f.around [], due, part, record { to_cancel = L.spells.none_due; same = refl })) in
      exchanged l sites s L s' [] [] (c ∷ []) [] 0 E T (call_row (code l) s c) f ended q refl leads
      (λ w. omega (arith, rows_exchanged l sites s L s' [] [] (c ∷ []) [] 0 E T w))
      (λ u p. refl) (λ p same w. omega (arith, ap (λ z. w (pends c.number z)) same)) (λ u p. refl)
      (omega (arith, L.spells.mark, T.mark)) refl (L.spells.now ∙ sym T.now) (omega (arith, L.spells.made, T.made_so)) L.spells.none_due (omega arith) refl room
      refl refl refl (λ n h. absurd (omega (arith, h)))
