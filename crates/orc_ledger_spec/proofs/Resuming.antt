-- The left side of an otherwise has halted without a publication: its right side starts.
use Rattle.std.proofs.Common.{◌≡◌, ◌≤◌, ◌<◌, ℕ, suc, ◌+◌, List, [], ◌∷◌, refl, sym, ap, ◌∙◌, subst, arith, inr, map, length, Bool, true, false, cond, nat_eq, eq-eqb, not, ⊎_elim}
use Rattle.std.specs.Prelude.{nat_lt}
use Rattle.orc_rules.specs.declared.entry.Entry.TheVariants as entry
use Rattle.orc_rules.specs.Term.{Halted}
use Rattle.orc_rules.specs.Nodes.{Listing, code, source}
use Rattle.orc_rules.specs.Sites.{Site}
use Rattle.orc_rules.specs.Marked.{Marked, ended, token, in_call, in_par, in_seq, in_opened, in_other, erase, Replaces, here}
use Rattle.orc_rules.specs.Timed.{IsIn}
use Rattle.orc_rules.specs.Journal.{Place, Enters, Journal, begin}
use Rattle.orc_env.specs.Scopes.{close, env_of}
use Rattle.orc_indexes.specs.Same.{weight, only, None}
use Rattle.orc_frames.specs.Spelling.{Path, whole, feeding, aiding, trying, Row, stands, pends, Numbered, right_of, left_of, marks, sides, seen, within}
use Rattle.orc_ledger_spec.specs.Records.{Records, Lawful, context, its_env, raw_path, its_path, rows_of, sides_of, token_row, call_row, side_at, group_side, is_over, token_out, side_out, group_out, is_settled, has_serial, counts}
use Rattle.orc_frames.specs.Paths.{path, has_published, standing, step_out}
use Rattle.orc_ledger_spec.specs.Calls.{Resumes}
use Rattle.orc_tables.specs.declared.records.Standing.TheVariants.{At}
use Rattle.orc_tables.specs.declared.records.Token.{Token}
use Rattle.orc_tables.specs.declared.records.Call.{Call}
use Rattle.orc_tables.specs.declared.records.Side.{Side}
use Rattle.orc_tables.specs.declared.records.Side.TheVariants.{Right, Left}
use Rattle.orc_tables.specs.declared.records.Group.{Group}
use Rattle.orc_ledger_spec.proofs.Written.{written-kept}
use Rattle.orc_indexes.proofs.Weight.{weight-append, weight-map, weight-filter, weight-same, weight-none, none-alike, none-weaker, none-in, either_one}
use Rattle.orc_frames.proofs.Around.{plug, path_of, cells_of, replaced, Opened, marks-plug, sides-plug}
use Rattle.orc_ledger_spec.proofs.Lists.{rows-weigh, sides-weigh, side_found, empty-halted}
use Rattle.orc_ledger_spec.proofs.Binding.{journal_more}
use Rattle.orc_frames.proofs.Growth.{or_false, both_false}
use Rattle.orc_ledger_spec.proofs.Sound.{none-tries, entered_less}
use Rattle.orc_ledger_spec.proofs.Leaves.{later_one}

-- 1 for what stands inside the left side of otherwise n
abbrev pub row_in : ℕ → Row → ℕ
row_in n (stands s t p) = cond (within n p) 1 0
row_in n (pends k p) = cond (within n p) 1 0

abbrev pub side_in : ℕ → Numbered → ℕ
side_in n (right_of d p) = cond (within n p) 1 0
side_in n (left_of m g p) = cond (within n p) 1 0

deeper : (n m : ℕ) (p : Path) → within n p ≡ true → within n (trying m p) ≡ true
deeper n m p inn = go (nat_eq n m)
  where
    go : (b : Bool) → cond b true (within n p) ≡ true
    go true = refl
    go false = inn

pub rows-in : (n : ℕ) (p : Path) (m : Marked) → within n p ≡ true → weight (row_in n) (marks p m) ≡ weight (λ r. 1) (marks p m)
rows-in n p ended inn = refl
rows-in n p (token s t) inn = ap {B = ℕ} (λ b. cond b 1 0 + 0) inn
rows-in n p (in_call k) inn = ap {B = ℕ} (λ b. cond b 1 0 + 0) inn
rows-in n p (in_par f g) inn = omega (arith, weight-append (row_in n) (marks p f) (marks p g), weight-append (λ r. 1) (marks p f) (marks p g), rows-in n p f inn, rows-in n p g inn)
rows-in n p (in_seq f x g) inn = rows-in n (feeding x g p) f inn
rows-in n p (in_opened f d g) inn = omega (arith, weight-append (row_in n) (marks p f) (marks (aiding d p) g), weight-append (λ r. 1) (marks p f) (marks (aiding d p) g), rows-in n p f inn, rows-in n (aiding d p) g inn)
rows-in n p (in_other m f g) inn = rows-in n (trying m p) f (deeper n m p inn)

pub sides-in : (n : ℕ) (p : Path) (m : Marked) → within n p ≡ true → weight (side_in n) (sides p m) ≡ weight (λ r. 1) (sides p m)
sides-in n p ended inn = refl
sides-in n p (token s t) inn = refl
sides-in n p (in_call k) inn = refl
sides-in n p (in_par f g) inn = omega (arith, weight-append (side_in n) (sides p f) (sides p g), weight-append (λ r. 1) (sides p f) (sides p g), sides-in n p f inn, sides-in n p g inn)
sides-in n p (in_seq f x g) inn = sides-in n (feeding x g p) f inn
sides-in n p (in_opened f d g) inn = omega (arith, ap {B = ℕ} (λ b. cond b 1 0) inn, weight-append (side_in n) (sides p f) (sides (aiding d p) g), weight-append (λ r. 1) (sides p f) (sides (aiding d p) g), sides-in n p f inn, sides-in n (aiding d p) g inn)
sides-in n p (in_other m f g) inn = omega (arith, ap {B = ℕ} (λ b. cond b 1 0) inn, sides-in n (trying m p) f (deeper n m p inn))

cond_false : (a b : Bool) → cond a true b ≡ false → (a ≡ false) × (b ≡ false)
cond_false true b h = cc h
cond_false false b h = (refl, h)

-- what is passed over brings nothing inside
outside-seen : (n : ℕ) (left : ℕ → Bool) (p : Path) → within n p ≡ false → within n (seen left p) ≡ false
outside-seen n left whole h = refl
outside-seen n left (feeding x g p) h = outside-seen n left p h
outside-seen n left (aiding c p) h = outside-seen n left p h
outside-seen n left (trying m p) h = go (left m) (cond_false (nat_eq n m) (within n p) h) (outside-seen n left p (cond_false (nat_eq n m) (within n p) h).1)
  where
    go : (b : Bool) → (nat_eq n m ≡ false) × (within n p ≡ false) → within n (seen left p) ≡ false → within n (cond b (seen left p) (trying m (seen left p))) ≡ false
    go true e ih = ih
    go false e ih = ap (λ b. cond b true (within n (seen left p))) e.0 ∙ ih

no-weight : {X : Type 0} (w : X → ℕ) (xs : List X) → weight (λ x. 1) xs ≡ 0 → weight w xs ≡ 0
no-weight w [] h = refl
no-weight w (x ∷ xs) h = absurd (omega (arith, h))

module _ (l : Listing) (sites : List Site) (s : Records) (L : Lawful l sites s) where
  -- nothing inside the left side of otherwise n
  pub record IsEmpty (n : ℕ) : Type 0 where
    pub tokens : None (λ (t : Token). within n (raw_path (code l) s t.step)) s.tokens
    pub calls : None (λ (k : Call). within n (raw_path (code l) s k.step)) s.calls
    pub groups : None (λ (g : Group). within n (raw_path (code l) s g.outer)) s.groups

  its-outside : (n i : ℕ) → within n (raw_path (code l) s i) ≡ false → within n (its_path (code l) s i) ≡ false
  its-outside n i h = outside-seen n (has_published s.steps) (raw_path (code l) s i) h

  pub no-rows : (n : ℕ) → IsEmpty n → weight (row_in n) (marks whole L.place.marked) ≡ 0
  no-rows n E =
      omega (
        arith,
        rows-weigh l sites s L (row_in n),
        none-alike (λ (t : Token). within n (raw_path (code l) s t.step)) (λ t. row_in n (token_row (code l) s t)) (λ t. 0) s.tokens E.tokens (λ t h. ap {B = ℕ} (λ b. cond b 1 0) (its-outside n t.step h)),
        none-alike (λ (t : Call). within n (raw_path (code l) s t.step)) (λ t. row_in n (call_row (code l) s t)) (λ t. 0) s.calls E.calls (λ t h. ap {B = ℕ} (λ b. cond b 1 0) (its-outside n t.step h)),
        weight-none (λ (t : Token). 0) s.tokens (λ t. refl),
        weight-none (λ (t : Call). 0) s.calls (λ t. refl),
      )

  zeros : (b : Bool) → cond {A = ℕ} b 0 0 ≡ 0
  zeros true = refl
  zeros false = refl

  side-out : (n i : ℕ) (b : Bool) (k : Side) → within n (raw_path (code l) s i) ≡ false → cond b (side_in n (side_at (code l) s (its_path (code l) s i) k)) 0 ≡ 0
  side-out n i b (Right d) h = ap {B = ℕ} (λ z. cond b (cond z 1 0) 0) (its-outside n i h) ∙ zeros b
  side-out n i b (Left m g scope) h = ap {B = ℕ} (λ z. cond b (cond z 1 0) 0) (its-outside n i h) ∙ zeros b

  pub no-sides : (n : ℕ) → IsEmpty n → weight (side_in n) (sides whole L.place.marked) ≡ 0
  no-sides n E =
      sides-weigh l sites s L (side_in n)
      ∙ none-alike (λ (g : Group). within n (raw_path (code l) s g.outer)) (only (λ g. not (is_over (code l) s g.side)) (λ g. side_in n (group_side (code l) s g))) (λ g. 0) s.groups E.groups (λ g h. side-out n g.outer (not (is_over (code l) s g.side)) g.side h)
      ∙ weight-none (λ (g : Group). 0) s.groups (λ g. refl)

  -- where the tables stay, what they spell stays
  module _ (s' : Records) (g : Group) (n node scope : ℕ) (T : Resumes s s' g n node scope) where
    env_same : (j : ℕ) → its_env (code l) s' j ≡ its_env (code l) s j
    env_same j = λ i. env_of (T.cells i) (T.scopes i) j

    path_same : (j : ℕ) → its_path (code l) s' j ≡ its_path (code l) s j
    path_same j = λ i. seen (has_published (T.steps i)) (path (code l) (env_of (T.cells i) (T.scopes i)) (T.steps i) j)

    row_same : (u : Token) → token_row (code l) s' u ≡ token_row (code l) s u
    row_same u = λ i. stands u.serial (standing (code l) (env_of (T.cells i) (T.scopes i)) u.standing) (path_same u.step i)

    abbrev copy : Token
    copy = record { serial = s.next_mark; standing = At node scope; step = g.outer }

    rows_resumed : (w : Row → ℕ) → weight w (rows_of (code l) s') ≡ weight w (rows_of (code l) s) + w (token_row (code l) s copy)
    rows_resumed w =
        omega (
          arith,
          weight-append w (map (token_row (code l) s') s'.tokens) (map (call_row (code l) s') s'.calls),
          weight-append w (map (token_row (code l) s) s.tokens) (map (call_row (code l) s) s.calls),
          weight-map w (token_row (code l) s') s'.tokens,
          weight-map w (token_row (code l) s) s.tokens,
          weight-map w (call_row (code l) s') s'.calls,
          weight-map w (call_row (code l) s) s.calls,
          ap (weight (λ c. w (call_row (code l) s' c))) T.calls,
          weight-same (λ c. w (call_row (code l) s' c)) (λ c. w (call_row (code l) s c)) s.calls (λ c. ap (λ p. w (pends c.number p)) (path_same c.step)),
          T.tokens (λ u. w (token_row (code l) s' u)),
          weight-same (λ u. w (token_row (code l) s' u)) (λ u. w (token_row (code l) s u)) s.tokens (λ u. ap w (row_same u)),
          ap w (row_same copy),
        )

    over_same : (k : Side) → is_over (code l) s' k ≡ is_over (code l) s k
    over_same (Right d) = refl
    over_same (Left m f sc) = ap (λ z. has_published z m) T.steps

    side_same : (v : Numbered → ℕ) (j : ℕ) (k : Side) → v (side_at (code l) s' (its_path (code l) s' j) k) ≡ v (side_at (code l) s (its_path (code l) s j) k)
    side_same v j (Right d) = ap (λ p. v (right_of d p)) (path_same j)
    side_same v j (Left m f sc) = λ i. v (left_of m (close (env_same sc i) (code l f)) (path_same j i))

    sides_resumed : (v : Numbered → ℕ) → weight v (sides_of (code l) s') + only (λ h. not (is_over (code l) s h.side)) (λ h. v (group_side (code l) s h)) g ≡ weight v (sides_of (code l) s)
    sides_resumed v =
        omega (
          arith,
          weight-filter v (group_side (code l) s') (λ h. not (is_over (code l) s' h.side)) s'.groups,
          weight-filter v (group_side (code l) s) (λ h. not (is_over (code l) s h.side)) s.groups,
          weight-same (only (λ h. not (is_over (code l) s' h.side)) (λ h. v (group_side (code l) s' h))) (only (λ h. not (is_over (code l) s h.side)) (λ h. v (group_side (code l) s h))) s'.groups (λ h i. cond (not (over_same h.side i)) (side_same v h.outer h.side i) 0),
          T.groups (only (λ h. not (is_over (code l) s h.side)) (λ h. v (group_side (code l) s h))),
        )

  pub right-lawful : (g : Group) → IsIn g s.groups → (n node scope : ℕ) → g.side ≡ Left n node scope → has_published s.steps n ≡ false → IsEmpty n → s.entries < s.limit → (s' : Records) → Resumes s s' g n node scope → Lawful l sites s'
  right-lawful g i n node scope side live E room s' T =
      let x = context l sites in
      let G = close (its_env (code l) s scope) (code l node) in
      let p = its_path (code l) s g.outer in
      let over : is_over (code l) s g.side ≡ false = ap (is_over (code l) s) side ∙ live in
      let o = subst (λ k. Opened (side_at (code l) s p k) L.place.marked) side (side_found l sites s L g i over) in
      let k = o.around in
      let was : plug k (in_other n o.left G) ≡ L.place.marked = o.is in
      let at : path_of k ≡ p = o.path in
      let in_side : within n (trying n (path_of k)) ≡ true = ap (λ b. cond b true (within n (path_of k))) (eq-eqb n n refl) in
      let none_rows : weight (λ r. 1) (marks (trying n (path_of k)) o.left) ≡ 0 = omega (arith, no-rows n E, ap (λ m. weight (row_in n) (marks whole m)) was, marks-plug (row_in n) k (in_other n o.left G), rows-in n (trying n (path_of k)) o.left in_side) in
      let none_sides : weight (λ r. 1) (sides (trying n (path_of k)) o.left) ≡ 0 = omega (arith, no-sides n E, ap (λ m. weight (side_in n) (sides whole m)) was, sides-plug (side_in n) k (in_other n o.left G), sides-in n (trying n (path_of k)) o.left in_side) in
      let halted : Halted (erase o.left) = empty-halted (trying n (path_of k)) o.left none_rows none_sides in
      let new = token s.next_mark G in
      let q : Place = record L.place { marked = plug k new; mark = suc s.next_mark } in
      let part = subst (λ m. Replaces (in_other n o.left G) new m (cells_of k []) (plug k new)) was (replaced k here) in
      let enters : Enters x L.place (entry.Right n s.next_mark) q = (o.left, G, cells_of k [], sym L.spells.mark, halted, part, record { to_cancel = L.spells.none_due; same = refl }) in
      let range = or_false (side_out (length s.scopes) g.side) (nat_lt (length s.steps) g.outer) (none-in (group_out (length s.scopes) (length s.steps)) s.groups g L.sound.groups i) in
      let out : token_out (length s.scopes) (length s.steps) (copy s' g n node scope T) ≡ false = both_false (nat_lt (length s.scopes) scope) (nat_lt (length s.steps) g.outer) (ap (side_out (length s.scopes)) (sym side) ∙ range.0) range.1 in
      let gone : (v : Numbered → ℕ) → only (λ h. not (is_over (code l) s h.side)) (λ h. v (group_side (code l) s h)) g ≡ v (left_of n G p) = λ v. ap (λ b. cond (not b) (v (group_side (code l) s g)) 0) over ∙ ap (λ k. v (side_at (code l) s p k)) side in
      record {
        place = q;
        leads = subst (λ es. Journal x (begin (source l)) es q) (sym T.journal) (journal_more x (begin (source l)) L.place q s.journal (entry.Right n s.next_mark ∷ []) L.leads (q, (inr L.spells.none_due, enters), refl));
        spells = record {
          rows = λ w. omega (arith, marks-plug w k new, marks-plug w k (in_other n o.left G), no-weight w (marks (trying n (path_of k)) o.left) none_rows, ap (λ m. weight w (marks whole m)) was, L.spells.rows w, rows_resumed s' g n node scope T w, ap (λ z. w (stands s.next_mark G z)) at);
          sides = λ v. omega (arith, sides-plug v k new, sides-plug v k (in_other n o.left G), no-weight v (sides (trying n (path_of k)) o.left) none_sides, ap (λ m. weight v (sides whole m)) was, L.spells.sides v, sides_resumed s' g n node scope T v, gone v, ap (λ z. v (left_of n G z)) at);
          mark = omega (arith, T.mark);
          cells = ap length T.cells ∙ L.spells.cells;
          now = L.spells.now ∙ sym T.now;
          made = L.spells.made ∙ sym T.made;
          none_due = L.spells.none_due;
        };
        sound = record {
          tokens = rw (T.scopes, T.steps) (omega (arith, T.tokens (only (token_out (length s.scopes) (length s.steps)) (λ t. 1)), L.sound.tokens, ap {B = ℕ} (λ b. cond b 1 0) out));
          calls = rw (T.calls, T.steps) L.sound.calls;
          groups = rw (T.scopes, T.steps) (omega (arith, T.groups (only (group_out (length s.scopes) (length s.steps)) (λ t. 1)), L.sound.groups));
          steps = rw (T.scopes, T.steps) (none-weaker (step_out (length s.scopes) s.next_mark) (step_out (length s.scopes) s'.next_mark) s.steps L.sound.steps (λ z h. entered_less (length s.scopes) (length s.scopes) s.next_mark s'.next_mark (omega arith) (omega (arith, T.mark)) z.entered h));
          outwards = rw T.steps L.sound.outwards;
          scopes = rw T.scopes L.sound.scopes;
          own = rw T.cells L.sound.own;
          cells = rw T.cells (omega (arith, T.groups (only (λ h. is_settled s.cells h.side) (λ h. 1)), L.sound.cells));
          apart = λ m h.
              rw T.steps
              (⊎_elim (λ (old : 1 ≤ weight (has_serial m) s.tokens). L.sound.apart m old)
              (λ (mine : 1 ≤ has_serial m (copy s' g n node scope T)). none-tries (length s.scopes) s.next_mark m s.steps (later_one m s.next_mark (omega (arith, mine))) L.sound.steps)
              (either_one (weight (has_serial m) s.tokens) (has_serial m (copy s' g n node scope T)) (omega (arith, h, T.tokens (has_serial m)))));
          once = rw T.steps L.sound.once;
        };
        entries = omega (arith, L.entries, T.entries, ap (weight counts) T.journal, weight-append counts s.journal (entry.Right n s.next_mark ∷ []));
        within = omega (arith, T.entries, T.limit, room);
        small = omega (arith, T.limit, L.small);
        counted = omega (arith, L.counted, T.mark, T.entries);
        written = written-kept s s' (entry.Right n s.next_mark ∷ []) T.journal (λ w. omega (arith, ap (weight w) T.calls)) L.written;
      }
