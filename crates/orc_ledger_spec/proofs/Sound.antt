-- What comes is in range, too.
use Rattle.std.proofs.Common.{◌≡◌, ◌≤◌, ◌<◌, ℕ, zero, suc, ◌+◌, List, [], ◌∷◌, ◌++◌, refl, sym, ap, ◌∙◌, arith, length, Bool, true, false, cond, nat_eq, not, Some, ⊎_elim, inl, inr, ◌⊎◌}
use Rattle.std.specs.Prelude.{nat_lt, slice_get}
use Rattle.std.proofs.lemmas.Bool.{eqb-true, ltb-true, ltb-false}
use Rattle.orc_rules.specs.declared.entry.Entry.{Entry}
use Rattle.orc_rules.specs.Nodes.{Listing, code}
use Rattle.orc_rules.specs.Sites.{Site}
use Rattle.orc_rules.specs.Timed.{IsIn}
use Rattle.orc_rules.specs.Numbered.{mark, times}
use Rattle.orc_rules.proofs.Numbered.{once_same}
use Rattle.orc_env.specs.declared.names.Bound.{Bound}
use Rattle.orc_env.specs.declared.names.Bound.TheVariants.{Cell}
use Rattle.orc_env.specs.declared.names.Scope.{Scope}
use Rattle.orc_env.specs.Scopes.{current}
use Rattle.orc_indexes.specs.Same.{weight, only, None}
use Rattle.orc_frames.specs.Spelling.{whole}
use Rattle.orc_ledger_spec.specs.Records.{Records, Sound, Lawful, token_row, token_out, group_out, is_settled, has_serial}
use Rattle.orc_frames.specs.Paths.{has_published, step_out, entered_out, tries, enters_left_of}
use Rattle.orc_ledger_spec.specs.Calls.{Turns}
use Rattle.orc_tables.specs.declared.records.Frame.{Frame}
use Rattle.orc_tables.specs.declared.records.Frame.TheVariants.{SeqLeft, PruneRight, OtherwiseLeft}
use Rattle.orc_tables.specs.declared.records.Token.{Token}
use Rattle.orc_tables.specs.declared.records.Step.{Step}
use Rattle.orc_tables.specs.declared.records.Group.{Group}
use Rattle.orc_indexes.proofs.Weight.{weight-append, weight-in, weight-none, weight-same, none-alike, none-weaker, either_one}
use Rattle.orc_ledger_spec.proofs.Lists.{numbered, rows-weigh}
use Rattle.orc_frames.proofs.Finding.{times-marks, is_mark}
use Rattle.orc_ledger_spec.proofs.Turning.{lt_less, more_scopes, tokens_in, calls_in, groups_in}

-- an element of a longer list
pub get_more : {X : Type 0} (xs ys : List X) (k : ℕ) (y : X) → slice_get (xs ++ ys) k ≡ Some y → (slice_get xs k ≡ Some y) ⊎ ((j : ℕ) × (k ≡ length xs + j) × (slice_get ys j ≡ Some y))
get_more [] ys k y h = inr (k, omega arith, h)
get_more (x ∷ xs) ys zero y h = inl h
get_more (x ∷ xs) ys (suc k) y h = ⊎_elim (λ a. inl a) (λ b. inr (b.0, omega (arith, b.1), b.2)) (get_more xs ys k y h)

pub get_kept : {X : Type 0} (xs ys : List X) (k : ℕ) (x : X) → slice_get xs k ≡ Some x → slice_get (xs ++ ys) k ≡ Some x
get_kept [] ys k x h = cc h
get_kept (z ∷ xs) ys zero x h = h
get_kept (z ∷ xs) ys (suc k) x h = get_kept xs ys k x h

pub get_end : {X : Type 0} (xs : List X) (y : X) → slice_get (xs ++ y ∷ []) (length xs) ≡ Some y
get_end [] y = refl
get_end (x ∷ xs) y = get_end xs y

pub entered_less : (n n' next next' : ℕ) → n ≤ n' → next ≤ next' → (e : Frame) → entered_out n next e ≡ false → entered_out n' next' e ≡ false
entered_less n n' next next' le le' (SeqLeft x g scope) h = lt_less scope n n' le h
entered_less n n' next next' le le' (PruneRight c) h = refl
entered_less n n' next next' le le' (OtherwiseLeft m) h = go (nat_lt m next) refl h
  where
    more : (b : Bool) → nat_lt m next' ≡ b → m < next → not b ≡ false
    more true e lt = refl
    more false e lt = absurd (omega (arith, ltb-false m next' e, lt, le'))

    go : (b : Bool) → nat_lt m next ≡ b → not b ≡ false → not (nat_lt m next') ≡ false
    go true e h = more (nat_lt m next') refl (ltb-true m next e)
    go false e h = cc h

-- a number that comes later is no step's
pub none-tries : (n next m : ℕ) (ss : List Step) → next ≤ m → None (step_out n next) ss → weight (tries m) ss ≡ 0
none-tries n next m ss le h = none-alike (step_out n next) (tries m) (λ p. 0) ss h (λ p k. by_entered p.entered k) ∙ weight-none (λ p. 0) ss (λ p. refl)
  where
    off : (j : ℕ) → not (nat_lt j next) ≡ false → (b : Bool) → nat_eq m j ≡ b → cond {A = ℕ} b 1 0 ≡ 0
    off j k true e = absurd (lower (nat_lt j next) refl k)
      where
        lower : (b : Bool) → nat_lt j next ≡ b → not b ≡ false → ⊥
        lower true f k = omega (arith, ltb-true j next f, eqb-true m j e, le)
        lower false f k = cc k
    off j k false e = refl

    by_entered : (e : Frame) → entered_out n next e ≡ false → cond {A = ℕ} (enters_left_of m e) 1 0 ≡ 0
    by_entered (SeqLeft x g scope) k = refl
    by_entered (PruneRight c) k = refl
    by_entered (OtherwiseLeft j) k = off j k (nat_eq m j) refl

module _ (l : Listing) (sites : List Site) (s : Records) (L : Lawful l sites s) where
  -- a serial is one token's
  pub single : (m : ℕ) → weight (has_serial m) s.tokens ≤ 1
  single m =
      omega (
        arith,
        (numbered l sites s L).single (mark m),
        times-marks m whole L.place.marked,
        rows-weigh l sites s L (is_mark m),
        weight-same (λ u. is_mark m (token_row (code l) s u)) (has_serial m) s.tokens (λ u. refl),
      )

  -- and was given out
  pub given : (t : Token) → IsIn t s.tokens → t.serial < s.next_mark
  given t i =
      let one : has_serial t.serial t ≡ 1 = once_same (mark t.serial) (mark t.serial) refl in
      let some : 1 ≤ times (mark t.serial) L.place.marked = omega (
        arith,
        times-marks t.serial whole L.place.marked,
        rows-weigh l sites s L (is_mark t.serial),
        weight-same (λ u. is_mark t.serial (token_row (code l) s u)) (has_serial t.serial) s.tokens (λ u. refl),
        weight-in (has_serial t.serial) s.tokens t i,
        one,
      ) in
      omega (arith, (numbered l sites s L).given (mark t.serial) (omega (arith, some)), L.spells.mark)

module _ (l : Listing) (sites : List Site) (s : Records) (L : Lawful l sites s) (t : Token) (i : IsIn t s.tokens) (s' : Records) (births : List Token) (ss : List Scope) (ps : List Step) (gs : List Group) (cs : List Bound) (e : Entry) (T : Turns s s' t births ss ps gs cs e) (fresh : (n : ℕ) → has_published ps n ≡ false) (plain : (b : Bound) → current s'.cells b ≡ current s.cells b) where
  apart_turned : ((m : ℕ) → 1 ≤ weight (has_serial m) births → s.next_mark ≤ m) → ((m : ℕ) → weight (tries m) ps ≤ has_serial m t) → (m : ℕ) → 1 ≤ weight (has_serial m) s'.tokens → weight (tries m) s'.steps ≡ 0
  apart_turned later own m h =
      let all : weight (tries m) s'.steps ≡ weight (tries m) s.steps + weight (tries m) ps = ap (weight (tries m)) T.steps ∙ weight-append (tries m) s.steps ps in
      ⊎_elim
      (λ (old : 1 ≤ weight (has_serial m) s.tokens). go (weight (has_serial m) births) refl old all)
      (λ (new : 1 ≤ weight (has_serial m) births).
      let le = later m new in
      let none : has_serial m t ≡ 0 = other (nat_eq m t.serial) refl le in
      omega (arith, all, none-tries (length s.scopes) s.next_mark m s.steps le L.sound.steps, own m, none))
      (either_one (weight (has_serial m) s.tokens) (weight (has_serial m) births) (omega (arith, h, T.tokens (has_serial m))))
    where
      other : (b : Bool) → nat_eq m t.serial ≡ b → s.next_mark ≤ m → cond {A = ℕ} b 1 0 ≡ 0
      other true f le = absurd (omega (arith, eqb-true m t.serial f, le, given l sites s L t i))
      other false f le = refl

      go : (n : ℕ) → weight (has_serial m) births ≡ n → 1 ≤ weight (has_serial m) s.tokens → weight (tries m) s'.steps ≡ weight (tries m) s.steps + weight (tries m) ps → weight (tries m) s'.steps ≡ 0
      go zero f old all = omega (arith, all, L.sound.apart m old, own m, T.tokens (has_serial m), f, h, single l sites s L m)
      go (suc n) f old all =
          let le = later m (omega (arith, f)) in
          omega (arith, all, L.sound.apart m old, own m, other (nat_eq m t.serial) refl le)

  once_turned : ((m : ℕ) → weight (tries m) ps ≤ has_serial m t) → (m : ℕ) → weight (tries m) s'.steps ≤ 1
  once_turned own m = go (nat_eq m t.serial) refl (ap (weight (tries m)) T.steps ∙ weight-append (tries m) s.steps ps)
    where
      go : (b : Bool) → nat_eq m t.serial ≡ b → weight (tries m) s'.steps ≡ weight (tries m) s.steps + weight (tries m) ps → weight (tries m) s'.steps ≤ 1
      go true f all =
          let mine : has_serial m t ≡ 1 = ap (λ b. cond {A = ℕ} b 1 0) f in
          omega (arith, all, own m, mine, L.sound.apart m (omega (arith, weight-in (has_serial m) s.tokens t i, mine)))
      go false f all =
          let other : has_serial m t ≡ 0 = ap (λ b. cond {A = ℕ} b 1 0) f in
          omega (arith, all, own m, other, L.sound.once m)

  pub sound_turned :
      None (token_out (length s'.scopes) (length s'.steps)) births
      → None (group_out (length s'.scopes) (length s'.steps)) gs
      → None (step_out (length s'.scopes) s'.next_mark) ps
      → ((k : ℕ) (p : Step) → slice_get ps k ≡ Some p → p.outer ≤ length s.steps + k)
      → ((k : ℕ) (p : Scope) → slice_get ss k ≡ Some p → p.outer ≤ length s.scopes + k)
      → ((c d : ℕ) → slice_get s'.cells c ≡ Some (Cell d) → c ≡ d)
      → None (λ g. is_settled s'.cells g.side) s'.groups
      → ((m : ℕ) → 1 ≤ weight (has_serial m) births → s.next_mark ≤ m)
      → ((m : ℕ) → weight (tries m) ps ≤ has_serial m t)
      → Sound s'
  sound_turned births_in new_groups new_steps outer scope own cells later numbers =
      record {
        tokens = tokens_in l sites s L t i s' births ss ps gs cs e T fresh plain births_in;
        calls = calls_in l sites s L t i s' births ss ps gs cs e T fresh plain;
        groups = groups_in l sites s L t i s' births ss ps gs cs e T fresh plain new_groups;
        steps =
            ap (weight (only (step_out (length s'.scopes) s'.next_mark) (λ p. 1))) T.steps
            ∙ weight-append (only (step_out (length s'.scopes) s'.next_mark) (λ p. 1)) s.steps ps
            ∙ omega (arith, new_steps, none-weaker (step_out (length s.scopes) s.next_mark) (step_out (length s'.scopes) s'.next_mark) s.steps L.sound.steps (λ p h. entered_less (length s.scopes) (length s'.scopes) s.next_mark s'.next_mark (omega (arith, more_scopes l sites s L t i s' births ss ps gs cs e T fresh plain)) (omega (arith, T.mark)) p.entered h));
        outwards = λ k p h. ⊎_elim (λ a. L.sound.outwards k p a) (λ b. omega (arith, b.1, outer b.0 p b.2)) (get_more s.steps ps k p (ap (λ z. slice_get z k) (sym T.steps) ∙ h));
        scopes = λ k p h. ⊎_elim (λ a. L.sound.scopes k p a) (λ b. omega (arith, b.1, scope b.0 p b.2)) (get_more s.scopes ss k p (ap (λ z. slice_get z k) (sym T.scopes) ∙ h));
        own = own;
        cells = cells;
        apart = apart_turned later numbers;
        once = once_turned numbers;
      }
