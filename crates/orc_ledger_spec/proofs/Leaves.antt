-- The entries that work at one token keep the book lawful.
use Rattle.std.proofs.Common.{◌≡◌, ◌≤◌, ◌<◌, ℕ, zero, suc, ◌+◌, List, [], ◌∷◌, ◌++◌, refl, sym, ap, ◌∙◌, subst, arith, append-nil, length, length-append, get_or, Bool, true, false, cond, nat_eq, eq-eqb, not, Option, Some, None as Nothing, inr, ⊎_elim}
use Rattle.std.specs.Prelude.{nat_lt, slice_get}
use Rattle.std.proofs.lemmas.Bool.{ltb-false, le-ltb, lt-ltb, eqb-true}
use Rattle.orc_rules.specs.declared.entry.Entry.{Entry}
use Rattle.orc_rules.specs.declared.entry.Entry.TheVariants.{End, Fork, Seq, Other, Open}
use Rattle.orc_rules.specs.declared.param.Param.TheVariants as is
use Rattle.orc_rules.specs.Term.{Term, stop, par, seq, prune, other, put}
use Rattle.orc_rules.specs.Nodes.{Listing, code}
use Rattle.orc_rules.specs.Sites.{Site}
use Rattle.orc_rules.specs.Marked.{Marked, ended, token, in_par, in_seq, in_opened, in_other, Replaces, here}
use Rattle.orc_rules.specs.Timed.{IsIn}
use Rattle.orc_rules.specs.Journal.{Place, Leads}
use Rattle.orc_rules.specs.Numbered.{mark}
use Rattle.orc_rules.proofs.Numbered.{once_same}
use Rattle.orc_env.specs.declared.names.Bound.{Bound}
use Rattle.orc_env.specs.declared.names.Bound.TheVariants.{Cell, Is, Void}
use Rattle.orc_env.specs.declared.names.Scope.{Scope}
use Rattle.orc_env.specs.Scopes.{Env, close, without, current, env_of}
use Rattle.orc_env.proofs.Scopes.{env-new}
use Rattle.orc_env.proofs.Closing.{close-stop, close-par, close-seq, close-prune, close-other, close-more}
use Rattle.orc_indexes.specs.Same.{weight, only, None}
use Rattle.orc_frames.specs.Spelling.{feeding, aiding, trying, stands, right_of, left_of}
use Rattle.orc_ledger_spec.specs.Records.{Records, Lawful, context, its_env, its_path, token_row, group_side, token_out, group_out, is_own, is_settled, has_serial}
use Rattle.orc_frames.specs.Paths.{has_published, standing, is_out, step_out}
use Rattle.orc_tables.specs.Steps.{group_at, depth_at}
use Rattle.orc_ledger_spec.specs.Calls.{Turns, born, IsEnded, IsForked, IsFed, IsTried, IsOpened}
use Rattle.orc_tables.specs.declared.records.Standing.TheVariants.{At}
use Rattle.orc_tables.specs.declared.records.Frame.TheVariants.{SeqLeft, PruneRight, OtherwiseLeft}
use Rattle.orc_tables.specs.declared.records.Token.{Token}
use Rattle.orc_tables.specs.declared.records.Step.{Step}
use Rattle.orc_tables.specs.declared.records.Side.{Side}
use Rattle.orc_ledger_spec.proofs.Cells.{own_cell}
use Rattle.orc_tables.specs.declared.records.Side.TheVariants.{Right, Left}
use Rattle.orc_tables.specs.declared.records.Group.{Group}
use Rattle.orc_indexes.proofs.Weight.{weight-in, none-in, none-weaker, either_one}
use Rattle.orc_frames.proofs.Around.{plug, cells_of, replaced}
use Rattle.orc_ledger_spec.proofs.Lists.{token_found}
use Rattle.orc_frames.proofs.Growth.{or_false, both_false, none-left}
use Rattle.orc_ledger_spec.proofs.Turning.{turned, env_same, cells_env, new_path, path_same, left_same, more_scopes, more_steps}
use Rattle.orc_ledger_spec.proofs.Sound.{sound_turned, get_more, get_kept, get_end, given}

pub out_of : (n a : ℕ) → a ≤ n → nat_lt n a ≡ false
out_of n a h = le-ltb n a h

pub none_one : {X : Type 0} (bad : X → Bool) (x : X) → bad x ≡ false → None bad (x ∷ [])
none_one bad x h = omega (arith, ap {B = ℕ} (λ b. cond b 1 0) h)

pub none_two : {X : Type 0} (bad : X → Bool) (x y : X) → bad x ≡ false → bad y ≡ false → None bad (x ∷ y ∷ [])
none_two bad x y h k = omega (arith, ap {B = ℕ} (λ b. cond b 1 0) h, ap {B = ℕ} (λ b. cond b 1 0) k)

same_number : (m n : ℕ) → 1 ≤ cond {A = ℕ} (nat_eq m n) 1 0 → m ≡ n
same_number m n h = go (nat_eq m n) refl h
  where
    go : (b : Bool) → nat_eq m n ≡ b → 1 ≤ cond {A = ℕ} b 1 0 → m ≡ n
    go true e h = eqb-true m n e
    go false e h = absurd (omega (arith, h))

pub later_one : (m n : ℕ) → 1 ≤ cond {A = ℕ} (nat_eq m n) 1 0 + 0 → n ≤ m
later_one m n h = omega (arith, same_number m n (omega (arith, h)))

pub later_two : (m n : ℕ) → 1 ≤ cond {A = ℕ} (nat_eq m n) 1 0 + (cond {A = ℕ} (nat_eq m (n + 1)) 1 0 + 0) → n ≤ m
later_two m n h =
    ⊎_elim (λ a. omega (arith, same_number m n a)) (λ b. omega (arith, same_number m (n + 1) (omega (arith, b))))
    (either_one (cond {A = ℕ} (nat_eq m n) 1 0) (cond {A = ℕ} (nat_eq m (n + 1)) 1 0 + 0) h)

pub got_one : {X : Type 0} (k : ℕ) (x y : X) → slice_get (x ∷ []) k ≡ Some y → (k ≡ 0) × (x ≡ y)
got_one zero x y h = (refl, ap (λ o. value_or x o) h)
  where
    value_or : {X : Type 0} → X → Option X → X
    value_or d (Some z) = z
    value_or d Nothing = d
got_one (suc k) x y h = cc h

pub current-push : (cells : List Bound) (b : Bound) → current (cells ++ Cell (length cells) ∷ []) b ≡ current cells b
current-push cells (Is v) = refl
current-push cells (Cell d) = more cells d Cell
  where
    more : {X : Type 0} (xs : List X) (d : ℕ) (f : ℕ → X) → get_or (xs ++ f (length xs) ∷ []) d (f d) ≡ get_or xs d (f d)
    more [] zero f = refl
    more [] (suc d) f = refl
    more (x ∷ xs) zero f = refl
    more (x ∷ xs) (suc d) f = more xs d (λ k. f (suc k))
current-push cells Void = refl

is_own_self : (cells : List Bound) (d : ℕ) → slice_get cells d ≡ Some (Cell d) → not (is_own d (slice_get cells d)) ≡ false
is_own_self cells d h = ap (λ o. not (is_own d o)) h ∙ ap not (eq-eqb d d refl)

-- the cell of an open side stays unbound where more cells come
pub still_own : (cells cells' cs : List Bound) → cells' ≡ cells ++ cs → (k : Side) → is_settled cells k ≡ false → is_settled cells' k ≡ false
still_own cells cells' cs is (Left n g sc) h = refl
still_own cells cells' cs is (Right d) h = is_own_self cells' d (ap (λ z. slice_get z d) is ∙ get_kept cells cs d (Cell d) (own_cell d (slice_get cells d) h))

module _ (l : Listing) (sites : List Site) (s : Records) (L : Lawful l sites s) (t : Token) (i : IsIn t s.tokens) (node scope : ℕ) (at : t.standing ≡ At node scope) where
  abbrev cd : ℕ → Term
  cd = code l

  abbrev e : Env
  e = its_env cd s scope

  in_range : (is_out (length s.scopes) t.standing ≡ false) × (nat_lt (length s.steps) t.step ≡ false)
  in_range = or_false (is_out (length s.scopes) t.standing) (nat_lt (length s.steps) t.step) (none-in_token)
    where
      none-in_token : token_out (length s.scopes) (length s.steps) t ≡ false
      none-in_token = none-in (token_out (length s.scopes) (length s.steps)) s.tokens t L.sound.tokens i

  pub scope_there : scope ≤ length s.scopes
  scope_there = ltb-false (length s.scopes) scope (ap (is_out (length s.scopes)) (sym at) ∙ in_range.0)

  step_there : t.step ≤ length s.steps
  step_there = ltb-false (length s.steps) t.step in_range.1

  -- the token's part of the marked term
  stands_on : (f : Term) → close e (cd node) ≡ f → plug (token_found l sites s L t i).around (token t.serial f) ≡ L.place.marked
  stands_on f form = ap (λ z. plug (token_found l sites s L t i).around (token t.serial z)) (sym form ∙ ap (standing cd (its_env cd s)) (sym at)) ∙ (token_found l sites s L t i).is

  pub becomes : (f : Term) (new : Marked) → close e (cd node) ≡ f → Replaces (token t.serial f) new L.place.marked (cells_of (token_found l sites s L t i).around []) (plug (token_found l sites s L t i).around new)
  becomes f new form = subst (λ m. Replaces (token t.serial f) new m (cells_of (token_found l sites s L t i).around []) (plug (token_found l sites s L t i).around new)) (stands_on f form) (replaced (token_found l sites s L t i).around here)

  settled_same : (s' : Records) → s'.cells ≡ s.cells → weight (only (λ (g : Group). is_settled s'.cells g.side) (λ g. 1)) s.groups + 0 ≡ 0
  settled_same s' same = omega (arith, ap (λ z. weight (only (λ (g : Group). is_settled z g.side) (λ g. 1)) s.groups) same, L.sound.cells)

  pub end-lawful : cd node ≡ stop → (s' : Records) → s.entries < s.limit → IsEnded s t s' → Lawful l sites s'
  end-lawful form s' room T =
      let f = token_found l sites s L t i in
      let plain : (b : Bound) → current s'.cells b ≡ current s.cells b = λ b. ap (λ z. current z b) (T.cells ∙ append-nil s.cells) in
      let q : Place = record L.place { marked = plug f.around ended; mark = L.place.mark } in
      let leads : Leads (context l sites) L.place (End t.serial) q = (inr L.spells.none_due, record { inside = cells_of f.around []; part = becomes stop ended (ap (close e) form ∙ close-stop e); same = refl }) in
      turned l sites s L t i s' [] [] [] [] [] (End t.serial) T (λ n. refl) plain q ended refl leads (λ w. refl) (λ v. refl)
      (omega (arith, L.spells.mark, T.mark)) (ap length (T.cells ∙ append-nil s.cells) ∙ L.spells.cells) (L.spells.now ∙ sym T.now) (L.spells.made ∙ sym T.made) L.spells.none_due (omega arith) refl room
      (sound_turned l sites s L t i s' [] [] [] [] [] (End t.serial) T (λ n. refl) plain refl refl refl (λ k p h. cc h) (λ k p h. cc h)
      (λ c d h. L.sound.own c d (ap (λ z. slice_get z c) (sym (T.cells ∙ append-nil s.cells)) ∙ h))
      (T.groups (only (λ g. is_settled s'.cells g.side) (λ g. 1)) ∙ settled_same s' (T.cells ∙ append-nil s.cells))
      (λ m h. absurd (omega (arith, h))) (λ m. omega arith))

  module _ (s' : Records) (births : List Token) (ss : List Scope) (ps : List Step) (gs : List Group) (cs : List Bound) (E : Entry) (T : Turns s s' t births ss ps gs cs E) (fresh : (n : ℕ) → has_published ps n ≡ false) (plain : (b : Bound) → current s'.cells b ≡ current s.cells b) where
    env_there : its_env cd s' scope ≡ e
    env_there = env_same l sites s L t i s' births ss ps gs cs E T fresh plain scope scope_there

    pub path_there : its_path cd s' t.step ≡ its_path cd s t.step
    path_there = path_same l sites s L t i s' births ss ps gs cs E T fresh plain t.step step_there

    birth : (n f : ℕ) → token_row cd s' (born s t n f scope t.step) ≡ stands n (close e (cd f)) (its_path cd s t.step)
    birth n f = λ j. stands n (close (env_there j) (cd f)) (path_there j)

    scope_in : nat_lt (length s'.scopes) scope ≡ false
    scope_in = out_of (length s'.scopes) scope (omega (arith, scope_there, more_scopes l sites s L t i s' births ss ps gs cs E T fresh plain))

    pub step_in : nat_lt (length s'.steps) t.step ≡ false
    step_in = out_of (length s'.steps) t.step (omega (arith, step_there, more_steps l sites s L t i s' births ss ps gs cs E T fresh plain))

  module _ (s' : Records) (births : List Token) (ss : List Scope) (ps : List Step) (gs : List Group) (E : Entry) (T : Turns s s' t births ss ps gs [] E) where
    pub plain_of : (b : Bound) → current s'.cells b ≡ current s.cells b
    plain_of b = ap (λ z. current z b) (T.cells ∙ append-nil s.cells)

    pub own_of : (c d : ℕ) → slice_get s'.cells c ≡ Some (Cell d) → c ≡ d
    own_of c d h = L.sound.own c d (ap (λ z. slice_get z c) (sym (T.cells ∙ append-nil s.cells)) ∙ h)

    pub cells_of_place : length s'.cells ≡ suc (length L.place.cells)
    cells_of_place = ap length (T.cells ∙ append-nil s.cells) ∙ L.spells.cells

    pub settled_of : None (λ (g : Group). is_settled s'.cells g.side) gs → None (λ (g : Group). is_settled s'.cells g.side) s'.groups
    settled_of h = omega (arith, T.groups (only (λ g. is_settled s'.cells g.side) (λ g. 1)), settled_same s' (T.cells ∙ append-nil s.cells), h)

  pub fork-lawful : (f g : ℕ) → cd node ≡ par (cd f) (cd g) → (s' : Records) → s.entries < s.limit → IsForked s t scope f g s' → Lawful l sites s'
  fork-lawful f g form s' room T =
      let A = close e (cd f) in
      let B = close e (cd g) in
      let n = s.next_mark in
      let births : List Token = born s t n f scope t.step ∷ born s t (n + 1) g scope t.step ∷ [] in
      let E = Fork t.serial n (n + 1) in
      let fo = token_found l sites s L t i in
      let new = in_par (token n A) (token (n + 1) B) in
      let plain = plain_of s' births [] [] [] E T in
      let q : Place = record L.place { marked = plug fo.around new; mark = suc (n + 1) } in
      let leads : Leads (context l sites) L.place E q = (inr L.spells.none_due, (A, B, sym L.spells.mark, omega arith, record { inside = cells_of fo.around []; part = becomes (par A B) new (ap (close e) form ∙ close-par e (cd f) (cd g)); same = refl })) in
      let out : (k m : ℕ) → token_out (length s'.scopes) (length s'.steps) (born s t k m scope t.step) ≡ false = λ k m. both_false (nat_lt (length s'.scopes) scope) (nat_lt (length s'.steps) t.step) (scope_in s' births [] [] [] [] E T (λ n. refl) plain) (step_in s' births [] [] [] [] E T (λ n. refl) plain) in
      turned l sites s L t i s' births [] [] [] [] E T (λ n. refl) plain q new refl leads
      (λ w. omega (arith, ap w (birth s' births [] [] [] [] E T (λ n. refl) plain n f), ap w (birth s' births [] [] [] [] E T (λ n. refl) plain (n + 1) g)))
      (λ v. refl) (omega (arith, T.mark)) (cells_of_place s' births [] [] [] E T) (L.spells.now ∙ sym T.now) (L.spells.made ∙ sym T.made) L.spells.none_due (omega arith) refl room
      (sound_turned l sites s L t i s' births [] [] [] [] E T (λ n. refl) plain
      (none_two (token_out (length s'.scopes) (length s'.steps)) (born s t n f scope t.step) (born s t (n + 1) g scope t.step) (out n f) (out (n + 1) g))
      refl refl (λ k p h. cc h) (λ k p h. cc h) (own_of s' births [] [] [] E T) (settled_of s' births [] [] [] E T refl) (λ m h. later_two m n h) (λ m. omega arith))

  pub feed-lawful : (f x g : ℕ) → cd node ≡ seq (cd f) x (cd g) → (s' : Records) → s.entries < s.limit → IsFed s t scope f x g s' → Lawful l sites s'
  feed-lawful f x g form s' room T =
      let A = close e (cd f) in
      let B = close (without x e) (cd g) in
      let n = s.next_mark in
      let last = length s.steps + 1 in
      let births : List Token = born s t n f scope last ∷ [] in
      let step : Step = record { entered = SeqLeft x g scope; outer = t.step; group = group_at s.steps t.step; depth = depth_at s.steps t.step + 1; published = false } in
      let ps : List Step = step ∷ [] in
      let E = Seq t.serial n in
      let fo = token_found l sites s L t i in
      let new = in_seq (token n A) x B in
      let plain = plain_of s' births [] ps [] E T in
      let q : Place = record L.place { marked = plug fo.around new; mark = suc n } in
      let leads : Leads (context l sites) L.place E q = (inr L.spells.none_due, (A, B, x, sym L.spells.mark, record { inside = cells_of fo.around []; part = becomes (seq A x B) new (ap (close e) form ∙ close-seq e (cd f) x (cd g)); same = refl })) in
      let env : its_env cd s' scope ≡ e = env_there s' births [] ps [] [] E T (λ n. refl) plain in
      let path : its_path cd s' last ≡ feeding x B (its_path cd s t.step) = new_path l sites s L t i s' births [] ps [] [] E T (λ n. refl) plain step refl ∙ ap (λ z. feeding x (close (without x z) (cd g)) (its_path cd s t.step)) env in
      let row : token_row cd s' (born s t n f scope last) ≡ stands n A (feeding x B (its_path cd s t.step)) = λ j. stands n (close (env j) (cd f)) (path j) in
      let out : token_out (length s'.scopes) (length s'.steps) (born s t n f scope last) ≡ false = both_false (nat_lt (length s'.scopes) scope) (nat_lt (length s'.steps) last) (scope_in s' births [] ps [] [] E T (λ n. refl) plain) (out_of (length s'.steps) last (omega (arith, more_steps l sites s L t i s' births [] ps [] [] E T (λ n. refl) plain))) in
      turned l sites s L t i s' births [] ps [] [] E T (λ n. refl) plain q new refl leads
      (λ w. omega (arith, ap w row))
      (λ v. refl) (omega (arith, T.mark)) (cells_of_place s' births [] ps [] E T) (L.spells.now ∙ sym T.now) (L.spells.made ∙ sym T.made) L.spells.none_due (omega arith) refl room
      (sound_turned l sites s L t i s' births [] ps [] [] E T (λ n. refl) plain
      (none_one (token_out (length s'.scopes) (length s'.steps)) (born s t n f scope last) out)
      refl (none_one (step_out (length s'.scopes) s'.next_mark) step (scope_in s' births [] ps [] [] E T (λ n. refl) plain)) (λ k p h. let o = got_one k step p h in omega (arith, step_there, ap (λ (z : Step). z.outer) o.1)) (λ k p h. cc h) (own_of s' births [] ps [] E T) (settled_of s' births [] ps [] E T refl) (λ m h. later_one m n h) (λ m. omega arith))

  pub try-lawful : (f g number : ℕ) → cd node ≡ other (cd f) (cd g) → (s' : Records) → s.entries < s.limit → IsTried s t scope f g number s' → Lawful l sites s'
  try-lawful f g number form s' room T =
      let A = close e (cd f) in
      let B = close e (cd g) in
      let n = s.next_mark in
      let last = length s.steps + 1 in
      let births : List Token = born s t n f scope last ∷ [] in
      let step : Step = record { entered = OtherwiseLeft t.serial; outer = t.step; group = number; depth = depth_at s.steps t.step; published = false } in
      let ps : List Step = step ∷ [] in
      let group : Group = record { side = Left t.serial g scope; outer = t.step; number = number } in
      let gs : List Group = group ∷ [] in
      let E = Other t.serial n in
      let fo = token_found l sites s L t i in
      let new = in_other t.serial (token n A) B in
      let plain = plain_of s' births [] ps gs E T in
      let q : Place = record L.place { marked = plug fo.around new; mark = suc n } in
      let leads : Leads (context l sites) L.place E q = (inr L.spells.none_due, (A, B, sym L.spells.mark, record { inside = cells_of fo.around []; part = becomes (other A B) new (ap (close e) form ∙ close-other e (cd f) (cd g)); same = refl })) in
      let env : its_env cd s' scope ≡ e = env_there s' births [] ps gs [] E T (λ n. refl) plain in
      let own_serial : 1 ≤ weight (has_serial t.serial) s.tokens = omega (arith, weight-in (has_serial t.serial) s.tokens t i, once_same (mark t.serial) (mark t.serial) refl) in
      let new_number : has_published s.steps t.serial ≡ false = none-left t.serial s.steps (L.sound.apart t.serial own_serial) in
      let path : its_path cd s' last ≡ trying t.serial (its_path cd s t.step) = new_path l sites s L t i s' births [] ps gs [] E T (λ n. refl) plain step refl ∙ ap (λ b. cond b (its_path cd s t.step) (trying t.serial (its_path cd s t.step))) new_number in
      let row : token_row cd s' (born s t n f scope last) ≡ stands n A (trying t.serial (its_path cd s t.step)) = λ j. stands n (close (env j) (cd f)) (path j) in
      let over : not (has_published s'.steps t.serial) ≡ true = ap not (left_same l sites s L t i s' births [] ps gs [] E T (λ n. refl) plain t.serial ∙ new_number) in
      let side : group_side cd s' group ≡ left_of t.serial B (its_path cd s t.step) = λ j. left_of t.serial (close (env j) (cd g)) (path_there s' births [] ps gs [] E T (λ n. refl) plain j) in
      let scope_fits = scope_in s' births [] ps gs [] E T (λ n. refl) plain in
      let out : token_out (length s'.scopes) (length s'.steps) (born s t n f scope last) ≡ false = both_false (nat_lt (length s'.scopes) scope) (nat_lt (length s'.steps) last) scope_fits (out_of (length s'.steps) last (omega (arith, more_steps l sites s L t i s' births [] ps gs [] E T (λ n. refl) plain))) in
      let before : not (nat_lt t.serial s'.next_mark) ≡ false = ap not (lt-ltb t.serial s'.next_mark (omega (arith, given l sites s L t i, T.mark))) in
      turned l sites s L t i s' births [] ps gs [] E T (λ n. refl) plain q new refl leads
      (λ w. omega (arith, ap w row))
      (λ v. omega (arith, ap {B = ℕ} (λ b. cond b (v (group_side cd s' group)) 0) over, ap v side)) (omega (arith, T.mark)) (cells_of_place s' births [] ps gs E T) (L.spells.now ∙ sym T.now) (L.spells.made ∙ sym T.made) L.spells.none_due (omega arith) refl room
      (sound_turned l sites s L t i s' births [] ps gs [] E T (λ n. refl) plain
      (none_one (token_out (length s'.scopes) (length s'.steps)) (born s t n f scope last) out)
      (none_one (group_out (length s'.scopes) (length s'.steps)) group (both_false (nat_lt (length s'.scopes) scope) (nat_lt (length s'.steps) t.step) scope_fits (step_in s' births [] ps gs [] E T (λ n. refl) plain)))
      (none_one (step_out (length s'.scopes) s'.next_mark) step before) (λ k p h. let o = got_one k step p h in omega (arith, step_there, ap (λ (z : Step). z.outer) o.1)) (λ k p h. cc h) (own_of s' births [] ps gs E T) (settled_of s' births [] ps gs E T refl) (λ m h. later_one m n h) (λ m. omega arith))

  get_or_end : {X : Type 0} (xs : List X) (d : X) → get_or xs (length xs) d ≡ d
  get_or_end [] d = refl
  get_or_end (x ∷ xs) d = get_or_end xs d

  pub open-lawful : (f x g number : ℕ) → cd node ≡ prune (cd f) x (cd g) → (s' : Records) → s.entries < s.limit → IsOpened s t scope f x g number s' → Lawful l sites s'
  open-lawful f x g number form s' room T =
      let c = length s.cells in
      let F = close (without x e) (cd f) in
      let A = put (is.Cell c) x F in
      let B = close e (cd g) in
      let n = s.next_mark in
      let last = length s.steps + 1 in
      let newest = length s.scopes + 1 in
      let births : List Token = born s t n f newest t.step ∷ born s t (n + 1) g scope last ∷ [] in
      let name : Scope = record { name = x; bound = Cell c; outer = scope } in
      let ss : List Scope = name ∷ [] in
      let step : Step = record { entered = PruneRight c; outer = t.step; group = number; depth = 0; published = false } in
      let ps : List Step = step ∷ [] in
      let group : Group = record { side = Right c; outer = t.step; number = number } in
      let gs : List Group = group ∷ [] in
      let cs : List Bound = Cell c ∷ [] in
      let E = Open t.serial c n (n + 1) in
      let fo = token_found l sites s L t i in
      let new = in_opened (token n A) c (token (n + 1) B) in
      let plain : (b : Bound) → current s'.cells b ≡ current s.cells b = λ b. ap (λ z. current z b) T.cells ∙ current-push s.cells b in
      let q : Place = record L.place { marked = plug fo.around new; mark = suc (n + 1); cells = c ∷ L.place.cells } in
      let leads : Leads (context l sites) L.place E q = (inr L.spells.none_due, (F, B, x, cells_of fo.around [], L.spells.cells, sym L.spells.mark, omega arith, becomes (prune F x B) new (ap (close e) form ∙ close-prune e (cd f) x (cd g)), record { to_cancel = L.spells.none_due; same = refl })) in
      let env2 : its_env cd s' scope ≡ e = env_there s' births ss ps gs cs E T (λ n. refl) plain in
      let mine : current s'.cells (Cell c) ≡ Cell c = plain (Cell c) ∙ get_or_end s.cells (Cell c) in
      let env1 : its_env cd s' newest ≡ (x, Cell c) ∷ e =
      ap (λ z. env_of s'.cells z newest) T.scopes ∙ env-new s'.cells s.scopes name newest refl ∙ (λ j. (x, mine j) ∷ cells_env l sites s L t i s' births ss ps gs cs E T (λ n. refl) plain scope j) in
      let path1 = path_there s' births ss ps gs cs E T (λ n. refl) plain in
      let path2 : its_path cd s' last ≡ aiding c (its_path cd s t.step) = new_path l sites s L t i s' births ss ps gs cs E T (λ n. refl) plain step refl in
      let row1 : token_row cd s' (born s t n f newest t.step) ≡ stands n A (its_path cd s t.step) = λ j. stands n ((ap (λ z. close z (cd f)) env1 ∙ sym (close-more e x (Cell c) (cd f))) j) (path1 j) in
      let row2 : token_row cd s' (born s t (n + 1) g scope last) ≡ stands (n + 1) B (aiding c (its_path cd s t.step)) = λ j. stands (n + 1) (close (env2 j) (cd g)) (path2 j) in
      let scope_fits = scope_in s' births ss ps gs cs E T (λ n. refl) plain in
      let step_fits = step_in s' births ss ps gs cs E T (λ n. refl) plain in
      let out1 : token_out (length s'.scopes) (length s'.steps) (born s t n f newest t.step) ≡ false = both_false (nat_lt (length s'.scopes) newest) (nat_lt (length s'.steps) t.step) (out_of (length s'.scopes) newest (omega (arith, more_scopes l sites s L t i s' births ss ps gs cs E T (λ n. refl) plain))) step_fits in
      let out2 : token_out (length s'.scopes) (length s'.steps) (born s t (n + 1) g scope last) ≡ false = both_false (nat_lt (length s'.scopes) scope) (nat_lt (length s'.steps) last) scope_fits (out_of (length s'.steps) last (omega (arith, more_steps l sites s L t i s' births ss ps gs cs E T (λ n. refl) plain))) in
      let own' : (a d : ℕ) → slice_get s'.cells a ≡ Some (Cell d) → a ≡ d = λ a d h.
      ⊎_elim (λ o. L.sound.own a d o) (λ o. let w = got_one o.0 (Cell c) (Cell d) o.2 in let same : c ≡ d = cc w.1 in omega (arith, o.1, w.0, same))
      (get_more s.cells cs a (Cell d) (ap (λ z. slice_get z a) (sym T.cells) ∙ h)) in
      let old : None (λ (z : Group). is_settled s'.cells z.side) s.groups = none-weaker (λ z. is_settled s.cells z.side) (λ z. is_settled s'.cells z.side) s.groups L.sound.cells (λ z h. still_own s.cells s'.cells cs T.cells z.side h) in
      let end_own : slice_get s'.cells c ≡ Some (Cell c) = ap (λ z. slice_get z c) T.cells ∙ get_end s.cells (Cell c) in
      turned l sites s L t i s' births ss ps gs cs E T (λ n. refl) plain q new refl leads
      (λ w. omega (arith, ap w row1, ap w row2))
      (λ v. omega (arith, ap (λ z. v (right_of c z)) path1)) (omega (arith, T.mark)) (omega (arith, ap length T.cells, length-append s.cells cs, L.spells.cells)) (L.spells.now ∙ sym T.now) (L.spells.made ∙ sym T.made) L.spells.none_due (omega arith) refl room
      (sound_turned l sites s L t i s' births ss ps gs cs E T (λ n. refl) plain
      (none_two (token_out (length s'.scopes) (length s'.steps)) (born s t n f newest t.step) (born s t (n + 1) g scope last) out1 out2)
      (none_one (group_out (length s'.scopes) (length s'.steps)) group step_fits)
      refl (λ k p h. let o = got_one k step p h in omega (arith, step_there, ap (λ (z : Step). z.outer) o.1)) (λ k p h. let o = got_one k name p h in omega (arith, scope_there, ap (λ (z : Scope). z.outer) o.1)) own'
      (omega (arith, T.groups (only (λ z. is_settled s'.cells z.side) (λ z. 1)), old, none_one (λ (z : Group). is_settled s'.cells z.side) group (is_own_self s'.cells c end_own)))
      (λ m h. later_two m n h) (λ m. omega arith))
