-- What the code drops of the records is what stands inside the right side of the cell.
use Rattle.std.proofs.Common.{◌≡◌, ◌≤◌, ◌<◌, ℕ, zero, suc, ◌+◌, ◌-◌, List, [], ◌∷◌, refl, sym, ap, ◌∙◌, subst, arith, length, get_or, Bool, true, false, cond, nat_eq, eq-eqb, None as Nothing}
use Rattle.std.proofs.lemmas.Bool.{ltb-false, eqb-true}
use Rattle.std.proofs.lemmas.Map.Keys.{ge_from_not_lt}
use Rattle.std.proofs.lemmas.List.Sorted.{sum_by-IsPermutation}
use Rattle.std.proofs.Math.Numerals.{add-one}
use Rattle.std.specs.List.Sorted.{IsPermutation, IsSorted}
use Rattle.std.specs.Ordering.{nat_cmp, is_lt}
use Rattle.std.specs.Prelude.{slice_set, nat_lt, ◌||◌}
use Rattle.orc_rules.specs.Term.{Term}
use Rattle.orc_rules.specs.Nodes.{Listing, code}
use Rattle.orc_rules.specs.Sites.{Site}
use Rattle.orc_rules.specs.Timed.{IsIn, IsRising}
use Rattle.orc_rules.specs.Numbered.{call}
use Rattle.orc_env.specs.declared.names.Bound.{Bound}
use Rattle.orc_env.specs.Scopes.{Env}
use Rattle.orc_indexes.specs.Same.{weight, only, but, is_this}
use Rattle.orc_frames.specs.Spelling.{inside, whole}
use Rattle.orc_ledger_spec.specs.Records.{Records, Lawful, its_env, raw_path, side_out, token_out, call_out, group_out, token_row}
use Rattle.orc_frames.specs.Paths.{path, inwards, is_out}
use Rattle.orc_ledger_spec.specs.Calls.{Drops, AreCancelled, token_goes, call_goes, group_goes, is_inside}
use Rattle.orc_tables.specs.PendingCalls.{has_number}
use Rattle.orc_tables.specs.Inside.{aids, is_on, is_among, stands_inside, side_inside, numbers_inside}
use Rattle.orc_tables.specs.Steps.{step_at, AreOutwards}
use Rattle.orc_tables.specs.declared.records.Token.{Token}
use Rattle.orc_tables.specs.declared.records.Call.{Call}
use Rattle.orc_tables.specs.declared.records.Frame.{Frame}
use Rattle.orc_tables.specs.declared.records.Frame.TheVariants.{SeqLeft, PruneRight, OtherwiseLeft}
use Rattle.orc_tables.specs.declared.records.Step.{Step}
use Rattle.orc_tables.specs.declared.records.Side.{Side}
use Rattle.orc_tables.specs.declared.records.Side.TheVariants.{Right, Left}
use Rattle.orc_tables.specs.declared.records.Group.{Group}
use Rattle.orc_indexes.proofs.Weight.{weight-in, weight-least, weight-none, weight-sum_by, none-alike, some-in, this_one, this_is}
use Rattle.orc_frames.proofs.Growth.{or_false, path-unfold, path-none}
use Rattle.orc_tables.proofs.Placed.{there}
use Rattle.orc_ledger_spec.proofs.Lists.{is_call, times-calls, numbered, rows-weigh}
use Rattle.orc_ledger_spec.proofs.Binding.{IsEmpty}

-- ---- outwards from a step

among-none : (c : ℕ) (ss : List Step) (n i : ℕ) → step_at ss i ≡ Nothing → is_among c ss n i ≡ false
among-none c ss zero i h = refl
among-none c ss (suc n) i h = ap (is_on c ss (λ j. is_among c ss n j)) h

module _ (code : ℕ → Term) (env : ℕ → Env) (c : ℕ) where
  or_is : (b x : Bool) → cond b true x ≡ (b || x)
  or_is true x = refl
  or_is false x = refl

  by_entered : (e : Frame) (i : ℕ) (ss : List Step) → inside c (inwards code env e (path code env ss i)) ≡ (aids c e || inside c (path code env ss i))
  by_entered (SeqLeft x g scope) i ss = refl
  by_entered (PruneRight d) i ss = or_is (nat_eq c d) (inside c (path code env ss i))
  by_entered (OtherwiseLeft n) i ss = refl

  no_step : Step
  no_step = record { entered = OtherwiseLeft 0; outer = 0; group = 0; depth = 0; published = false }

  -- the way outwards tells whether a path is inside
  pub among-inside : (ss : List Step) → AreOutwards ss → (n i : ℕ) → i ≤ n → i ≤ length ss → is_among c ss n i ≡ inside c (path code env ss i)
  among-inside ss outwards n zero le fits = among-none c ss n 0 refl ∙ sym (ap (inside c) (path-none code env ss))
  among-inside ss outwards zero (suc k) le fits = absurd (omega (arith, le))
  among-inside ss outwards (suc n) (suc k) le fits =
      let p = get_or ss k no_step in
      let h = there ss k no_step (omega (arith, fits)) in
      let out = outwards k p h in
      ap (is_on c ss (λ j. is_among c ss n j)) h
      ∙ ap (λ b. aids c p.entered || b) (among-inside ss outwards n p.outer (omega (arith, out, le)) (omega (arith, out, fits)))
      ∙ sym (ap (inside c) (path-unfold code env ss (suc k) k p (omega arith) h out) ∙ by_entered p.entered p.outer ss)

-- ---- what is dropped

numbers-weigh : (c : ℕ) (ss : List Step) (w : ℕ → ℕ) (ks : List Call) → weight w (numbers_inside c ss ks) ≡ weight (only (λ (k : Call). stands_inside c ss k.step) (λ (k : Call). w k.number)) ks
numbers-weigh c ss w [] = refl
numbers-weigh c ss w (k ∷ ks) = go (stands_inside c ss k.step) (numbers-weigh c ss w ks)
  where
    go : (b : Bool) → weight w (numbers_inside c ss ks) ≡ weight (only (λ (k : Call). stands_inside c ss k.step) (λ (k : Call). w k.number)) ks
        → weight w (cond b (k.number ∷ numbers_inside c ss ks) (numbers_inside c ss ks)) ≡ cond b (w k.number) 0 + weight (only (λ (k : Call). stands_inside c ss k.step) (λ (k : Call). w k.number)) ks
    go true ih = omega (arith, ih)
    go false ih = omega (arith, ih)

-- ---- numbers in rising order

DoRise : List ℕ → Type 0
DoRise [] = Unit {0}
DoRise (k ∷ []) = Unit {0}
DoRise (k ∷ j ∷ ks) = (k ≤ j) × DoRise (j ∷ ks)

do_rise : (xs : List ℕ) → ((k d : ℕ) → suc k < length xs → is_lt (nat_cmp (get_or xs (suc k) d) (get_or xs k d)) ≡ false) → DoRise xs
unfolding DoRise
do_rise [] h = tt
do_rise (x ∷ []) h = tt
do_rise (x ∷ y ∷ xs) h = (ge_from_not_lt y x (h 0 0 (omega arith)), do_rise (y ∷ xs) (λ k d lt. h (suc k) d (omega (arith, lt))))

strictly : (xs : List ℕ) → DoRise xs → ((k : ℕ) → weight (is_this k) xs ≤ 1) → IsRising xs
unfolding DoRise
strictly [] r few = tt
strictly (x ∷ []) r few = tt
strictly (x ∷ y ∷ xs) r few =
    (not_same (nat_eq x y) refl, strictly (y ∷ xs) r.1 (λ k. omega (arith, few k)))
  where
    not_same : (b : Bool) → nat_eq x y ≡ b → x < y
    not_same true e = absurd (omega (arith, few x, this_is x x refl, this_is x y (eqb-true x y e)))
    not_same false e = less (r.0)
      where
        less : x ≤ y → x < y
        less le = by_least (y - x) refl
          where
            by_least : (d : ℕ) → y - x ≡ d → x < y
            by_least zero f = let same : x ≡ y = omega (arith, f, le) in cc (eq-eqb x y same, e)
            by_least (suc d) f = omega (arith, f)

module _ (l : Listing) (sites : List Site) (s : Records) (L : Lawful l sites s) (c : ℕ) where
  at_step : (i : ℕ) → i ≤ length s.steps → stands_inside c s.steps i ≡ inside c (raw_path (code l) s i)
  at_step i le = among-inside (code l) (its_env (code l) s) c s.steps L.sound.outwards i i (omega arith) le

  token_at : (t : Token) → token_out (length s.scopes) (length s.steps) t ≡ false → stands_inside c s.steps t.step ≡ token_goes (code l) c s t
  token_at t h = at_step t.step (ltb-false (length s.steps) t.step (or_false (is_out (length s.scopes) t.standing) (nat_lt (length s.steps) t.step) h).1)

  call_at : (k : Call) → call_out (length s.steps) k ≡ false → stands_inside c s.steps k.step ≡ call_goes (code l) c s k
  call_at k h = at_step k.step (ltb-false (length s.steps) k.step h)

  by_side : (i : ℕ) (k : Side) → i ≤ length s.steps → side_inside c s.steps i k ≡ is_inside c (raw_path (code l) s i) k
  by_side i (Right d) le = ap (λ b. nat_eq c d || b) (at_step i le) ∙ or_is (nat_eq c d) (inside c (raw_path (code l) s i))
    where
      or_is : (b x : Bool) → (b || x) ≡ cond b true x
      or_is true x = refl
      or_is false x = refl
  by_side i (Left n g scope) le = at_step i le

  group_at : (g : Group) → group_out (length s.scopes) (length s.steps) g ≡ false → side_inside c s.steps g.outer g.side ≡ group_goes (code l) c s g
  group_at g h = by_side g.outer g.side (ltb-false (length s.steps) g.outer (or_false (side_out (length s.scopes) g.side) (nat_lt (length s.steps) g.outer) h).1)

  -- the lists that the code leaves
  pub drops : (u : Bound) (s' : Records) → s'.limit ≡ s.limit → s'.entries ≡ s.entries + 1 → s'.next_mark ≡ s.next_mark → s'.now ≡ s.now → s'.made ≡ s.made
      → ((w : Token → ℕ) → weight w s'.tokens ≡ weight (but (λ (t : Token). stands_inside c s.steps t.step) w) s.tokens) → ((w : Call → ℕ) → weight w s'.calls ≡ weight (but (λ (k : Call). stands_inside c s.steps k.step) w) s.calls) → ((w : Group → ℕ) → weight w s'.groups ≡ weight (but (λ (g : Group). side_inside c s.steps g.outer g.side) w) s.groups) → s'.scopes ≡ s.scopes → s'.steps ≡ s.steps → s'.cells ≡ slice_set s.cells c u
      → Drops (code l) c u s s'
  drops u s' limit entries mark now made tokens calls groups scopes steps cells =
      record {
        limit = limit;
        entries = entries;
        mark = mark;
        now = now;
        made = made;
        tokens = λ w. tokens w ∙ none-alike (token_out (length s.scopes) (length s.steps)) (but (λ (t : Token). stands_inside c s.steps t.step) w) (but (token_goes (code l) c s) w) s.tokens L.sound.tokens (λ t h. ap (λ b. cond b 0 (w t)) (token_at t h));
        calls = λ w. calls w ∙ none-alike (call_out (length s.steps)) (but (λ (k : Call). stands_inside c s.steps k.step) w) (but (call_goes (code l) c s) w) s.calls L.sound.calls (λ k h. ap (λ b. cond b 0 (w k)) (call_at k h));
        groups = λ w. groups w ∙ none-alike (group_out (length s.scopes) (length s.steps)) (but (λ (g : Group). side_inside c s.steps g.outer g.side) w) (but (group_goes (code l) c s) w) s.groups L.sound.groups (λ g h. ap (λ b. cond b 0 (w g)) (group_at g h));
        scopes = scopes;
        steps = steps;
        cells = cells;
      }

  -- each call has its own number
  pub one_number : (k : ℕ) → weight (has_number k) s.calls ≤ 1
  one_number k = omega (arith, (numbered l sites s L).single (call k), times-calls k whole L.place.marked, rows-weigh l sites s L (is_call k), weight-none (λ (t : Token). is_call k (token_row (code l) s t)) s.tokens (λ t. refl))

  no_more : (b : Bool) (n : ℕ) → cond b n 0 ≤ n
  no_more true n = omega arith
  no_more false n = omega arith

  -- the numbers of those inside, sorted
  pub cancelled : (found ks : List ℕ) → found ≡ numbers_inside c s.steps s.calls → IsPermutation found ks → IsSorted nat_cmp ks → AreCancelled (code l) c s ks
  cancelled found ks is moved sorted =
      let all : (w : ℕ → ℕ) → weight w ks ≡ weight (only (call_goes (code l) c s) (λ (k : Call). w k.number)) s.calls
      = λ w. weight-sum_by w ks ∙ sum_by-IsPermutation w found ks moved ∙ sym (weight-sum_by w found) ∙ ap (weight w) is ∙ numbers-weigh c s.steps w s.calls ∙ none-alike (call_out (length s.steps)) (only (λ (k : Call). stands_inside c s.steps k.step) (λ (k : Call). w k.number)) (only (call_goes (code l) c s) (λ (k : Call). w k.number)) s.calls L.sound.calls (λ k h. ap (λ b. cond b (w k.number) 0) (call_at k h)) in
      let rise : DoRise ks = do_rise ks (λ k d lt. ap (λ z. is_lt (nat_cmp (get_or ks z d) (get_or ks k d))) (sym (add-one k)) ∙ sorted k d (omega arith) (omega (arith, lt))) in
      record {
        rising = strictly ks rise (λ k. omega (arith, all (is_this k), weight-least (only (call_goes (code l) c s) (has_number k)) (has_number k) s.calls (λ d. no_more (call_goes (code l) c s d) (has_number k d)), one_number k));
        each = λ k. (
          λ i. omega (arith, weight-in (is_this k) ks k i, this_is k k refl, all (is_this k)),
          λ some. let d = some-in (is_this k) ks (omega (arith, some, all (is_this k))) in subst (λ z. IsIn z ks) (sym (this_one k d.0 d.2)) d.1,
        );
      }

  -- where nothing is inside, the side alone goes
  pub drops-empty : IsEmpty l sites s L c → (u : Bound) (s' : Records) → s'.limit ≡ s.limit → s'.entries ≡ s.entries + 1 → s'.next_mark ≡ s.next_mark → s'.now ≡ s.now → s'.made ≡ s.made
      → s'.tokens ≡ s.tokens → s'.calls ≡ s.calls → ((w : Group → ℕ) → weight w s'.groups ≡ weight (but (group_goes (code l) c s) w) s.groups) → s'.scopes ≡ s.scopes → s'.steps ≡ s.steps → s'.cells ≡ slice_set s.cells c u
      → Drops (code l) c u s s'
  drops-empty E u s' limit entries mark now made tokens calls groups scopes steps cells =
      record {
        limit = limit;
        entries = entries;
        mark = mark;
        now = now;
        made = made;
        tokens = λ w. ap (weight w) tokens ∙ none-alike (token_goes (code l) c s) w (but (token_goes (code l) c s) w) s.tokens E.tokens (λ t h. sym (ap (λ b. cond b 0 (w t)) h));
        calls = λ w. ap (weight w) calls ∙ none-alike (call_goes (code l) c s) w (but (call_goes (code l) c s) w) s.calls E.calls (λ k h. sym (ap (λ b. cond b 0 (w k)) h));
        groups = groups;
        scopes = scopes;
        steps = steps;
        cells = cells;
      }
