-- A pruning ends: its right side is dropped, and its cell becomes a value or void.
use Rattle.std.proofs.Common.{◌≡◌, ◌≤◌, ◌+◌, ℕ, zero, suc, List, [], ◌∷◌, ◌++◌, length, get_or, Option, Some, None, refl, sym, ap, ◌∙◌, subst, arith, inl, inr, ◌⊎◌, ⊎_elim, Bool, true, false, cond, nat_eq, eq-eqb}
use Rattle.std.proofs.lemmas.Bool.{ne_eqb, eqb-true}
use Rattle.std.specs.Prelude.{slice_get, slice_set, ◌&&◌}
use Rattle.orc_env.specs.declared.names.Bound.{Bound}
use Rattle.orc_env.specs.declared.names.Bound.TheVariants.{Is, Cell, Void}
use Rattle.orc_term.specs.declared.arena.Single.TheVariants.{Feeds, Entered, Passed}
use Rattle.orc_term.specs.declared.arena.Double.TheVariants.{Both, Side}
use Rattle.orc_term.specs.declared.arena.Kind.TheVariants.{One}
use Rattle.orc_rules.specs.Term.{Term, pending_of, fill}
use Rattle.orc_rules.specs.Marked.{Marked, ended, token, in_call, in_par, in_seq, in_opened, in_other, erase, fill_marked, Replaces, here}
use Rattle.orc_rules.specs.Timed.{IsIn, IsRising, AreDropped}
use Rattle.orc_rules.specs.Lost.{HoldsSource}
use Rattle.orc_rules.specs.Idle.{calls_of, has_halted}
use Rattle.orc_rules.specs.Numbered.{Name, call, cell, once, times}
use Rattle.orc_rules.proofs.Numbered.{once_same, times_replaced, times_filled}
use Rattle.orc_rules.proofs.Counts.{pending_by_marks}
use Rattle.orc_term.specs.Arena.{Tree, one, two, place, hits, Holds, StandOnce, IsTopped, spelled, Frame, on_one, on_left, on_right, plug}
use Rattle.orc_env.specs.Scopes.{Env, env_of, given, current}
use Rattle.orc_term.specs.Around.{above}
use Rattle.orc_term.specs.Settling.{HasFlags}
use Rattle.orc_term.specs.Rising.{under}
use Rattle.orc_term.specs.Dropping.{occurs, DoRise}
use Rattle.orc_checker.specs.Checker.{State, Draws}
use Rattle.orc_env.specs.Parameters.{AreOwn}
use Rattle.orc_term.proofs.Trees.{hit, hits-both, topped-plug, place-plug, node}
use Rattle.orc_term.proofs.Lists.{get-set_same, get-set_other}
use Rattle.orc_checker.proofs.Filled.{spelled-fill}
use Rattle.orc_env.proofs.Filling.{filled, fill_env, env_of-fill}
use Rattle.orc_checker.proofs.Binding.{Stays, stays_around, replaces_in}
use Rattle.orc_env.proofs.Inside.{Confined}
use Rattle.orc_term.proofs.Leaving.{Drops, pruned_holds, pruned_once}

bound_or : Bound → Option Bound → Bound
bound_or d (Some z) = z
bound_or d None = d

some_same : (a b : Bound) → Some a ≡ Some b → a ≡ b
unfolding bound_or
some_same a b h = ap (bound_or a) h

-- the table of cells after one has become something
module _ (cells : List Bound) (c : ℕ) (w : Bound) (own : AreOwn cells) (unbound : slice_get cells c ≡ Some (Cell c)) where
  from_some : (xs : List Bound) (i : ℕ) (d x : Bound) → slice_get xs i ≡ Some x → get_or xs i d ≡ x
  from_some [] i d x h = cc h
  from_some (y ∷ xs) zero d x h = ap (value_or y) h
    where
      value_or : Bound → Option Bound → Bound
      value_or d (Some z) = z
      value_or d None = d
  from_some (y ∷ xs) (suc i) d x h = from_some xs i d x h

  there_or : (xs : List Bound) (i : ℕ) (d : Bound) → (slice_get xs i ≡ Some (get_or xs i d)) ⊎ (get_or xs i d ≡ d)
  there_or [] i d = inr refl
  there_or (y ∷ xs) zero d = inl refl
  there_or (y ∷ xs) (suc i) d = there_or xs i d

  other_or : (xs : List Bound) (i j : ℕ) (d : Bound) → (j ≡ i → ⊥) → get_or (slice_set xs i w) j d ≡ get_or xs j d
  other_or [] i j d h = refl
  other_or (y ∷ xs) zero zero d h = absurd (h refl)
  other_or (y ∷ xs) zero (suc j) d h = refl
  other_or (y ∷ xs) (suc i) zero d h = refl
  other_or (y ∷ xs) (suc i) (suc j) d h = other_or xs i j d (λ e. h (ap suc e))

  cell_or : ℕ → Bound → ℕ
  cell_or d (Cell e) = e
  cell_or d _ = d

  stays_as : (d : ℕ) → (c ≡ d → ⊥) → (b : Bound) → (slice_get cells d ≡ Some b) ⊎ (b ≡ Cell d) → filled c w b ≡ b
  unfolding cell_or
  stays_as d off (Is v) h = refl
  stays_as d off Void h = refl
  stays_as d off (Cell e) h =
      let same : d ≡ e = ⊎_elim (λ s. own d e s) (λ s. sym (ap (cell_or d) s)) h in
      ap (λ b. cond b w (Cell e)) (ne_eqb c e (λ z. off (z ∙ sym same)))

  pub becomes : (b : Bound) → filled c w (current cells b) ≡ current (slice_set cells c w) b
  becomes (Is v) = refl
  becomes Void = refl
  becomes (Cell d) = go (nat_eq c d) refl
    where
      go : (t : Bool) → nat_eq c d ≡ t → filled c w (get_or cells d (Cell d)) ≡ get_or (slice_set cells c w) d (Cell d)
      go true h =
          let e : c ≡ d = eqb-true c d h in
          subst (λ z. filled c w (get_or cells z (Cell z)) ≡ get_or (slice_set cells c w) z (Cell z)) e
          (ap (filled c w) (from_some cells c (Cell c) (Cell c) unbound) ∙ ap (λ b. cond b w (Cell c)) (eq-eqb c c refl) ∙ sym (from_some (slice_set cells c w) c (Cell c) w (get-set_same cells c w (Cell c) unbound)))
      go false h =
          let off : c ≡ d → ⊥ = λ e. cc (eq-eqb c d e, h) in
          stays_as d off (get_or cells d (Cell d)) (there_or cells d (Cell d)) ∙ sym (other_or cells c d (Cell d) (λ e. off (sym e)))

  pub own_filled : ((d : ℕ) → w ≡ Cell d → ⊥) → AreOwn (slice_set cells c w)
  own_filled plain d e h =
      ⊎_elim
      (λ (s : d ≡ c). absurd (plain e (some_same w (Cell e) (sym (get-set_same cells c w (Cell c) unbound) ∙ ap (slice_get (slice_set cells c w)) (sym s) ∙ h))))
      (λ (z : hits d c ≡ 0). own d e (sym (get-set_other cells c d w (λ s. omega (arith, z, hit c, ap (λ v. hits v c) s))) ∙ h))
      (hits-both d c)

-- the term before and after: the pruning's node now only means its left side
pub record Over (code : ℕ → Term) (s : State) (m : Marked) (j c : ℕ) : Type 0 where
  pub around : List Frame
  pub left : Tree
  pub right : Tree
  pub was : m ≡ spelled code (env_of s.cells s.scopes) (plug around (two j (Side c) left right))
  pub holds : Holds s.nodes (length s.scopes) 0 (plug around (two j (Side c) left right))
  pub once : StandOnce s.nodes (plug around (two j (Side c) left right))
  pub root : place (plug around (two j (Side c) left right)) ≡ 0
  pub top : IsTopped (plug around (two j (Side c) left right))

topped_pruned : (o : List Frame) (j c : ℕ) (l r : Tree) → IsTopped (plug o (two j (Side c) l r)) → IsTopped (plug o (one j Passed l))
topped_pruned [] j c l r h = absurd h
topped_pruned (f ∷ o) j c l r h = topped-plug f o (two j (Side c) l r) (one j Passed l) h

module _ (code : ℕ → Term) (stays : (w : Bound) (c i : ℕ) → fill (given w) c (code i) ≡ code i) (s s' : State) (m : Marked) (j c : ℕ) (w : Bound) (o : Over code s m j c) (own : AreOwn s.cells) (unbound : slice_get s.cells c ≡ Some (Cell c)) (cells : s'.cells ≡ slice_set s.cells c w) (scopes : s'.scopes ≡ s.scopes) where
  abbrev env : ℕ → Env
  env = env_of s.cells s.scopes

  abbrev env' : ℕ → Env
  env' = env_of s'.cells s'.scopes

  pub filled_so : (n : ℕ) → env' n ≡ fill_env c w (env n)
  filled_so n = (λ i. env_of (cells i) (scopes i) n) ∙ env_of-fill c w s.cells (slice_set s.cells c w) (becomes s.cells c w own unbound) s.scopes n

  pub left_filled : spelled code env' (one j Passed o.left) ≡ fill_marked (given w) c (spelled code env o.left)
  left_filled = spelled-fill code c w (stays w c) env env' filled_so o.left

  pub stays_so : Confined c (spelled code env (plug o.around (two j (Side c) o.left o.right))) × (times (cell c) (spelled code env (plug o.around (two j (Side c) o.left o.right))) ≤ 1) → Stays code env env' o.around
  stays_so a = (stays_around code c w (stays w c) env env' filled_so o.around (two j (Side c) o.left o.right) a (omega (arith, once_same (cell c) (cell c) refl))).0

  -- what stands there afterwards
  abbrev pub after : Tree
  after = plug o.around (one j Passed o.left)

  pub ends_drawn : Drops s.nodes s'.nodes j (node (One Passed (place o.left)) (above 0 o.around)) o.right → HasFlags code s'.nodes s'.halts s'.flags after → Draws code s' (spelled code env' after)
  ends_drawn d flags =
      let n = length s.scopes in
      let h = pruned_holds s.nodes s'.nodes n n 0 (omega arith) o.around j (Side c) o.left o.right o.holds o.once d in
      record {
        tree = after;
        holds = subst (λ z. Holds s'.nodes (length z) 0 after) (sym scopes) h;
        root = place-plug o.around (one j Passed o.left) (two j (Side c) o.left o.right) refl ∙ o.root;
        once = pruned_once s.nodes s'.nodes n n 0 (omega arith) o.around j (Side c) o.left o.right o.holds o.once d;
        top = topped_pruned o.around j c o.left o.right o.top;
        marked = refl;
        flags = flags;
      }

  -- the names that stood in the right side stand no more
  pub times_left : (n : Name) → Stays code env env' o.around → times n (spelled code env' after) + (once n (cell c) + times n (spelled code env o.right)) ≡ times n m
  times_left n st =
      let h : Replaces (spelled code env (two j (Side c) o.left o.right)) (spelled code env' (one j Passed o.left)) (spelled code env (two j (Side c) o.left o.right)) [] (spelled code env' (one j Passed o.left)) = here in
      let r = replaces_in code env env' o.around (two j (Side c) o.left o.right) (one j Passed o.left) st h in
      omega (arith, times_replaced n r.1, ap (times n) left_filled, times_filled n (given w) c (spelled code env o.left), ap (times n) o.was)

-- the calls that a step drops
calls_times : (k : ℕ) (m : Marked) → occurs k (calls_of m) ≡ times (call k) m
calls_times k ended = refl
calls_times k (token s t) = refl
calls_times k (in_call j) = omega arith
calls_times k (in_par f g) = omega (arith, occurs-append (calls_of f) (calls_of g), calls_times k f, calls_times k g)
  where
    occurs-append : (xs ys : List ℕ) → occurs k (xs ++ ys) ≡ occurs k xs + occurs k ys
    occurs-append [] ys = omega arith
    occurs-append (x ∷ xs) ys = omega (arith, occurs-append xs ys)
calls_times k (in_seq f x g) = calls_times k f
calls_times k (in_opened f c g) = omega (arith, weight_both (calls_of f) (calls_of g), calls_times k f, calls_times k g)
  where
    weight_both : (xs ys : List ℕ) → occurs k (xs ++ ys) ≡ occurs k xs + occurs k ys
    weight_both [] ys = omega arith
    weight_both (x ∷ xs) ys = omega (arith, weight_both xs ys)
calls_times k (in_other n f g) = omega (arith, calls_times k f)

in_occurs : (k : ℕ) (ks : List ℕ) → IsIn k ks → 1 ≤ occurs k ks
in_occurs k [] h = elim h [ ]
in_occurs k (j ∷ ks) (inl e) = omega (arith, hit j, ap (λ z. hits z j) e)
in_occurs k (j ∷ ks) (inr h) = omega (arith, in_occurs k ks h)

occurs_in : (k : ℕ) (ks : List ℕ) → 1 ≤ occurs k ks → IsIn k ks
occurs_in k [] h = absurd (omega (arith, h))
occurs_in k (j ∷ ks) h = ⊎_elim (λ e. inl e) (λ z. inr (occurs_in k ks (omega (arith, h, z)))) (hits-both k j)

strictly : (ks : List ℕ) → DoRise ks → ((k : ℕ) → occurs k ks ≤ 1) → IsRising ks
strictly [] h o = tt
strictly (k ∷ []) h o = tt
strictly (k ∷ j ∷ ks) h o =
    let apart : k ≡ j → ⊥ = λ e. omega (arith, o k, hit k, hit j, ap (λ z. hits z j) e) in
    (omega (arith, h.0, apart), strictly (j ∷ ks) h.1 (λ i. omega (arith, o i)))

pub are_dropped : (m m' : Marked) (due : List ℕ) (gone : ℕ → ℕ) → HoldsSource m → HoldsSource m' → ((k : ℕ) → times (call k) m ≤ 1) → ((k : ℕ) → times (call k) m' + gone k ≡ times (call k) m) → ((k : ℕ) → occurs k due ≡ gone k) → DoRise due → AreDropped (pending_of (erase m)) (pending_of (erase m')) due
are_dropped m m' due gone source source' most split is rise =
    let before = pending_by_marks m source in
    let after = pending_by_marks m' source' in
    record {
      rising = strictly due rise (λ k. omega (arith, most k, split k, is k));
      each = λ k i. let o = in_occurs k due i in (
        subst (IsIn k) (sym before) (occurs_in k (calls_of m) (omega (arith, calls_times k m, o, is k, split k))),
        λ a. omega (arith, in_occurs k (calls_of m') (subst (IsIn k) after a), calls_times k m', o, is k, split k, most k),
      );
      all = λ k i out.
          let there = in_occurs k (calls_of m) (subst (IsIn k) before i) in
          occurs_in k due (go (occurs k (calls_of m')) (λ a. out (subst (IsIn k) (sym after) (occurs_in k (calls_of m') a))) (λ z. omega (arith, z, calls_times k m', calls_times k m, there, is k, split k)));
    }
  where
    go : {A : Type 0} (n : ℕ) → (1 ≤ n → ⊥) → (n ≡ 0 → A) → A
    go zero off f = f refl
    go (suc n) off f = absurd (off (omega arith))

-- a part that hasn't halted leaves what is above it so
and_false : (b : Bool) → (b && false) ≡ false
and_false true = refl
and_false false = refl

pub unhalted_under : (code : ℕ → Term) (env : ℕ → Env) (k : List Frame) (t : Tree) → has_halted (erase (spelled code env t)) ≡ false → has_halted (erase (spelled code env (under k t))) ≡ false
unhalted_under code env [] t h = h
unhalted_under code env (on_one i (Feeds x g e) ∷ k) t h = h
unhalted_under code env (on_one i (Entered n g e) ∷ k) t h = unhalted_under code env k (one i (Entered n g e) t) refl
unhalted_under code env (on_one i Passed ∷ k) t h = unhalted_under code env k (one i Passed t) h
unhalted_under code env (on_left i Both u ∷ k) t h = unhalted_under code env k (two i Both t u) (ap (λ b. b && has_halted (erase (spelled code env u))) h)
unhalted_under code env (on_left i (Side c) u ∷ k) t h = unhalted_under code env k (two i (Side c) t u) (ap (λ b. b && has_halted (erase (spelled code env u))) h)
unhalted_under code env (on_right i Both u ∷ k) t h = unhalted_under code env k (two i Both u t) (ap (λ b. has_halted (erase (spelled code env u)) && b) h ∙ and_false (has_halted (erase (spelled code env u))))
unhalted_under code env (on_right i (Side c) u ∷ k) t h = h
