-- What a change of the nodes leaves of the tables, which say where each node with a name is.
use Rattle.std.proofs.Common.{◌≡◌, ◌≤◌, ℕ, zero, suc, List, [], ◌∷◌, ◌++◌, length, get_or, Option, Some, None, refl, sym, ap, ◌∙◌, subst, ⊎_elim, inl, inr, ◌⊎◌, ◌+◌, arith, Bool, true, false, cond, nat_eq, length-append, length-set}
use Rattle.std.specs.Prelude.{slice_get, slice_set, option_map}
use Rattle.orc_rules.specs.Numbered.{Name, mark, call, cell}
use Rattle.orc_env.specs.declared.names.Bound.{Bound}
use Rattle.orc_env.specs.declared.names.Bound.TheVariants.{Cell}
use Rattle.orc_term.specs.declared.arena.Node.{Node}
use Rattle.orc_term.specs.declared.arena.Kind.{Kind}
use Rattle.orc_term.specs.declared.arena.Kind.TheVariants.{Leaf, One, Two}
use Rattle.orc_term.specs.declared.arena.Tip.TheVariants.{Gone, Ended, Token, Bears, Waits}
use Rattle.orc_term.specs.declared.arena.Single.TheVariants.{Feeds, Entered, Passed}
use Rattle.orc_term.specs.declared.arena.Double.TheVariants.{Both, Side}
use Rattle.orc_checker.specs.declared.rest.Called.{Called}
use Rattle.orc_term.specs.Arena.{at, living, living_kind}
use Rattle.orc_term.specs.Dropping.{occurs, IsDropped}
use Rattle.orc_term.specs.Grafting.{relink}
use Rattle.orc_term.specs.Hints.{lifted}
use Rattle.orc_checker.specs.Index.{name_of, call_place, Tables, IsPut, AreIndexed, Renames}
use Rattle.orc_term.specs.Rising.{nowhere, pass_kind, pass_node, Passes}
use Rattle.orc_term.specs.Settling.{kind_at}
use Rattle.orc_term.proofs.Hints.{some_or}
use Rattle.orc_term.proofs.Lists.{get-append, get-end, get-set_other}

-- a node without a name has none
pub nameless : {X : Type 0} (k : Kind) (n : Name) → name_of k ≡ None → name_of k ≡ Some n → X
nameless k n none h = absurd (cc (sym none ∙ h))

-- what is so of the name of a node
pub its : (P : Name → Type 0) (k : Kind) (n m : Name) → name_of k ≡ Some n → P n → name_of k ≡ Some m → P m
its P k n m name h e = subst P (same n m (sym name ∙ e)) h
  where
    same : (n m : Name) → Some n ≡ Some m → n ≡ m
    same n m e = cc e

-- the kind of a node that is there
pub kind_there : (nodes : List Node) (p i : ℕ) (k : Kind) → at nodes p i k → kind_at nodes i ≡ k
kind_there nodes p i k h = ap Node.kind (some_or nodes i nowhere (record { kind = k; parent = p }) h)

back : (nodes : List Node) (i j : ℕ) (y : Node) (n : Name) (Q : Type 0) → ((x : Node) → slice_get nodes i ≡ Some x → name_of y.kind ≡ Some n → (name_of x.kind ≡ Some n) ⊎ Q) → name_of (kind_at (slice_set nodes i y) j) ≡ Some n
    → (name_of (kind_at nodes j) ≡ Some n) ⊎ ((j ≡ i) × Q)
back [] i j y n Q f h = inl h
back (x ∷ nodes) zero zero y n Q f h = ⊎_elim (λ e. inl e) (λ e. inr (refl, e)) (f x refl h)
back (x ∷ nodes) zero (suc j) y n Q f h = inl h
back (x ∷ nodes) (suc i) zero y n Q f h = inl h
back (x ∷ nodes) (suc i) (suc j) y n Q f h = ⊎_elim (λ e. inl e) (λ w. inr (ap suc w.0, w.1)) (back nodes i j y n Q f h)

kind_more : (nodes : List Node) (y : Node) (j : ℕ) → (kind_at (nodes ++ y ∷ []) j ≡ kind_at nodes j) ⊎ ((j ≡ length nodes) × (kind_at (nodes ++ y ∷ []) j ≡ y.kind))
kind_more [] y zero = inr (refl, refl)
kind_more [] y (suc j) = inl refl
kind_more (x ∷ nodes) y zero = inl refl
kind_more (x ∷ nodes) y (suc j) = ⊎_elim (λ e. inl e) (λ w. inr (ap suc w.0, w.1)) (kind_more nodes y j)

relinked_name : (k : Kind) (i j : ℕ) → name_of (relink k i j) ≡ name_of k
relinked_name (Leaf t) i j = refl
relinked_name (One (Feeds x g e) p) i j = refl
relinked_name (One (Entered m g e) p) i j = refl
relinked_name (One Passed p) i j = refl
relinked_name (Two Both p q) i j = go (nat_eq p i)
  where
    go : (b : Bool) → name_of (cond b (Two Both j q) (Two Both p j)) ≡ None
    go true = refl
    go false = refl
relinked_name (Two (Side c) p q) i j = go (nat_eq p i)
  where
    go : (b : Bool) → name_of (cond b (Two (Side c) j q) (Two (Side c) p j)) ≡ Some (cell c)
    go true = refl
    go false = refl

passed_name : (k : Kind) (n : Name) → name_of (pass_kind k) ≡ Some n → name_of k ≡ Some n
passed_name (Leaf t) n h = h
passed_name (One (Feeds x g e) p) n h = h
passed_name (One (Entered m g e) p) n h = cc h
passed_name (One Passed p) n h = h
passed_name (Two d p q) n h = h

abbrev or_nowhere : Option Node → Node
or_nowhere (Some x) = x
or_nowhere None = nowhere

read : (nodes : List Node) (u : ℕ) → get_or nodes u nowhere ≡ or_nowhere (slice_get nodes u)
read [] u = refl
read (x ∷ nodes) zero = refl
read (x ∷ nodes) (suc u) = read nodes u

passed_some : (o : Option Node) (n : Name) → name_of (Node.kind (or_nowhere (option_map pass_node o))) ≡ Some n → name_of (Node.kind (or_nowhere o)) ≡ Some n
passed_some (Some x) n h = passed_name x.kind n h
passed_some None n h = h

dead_kind : (k : Kind) → living_kind k ≡ 0 → name_of k ≡ None
dead_kind (Leaf Gone) h = refl
dead_kind (Leaf Ended) h = absurd (omega (arith, h))
dead_kind (Leaf (Token s f e)) h = absurd (omega (arith, h))
dead_kind (Leaf (Bears s v)) h = absurd (omega (arith, h))
dead_kind (Leaf (Waits k)) h = absurd (omega (arith, h))
dead_kind (One s i) h = absurd (omega (arith, h))
dead_kind (Two d i j) h = absurd (omega (arith, h))

dead_name : (o : Option Node) → living o ≡ 0 → name_of (Node.kind (or_nowhere o)) ≡ None
dead_name None h = refl
dead_name (Some x) h = dead_kind x.kind h

some_or_none : (n : ℕ) → (n ≡ 0) ⊎ (1 ≤ n)
some_or_none zero = inl refl
some_or_none (suc n) = inr (omega arith)

-- the kind of a node that is there and was read
pub kind_read : (nodes : List Node) (p i : ℕ) (k : Kind) → at nodes p i k → (x : Node) → slice_get nodes i ≡ Some x → x.kind ≡ k
kind_read nodes p i k h x e = sym (ap Node.kind (some_or nodes i nowhere x e)) ∙ kind_there nodes p i k h

-- what is new in one sense is so in another
pub names_map : (New New' : Name → ℕ → Type 0) (nodes nodes' : List Node) → ((n : Name) (i : ℕ) → New n i → New' n i) → Renames New nodes nodes' → Renames New' nodes nodes'
names_map New New' nodes nodes' f r = record { before = λ i n e. ⊎_elim (λ h. inl h) (λ h. inr (f n i h)) (r.before i n e) }

module _ (New : Name → ℕ → Type 0) where
  pub names_same : (nodes nodes' : List Node) → nodes' ≡ nodes → Renames New nodes nodes'
  names_same nodes nodes' is = record { before = λ i n e. inl (ap (λ z. name_of (kind_at z i)) (sym is) ∙ e) }

  pub names_on : (a b c : List Node) → Renames New a b → Renames New b c → Renames New a c
  names_on a b c f g = record { before = λ i n e. ⊎_elim (λ h. f.before i n h) (λ h. inr h) (g.before i n e) }

  -- a node is written, with the name that it had or one that the tables say is there
  pub names_turned : (nodes nodes' : List Node) (i : ℕ) (y : Node) → nodes' ≡ slice_set nodes i y
      → ((n : Name) (x : Node) → slice_get nodes i ≡ Some x → name_of y.kind ≡ Some n → (name_of x.kind ≡ Some n) ⊎ New n i) → Renames New nodes nodes'
  names_turned nodes nodes' i y is f =
      record {
        before = λ j n e.
            ⊎_elim (λ h. inl h) (λ h. inr (subst (New n) (sym h.0) h.1)) (back nodes i j y n (New n i) (f n) (ap (λ z. name_of (kind_at z j)) (sym is) ∙ e));
      }

  -- a node is written without a name
  pub names_written : (nodes nodes' : List Node) (i : ℕ) (y : Node) → nodes' ≡ slice_set nodes i y → name_of y.kind ≡ None → Renames New nodes nodes'
  names_written nodes nodes' i y is none = names_turned nodes nodes' i y is (λ n x a h. nameless y.kind n none h)

  -- a node is written with a name
  pub names_renamed : (nodes nodes' : List Node) (i : ℕ) (y : Node) (n : Name) → nodes' ≡ slice_set nodes i y → name_of y.kind ≡ Some n → New n i → Renames New nodes nodes'
  names_renamed nodes nodes' i y n is name new = names_turned nodes nodes' i y is (λ m x a h. inr (its (λ z. New z i) y.kind n m name new h))

  -- a node comes
  pub names_more : (nodes nodes' : List Node) (y : Node) → nodes' ≡ nodes ++ y ∷ [] → ((m : Name) → name_of y.kind ≡ Some m → New m (length nodes)) → Renames New nodes nodes'
  names_more nodes nodes' y is new =
      record {
        before = λ j m e.
            let now : name_of (kind_at (nodes ++ y ∷ []) j) ≡ Some m = ap (λ z. name_of (kind_at z j)) (sym is) ∙ e in
            ⊎_elim (λ h. inl (ap name_of (sym h) ∙ now)) (λ h. inr (subst (New m) (sym h.0) (new m (ap name_of (sym h.1) ∙ now)))) (kind_more nodes y j);
      }

  -- a node goes below another
  pub names_lifted : (nodes nodes' : List Node) (i j : ℕ) → nodes' ≡ lifted nodes i j → Renames New nodes nodes'
  names_lifted nodes nodes' i j is =
      let x = get_or nodes i nowhere in
      let own : Node = record { kind = x.kind; parent = j } in
      let below = slice_set nodes i own in
      let y = get_or below x.parent nowhere in
      let top : Node = record { kind = relink y.kind i j; parent = y.parent } in
      names_on nodes below nodes'
      (names_turned nodes below i own refl (λ n z a h. inl (sym (ap (λ w. name_of (Node.kind w)) (some_or nodes i nowhere z a)) ∙ h)))
      (names_turned below nodes' x.parent top is (λ n z a h. inl (sym (ap (λ w. name_of (Node.kind w)) (some_or below x.parent nowhere z a)) ∙ sym (relinked_name y.kind i j) ∙ h)))

  -- otherwises are left
  pub names_passed : (nodes nodes' : List Node) → Passes nodes nodes' → Renames New nodes nodes'
  names_passed nodes nodes' p =
      record {
        before = λ u n e.
            let now = sym (ap (λ z. name_of (Node.kind z)) (read nodes' u)) ∙ e in
            inl (ap (λ z. name_of (Node.kind z)) (read nodes u) ∙ ⊎_elim (λ s. ap (λ z. name_of (Node.kind (or_nowhere z))) (sym s) ∙ now) (λ s. passed_some (slice_get nodes u) n (ap (λ z. name_of (Node.kind (or_nowhere z))) (sym s) ∙ now)) (p u));
      }

  -- nodes go
  pub names_dropped : (nodes nodes' : List Node) (found : List ℕ) → IsDropped nodes found nodes' → Renames New nodes nodes'
  names_dropped nodes nodes' found d =
      record {
        before = λ u n e.
            let now = sym (ap (λ z. name_of (Node.kind z)) (read nodes' u)) ∙ e in
            inl
            (⊎_elim
            (λ none. ap (λ z. name_of (Node.kind z)) (read nodes u) ∙ ap (λ z. name_of (Node.kind (or_nowhere z))) (sym ((d u).0 none)) ∙ now)
            (λ some. nameless (Node.kind (or_nowhere (slice_get nodes' u))) n (dead_name (slice_get nodes' u) ((d u).1 some)) now)
            (some_or_none (occurs u found)));
      }

-- what the tables say stays, of the names that nodes have
pub indexed_on : (t t' : Tables) (nodes nodes' : List Node) → AreIndexed nodes t → Renames (IsPut t') nodes nodes' → ((i : ℕ) (n : Name) → name_of (kind_at nodes' i) ≡ Some n → IsPut t n i → IsPut t' n i) → AreIndexed nodes' t'
indexed_on t t' nodes nodes' h r stays = record { put = λ i n e. ⊎_elim (λ b. stays i n e (h.put i n b)) (λ put. put) (r.before i n e) }

-- the tables stay
pub indexed_kept : (t : Tables) (nodes nodes' : List Node) → AreIndexed nodes t → Renames (IsPut t) nodes nodes' → AreIndexed nodes' t
indexed_kept t nodes nodes' h r = indexed_on t t nodes nodes' h r (λ i n e put. put)

-- the tables grow
pub put_more : (t t' : Tables) → ((s i : ℕ) → slice_get t.marks s ≡ Some i → slice_get t'.marks s ≡ Some i) → ((c i : ℕ) → slice_get t.prunings c ≡ Some i → slice_get t'.prunings c ≡ Some i)
    → ((k i : ℕ) → call_place t.calls k ≡ Some i → call_place t'.calls k ≡ Some i) → ((c : ℕ) → slice_get t.cells c ≡ Some (Cell c) → slice_get t'.cells c ≡ Some (Cell c))
    → (i : ℕ) (n : Name) → IsPut t n i → IsPut t' n i
put_more t t' f g h k i (mark s) put = f s i put
put_more t t' f g h k i (call c) put = h c i put
put_more t t' f g h k i (cell c) put = (g c i put.0, k c put.1)

pub get_grown : {X : Type 0} (xs ys : List X) (y : X) → ys ≡ xs ++ y ∷ [] → (i : ℕ) (x : X) → slice_get xs i ≡ Some x → slice_get ys i ≡ Some x
get_grown xs ys y is i x e = ap (λ z. slice_get z i) is ∙ get-append xs (y ∷ []) i x e

pub get_last : {X : Type 0} (xs ys : List X) (y : X) (i : ℕ) → ys ≡ xs ++ y ∷ [] → i ≡ length xs → slice_get ys i ≡ Some y
get_last xs ys y i is e = ap (λ z. slice_get z i) is ∙ get-end xs (y ∷ []) i e

-- the places of calls that were made stay where one more is made
pub calls_grown : (calls calls' : List Called) (c : Called) → calls' ≡ calls ++ c ∷ [] → (k i : ℕ) → call_place calls k ≡ Some i → call_place calls' k ≡ Some i
calls_grown calls calls' c is zero i e = cc e
calls_grown calls calls' c is (suc k) i e = go (slice_get calls k) refl e
  where
    go : (o : Option Called) → slice_get calls k ≡ o → option_map Called.node o ≡ Some i → option_map Called.node (slice_get calls' k) ≡ Some i
    go (Some d) there h = ap (option_map Called.node) (get_grown calls calls' c is k d there) ∙ h
    go None there h = cc h

-- the tables say of an opened pruning's node where it is
pub opened_put : (t : Tables) (c left right i : ℕ) → slice_get t.prunings c ≡ Some i → slice_get t.cells c ≡ Some (Cell c) → (m : Name) → name_of (Two (Side c) left right) ≡ Some m → IsPut t m i
opened_put t c left right i a b m e = its (λ w. IsPut t w i) (Two (Side c) left right) (cell c) m refl (a, b) e

-- the calls stay
pub indexed_calls : (nodes : List Node) (marks prunings : List ℕ) (calls calls' : List Called) (cells : List Bound) → calls' ≡ calls → AreIndexed nodes (record { marks = marks; prunings = prunings; calls = calls; cells = cells }) → AreIndexed nodes (record { marks = marks; prunings = prunings; calls = calls'; cells = cells })
indexed_calls nodes marks prunings calls calls' cells is h = subst (λ z. AreIndexed nodes (record { marks = marks; prunings = prunings; calls = z; cells = cells })) (sym is) h

-- one node is written, and a token comes below it, on the next mark
pub indexed_one : (nodes grown written nodes' : List Node) (i : ℕ) (y z : Node) (marks kept marks' prunings : List ℕ) (calls : List Called) (cells : List Bound) (n a : ℕ)
    → AreIndexed nodes (record { marks = marks; prunings = prunings; calls = calls; cells = cells }) → grown ≡ nodes → written ≡ slice_set grown i y → nodes' ≡ written ++ z ∷ []
    → ((m : Name) (x : Node) → slice_get nodes i ≡ Some x → name_of y.kind ≡ Some m → name_of x.kind ≡ Some m) → name_of z.kind ≡ Some (mark a)
    → n ≡ length grown → a ≡ length marks → kept ≡ marks → marks' ≡ kept ++ n ∷ [] → AreIndexed nodes' (record { marks = marks'; prunings = prunings; calls = calls; cells = cells })
indexed_one nodes grown written nodes' i y z marks kept marks' prunings calls cells n a h same is more name token is_n is_a keeps grows =
    let t : Tables = record { marks = marks; prunings = prunings; calls = calls; cells = cells } in
    let t' : Tables = record { marks = marks'; prunings = prunings; calls = calls; cells = cells } in
    let marks_are : marks' ≡ marks ++ n ∷ [] = grows ∙ ap (λ l. l ++ n ∷ []) keeps in
    let place : n ≡ length written = is_n ∙ sym (ap length is ∙ length-set grown i y) in
    let put : IsPut t' (mark a) (length written) = get_last marks marks' n a marks_are is_a ∙ ap Some place in
    indexed_on t t' nodes nodes' h
    (names_on (IsPut t') nodes written nodes' (names_on (IsPut t') nodes grown written (names_same (IsPut t') nodes grown same) (names_turned (IsPut t') grown written i y is (λ m x b e. inl (name m x (ap (λ l. slice_get l i) (sym same) ∙ b) e))))
    (names_more (IsPut t') written nodes' z more (λ m e. its (λ w. IsPut t' w (length written)) z.kind (mark a) m token put e)))
    (λ j m e b. put_more t t' (get_grown marks marks' n marks_are) (λ c k f. f) (λ c k f. f) (λ c f. f) j m b)

-- one node is written, and two tokens come below it, on the next marks; a pruning may be opened with the next cell
pub indexed_two : (nodes grown written first nodes' : List Node) (i : ℕ) (y z w : Node) (marks kept between marks' prunings prunings' : List ℕ) (calls : List Called) (cells cells' : List Bound) (n a b : ℕ)
    → AreIndexed nodes (record { marks = marks; prunings = prunings; calls = calls; cells = cells }) → grown ≡ nodes → written ≡ slice_set grown i y → first ≡ written ++ z ∷ [] → nodes' ≡ first ++ w ∷ []
    → ((m : Name) → name_of y.kind ≡ Some m → IsPut (record { marks = marks'; prunings = prunings'; calls = calls; cells = cells' }) m i) → name_of z.kind ≡ Some (mark a) → name_of w.kind ≡ Some (mark b)
    → n ≡ length grown → a ≡ length marks → b ≡ suc a → kept ≡ marks → between ≡ kept ++ n ∷ [] → marks' ≡ between ++ (n + 1) ∷ []
    → ((c k : ℕ) → slice_get prunings c ≡ Some k → slice_get prunings' c ≡ Some k) → ((c : ℕ) → slice_get cells c ≡ Some (Cell c) → slice_get cells' c ≡ Some (Cell c))
    → AreIndexed nodes' (record { marks = marks'; prunings = prunings'; calls = calls; cells = cells' })
indexed_two nodes grown written first nodes' i y z w marks kept between marks' prunings prunings' calls cells cells' n a b h same is more more' name token token' is_n is_a is_b keeps grows grows' prunes bounds =
    let t : Tables = record { marks = marks; prunings = prunings; calls = calls; cells = cells } in
    let t' : Tables = record { marks = marks'; prunings = prunings'; calls = calls; cells = cells' } in
    let between_is : between ≡ marks ++ n ∷ [] = grows ∙ ap (λ l. l ++ n ∷ []) keeps in
    let place : n ≡ length written = is_n ∙ sym (ap length is ∙ length-set grown i y) in
    let place' : n + 1 ≡ length first = omega (arith, place, ap length more, length-append written (z ∷ [])) in
    let put : IsPut t' (mark a) (length written) = get_grown between marks' (n + 1) grows' a (length written) (get_last marks between n a between_is is_a ∙ ap Some place) in
    let put' : IsPut t' (mark b) (length first) = get_last between marks' (n + 1) b grows' (omega (arith, is_b, is_a, ap length between_is, length-append marks (n ∷ []))) ∙ ap Some place' in
    indexed_on t t' nodes nodes' h
    (names_on (IsPut t') nodes first nodes'
    (names_on (IsPut t') nodes written first (names_on (IsPut t') nodes grown written (names_same (IsPut t') nodes grown same) (names_turned (IsPut t') grown written i y is (λ m x c e. inr (name m e))))
    (names_more (IsPut t') written first z more (λ m e. its (λ v. IsPut t' v (length written)) z.kind (mark a) m token put e)))
    (names_more (IsPut t') first nodes' w more' (λ m e. its (λ v. IsPut t' v (length first)) w.kind (mark b) m token' put' e)))
    (λ j m e c. put_more t t' (λ s k f. get_grown between marks' (n + 1) grows' s k (get_grown marks between n between_is s k f)) prunes (λ d k f. f) bounds j m c)

-- a node becomes a token on the next mark
pub indexed_token : (nodes grown nodes' : List Node) (i : ℕ) (y : Node) (marks kept marks' prunings : List ℕ) (calls : List Called) (cells : List Bound) (a : ℕ)
    → AreIndexed nodes (record { marks = marks; prunings = prunings; calls = calls; cells = cells }) → grown ≡ nodes → nodes' ≡ slice_set grown i y → name_of y.kind ≡ Some (mark a)
    → a ≡ length marks → kept ≡ marks → marks' ≡ kept ++ i ∷ [] → AreIndexed nodes' (record { marks = marks'; prunings = prunings; calls = calls; cells = cells })
indexed_token nodes grown nodes' i y marks kept marks' prunings calls cells a h same is token is_a keeps grows =
    let t : Tables = record { marks = marks; prunings = prunings; calls = calls; cells = cells } in
    let t' : Tables = record { marks = marks'; prunings = prunings; calls = calls; cells = cells } in
    let marks_are : marks' ≡ marks ++ i ∷ [] = grows ∙ ap (λ l. l ++ i ∷ []) keeps in
    indexed_on t t' nodes nodes' h
    (names_on (IsPut t') nodes grown nodes' (names_same (IsPut t') nodes grown same) (names_renamed (IsPut t') grown nodes' i y (mark a) is token (get_last marks marks' i a marks_are is_a)))
    (λ j m e b. put_more t t' (get_grown marks marks' i marks_are) (λ c k f. f) (λ c k f. f) (λ c f. f) j m b)

-- a node waits for the next call
pub indexed_call : (nodes nodes' : List Node) (i : ℕ) (y : Node) (marks prunings : List ℕ) (calls calls' : List Called) (cells : List Bound) (c : Called) (k : ℕ)
    → AreIndexed nodes (record { marks = marks; prunings = prunings; calls = calls; cells = cells }) → nodes' ≡ slice_set nodes i y → name_of y.kind ≡ Some (call k)
    → k ≡ suc (length calls) → calls' ≡ calls ++ c ∷ [] → c.node ≡ i → AreIndexed nodes' (record { marks = marks; prunings = prunings; calls = calls'; cells = cells })
indexed_call nodes nodes' i y marks prunings calls calls' cells c k h is name is_k grows there =
    let t : Tables = record { marks = marks; prunings = prunings; calls = calls; cells = cells } in
    let t' : Tables = record { marks = marks; prunings = prunings; calls = calls'; cells = cells } in
    let put : call_place calls' (suc (length calls)) ≡ Some i = ap (option_map Called.node) (get_last calls calls' c (length calls) grows refl) ∙ ap Some there in
    indexed_on t t' nodes nodes' h
    (names_renamed (IsPut t') nodes nodes' i y (call k) is name (ap (call_place calls') is_k ∙ put))
    (λ j m e b. put_more t t' (λ s l f. f) (λ d l f. f) (calls_grown calls calls' c grows) (λ d f. f) j m b)

abbrev gone : Name → ℕ → Type 0
gone n j = ⊥

-- the pruning of a cell ends, with nodes that go, and the cell becomes a value or void
pub indexed_bound : (nodes written nodes' : List Node) (i : ℕ) (y : Node) (found marks prunings : List ℕ) (calls : List Called) (cells cells' : List Bound) (c : ℕ) (b : Bound)
    → AreIndexed nodes (record { marks = marks; prunings = prunings; calls = calls; cells = cells }) → name_of (kind_at nodes i) ≡ Some (cell c) → written ≡ slice_set nodes i y → name_of y.kind ≡ None → IsDropped written found nodes'
    → cells' ≡ slice_set cells c b → AreIndexed nodes' (record { marks = marks; prunings = prunings; calls = calls; cells = cells' })
indexed_bound nodes written nodes' i y found marks prunings calls cells cells' c b h name is none dropped bound =
    indexed_on (record { marks = marks; prunings = prunings; calls = calls; cells = cells }) (record { marks = marks; prunings = prunings; calls = calls; cells = cells' }) nodes nodes' h (record { before = λ j n e. inl (was j n e) }) stays
  where
    was : (j : ℕ) (n : Name) → name_of (kind_at nodes' j) ≡ Some n → name_of (kind_at nodes j) ≡ Some n
    was j n e = ⊎_elim (λ f. f) (λ f. absurd f) (Renames.before (names_on gone nodes written nodes' (names_written gone nodes written i y is none) (names_dropped gone written nodes' found dropped)) j n e)

    ended : (xs : List Node) (j : ℕ) (n : Name) → name_of (kind_at (slice_set xs j y) j) ≡ Some n → name_of (kind_at xs j) ≡ Some (cell c) → ⊥
    ended [] j n e its = cc its
    ended (x ∷ xs) zero n e its = nameless y.kind n none e
    ended (x ∷ xs) (suc j) n e its = ended xs j n e its

    -- the node of the pruning has no name
    unnamed : (n : Name) → name_of (kind_at nodes' i) ≡ Some n → ⊥
    unnamed n e = ⊎_elim (λ f. ended nodes i n (ap (λ z. name_of (kind_at z i)) (sym is) ∙ f) name) (λ f. absurd f) (Renames.before (names_dropped gone written nodes' found dropped) i n e)

    same : (a b : ℕ) → Some a ≡ Some b → a ≡ b
    same a b e = cc e

    stays : (j : ℕ) (n : Name) → name_of (kind_at nodes' j) ≡ Some n → IsPut (record { marks = marks; prunings = prunings; calls = calls; cells = cells }) n j → IsPut (record { marks = marks; prunings = prunings; calls = calls; cells = cells' }) n j
    stays j (mark s) e put = put
    stays j (call k) e put = put
    stays j (cell d) e put =
        let here : d ≡ c → j ≡ i = λ is_c. same j i (sym put.0 ∙ ap (slice_get prunings) is_c ∙ (h.put i (cell c) name).0) in
        (put.0, ap (λ z. slice_get z d) bound ∙ get-set_other cells c d b (λ is_c. unnamed (cell d) (ap (λ z. name_of (kind_at nodes' z)) (sym (here is_c)) ∙ e)) ∙ put.1)
