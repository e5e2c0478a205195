-- What a change of the nodes leaves of their hints.
use Rattle.std.proofs.Common.{◌≡◌, ◌<◌, ◌+◌, ℕ, zero, suc, List, [], ◌∷◌, ◌++◌, length, get_or, Option, Some, None, refl, sym, ap, ◌∙◌, subst, arith, Bool, true, false, cond, nat_eq, eq-eqb, inl, inr, ⊎_elim, ◌⊎◌, length-append, length-set}
use Rattle.std.proofs.lemmas.Bool.{ne_eqb, eqb-true}
use Rattle.std.specs.Prelude.{slice_get, slice_set}
use Rattle.orc_term.specs.declared.arena.Node.{Node}
use Rattle.orc_term.specs.declared.arena.Kind.{Kind}
use Rattle.orc_term.specs.declared.arena.Kind.TheVariants.{Leaf, One, Two}
use Rattle.orc_term.specs.declared.arena.Tip.{Tip}
use Rattle.orc_term.specs.declared.arena.Single.{Single}
use Rattle.orc_term.specs.declared.arena.Tip.TheVariants.{Gone, Ended, Token, Bears, Waits}
use Rattle.orc_term.specs.declared.arena.Single.TheVariants.{Feeds, Entered, Passed}
use Rattle.orc_term.specs.declared.arena.Double.TheVariants.{Both, Side}
use Rattle.orc_term.specs.Arena.{hits, at}
use Rattle.orc_term.specs.Bearers.{Carries}
use Rattle.orc_term.specs.Rising.{nowhere, pass_kind, pass_node}
use Rattle.orc_term.specs.Grafting.{relink}
use Rattle.orc_term.specs.Hints.{lets, Skips, IsAbove, AreHints, restless, IsHintBelow, Follows, CanBecome, CanWake, IsBeside, lifted}
use Rattle.orc_term.proofs.Trees.{hits-both, hit}
use Rattle.orc_term.proofs.Lists.{get-set_same, get-set_other, get-append, get-end, get-more}

of_some : {X : Type 0} → X → Option X → X
of_some d (Some x) = x
of_some d None = d

same_some : {X : Type 0} (x y : X) → Some x ≡ Some y → x ≡ y
unfolding of_some
same_some x y e = ap (of_some x) e

pub some_or : {X : Type 0} (xs : List X) (i : ℕ) (d x : X) → slice_get xs i ≡ Some x → get_or xs i d ≡ x
some_or [] i d x h = cc h
some_or (y ∷ xs) zero d x h = same_some y x h
some_or (y ∷ xs) (suc i) d x h = some_or xs i d x h

pub some_in : {X : Type 0} (xs : List X) (i : ℕ) (x : X) → slice_get xs i ≡ Some x → i < length xs
some_in [] i x h = cc h
some_in (y ∷ xs) zero x h = omega arith
some_in (y ∷ xs) (suc i) x h = omega (arith, some_in xs i x h)

pub there_or_not : {X : Type 0} (xs : List X) (i : ℕ) (d : X) → (slice_get xs i ≡ Some (get_or xs i d)) ⊎ (get_or xs i d ≡ d)
there_or_not [] i d = inr refl
there_or_not (y ∷ xs) zero d = inl refl
there_or_not (y ∷ xs) (suc i) d = there_or_not xs i d

pub same_or : (a b : ℕ) → (a ≡ b) ⊎ (a ≡ b → ⊥)
same_or a b = ⊎_elim (λ e. inl e) (λ z. inr (λ e. omega (arith, z, hit b, ap (λ v. hits v b) e))) (hits-both a b)

pub next_or : (k n : ℕ) → k < n + 1 → (k < n) ⊎ (k ≡ n)
next_or k n lt = ⊎_elim (λ e. inr e) (λ off. inl (omega (arith, lt, off))) (same_or k n)

module _ (nodes : List Node) where
  pub above_all : (i j k : ℕ) → IsAbove nodes i j → IsAbove nodes j k → IsAbove nodes i k
  above_all i j k (zero, e) h = subst (λ z. IsAbove nodes z k) (sym e) h
  above_all i j k (suc m, (x, y, a, b, l, r)) h = let w = above_all x.parent j k (m, r) h in (suc w.0, (x, y, a, b, l, w.1))

  pub one_above : (i : ℕ) (x y : Node) → slice_get nodes i ≡ Some x → slice_get nodes x.parent ≡ Some y → lets y.kind i ≡ true → IsAbove nodes i x.parent
  one_above i x y a b l = (1, (x, y, a, b, l, refl))

-- where each node that lets its part through still is above that part
abbrev pub GoesOn : List Node → List Node → Type 0
GoesOn nodes nodes' = (i : ℕ) (x y : Node) → slice_get nodes i ≡ Some x → slice_get nodes x.parent ≡ Some y → lets y.kind i ≡ true → IsAbove nodes' i x.parent

pub above_on : (nodes nodes' : List Node) → GoesOn nodes nodes' → (i j m : ℕ) → Skips nodes m i j → IsAbove nodes' i j
above_on nodes nodes' on i j zero e = (0, e)
above_on nodes nodes' on i j (suc m) (x, y, a, b, l, r) = above_all nodes' i x.parent j (on i x y a b l) (above_on nodes nodes' on x.parent j m r)

pub hints_on : (nodes nodes' : List Node) (hints : List ℕ) → GoesOn nodes nodes' → length nodes' ≡ length nodes → AreHints nodes hints → AreHints nodes' hints
hints_on nodes nodes' hints on len h = record { len = h.len ∙ sym len; each = λ i j e. let w = h.each i j e in above_on nodes nodes' on i j w.0 w.1 }

-- each node stays, or is followed by another
abbrev pub AreFollowed : List Node → List Node → Type 0
AreFollowed nodes nodes' = (i : ℕ) (x : Node) → slice_get nodes i ≡ Some x → (x' : Node) × (slice_get nodes' i ≡ Some x') × Follows x x'

pub goes_followed : (nodes nodes' : List Node) → AreFollowed nodes nodes' → GoesOn nodes nodes'
goes_followed nodes nodes' f i x y a b l =
    let v = f i x a in
    let w = f x.parent y b in
    subst (λ z. IsAbove nodes' i z) v.2.parent (one_above nodes' i v.0 w.0 v.1 (ap (slice_get nodes') v.2.parent ∙ w.1) (w.2.passes i l))

itself : (x : Node) → Follows x x
itself x = record { parent = refl; passes = λ i e. e }

-- a node is written
pub hints_written : (nodes : List Node) (hints : List ℕ) (i : ℕ) (y : Node) → CanWake nodes i y → AreHints nodes hints → AreHints (slice_set nodes i y) hints
hints_written nodes hints i y can h = hints_on nodes (slice_set nodes i y) hints (goes_followed nodes (slice_set nodes i y) each) (length-set nodes i y) h
  where
    each : AreFollowed nodes (slice_set nodes i y)
    each j x a =
        ⊎_elim
        (λ (e : j ≡ i). let b = ap (slice_get nodes) (sym e) ∙ a in (y, ap (slice_get (slice_set nodes i y)) e ∙ get-set_same nodes i y x b, can x b))
        (λ off. (x, get-set_other nodes i j y off ∙ a, itself x))
        (same_or j i)

-- a node comes
pub hints_more : (nodes : List Node) (hints : List ℕ) (y : Node) (hint : ℕ) → AreHints nodes hints → IsHintBelow nodes hints (length nodes) y.parent hint → AreHints (nodes ++ y ∷ []) (hints ++ hint ∷ [])
hints_more nodes hints y hint h below =
    record {
      len = omega (arith, h.len, length-append nodes (y ∷ []), length-append hints (hint ∷ []));
      each = λ i j e. ⊎_elim (λ a. old i j (h.each i j a)) (λ a. subst (λ z. IsAbove nodes' z j) (sym a.0) (subst (λ z. IsAbove nodes' (length hints) z) a.1 its)) (get-more hints hint i j e);
    }
  where
    nodes' : List Node
    nodes' = nodes ++ y ∷ []

    old : (i j : ℕ) → IsAbove nodes i j → IsAbove nodes' i j
    old i j a = above_on nodes nodes' (goes_followed nodes nodes' (λ k x s. (x, get-append nodes (y ∷ []) k x s, itself x))) i j a.0 a.1

    hint_above : (p : ℕ) → IsAbove nodes p (get_or hints p p)
    hint_above p = ⊎_elim (λ s. h.each p (get_or hints p p) s) (λ s. (0, sym s)) (there_or_not hints p p)

    its_own : IsAbove nodes' (length nodes) hint
    its_own =
        ⊎_elim
        (λ e. (0, sym e))
        (λ w. above_all nodes' (length nodes) y.parent hint
        (one_above nodes' (length nodes) y w.0 (get-end nodes (y ∷ []) (length nodes) refl) (get-append nodes (y ∷ []) y.parent w.0 w.1) w.2)
        (subst (λ z. IsAbove nodes' y.parent z) (sym w.3) (old y.parent (get_or hints y.parent y.parent) (hint_above y.parent))))
        below

    its : IsAbove nodes' (length hints) hint
    its = subst (λ z. IsAbove nodes' z hint) (sym h.len) its_own

-- a hint, or the number itself where there is none, is above
pub hint_is_above : (nodes : List Node) (hints : List ℕ) (i : ℕ) → AreHints nodes hints → IsAbove nodes i (get_or hints i i)
hint_is_above nodes hints i h = ⊎_elim (λ s. h.each i (get_or hints i i) s) (λ s. (0, sym s)) (there_or_not hints i i)

set_there : {X : Type 0} (xs : List X) (i : ℕ) (x y : X) → slice_get (slice_set xs i x) i ≡ Some y → y ≡ x
set_there [] i x y h = cc h
set_there (z ∷ xs) zero x y h = sym (same_some x y h)
set_there (z ∷ xs) (suc i) x y h = set_there xs i x y h

-- a hint goes on to that of the node above
pub hints_shorter : (nodes : List Node) (hints : List ℕ) (i further : ℕ) (x : Node) → slice_get nodes (get_or hints i i) ≡ Some x → IsHintBelow nodes hints (get_or hints i i) x.parent further → AreHints nodes hints → AreHints nodes (slice_set hints i further)
hints_shorter nodes hints i further x a below h =
    record {
      len = length-set hints i further ∙ h.len;
      each = λ j k e. ⊎_elim
          (λ (same : j ≡ i). subst (λ z. IsAbove nodes z k) (sym same) (subst (IsAbove nodes i) (sym (set_there hints i further k (ap (slice_get (slice_set hints i further)) (sym same) ∙ e))) (above_all nodes i (get_or hints i i) further (hint_is_above nodes hints i h) on)))
          (λ off. h.each j k (sym (get-set_other hints i j further off) ∙ e))
          (same_or j i);
    }
  where
    on : IsAbove nodes (get_or hints i i) further
    on =
        ⊎_elim
        (λ e. (0, sym e))
        (λ w. above_all nodes (get_or hints i i) x.parent further (one_above nodes (get_or hints i i) x w.0 a w.1 w.2) (subst (IsAbove nodes x.parent) (sym w.3) (hint_is_above nodes hints x.parent h)))
        below

-- what a relinked node lets through
lets_other : (k : Kind) (i j v : ℕ) → (v ≡ i → ⊥) → lets k v ≡ true → lets (relink k i j) v ≡ true
lets_other (Leaf t) i j v off l = l
lets_other (One Passed p) i j v off l = refl
lets_other (One (Feeds x g e) p) i j v off l = cc l
lets_other (One (Entered m g e) p) i j v off l = cc l
lets_other (Two Both p q) i j v off l = go (nat_eq p i)
  where
    go : (b : Bool) → lets (cond b (Two Both j q) (Two Both p j)) v ≡ true
    go true = refl
    go false = refl
lets_other (Two (Side c) p q) i j v off l =
    let e : p ≡ v = eqb-true p v l in
    ap (λ b. lets (cond b (Two (Side c) j q) (Two (Side c) p j)) v) (ne_eqb p i (λ z. off (sym e ∙ z))) ∙ l

lets_new : (k : Kind) (i j : ℕ) → lets k i ≡ true → lets (relink k i j) j ≡ true
lets_new (Leaf Gone) i j l = refl
lets_new (Leaf Ended) i j l = cc l
lets_new (Leaf (Token s f e)) i j l = cc l
lets_new (Leaf (Bears s v)) i j l = cc l
lets_new (Leaf (Waits k)) i j l = cc l
lets_new (One Passed p) i j l = refl
lets_new (One (Feeds x g e) p) i j l = cc l
lets_new (One (Entered m g e) p) i j l = cc l
lets_new (Two Both p q) i j l = go (nat_eq p i)
  where
    go : (b : Bool) → lets (cond b (Two Both j q) (Two Both p j)) j ≡ true
    go true = refl
    go false = refl
lets_new (Two (Side c) p q) i j l = ap (λ b. lets (cond b (Two (Side c) j q) (Two (Side c) p j)) j) l ∙ eq-eqb j j refl

both_lets : (i j p q v : ℕ) → lets (relink (Two Both p q) i j) v ≡ true
both_lets i j p q v = go (nat_eq p i)
  where
    go : (b : Bool) → lets (cond b (Two Both j q) (Two Both p j)) v ≡ true
    go true = refl
    go false = refl

-- a node goes below the one beside it
module _ (nodes : List Node) (i j : ℕ) (beside : IsBeside nodes i j) where
  abbrev x0 : Node
  x0 = get_or nodes i nowhere

  abbrev p : ℕ
  p = x0.parent

  abbrev own : Node
  own = record { kind = x0.kind; parent = j }

  abbrev below : List Node
  below = slice_set nodes i own

  abbrev y0 : Node
  y0 = get_or below p nowhere

  abbrev top : Node
  top = record { kind = relink y0.kind i j; parent = y0.parent }

  abbrev after : List Node
  after = slice_set below p top

  abbrev both : Node
  both = record { kind = Two Both i (j + 1); parent = p }

  -- a node afterwards
  record After (v : ℕ) (x : Node) : Type 0 where
    new : Node
    there : slice_get after v ≡ Some new
    moved : v ≡ i → new.parent ≡ j
    stays : (v ≡ i → ⊥) → new.parent ≡ x.parent
    linked : v ≡ p → new.kind ≡ relink x.kind i j
    kept : (v ≡ p → ⊥) → new.kind ≡ x.kind

  record Middle (v : ℕ) (x : Node) : Type 0 where
    new : Node
    there : slice_get below v ≡ Some new
    moved : v ≡ i → new.parent ≡ j
    stays : (v ≡ i → ⊥) → new.parent ≡ x.parent
    kept : new.kind ≡ x.kind

  middle : (v : ℕ) (x : Node) → slice_get nodes v ≡ Some x → Middle v x
  middle v x a =
      ⊎_elim
      (λ (e : v ≡ i).
      let b : slice_get nodes i ≡ Some x = ap (slice_get nodes) (sym e) ∙ a in
      record { new = own; there = ap (slice_get below) e ∙ get-set_same nodes i own x b; moved = λ z. refl; stays = λ off. absurd (off e); kept = ap Node.kind (some_or nodes i nowhere x b) })
      (λ off. record { new = x; there = get-set_other nodes i v own off ∙ a; moved = λ e. absurd (off e); stays = λ z. refl; kept = refl })
      (same_or v i)

  later : (v : ℕ) (x : Node) → slice_get nodes v ≡ Some x → After v x
  later v x a =
      let m = middle v x a in
      ⊎_elim
      (λ (e : v ≡ p).
      let b : slice_get below p ≡ Some m.new = ap (slice_get below) (sym e) ∙ m.there in
      let s : y0 ≡ m.new = some_or below p nowhere m.new b in
      record {
        new = top;
        there = ap (slice_get after) e ∙ get-set_same below p top m.new b;
        moved = λ z. ap Node.parent s ∙ m.moved z;
        stays = λ z. ap Node.parent s ∙ m.stays z;
        linked = λ z. ap (λ w. relink (Node.kind w) i j) s ∙ ap (λ k. relink k i j) m.kept;
        kept = λ off. absurd (off e);
      })
      (λ off. record { new = m.new; there = get-set_other below p v top off ∙ m.there; moved = m.moved; stays = m.stays; linked = λ e. absurd (off e); kept = λ z. m.kept })
      (same_or v p)

  -- what a node lets through afterwards
  lets_later : (v u : ℕ) (y : Node) (w : After v y) → (u ≡ i → ⊥) → lets y.kind u ≡ true → lets (After.new w).kind u ≡ true
  lets_later v u y w off l =
      ⊎_elim
      (λ e. ap (λ k. lets k u) (w.linked e) ∙ lets_other y.kind i j u off l)
      (λ z. ap (λ k. lets k u) (w.kept z) ∙ l)
      (same_or v p)

  pub goes_lifted : GoesOn nodes after
  goes_lifted v x y a b l =
      ⊎_elim
      (λ (e : v ≡ i).
      let is_x : x0 ≡ x = some_or nodes i nowhere x (ap (slice_get nodes) (sym e) ∙ a) in
      let is_p : x.parent ≡ p = ap Node.parent (sym is_x) in
      let w = later v x a in
      let t = later j both beside.1 in
      let u = later x.parent y b in
      let apart : j ≡ i → ⊥ = λ z. omega (arith, z, beside.0) in
      let both_kind : (z : ℕ) → lets t.new.kind z ≡ true = λ z. ⊎_elim (λ s. ap (λ k. lets k z) (t.linked s) ∙ both_lets i j i (j + 1) z) (λ s. ap (λ k. lets k z) (t.kept s)) (same_or j p) in
      let first : IsAbove after v j = subst (IsAbove after v) (w.moved e) (one_above after v w.new t.new w.there (ap (slice_get after) (w.moved e) ∙ t.there) (both_kind v)) in
      let up : t.new.parent ≡ x.parent = t.stays apart ∙ sym is_p in
      let second : IsAbove after j x.parent =
      subst (IsAbove after j) up (one_above after j t.new u.new t.there (ap (slice_get after) up ∙ u.there) (ap (λ k. lets k j) (u.linked is_p) ∙ lets_new y.kind i j (subst (λ z. lets y.kind z ≡ true) e l))) in
      above_all after v j x.parent first second)
      (λ off.
      let w = later v x a in
      let u = later x.parent y b in
      let up = w.stays off in
      subst (IsAbove after v) up (one_above after v w.new u.new w.there (ap (slice_get after) up ∙ u.there) (lets_later x.parent v y u off l)))
      (same_or v i)

pub length_lifted : (nodes : List Node) (i j : ℕ) → length (lifted nodes i j) ≡ length nodes
length_lifted nodes i j =
    let x = get_or nodes i nowhere in
    let below = slice_set nodes i (record { kind = x.kind; parent = j }) in
    let y = get_or below x.parent nowhere in
    length-set below x.parent (record { kind = relink y.kind i j; parent = y.parent }) ∙ length-set nodes i (record { kind = x.kind; parent = j })

pub hints_lifted : (nodes : List Node) (hints : List ℕ) (i j : ℕ) → IsBeside nodes i j → AreHints nodes hints → AreHints (lifted nodes i j) hints
hints_lifted nodes hints i j beside h = hints_on nodes (lifted nodes i j) hints (goes_lifted nodes i j beside) (length_lifted nodes i j) h

-- a node that lets nothing through can become any, which may move from now on
pub can_wake : (nodes nodes' : List Node) (q i : ℕ) (k l : Kind) → nodes' ≡ nodes → at nodes q i k → ((v : ℕ) → lets k v ≡ false) → CanWake nodes' i (record { kind = l; parent = q })
can_wake nodes nodes' q i k l is a none x e =
    let s : record { kind = k; parent = q } ≡ x = same_some _ x (sym a ∙ ap (λ z. slice_get z i) (sym is) ∙ e) in
    record { parent = ap Node.parent s; passes = λ v h. absurd (cc (sym (none v) ∙ ap (λ z. lets (Node.kind z) v) s ∙ h)) }

-- one that can't move
pub can_rest : (nodes nodes' : List Node) (q i : ℕ) (k l : Kind) → nodes' ≡ nodes → at nodes q i k → ((v : ℕ) → lets k v ≡ false) → restless l ≡ false → CanBecome nodes' i (record { kind = l; parent = q })
can_rest nodes nodes' q i k l is a none rests x e = (can_wake nodes nodes' q i k l is a none x e, λ h. absurd (cc (sym rests ∙ h)))

-- a token's node becomes one without a token
pub can_publish : (nodes nodes' : List Node) (q i s : ℕ) (k : Tip) (l : Kind) → nodes' ≡ nodes → at nodes q i (Leaf k) → Carries s k → restless l ≡ false → CanBecome nodes' i (record { kind = l; parent = q })
can_publish nodes nodes' q i s k l is a c rests = can_rest nodes nodes' q i (Leaf k) l is a (go k c) rests
  where
    go : (k : Tip) → Carries s k → (v : ℕ) → lets (Leaf k) v ≡ false
    go (Token m f e) c v = refl
    go (Bears m x) c v = refl
    go Gone c v = elim c [ ]
    go Ended c v = elim c [ ]
    go (Waits j) c v = elim c [ ]

-- an otherwise is left
pub can_pass : (nodes : List Node) (i : ℕ) → CanBecome nodes i (pass_node (get_or nodes i nowhere))
can_pass nodes i x e =
    let s = some_or nodes i nowhere x e in
    (record { parent = ap Node.parent s; passes = λ v h. go (Node.kind (get_or nodes i nowhere)) v (ap (λ z. lets (Node.kind z) v) s ∙ h) }, λ h. its (Node.kind (get_or nodes i nowhere)) h ∙ ap Node.kind s)
  where
    go : (k : Kind) (v : ℕ) → lets k v ≡ true → lets (pass_kind k) v ≡ true
    go (Leaf t) v h = h
    go (One (Feeds x g e) p) v h = h
    go (One (Entered m g e) p) v h = refl
    go (One Passed p) v h = h
    go (Two d p q) v h = h

    its : (k : Kind) → restless (pass_kind k) ≡ true → pass_kind k ≡ k
    its (Leaf t) h = refl
    its (One (Feeds x g e) p) h = refl
    its (One (Entered m g e) p) h = cc h
    its (One Passed p) h = refl
    its (Two d p q) h = refl

-- a node goes
pub can_go : (nodes : List Node) (i : ℕ) → CanBecome nodes i (record { kind = Leaf Gone; parent = Node.parent (get_or nodes i nowhere) })
can_go nodes i x e = (record { parent = ap Node.parent (some_or nodes i nowhere x e); passes = λ v h. refl }, λ h. cc h)

-- a pruning ends
pub can_end : (nodes : List Node) (i part q : ℕ) → q ≡ Node.parent (get_or nodes i nowhere) → CanBecome nodes i (record { kind = One Passed part; parent = q })
can_end nodes i part q is x e = (record { parent = is ∙ ap Node.parent (some_or nodes i nowhere x e); passes = λ v h. refl }, λ h. cc h)

pub parent_there : (nodes nodes' : List Node) (q i : ℕ) (k : Kind) → nodes' ≡ nodes → at nodes q i k → q ≡ Node.parent (get_or nodes' i nowhere)
parent_there nodes nodes' q i k is a = ap Node.parent (sym (some_or nodes' i nowhere _ (ap (λ z. slice_get z i) is ∙ a)))

-- a node with one part is there
pub one_in : (nodes : List Node) (i : ℕ) (s : Single) (p : ℕ) → Node.kind (get_or nodes i nowhere) ≡ One s p → i < length nodes
one_in [] i s p h = cc h
one_in (x ∷ nodes) zero s p h = omega arith
one_in (x ∷ nodes) (suc i) s p h = omega (arith, one_in nodes i s p h)
