-- The walk of a publication, node by node.
use Rattle.std.proofs.Common.{◌≡◌, ◌≤◌, ℕ, zero, suc, List, [], ◌∷◌, get_or, Option, Some, None, refl, sym, ap, ◌∙◌, subst, arith, Bool, true, false, cond, nat_eq, eq-eqb, inl, inr, ⊎_elim, ◌⊎◌}
use Rattle.std.proofs.lemmas.Bool.{ne_eqb, eqb-true}
use Rattle.std.specs.Prelude.{slice_get, slice_set, option_map}
use Rattle.orc_term.specs.declared.arena.Node.{Node}
use Rattle.orc_term.specs.declared.arena.Kind.{Kind}
use Rattle.orc_term.specs.declared.arena.Kind.TheVariants.{Leaf, One, Two}
use Rattle.orc_term.specs.declared.arena.Single.TheVariants.{Feeds, Entered, Passed}
use Rattle.orc_term.specs.declared.arena.Double.TheVariants.{Both, Side}
use Rattle.orc_term.specs.declared.walk.Taker.{Taker}
use Rattle.orc_term.specs.declared.walk.Taker.TheVariants.{Fed, Bound}
use Rattle.orc_term.specs.Arena.{Tree, leaf, one, two, place, count, hits, at, Holds, StandOnce, Frame, on_one, on_left, on_right, fit, plug}
use Rattle.orc_term.specs.Around.{place_of, above, around}
use Rattle.orc_term.specs.Rising.{takes, rest, under, risen, pass_kind, pass_node, nowhere, up, Stands, Passes}
use Rattle.orc_term.proofs.Trees.{hit, count-plug, holds-out, holds_kept, holds_replaced, once_replaced, living-most, place-plug}
use Rattle.orc_term.proofs.Lists.{get-set_same, get-set_other, living-set}

-- how many nodes it goes past
abbrev pub far : List Frame → ℕ
far [] = 0
far (on_one i (Feeds x g e) ∷ k) = 0
far (on_one i (Entered n g e) ∷ k) = suc (far k)
far (on_one i Passed ∷ k) = suc (far k)
far (on_left i d t ∷ k) = suc (far k)
far (on_right i Both t ∷ k) = suc (far k)
far (on_right i (Side c) t ∷ k) = 0

pub plug-under : (k : List Frame) (t : Tree) → plug (rest k) (under k t) ≡ plug k t
plug-under [] t = refl
plug-under (on_one i (Feeds x g e) ∷ k) t = refl
plug-under (on_one i (Entered n g e) ∷ k) t = plug-under k (one i (Entered n g e) t)
plug-under (on_one i Passed ∷ k) t = plug-under k (one i Passed t)
plug-under (on_left i d u ∷ k) t = plug-under k (two i d t u)
plug-under (on_right i Both u ∷ k) t = plug-under k (two i Both u t)
plug-under (on_right i (Side c) u ∷ k) t = refl

-- at the taker nothing is left to go past
pub near : (k : List Frame) (t : Tree) → far k ≡ 0 → (rest k ≡ k) × (risen k t ≡ t)
near [] t h = (refl, refl)
near (on_one i (Feeds x g e) ∷ k) t h = (refl, refl)
near (on_one i (Entered n g e) ∷ k) t h = absurd (omega (arith, h))
near (on_one i Passed ∷ k) t h = absurd (omega (arith, h))
near (on_left i d u ∷ k) t h = absurd (omega (arith, h))
near (on_right i Both u ∷ k) t h = absurd (omega (arith, h))
near (on_right i (Side c) u ∷ k) t h = (refl, refl)

pub itself : (t : Tree) → 1 ≤ count (place t) t
itself (leaf i k) = omega (arith, hit i)
itself (one i k t) = omega (arith, hit i)
itself (two i k t u) = omega (arith, hit i)

-- the root of a tree around a part stands around it
top : (f : Frame) (k : List Frame) (t : Tree) → 1 ≤ around (place (plug (f ∷ k) t)) (f ∷ k)
top (on_one i s) [] t = omega (arith, hit i)
top (on_left i d u) [] t = omega (arith, hit i)
top (on_right i d u) [] t = omega (arith, hit i)
top (on_one i s) (g ∷ k) t = omega (arith, top g k (one i s t))
top (on_left i d u) (g ∷ k) t = omega (arith, top g k (two i d t u))
top (on_right i d u) (g ∷ k) t = omega (arith, top g k (two i d u t))

module _ (nodes : List Node) (n : ℕ) where
  -- a part at the root is the whole
  pub at_root : (i : ℕ) (k : List Frame) (t : Tree) → Stands nodes n i k t → i ≡ 0 → k ≡ []
  at_root i [] t s e = refl
  at_root i (f ∷ k) t s e =
      let r : place (plug (f ∷ k) t) ≡ place t = s.root ∙ sym e ∙ sym s.there in
      absurd (omega (arith, itself t, top f k t, ap (λ z. around z (f ∷ k)) r, count-plug (place t) (f ∷ k) t, s.once (place t), living-most (slice_get nodes (place t))))

  pub not_root : (i : ℕ) (t : Tree) → Stands nodes n i [] t → i ≡ 0
  not_root i t s = sym s.there ∙ s.root

  pub slot : {p : ℕ} (t : Tree) → Holds nodes n p t → (k : Kind) × (slice_get nodes (place t) ≡ Some (record { kind = k; parent = p }))
  slot (leaf i k) h = (_, h.0)
  slot (one i k t) h = (_, h.0)
  slot (two i k t u) h = (_, h.0)

  pub of_some : {X Y : Type 0} → (X → Y) → Y → Option X → Y
  of_some f d (Some x) = f x
  of_some f d None = d

  pub get_or-some : {X : Type 0} (xs : List X) (i : ℕ) (d x : X) → slice_get xs i ≡ Some x → get_or xs i d ≡ x
  unfolding of_some
  get_or-some [] i d x h = cc h
  get_or-some (y ∷ xs) zero d x h = ap (of_some (λ z. z) d) h
  get_or-some (y ∷ xs) (suc i) d x h = get_or-some xs i d x h

  -- the node above a part
  pub parent_of : (i : ℕ) (f : Frame) (k : List Frame) (t : Tree) → Stands nodes n i (f ∷ k) t → Node.parent (get_or nodes i nowhere) ≡ place_of f
  parent_of i f k t s =
      let o = holds-out nodes n 0 (f ∷ k) t s.holds in
      let w = slot t o.1 in
      ap Node.parent (get_or-some nodes i nowhere _ (ap (slice_get nodes) (sym s.there) ∙ w.1))

  kind_of : (j : ℕ) (k : Kind) (p : ℕ) → at nodes p j k → Node.kind (get_or nodes j nowhere) ≡ k
  kind_of j k p a = ap Node.kind (get_or-some nodes j nowhere _ a)

  abbrev pub above_kind : ℕ → Kind
  above_kind i = Node.kind (get_or nodes (Node.parent (get_or nodes i nowhere)) nowhere)

  -- the next part on the way up
  pub record Onward (i : ℕ) (o : List Frame) (u : Tree) : Type 0 where
    pub context : List Frame
    pub part : Tree
    pub stands : Stands nodes n (Node.parent (get_or nodes i nowhere)) context part
    pub same : takes context ≡ takes o
    pub farther : far o ≡ suc (far context)

  abbrev pub Goes : Option Taker → ℕ → List Frame → Tree → Type 0
  Goes (Some r) i o u = (r ≡ takes o) × (far o ≡ 0)
  Goes None i o u = Onward i o u

  goes : (i : ℕ) (f : Frame) (k : List Frame) (u : Tree) → Stands nodes n i (f ∷ k) u → takes k ≡ takes (f ∷ k) → far (f ∷ k) ≡ suc (far k) → Onward i (f ∷ k) u
  goes i f k u s same more =
      record {
        context = k;
        part = fit f u;
        stands = record { holds = s.holds; once = s.once; there = is f ∙ sym (parent_of i f k u s); root = s.root };
        same = same;
        farther = more;
      }
    where
      is : (f : Frame) → place (fit f u) ≡ place_of f
      is (on_one j s) = refl
      is (on_left j d v) = refl
      is (on_right j d v) = refl

  -- two parts of one node differ
  pub differ : (i j : ℕ) (d : _) (v u : Tree) (k : List Frame) → Stands nodes n i (on_right j d v ∷ k) u → place v ≡ i → ⊥
  differ i j d v u k s e =
      omega (arith, itself u, itself v, ap (λ z. count z v) (e ∙ sym s.there), count-plug (place u) (on_right j d v ∷ k) u, s.once (place u), living-most (slice_get nodes (place u)))

  pub upward : (i : ℕ) (o : List Frame) (u : Tree) → Stands nodes n i o u → (i ≡ 0 → ⊥) → Goes (up (above_kind i) i (Node.parent (get_or nodes i nowhere))) i o u
  upward i [] u s off = absurd (off (not_root i u s))
  upward i (on_one j (Feeds x g e) ∷ k) u s off =
      let q = parent_of i (on_one j (Feeds x g e)) k u s in
      let h = holds-out nodes n 0 (on_one j (Feeds x g e) ∷ k) u s.holds in
      let w : above_kind i ≡ One (Feeds x g e) (place u) = ap (λ z. Node.kind (get_or nodes z nowhere)) q ∙ kind_of j (One (Feeds x g e) (place u)) (above 0 k) h.0.0 in
      subst (λ z. Goes (up z i (Node.parent (get_or nodes i nowhere))) i (on_one j (Feeds x g e) ∷ k) u) (sym w) (ap Fed q, refl)
  upward i (on_one j (Entered m g e) ∷ k) u s off =
      let h = holds-out nodes n 0 (on_one j (Entered m g e) ∷ k) u s.holds in
      let w : above_kind i ≡ One (Entered m g e) (place u) = ap (λ z. Node.kind (get_or nodes z nowhere)) (parent_of i (on_one j (Entered m g e)) k u s) ∙ kind_of j (One (Entered m g e) (place u)) (above 0 k) h.0.0 in
      subst (λ z. Goes (up z i (Node.parent (get_or nodes i nowhere))) i (on_one j (Entered m g e) ∷ k) u) (sym w) (goes i (on_one j (Entered m g e)) k u s refl refl)
  upward i (on_one j Passed ∷ k) u s off =
      let h = holds-out nodes n 0 (on_one j Passed ∷ k) u s.holds in
      let w : above_kind i ≡ One Passed (place u) = ap (λ z. Node.kind (get_or nodes z nowhere)) (parent_of i (on_one j Passed) k u s) ∙ kind_of j (One Passed (place u)) (above 0 k) h.0.0 in
      subst (λ z. Goes (up z i (Node.parent (get_or nodes i nowhere))) i (on_one j Passed ∷ k) u) (sym w) (goes i (on_one j Passed) k u s refl refl)
  upward i (on_left j Both v ∷ k) u s off =
      let h = holds-out nodes n 0 (on_left j Both v ∷ k) u s.holds in
      let w : above_kind i ≡ Two Both (place u) (place v) = ap (λ z. Node.kind (get_or nodes z nowhere)) (parent_of i (on_left j Both v) k u s) ∙ kind_of j (Two Both (place u) (place v)) (above 0 k) h.0.0 in
      subst (λ z. Goes (up z i (Node.parent (get_or nodes i nowhere))) i (on_left j Both v ∷ k) u) (sym w) (goes i (on_left j Both v) k u s refl refl)
  upward i (on_left j (Side c) v ∷ k) u s off =
      let h = holds-out nodes n 0 (on_left j (Side c) v ∷ k) u s.holds in
      let w : above_kind i ≡ Two (Side c) (place u) (place v) = ap (λ z. Node.kind (get_or nodes z nowhere)) (parent_of i (on_left j (Side c) v) k u s) ∙ kind_of j (Two (Side c) (place u) (place v)) (above 0 k) h.0.0 in
      let b : nat_eq (place u) i ≡ true = eq-eqb (place u) i s.there in
      subst (λ z. Goes (up z i (Node.parent (get_or nodes i nowhere))) i (on_left j (Side c) v ∷ k) u) (sym w)
      (subst (λ z. Goes (cond z None (Some (Bound c (Node.parent (get_or nodes i nowhere))))) i (on_left j (Side c) v ∷ k) u) (sym b) (goes i (on_left j (Side c) v) k u s refl refl))
  upward i (on_right j Both v ∷ k) u s off =
      let h = holds-out nodes n 0 (on_right j Both v ∷ k) u s.holds in
      let w : above_kind i ≡ Two Both (place v) (place u) = ap (λ z. Node.kind (get_or nodes z nowhere)) (parent_of i (on_right j Both v) k u s) ∙ kind_of j (Two Both (place v) (place u)) (above 0 k) h.0.0 in
      subst (λ z. Goes (up z i (Node.parent (get_or nodes i nowhere))) i (on_right j Both v ∷ k) u) (sym w) (goes i (on_right j Both v) k u s refl refl)
  upward i (on_right j (Side c) v ∷ k) u s off =
      let h = holds-out nodes n 0 (on_right j (Side c) v ∷ k) u s.holds in
      let w : above_kind i ≡ Two (Side c) (place v) (place u) = ap (λ z. Node.kind (get_or nodes z nowhere)) (parent_of i (on_right j (Side c) v) k u s) ∙ kind_of j (Two (Side c) (place v) (place u)) (above 0 k) h.0.0 in
      let b : nat_eq (place v) i ≡ false = ne_eqb (place v) i (λ e. differ i j (Side c) v u k s e) in
      subst (λ z. Goes (up z i (Node.parent (get_or nodes i nowhere))) i (on_right j (Side c) v ∷ k) u) (sym w)
      (subst (λ z. Goes (cond z None (Some (Bound c (Node.parent (get_or nodes i nowhere))))) i (on_right j (Side c) v ∷ k) u) (sym b) (ap (λ z. Bound c z) (parent_of i (on_right j (Side c) v) k u s), refl))

set-same : {X : Type 0} (xs : List X) (i : ℕ) (x : X) → slice_get xs i ≡ Some x → slice_set xs i x ≡ xs
set-same [] i x h = refl
set-same (y ∷ xs) zero x h = ap (λ z. z ∷ xs) (sym (ap (λ o. or_else y o) h))
  where
    or_else : {X : Type 0} → X → Option X → X
    or_else d (Some z) = z
    or_else d None = d
set-same (y ∷ xs) (suc i) x h = ap (λ z. y ∷ z) (set-same xs i x h)

-- one node is gone past
module _ (nodes : List Node) (n : ℕ) where
  pub record Raised (nodes' : List Node) (i : ℕ) (o : List Frame) (u : Tree) (j : ℕ) : Type 0 where
    pub context : List Frame
    pub part : Tree
    pub stands : Stands nodes' n j context part
    pub farther : far o ≡ suc (far context)
    pub rest_same : rest context ≡ rest o
    pub risen_same : risen context part ≡ risen o u

  abbrev pub passed_at : ℕ → List Node
  passed_at j = slice_set nodes j (pass_node (get_or nodes j nowhere))

  -- where the node stays as it is
  stays : (i : ℕ) (f : Frame) (k : List Frame) (u : Tree) (x : Node) (j : ℕ) → Stands nodes n i (f ∷ k) u → j ≡ place_of f → slice_get nodes j ≡ Some x → pass_node x ≡ x → place (fit f u) ≡ place_of f → far (f ∷ k) ≡ suc (far k) → rest k ≡ rest (f ∷ k) → risen k (fit f u) ≡ risen (f ∷ k) u → Raised (passed_at j) i (f ∷ k) u j
  stays i f k u x j s is a same there more rest_same risen_same =
      let e : get_or nodes j nowhere ≡ x = get_or-some nodes n nodes j nowhere x a in
      let w : nodes ≡ passed_at j = sym (ap (λ z. slice_set nodes j z) (ap pass_node e ∙ same) ∙ set-same nodes j x a) in
      record {
        context = k;
        part = fit f u;
        stands = subst (λ z. Stands z n j k (fit f u)) w (record { holds = s.holds; once = s.once; there = there ∙ sym is; root = s.root });
        farther = more;
        rest_same = rest_same;
        risen_same = risen_same;
      }

  pub raised : (i : ℕ) (o : List Frame) (u : Tree) (m : ℕ) → Stands nodes n i o u → far o ≡ suc m → Raised (passed_at (Node.parent (get_or nodes i nowhere))) i o u (Node.parent (get_or nodes i nowhere))
  raised i [] u m s h = absurd (omega (arith, h))
  raised i (on_one j (Feeds x g e) ∷ k) u m s h = absurd (omega (arith, h))
  raised i (on_right j (Side c) v ∷ k) u m s h = absurd (omega (arith, h))
  raised i (on_one j Passed ∷ k) u m s h =
      let a = (holds-out nodes n 0 (on_one j Passed ∷ k) u s.holds).0.0 in
      let q = parent_of nodes n i (on_one j Passed) k u s in
      stays i (on_one j Passed) k u _ _ s q (ap (slice_get nodes) q ∙ a) refl refl refl refl refl
  raised i (on_left j d v ∷ k) u m s h =
      let a = (holds-out nodes n 0 (on_left j d v ∷ k) u s.holds).0.0 in
      let q = parent_of nodes n i (on_left j d v) k u s in
      stays i (on_left j d v) k u _ _ s q (ap (slice_get nodes) q ∙ a) refl refl refl refl refl
  raised i (on_right j Both v ∷ k) u m s h =
      let a = (holds-out nodes n 0 (on_right j Both v ∷ k) u s.holds).0.0 in
      let q = parent_of nodes n i (on_right j Both v) k u s in
      stays i (on_right j Both v) k u _ _ s q (ap (slice_get nodes) q ∙ a) refl refl refl refl refl
  raised i (on_one j (Entered w g e) ∷ k) u m s h =
      let o = holds-out nodes n 0 (on_one j (Entered w g e) ∷ k) u s.holds in
      let q = parent_of nodes n i (on_one j (Entered w g e)) k u s in
      let was : Node = record { kind = One (Entered w g e) (place u); parent = above 0 k } in
      let new : Node = record { kind = One Passed (place u); parent = above 0 k } in
      let nodes' = slice_set nodes j new in
      let r : get_or nodes j nowhere ≡ was = get_or-some nodes n nodes j nowhere was o.0.0 in
      let same : (z : ℕ) (x : Node) → (z ≡ j → ⊥) → slice_get nodes z ≡ Some x → slice_get nodes' z ≡ Some x = λ z x off a. get-set_other nodes j z new off ∙ a in
      let off_part : (z : ℕ) → 1 ≤ count z u → z ≡ j → ⊥ =
      λ z a b. omega (arith, a, hit j, ap (λ y. hits y j) b, count-plug z (on_one j (Entered w g e) ∷ k) u, s.once z, living-most (slice_get nodes z)) in
      let inner : Holds nodes' n j u = holds_kept nodes nodes' n n (omega arith) u j (λ z x a b. same z x (off_part z a) b) o.1 in
      let whole : Holds nodes' n 0 (plug k (one j Passed u)) =
      holds_replaced nodes nodes' n n 0 (omega arith) k (one j (Entered w g e) u) (one j Passed u) s.once s.holds refl
      (λ z x a b. same z x (λ y. omega (arith, a, hit j, ap (λ v. hits v j) y)) b)
      (get-set_same nodes j new was o.0.0, tt, inner) in
      let once : StandOnce nodes' (plug k (one j Passed u)) =
      once_replaced nodes nodes' n n 0 (omega arith) k (one j (Entered w g e) u) (one j Passed u) s.once
      (λ z. omega (arith, living-set nodes j z new was o.0.0 refl)) in
      let back : slice_set nodes j new ≡ passed_at (Node.parent (get_or nodes i nowhere)) = ap (λ z. slice_set nodes j z) (sym (ap pass_node r)) ∙ ap passed_at (sym q) in
      record {
        context = k;
        part = one j Passed u;
        stands = subst (λ z. Stands z n (Node.parent (get_or nodes i nowhere)) k (one j Passed u)) back
            (record { holds = whole; once = once; there = sym q; root = place-plug k (one j Passed u) (one j (Entered w g e) u) refl ∙ s.root });
        farther = refl;
        rest_same = refl;
        risen_same = refl;
      }

pass-twice : (x : Node) → pass_node (pass_node x) ≡ pass_node x
pass-twice x = λ j. record { kind = go x.kind j; parent = x.parent }
  where
    go : (k : Kind) → pass_kind (pass_kind k) ≡ pass_kind k
    go (Leaf t) = refl
    go (One (Entered n g e) i) = refl
    go (One (Feeds x g e) i) = refl
    go (One Passed i) = refl
    go (Two d i j) = refl

set-at : (xs : List Node) (i : ℕ) → slice_get (slice_set xs i (pass_node (get_or xs i nowhere))) i ≡ option_map pass_node (slice_get xs i)
set-at [] i = refl
set-at (y ∷ xs) zero = refl
set-at (y ∷ xs) (suc i) = set-at xs i

-- one more node is passed
pub passes_on : (nodes nodes' nodes'' : List Node) (j : ℕ) → Passes nodes nodes' → nodes'' ≡ slice_set nodes' j (pass_node (get_or nodes' j nowhere)) → Passes nodes nodes''
passes_on nodes nodes' nodes'' j by is u = ⊎_elim here_is (λ off. subst (λ z. (z ≡ slice_get nodes u) ⊎ (z ≡ option_map pass_node (slice_get nodes u))) (sym (ap (λ z. slice_get z u) is ∙ get-set_other nodes' j u _ off)) (by u)) (same_or u j)
  where
    twice : (o : Option Node) → option_map pass_node (option_map pass_node o) ≡ option_map pass_node o
    twice None = refl
    twice (Some x) = ap Some (pass-twice x)

    same_or : (a b : ℕ) → (a ≡ b) ⊎ (a ≡ b → ⊥)
    same_or a b = go (nat_eq a b) refl
      where
        go : (c : Bool) → nat_eq a b ≡ c → (a ≡ b) ⊎ (a ≡ b → ⊥)
        go true e = inl (eqb-true a b e)
        go false e = inr (λ h. absurd (cc (sym e ∙ eq-eqb a b h)))

    here_is : u ≡ j → (slice_get nodes'' u ≡ slice_get nodes u) ⊎ (slice_get nodes'' u ≡ option_map pass_node (slice_get nodes u))
    here_is e =
        let w : slice_get nodes'' u ≡ option_map pass_node (slice_get nodes' u) = ap (λ z. slice_get z u) is ∙ ap (λ z. slice_get (slice_set nodes' z (pass_node (get_or nodes' z nowhere))) u) (sym e) ∙ set-at nodes' u in
        inr (w ∙ ⊎_elim (λ b. ap (option_map pass_node) b) (λ b. ap (option_map pass_node) b ∙ twice (slice_get nodes u)) (by u))
