-- A `>x>` takes what is published: a `|` comes above it, with its right side beside it.
use Rattle.std.proofs.Common.{◌≡◌, ◌≤◌, ◌<◌, ◌+◌, ℕ, List, [], ◌∷◌, ◌++◌, length, Some, refl, sym, ap, ◌∙◌, subst, arith, length-append, length-set, cond, eq-eqb, get_or}
use Rattle.std.proofs.lemmas.Bool.{ne_eqb}
use Rattle.std.proofs.lemmas.List.{get_or_append_left, set-append_left}
use Rattle.std.specs.Prelude.{slice_get, slice_set}
use Rattle.orc_term.specs.declared.arena.Node.{Node}
use Rattle.orc_term.specs.declared.arena.Tip.{Tip}
use Rattle.orc_term.specs.declared.arena.Single.{Single}
use Rattle.orc_term.specs.declared.arena.Kind.{Kind}
use Rattle.orc_term.specs.declared.arena.Kind.TheVariants.{Leaf, One, Two}
use Rattle.orc_term.specs.declared.arena.Double.TheVariants.{Both}
use Rattle.orc_term.specs.Arena.{Tree, leaf, one, two, place, count, hits, at, TipIn, SingleIn, Holds, living_kind, StandOnce, Frame, on_one, on_left, on_right, fit, plug}
use Rattle.orc_term.specs.Around.{place_of, above}
use Rattle.orc_term.specs.Grafting.{relink, grafted, Grafts}
use Rattle.orc_term.specs.Hints.{IsBeside, lifted}
use Rattle.orc_term.proofs.Trees.{hit, count-plug, holds-out, holds_kept, single_in, holds_replaced, once_replaced, living-most, node}
use Rattle.orc_term.proofs.Lists.{get-set_same, get-set_other, get-append, get-end, living-set, living-push}
use Rattle.orc_term.proofs.Hints.{some_in}
use Rattle.orc_term.specs.Rising.{nowhere}
use Rattle.orc_term.proofs.Rising.{itself, get_or-some}

-- the kind of a part's own node
abbrev pub own_kind : Tree → Kind
own_kind (leaf i k) = Leaf k
own_kind (one i k t) = One k (place t)
own_kind (two i k t u) = Two k (place t) (place u)

pub own : (nodes : List Node) (n p : ℕ) (t : Tree) → Holds nodes n p t → at nodes p (place t) (own_kind t)
own nodes n p (leaf i k) h = h.0
own nodes n p (one i k t) h = h.0
own nodes n p (two i k t u) h = h.0

-- the kind of a frame's own node, where the part in it stands at place i
abbrev pub frame_kind : Frame → ℕ → Kind
frame_kind (on_one j s) i = One s i
frame_kind (on_left j d v) i = Two d i (place v)
frame_kind (on_right j d v) i = Two d (place v) i

-- what hangs below a frame beside the part
abbrev pub Beside : List Node → ℕ → Frame → Type 0
Beside nodes n (on_one j s) = SingleIn n s
Beside nodes n (on_left j d v) = Holds nodes n j v
Beside nodes n (on_right j d v) = Holds nodes n j v

abbrev pub count_beside : ℕ → Frame → ℕ
count_beside u (on_one j s) = 0
count_beside u (on_left j d v) = count u v
count_beside u (on_right j d v) = count u v

pub fit-out : (nodes : List Node) (n q : ℕ) (f : Frame) (t : Tree) → Holds nodes n q (fit f t) → at nodes q (place_of f) (frame_kind f (place t)) × Beside nodes n f × Holds nodes n (place_of f) t
fit-out nodes n q (on_one j s) t h = (h.0, h.1, h.2)
fit-out nodes n q (on_left j d v) t h = (h.0, h.2, h.1)
fit-out nodes n q (on_right j d v) t h = (h.0, h.1, h.2)

pub fit-in : (nodes : List Node) (n q : ℕ) (f : Frame) (t : Tree) → at nodes q (place_of f) (frame_kind f (place t)) → Beside nodes n f → Holds nodes n (place_of f) t → Holds nodes n q (fit f t)
fit-in nodes n q (on_one j s) t a b h = (a, b, h)
fit-in nodes n q (on_left j d v) t a b h = (a, h, b)
fit-in nodes n q (on_right j d v) t a b h = (a, b, h)

pub count-fit : (u : ℕ) (f : Frame) (t : Tree) → count u (fit f t) ≡ hits u (place_of f) + (count_beside u f + count u t)
count-fit u (on_one j s) t = omega arith
count-fit u (on_left j d v) t = omega arith
count-fit u (on_right j d v) t = omega arith

pub place-fit : (f : Frame) (t : Tree) → place (fit f t) ≡ place_of f
place-fit (on_one j s) t = refl
place-fit (on_left j d v) t = refl
place-fit (on_right j d v) t = refl

beside_kept : (nodes nodes' : List Node) (n n' : ℕ) (grows : n ≤ n') (f : Frame) → ((u : ℕ) (x : Node) → 1 ≤ count_beside u f → slice_get nodes u ≡ Some x → slice_get nodes' u ≡ Some x) → Beside nodes n f → Beside nodes' n' f
beside_kept nodes nodes' n n' grows (on_one j s) same h = single_in nodes nodes' n n' grows s h
beside_kept nodes nodes' n n' grows (on_left j d v) same h = holds_kept nodes nodes' n n' grows v j same h
beside_kept nodes nodes' n n' grows (on_right j d v) same h = holds_kept nodes nodes' n n' grows v j same h

-- the part of a frame gets another number
relinked : (f : Frame) (i m : ℕ) → ((v : Tree) (j : ℕ) (d : _) → f ≡ on_right j d v → place v ≡ i → ⊥) → relink (frame_kind f i) i m ≡ frame_kind f m
relinked (on_one j s) i m off = refl
relinked (on_left j d v) i m off = ap (λ b. cond b (Two d m (place v)) (Two d i m)) (eq-eqb i i refl)
relinked (on_right j d v) i m off = ap (λ b. cond b (Two d m i) (Two d (place v) m)) (ne_eqb (place v) i (off v j d refl))

frame_lives : (f : Frame) (i : ℕ) → living_kind (frame_kind f i) ≡ 1
frame_lives (on_one j s) i = refl
frame_lives (on_left j d v) i = refl
frame_lives (on_right j d v) i = refl

module _ (nodes : List Node) (n n' : ℕ) (grows : n ≤ n') (i : ℕ) (s : Single) (l : Tip) (lives : living_kind (Leaf l) ≡ 1) (l_in : TipIn n' l) (f : Frame) (o : List Frame) (u : Tree) (holds : Holds nodes n 0 (plug (on_one i s ∷ f ∷ o) u)) (once : StandOnce nodes (plug (on_one i s ∷ f ∷ o) u)) where
  abbrev m : ℕ
  m = length nodes

  abbrev q : ℕ
  q = place_of f

  abbrev old : Tree
  old = one i s u

  abbrev new : Tree
  new = two m Both (one i s u) (leaf (m + 1) l)

  abbrev above_node : Node
  above_node = node (frame_kind f m) (above 0 o)

  abbrev own_node : Node
  own_node = node (One s (place u)) m

  abbrev first : List Node
  first = slice_set (slice_set nodes i own_node) q above_node

  abbrev second : List Node
  second = first ++ node (Two Both i (m + 1)) q ∷ []

  abbrev pub graft_nodes : List Node
  graft_nodes = second ++ node (Leaf l) m ∷ []

  out : Holds nodes n (above 0 o) (fit f old)
  out = (holds-out nodes n 0 o (fit f old) holds).1

  pub parts : at nodes (above 0 o) q (frame_kind f i) × Beside nodes n f × Holds nodes n q old
  parts = fit-out nodes n (above 0 o) f old out

  most : (z : ℕ) → hits z q + (count_beside z f + (hits z i + count z u)) ≤ 1
  most z = omega (arith, once z, count-plug z o (fit f old), count-fit z f old, living-most (slice_get nodes z))

  pub apart : i ≡ q → ⊥
  apart h = omega (arith, most q, hit q, ap (λ z. hits q z) h)

  len_first : length first ≡ length nodes
  len_first = length-set (slice_set nodes i own_node) q above_node ∙ length-set nodes i own_node

  len_second : length second ≡ length nodes + 1
  len_second = omega (arith, len_first, length-append first (node (Two Both i (m + 1)) q ∷ []))

  in_first : (z : ℕ) (y : Node) → slice_get first z ≡ Some y → slice_get graft_nodes z ≡ Some y
  in_first z y h = get-append second _ z y (get-append first _ z y h)

  kept : (z : ℕ) (y : Node) → (z ≡ q → ⊥) → (z ≡ i → ⊥) → slice_get nodes z ≡ Some y → slice_get graft_nodes z ≡ Some y
  kept z y off off' h = in_first z y (get-set_other (slice_set nodes i own_node) q z above_node off ∙ get-set_other nodes i z own_node off' ∙ h)

  off_both : (z : ℕ) → 1 ≤ count_beside z f + count z u → (z ≡ q → ⊥) × (z ≡ i → ⊥)
  off_both z h = (λ e. omega (arith, h, most z, hit q, ap (λ v. hits v q) e), λ e. omega (arith, h, most z, hit i, ap (λ v. hits v i) e))

  pub graft_at_q : at graft_nodes (above 0 o) q (frame_kind f m)
  graft_at_q = in_first q above_node (get-set_same (slice_set nodes i own_node) q above_node _ (get-set_other nodes i q own_node (λ h. apart (sym h)) ∙ parts.0))

  there_i : at nodes q i (One s (place u))
  there_i = parts.2.0

  pub holds_graft : Holds graft_nodes n' 0 (plug (f ∷ o) new)
  holds_graft =
      holds_replaced nodes graft_nodes n n' 0 grows o (fit f old) (fit f new) once holds (place-fit f new ∙ sym (place-fit f old))
      (λ z y h e. kept z y (λ b. omega (arith, h, count-fit z f old, hit q, ap (λ v. hits v q) b)) (λ b. omega (arith, h, count-fit z f old, hit i, ap (λ v. hits v i) b)) e)
      (
      fit-in graft_nodes n' (above 0 o) f new graft_at_q
      (beside_kept nodes graft_nodes n n' grows f (λ z y h e. let b = off_both z (omega (arith, h)) in kept z y b.0 b.1 e) parts.1) (
        get-append second _ m _ (get-end first _ m (sym len_first)),
        (
          in_first i own_node (get-set_other (slice_set nodes i own_node) q i above_node apart ∙ get-set_same nodes i own_node _ there_i),
          single_in nodes graft_nodes n n' grows s parts.2.1,
          holds_kept nodes graft_nodes n n' grows u i (λ z y h e. let b = off_both z (omega (arith, h)) in kept z y b.0 b.1 e) parts.2.2,
        ),
        (get-end second _ (m + 1) (sym len_second), l_in),
      )
      )

  pub once_graft : StandOnce graft_nodes (plug (f ∷ o) new)
  once_graft =
      once_replaced nodes graft_nodes n n' 0 grows o (fit f old) (fit f new) once
      (λ z. omega (
        arith,
        count-fit z f old,
        count-fit z f new,
        living-set nodes i z own_node _ there_i refl,
        living-set (slice_set nodes i own_node) q z above_node _ (get-set_other nodes i q own_node (λ h. apart (sym h)) ∙ parts.0) (frame_lives f m ∙ sym (frame_lives f i)),
        living-push first z (node (Two Both i (m + 1)) q) refl,
        living-push second z (node (Leaf l) m) lives,
        ap (λ v. hits z v) len_first,
        ap (λ v. hits z v) len_second,
      ))

-- the nodes with the two new ones, before node i goes below the first of them
abbrev pub extended : List Node → ℕ → Tip → List Node
extended nodes i l = (nodes ++ node (Two Both i (length nodes + 1)) (Node.parent (get_or nodes i nowhere)) ∷ []) ++ node (Leaf l) (length nodes) ∷ []

pub beside_there : (nodes : List Node) (i : ℕ) (l : Tip) → i < length nodes → IsBeside (extended nodes i l) i (length nodes)
beside_there nodes i l lt =
    let b = node (Two Both i (length nodes + 1)) (Node.parent (get_or nodes i nowhere)) in
    let first = nodes ++ b ∷ [] in
    let kept : get_or (extended nodes i l) i nowhere ≡ get_or nodes i nowhere =
    get_or_append_left first (node (Leaf l) (length nodes) ∷ []) nowhere i (omega (arith, lt, length-append nodes (b ∷ []))) ∙ get_or_append_left nodes (b ∷ []) nowhere i lt in (
      lt,
      get-append first _ (length nodes) b (get-end nodes (b ∷ []) (length nodes) refl) ∙ ap (λ z. Some (node (Two Both i (length nodes + 1)) (Node.parent z))) (sym kept),
    )

-- node i has gone below node j, where it was this one
abbrev lifted_by : List Node → ℕ → ℕ → Node → List Node
lifted_by nodes i j x =
    let below = slice_set nodes i (node (Node.kind x) j) in
    let y = get_or below (Node.parent x) nowhere in
    slice_set below (Node.parent x) (node (relink (Node.kind y) i j) (Node.parent y))

pub grafts : (nodes : List Node) (i : ℕ) (l : Tip) (nodes' : List Node) → nodes' ≡ lifted (extended nodes i l) i (length nodes) → Grafts nodes i l nodes'
grafts nodes i l nodes' is n n' s f o u grows lives l_in holds once =
    let m = length nodes in
    let q = place_of f in
    let at_parts = parts nodes n n' grows i s l lives l_in f o u holds once in
    let off = apart nodes n n' grows i s l lives l_in f o u holds once in
    let own_is = at_parts.2.0 in
    let t : get_or nodes i nowhere ≡ node (One s (place u)) q = get_or-some nodes n nodes i nowhere _ own_is in
    let b = node (Two Both i (m + 1)) (Node.parent (get_or nodes i nowhere)) in
    let c = node (Leaf l) m in
    let all = extended nodes i l in
    let own = node (One s (place u)) m in
    let top = node (frame_kind f m) (above 0 o) in
    let low = slice_set nodes i own in
    let in_i : i < m = some_in nodes i _ own_is in
    let in_q : q < length low = omega (arith, some_in nodes q _ at_parts.0, length-set nodes i own) in
    let t_all : get_or all i nowhere ≡ node (One s (place u)) q = get_or-some nodes n all i nowhere _ (get-append (nodes ++ b ∷ []) (c ∷ []) i _ (get-append nodes (b ∷ []) i _ own_is)) in
    let below : slice_set all i own ≡ (low ++ b ∷ []) ++ c ∷ [] =
    set-append_left (nodes ++ b ∷ []) (c ∷ []) i own (omega (arith, in_i, length-append nodes (b ∷ []))) ∙ ap (λ z. z ++ c ∷ []) (set-append_left nodes (b ∷ []) i own in_i) in
    let q_low : slice_get low q ≡ Some (node (frame_kind f i) (above 0 o)) = get-set_other nodes i q own (λ e. off (sym e)) ∙ at_parts.0 in
    let w : get_or ((low ++ b ∷ []) ++ c ∷ []) q nowhere ≡ node (frame_kind f i) (above 0 o) = get_or-some nodes n ((low ++ b ∷ []) ++ c ∷ []) q nowhere _ (get-append (low ++ b ∷ []) (c ∷ []) q _ (get-append low (b ∷ []) q _ q_low)) in
    let r = relinked f i m (λ v j d e h. omega (arith, itself v, ap (λ z. count z v) h, ap (λ z. count_beside i z) e, hit i, once i, count-plug i o (fit f (one i s u)), count-fit i f (one i s u), living-most (slice_get nodes i))) in
    let over : slice_set ((low ++ b ∷ []) ++ c ∷ []) q top ≡ (slice_set low q top ++ b ∷ []) ++ c ∷ [] =
    set-append_left (low ++ b ∷ []) (c ∷ []) q top (omega (arith, in_q, length-append low (b ∷ []))) ∙ ap (λ z. z ++ c ∷ []) (set-append_left low (b ∷ []) q top in_q) in
    let same : nodes' ≡ graft_nodes nodes n n' grows i s l lives l_in f o u holds once =
    is ∙ ap (lifted_by all i m) t_all
    ∙ ap (λ z. let y = get_or z q nowhere in slice_set z q (node (relink (Node.kind y) i m) (Node.parent y))) below
    ∙ ap (λ y. slice_set ((low ++ b ∷ []) ++ c ∷ []) q (node (relink (Node.kind y) i m) (Node.parent y))) w
    ∙ ap (λ k. slice_set ((low ++ b ∷ []) ++ c ∷ []) q (node k (above 0 o))) r
    ∙ over ∙ ap (λ z. (slice_set low q top ++ node (Two Both i (m + 1)) z ∷ []) ++ c ∷ []) (ap Node.parent t) in (
      subst (λ z. Holds z n' 0 (plug (f ∷ o) (grafted nodes i s u l))) (sym same) (holds_graft nodes n n' grows i s l lives l_in f o u holds once),
      subst (λ z. StandOnce z (plug (f ∷ o) (grafted nodes i s u l))) (sym same) (once_graft nodes n n' grows i s l lives l_in f o u holds once),
    )
