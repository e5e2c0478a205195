-- What a change of the nodes and of their flags leaves of the candidates.
use Rattle.std.proofs.Common.{◌≡◌, ◌<◌, ◌≤◌, ◌+◌, ℕ, zero, suc, List, [], ◌∷◌, ◌++◌, length, get_or, Option, Some, None, refl, sym, ap, ◌∙◌, subst, inl, inr, ◌⊎◌, ⊎_elim, arith, Bool, true, false, cond, nat_eq, eqb-true, length-append, length-set}
use Rattle.std.proofs.Math.Seq.{get_or-append_seam}
use Rattle.std.proofs.lemmas.List.{get_or_append_left}
use Rattle.std.specs.Prelude.{slice_get, slice_set, option_map, ◌&&◌}
use Rattle.orc_rules.specs.Timed.{IsIn}
use Rattle.orc_term.specs.declared.arena.Node.{Node}
use Rattle.orc_term.specs.declared.arena.Kind.{Kind}
use Rattle.orc_term.specs.declared.arena.Kind.TheVariants.{Leaf, One, Two}
use Rattle.orc_term.specs.declared.arena.Single.TheVariants.{Feeds, Entered, Passed}
use Rattle.orc_term.specs.declared.arena.Double.TheVariants.{Both, Side}
use Rattle.orc_term.specs.Grafting.{relink}
use Rattle.orc_term.specs.Hints.{CanBecome, CanWake, lifted}
use Rattle.orc_term.specs.Rising.{nowhere, pass_kind, pass_node, Passes}
use Rattle.orc_term.specs.Settling.{kind_at, parent_at}
use Rattle.orc_term.specs.Sides.{Places, MayBe, is_side, is_side_at, is_set, has_ended, HasEnded, AreKnown, NoNewSides, AreFlagged}
use Rattle.orc_term.proofs.Hints.{some_or}

-- a kind of which none of the first n parts is a side
abbrev pub HasNone : ℕ → Kind → Type 0
HasNone n k = (p : ℕ) → p < n → is_side k p ≡ false

pub less_or : (a b : ℕ) → (a < b) ⊎ (b ≤ a)
less_or zero zero = inr (omega arith)
less_or zero (suc b) = inl (omega arith)
less_or (suc a) zero = inr (omega arith)
less_or (suc a) (suc b) = ⊎_elim (λ (l : a < b). inl (omega (arith, l))) (λ (l : b ≤ a). inr (omega (arith, l))) (less_or a b)

-- what stands at a place that is written
set_parent : (nodes : List Node) (i p : ℕ) (y : Node) → ((x : Node) → slice_get nodes i ≡ Some x → y.parent ≡ x.parent) → parent_at (slice_set nodes i y) p ≡ parent_at nodes p
set_parent [] i p y f = refl
set_parent (x ∷ nodes) zero zero y f = f x refl
set_parent (x ∷ nodes) zero (suc p) y f = refl
set_parent (x ∷ nodes) (suc i) zero y f = refl
set_parent (x ∷ nodes) (suc i) (suc p) y f = set_parent nodes i p y f

moved_parent : (nodes : List Node) (i p : ℕ) (y : Node) → (parent_at (slice_set nodes i y) p ≡ parent_at nodes p) ⊎ ((p ≡ i) × (parent_at (slice_set nodes i y) p ≡ y.parent))
moved_parent [] i p y = inl refl
moved_parent (x ∷ nodes) zero zero y = inr (refl, refl)
moved_parent (x ∷ nodes) zero (suc p) y = inl refl
moved_parent (x ∷ nodes) (suc i) zero y = inl refl
moved_parent (x ∷ nodes) (suc i) (suc p) y = ⊎_elim (λ e. inl e) (λ w. inr (ap suc w.0, w.1)) (moved_parent nodes i p y)

set_kind : (nodes : List Node) (i j : ℕ) (y : Node) → (kind_at (slice_set nodes i y) j ≡ kind_at nodes j) ⊎ ((j ≡ i) × (kind_at (slice_set nodes i y) j ≡ y.kind))
set_kind [] i j y = inl refl
set_kind (x ∷ nodes) zero zero y = inr (refl, refl)
set_kind (x ∷ nodes) zero (suc j) y = inl refl
set_kind (x ∷ nodes) (suc i) zero y = inl refl
set_kind (x ∷ nodes) (suc i) (suc j) y = ⊎_elim (λ e. inl e) (λ w. inr (ap suc w.0, w.1)) (set_kind nodes i j y)

kept_kind : (nodes : List Node) (i j : ℕ) (y : Node) → ((x : Node) → slice_get nodes i ≡ Some x → y.kind ≡ x.kind) → kind_at (slice_set nodes i y) j ≡ kind_at nodes j
kept_kind [] i j y f = refl
kept_kind (x ∷ nodes) zero zero y f = f x refl
kept_kind (x ∷ nodes) zero (suc j) y f = refl
kept_kind (x ∷ nodes) (suc i) zero y f = refl
kept_kind (x ∷ nodes) (suc i) (suc j) y f = kept_kind nodes i j y f

kind_more : (nodes : List Node) (j : ℕ) (y : Node) → (kind_at (nodes ++ y ∷ []) j ≡ kind_at nodes j) ⊎ (kind_at (nodes ++ y ∷ []) j ≡ y.kind)
kind_more [] zero y = inr refl
kind_more [] (suc j) y = inl refl
kind_more (x ∷ nodes) zero y = inl refl
kind_more (x ∷ nodes) (suc j) y = kind_more nodes j y

pub sides_same : (n : ℕ) (nodes nodes' : List Node) → nodes' ≡ nodes → NoNewSides n nodes nodes'
sides_same n nodes nodes' is = record { before = λ p lt s. ap (λ z. is_side_at z p) (sym is) ∙ s }

pub sides_on : (n : ℕ) (a b c : List Node) → NoNewSides n a b → NoNewSides n b c → NoNewSides n a c
sides_on n a b c f g = record { before = λ p lt s. f.before p lt (g.before p lt s) }

-- where the parents stay and each kind stays or has no sides
stays : (n : ℕ) (nodes nodes' : List Node) (y : Kind) → HasNone n y → ((p : ℕ) → p < n → parent_at nodes' p ≡ parent_at nodes p) → ((j : ℕ) → (kind_at nodes' j ≡ kind_at nodes j) ⊎ (kind_at nodes' j ≡ y)) → NoNewSides n nodes nodes'
stays n nodes nodes' y none parents kinds =
    record {
      before = λ p lt s.
          let here : is_side (kind_at nodes' (parent_at nodes p)) p ≡ true = ap (λ z. is_side (kind_at nodes' z) p) (sym (parents p lt)) ∙ s in
          ⊎_elim (λ e. ap (λ z. is_side z p) (sym e) ∙ here) (λ e. absurd (cc (sym (none p lt) ∙ ap (λ z. is_side z p) (sym e) ∙ here))) (kinds (parent_at nodes p));
    }

-- a node is written
pub sides_woken : (n : ℕ) (nodes nodes' : List Node) (i : ℕ) (y : Node) → nodes' ≡ slice_set nodes i y → CanWake nodes i y → HasNone n y.kind → NoNewSides n nodes nodes'
sides_woken n nodes nodes' i y is can none =
    subst (NoNewSides n nodes) (sym is)
    (stays n nodes (slice_set nodes i y) y.kind none (λ p lt. set_parent nodes i p y (λ x e. (can x e).parent)) (λ j. ⊎_elim (λ e. inl e) (λ w. inr w.1) (set_kind nodes i j y)))

pub sides_written : (n : ℕ) (nodes nodes' : List Node) (i : ℕ) (y : Node) → nodes' ≡ slice_set nodes i y → CanBecome nodes i y → HasNone n y.kind → NoNewSides n nodes nodes'
sides_written n nodes nodes' i y is can none = sides_woken n nodes nodes' i y is (λ x e. (can x e).0) none

-- a node comes
pub sides_more : (n : ℕ) (nodes nodes' : List Node) (y : Node) → nodes' ≡ nodes ++ y ∷ [] → n ≤ length nodes → HasNone n y.kind → NoNewSides n nodes nodes'
sides_more n nodes nodes' y is le none =
    subst (NoNewSides n nodes) (sym is)
    (stays n nodes (nodes ++ y ∷ []) y.kind none (λ p lt. ap Node.parent (get_or_append_left nodes (y ∷ []) nowhere p (omega (arith, lt, le)))) (λ j. kind_more nodes j y))

relinked_side : (k : Kind) (i j p : ℕ) → p < j → is_side (relink k i j) p ≡ true → is_side k p ≡ true
relinked_side (Leaf t) i j p lt h = h
relinked_side (One (Feeds x g e) q) i j p lt h = h
relinked_side (One (Entered m g e) q) i j p lt h = let e : j ≡ p = eqb-true j p h in absurd (omega (arith, lt, e))
relinked_side (One Passed q) i j p lt h = h
relinked_side (Two Both q r) i j p lt h = go (nat_eq q i) h
  where
    go : (b : Bool) → is_side (cond b (Two Both j r) (Two Both q j)) p ≡ true → is_side (Two Both q r) p ≡ true
    go true h = h
    go false h = h
relinked_side (Two (Side c) q r) i j p lt h = go (nat_eq q i) h
  where
    go : (b : Bool) → is_side (cond b (Two (Side c) j r) (Two (Side c) q j)) p ≡ true → is_side (Two (Side c) q r) p ≡ true
    go true h = h
    go false h = let e : j ≡ p = eqb-true j p h in absurd (omega (arith, lt, e))

-- a node goes below another that has no sides
pub sides_lifted : (n : ℕ) (nodes nodes' : List Node) (i j : ℕ) → nodes' ≡ lifted nodes i j → n ≤ j → ((p : ℕ) → is_side (kind_at nodes j) p ≡ false) → NoNewSides n nodes nodes'
sides_lifted n nodes nodes' i j is le none = subst (NoNewSides n nodes) (sym is) (record { before = before })
  where
    before : (p : ℕ) → p < n → is_side_at (lifted nodes i j) p ≡ true → is_side_at nodes p ≡ true
    before p lt s =
        let x = get_or nodes i nowhere in
        let own : Node = record { kind = x.kind; parent = j } in
        let below = slice_set nodes i own in
        let y = get_or below x.parent nowhere in
        let top : Node = record { kind = relink y.kind i j; parent = y.parent } in
        let same : (q : ℕ) → kind_at below q ≡ kind_at nodes q = λ q. kept_kind nodes i q own (λ z e. ap Node.kind (some_or nodes i nowhere z e)) in
        let parents : parent_at (lifted nodes i j) p ≡ parent_at below p = set_parent below x.parent p top (λ z e. ap Node.parent (some_or below x.parent nowhere z e)) in
        let kinds : (q : ℕ) → is_side (kind_at (lifted nodes i j) q) p ≡ true → is_side (kind_at nodes q) p ≡ true =
        λ q h. ⊎_elim
        (λ e. ap (λ z. is_side z p) (sym (e ∙ same q)) ∙ h)
        (λ w. relinked_side (kind_at nodes q) i j p (omega (arith, lt, le)) (ap (λ z. is_side z p) (sym (w.1 ∙ ap (λ z. relink z i j) (ap (kind_at below) (sym w.0) ∙ same q))) ∙ h))
        (set_kind below x.parent q top) in
        let here : is_side (kind_at (lifted nodes i j) (parent_at below p)) p ≡ true = ap (λ z. is_side (kind_at (lifted nodes i j) z) p) (sym parents) ∙ s in
        ⊎_elim
        (λ e. kinds (parent_at nodes p) (ap (λ z. is_side (kind_at (lifted nodes i j) z) p) (sym e) ∙ here))
        (λ w. absurd (cc (sym (none p) ∙ kinds j (ap (λ z. is_side (kind_at (lifted nodes i j) z) p) (sym w.1) ∙ here))))
        (moved_parent nodes i p own)

abbrev or_nowhere : Option Node → Node
or_nowhere (Some x) = x
or_nowhere None = nowhere

read : (nodes : List Node) (u : ℕ) → get_or nodes u nowhere ≡ or_nowhere (slice_get nodes u)
read [] u = refl
read (x ∷ nodes) zero = refl
read (x ∷ nodes) (suc u) = read nodes u

passed_side : (k : Kind) (p : ℕ) → is_side (pass_kind k) p ≡ true → is_side k p ≡ true
passed_side (Leaf t) p h = h
passed_side (One (Feeds x g e) q) p h = h
passed_side (One (Entered m g e) q) p h = cc h
passed_side (One Passed q) p h = h
passed_side (Two d q r) p h = h

passed_parent : (o : Option Node) → Node.parent (or_nowhere (option_map pass_node o)) ≡ Node.parent (or_nowhere o)
passed_parent (Some x) = refl
passed_parent None = refl

passed_kind : (o : Option Node) (p : ℕ) → is_side (Node.kind (or_nowhere (option_map pass_node o))) p ≡ true → is_side (Node.kind (or_nowhere o)) p ≡ true
passed_kind (Some x) p h = passed_side x.kind p h
passed_kind None p h = h

-- otherwises are left
pub sides_passed : (n : ℕ) (nodes nodes' : List Node) → Passes nodes nodes' → NoNewSides n nodes nodes'
sides_passed n nodes nodes' f = record { before = λ p lt s. kinds (parent_at nodes p) p (ap (λ z. is_side (kind_at nodes' z) p) (sym (parents p)) ∙ s) }
  where
    parents : (p : ℕ) → parent_at nodes' p ≡ parent_at nodes p
    parents p = ap Node.parent (read nodes' p) ∙ ⊎_elim (λ e. ap (λ z. Node.parent (or_nowhere z)) e) (λ e. ap (λ z. Node.parent (or_nowhere z)) e ∙ passed_parent (slice_get nodes p)) (f p) ∙ sym (ap Node.parent (read nodes p))

    kinds : (q p : ℕ) → is_side (kind_at nodes' q) p ≡ true → is_side (kind_at nodes q) p ≡ true
    kinds q p h =
        let now = ap (λ z. is_side (Node.kind z) p) (sym (read nodes' q)) ∙ h in
        ap (λ z. is_side (Node.kind z) p) (read nodes q) ∙ ⊎_elim (λ e. ap (λ z. is_side (Node.kind (or_nowhere z)) p) (sym e) ∙ now) (λ e. passed_kind (slice_get nodes q) p (ap (λ z. is_side (Node.kind (or_nowhere z)) p) (sym e) ∙ now)) (f q)

-- a flag comes
set_flag : (flags : List Bool) (i p : ℕ) (b : Bool) → (is_set (slice_set flags i b) p ≡ is_set flags p) ⊎ (p ≡ i)
set_flag [] i p b = inl refl
set_flag (x ∷ flags) zero zero b = inr refl
set_flag (x ∷ flags) zero (suc p) b = inl refl
set_flag (x ∷ flags) (suc i) zero b = inl refl
set_flag (x ∷ flags) (suc i) (suc p) b = ⊎_elim (λ e. inl e) (λ e. inr (ap suc e)) (set_flag flags i p b)

pub flags_same : (nodes : List Node) (flags flags' : List Bool) (c : Places) → flags' ≡ flags → AreFlagged nodes flags flags' c
flags_same nodes flags flags' c is = record { before = λ p s d. inl (ap (λ z. is_set z p) (sym is) ∙ s) }

pub flags_on : (nodes : List Node) (flags flags1 flags' : List Bool) (c c' : Places) (i : ℕ) → AreFlagged nodes flags flags1 c → flags' ≡ slice_set flags1 i true → (is_side_at nodes i ≡ true → MayBe c' i) → ((p : ℕ) → MayBe c p → MayBe c' p) → AreFlagged nodes flags flags' c'
flags_on nodes flags flags1 flags' c c' i h is known kept =
    record {
      before = λ p s d.
          ⊎_elim
          (λ e. ⊎_elim (λ a. inl a) (λ m. inr (kept p m)) (h.before p (sym e ∙ ap (λ z. is_set z p) (sym is) ∙ s) d))
          (λ e. inr (subst (MayBe c') (sym e) (known (ap (is_side_at nodes) (sym e) ∙ d))))
          (set_flag flags1 i p true);
    }

set_in : (flags : List Bool) (p : ℕ) → is_set flags p ≡ true → p < length flags
set_in [] p h = absurd (cc h)
set_in (x ∷ flags) zero h = omega arith
set_in (x ∷ flags) (suc p) h = omega (arith, set_in flags p h)

-- the candidates are known afterwards
module _ (nodes nodes' : List Node) (flags flags1 flags' : List Bool) (c c' : Places) (h : AreKnown nodes flags c) (sides : NoNewSides (length nodes) nodes nodes') (came : AreFlagged nodes' flags1 flags' c') (kept : (p : ℕ) → MayBe c p → MayBe c' p) where
  known_on : ((p : ℕ) → p < length nodes → is_set flags1 p ≡ is_set flags p) → length flags' ≡ length nodes' → ((p : ℕ) → length nodes ≤ p → is_set flags1 p ≡ true → MayBe c' p) → AreKnown nodes' flags' c'
  known_on old len new =
      record {
        len = len;
        known = λ p s d.
            ⊎_elim (λ a. ⊎_elim (λ (lt : p < length nodes). kept p (h.known p (sym (old p lt) ∙ a) (sides.before p lt d))) (λ (le : length nodes ≤ p). new p le a) (less_or p (length nodes))) (λ m. m)
            (came.before p s d);
      }

  pub known_kept : flags1 ≡ flags → length flags' ≡ length flags1 → length nodes' ≡ length nodes → AreKnown nodes' flags' c'
  known_kept is len same =
      known_on (λ p lt. ap (λ z. is_set z p) is) (omega (arith, len, ap length is, same, h.len)) (λ p le a. absurd (omega (arith, le, set_in flags p (ap (λ z. is_set z p) (sym is) ∙ a), h.len)))

  pub known_one : (a : Bool) (n : ℕ) → flags1 ≡ flags ++ a ∷ [] → length flags' ≡ length flags1 → length nodes' ≡ length nodes + 1 → n ≡ length nodes → (a ≡ true → MayBe c' n) → AreKnown nodes' flags' c'
  known_one a n is len more at m =
      known_on (λ p lt. ap (λ z. is_set z p) is ∙ get_or_append_left flags (a ∷ []) false p (omega (arith, lt, h.len))) (omega (arith, len, ap length is, length-append flags (a ∷ []), more, h.len))
      (λ p le s.
      let t = ap (λ z. is_set z p) (sym is) ∙ s in
      let e : length flags ≡ p = omega (arith, le, set_in (flags ++ a ∷ []) p t, length-append flags (a ∷ []), h.len) in
      let e' : n ≡ p = omega (arith, e, at, h.len) in
      subst (MayBe c') e' (m (sym (get_or-append_seam flags a [] false) ∙ ap (is_set (flags ++ a ∷ [])) e ∙ t)))

  pub known_two : (a b : Bool) (n : ℕ) → flags1 ≡ (flags ++ a ∷ []) ++ b ∷ [] → length flags' ≡ length flags1 → length nodes' ≡ length nodes + 2 → n ≡ length nodes → (a ≡ true → MayBe c' n) → (b ≡ true → MayBe c' (n + 1)) → AreKnown nodes' flags' c'
  known_two a b n is len more at m m' =
      known_on
      (λ p lt. ap (λ z. is_set z p) is ∙ get_or_append_left (flags ++ a ∷ []) (b ∷ []) false p (omega (arith, lt, h.len, one)) ∙ get_or_append_left flags (a ∷ []) false p (omega (arith, lt, h.len)))
      (omega (arith, len, ap length is, one, two, more, h.len))
      (λ p le s.
      let t = ap (λ z. is_set z p) (sym is) ∙ s in
      ⊎_elim
      (λ (less : p < length (flags ++ a ∷ [])).
      let e : length flags ≡ p = omega (arith, le, less, one, h.len) in
      let e' : n ≡ p = omega (arith, e, at, h.len) in
      subst (MayBe c') e' (m (sym (get_or-append_seam flags a [] false) ∙ ap (is_set (flags ++ a ∷ [])) e ∙ sym (get_or_append_left (flags ++ a ∷ []) (b ∷ []) false p less) ∙ t)))
      (λ (over : length (flags ++ a ∷ []) ≤ p).
      let e : length (flags ++ a ∷ []) ≡ p = omega (arith, over, set_in ((flags ++ a ∷ []) ++ b ∷ []) p t, two) in
      let e' : n + 1 ≡ p = omega (arith, e, one, at, h.len) in
      subst (MayBe c') e' (m' (sym (get_or-append_seam (flags ++ a ∷ []) b [] false) ∙ ap (is_set ((flags ++ a ∷ []) ++ b ∷ [])) e ∙ t)))
      (less_or p (length (flags ++ a ∷ []))))
    where
      one : length (flags ++ a ∷ []) ≡ length flags + 1
      one = length-append flags (a ∷ [])

      two : length ((flags ++ a ∷ []) ++ b ∷ []) ≡ length (flags ++ a ∷ []) + 1
      two = length-append (flags ++ a ∷ []) (b ∷ [])

-- a node is written, and one or two come
module _ (nodes grown : List Node) (i : ℕ) (y : Node) (is : grown ≡ nodes) (can : CanBecome grown i y) (none : HasNone (length nodes) y.kind) where
  pub sides_one : (a : Node) (first : List Node) → first ≡ slice_set grown i y ++ a ∷ [] → HasNone (length nodes) a.kind → NoNewSides (length nodes) nodes first
  sides_one a first come last =
      let len = length-set grown i y ∙ ap length is in
      sides_on (length nodes) nodes grown first (sides_same (length nodes) nodes grown is)
      (sides_on (length nodes) grown (slice_set grown i y) first (sides_written (length nodes) grown (slice_set grown i y) i y refl can none) (sides_more (length nodes) (slice_set grown i y) first a come (omega (arith, len)) last))

  pub length_one : (a : Node) (first : List Node) → first ≡ slice_set grown i y ++ a ∷ [] → length first ≡ length nodes + 1
  length_one a first come = omega (arith, ap length come, length-append (slice_set grown i y) (a ∷ []), length-set grown i y, ap length is)

  pub length_two : (a b : Node) (first new : List Node) → first ≡ slice_set grown i y ++ a ∷ [] → new ≡ first ++ b ∷ [] → length new ≡ length nodes + 2
  length_two a b first new come more = omega (arith, ap length more, length-append first (b ∷ []), length_one a first come)

  pub sides_two : (a b : Node) (first new : List Node) → first ≡ slice_set grown i y ++ a ∷ [] → new ≡ first ++ b ∷ [] → HasNone (length nodes) a.kind → HasNone (length nodes) b.kind → NoNewSides (length nodes) nodes new
  sides_two a b first new come more last last' = sides_on (length nodes) nodes first new (sides_one a first come last) (sides_more (length nodes) first new b more (omega (arith, length_one a first come)) last')

pub in_end : (before : List ℕ) (p : ℕ) → IsIn p (before ++ p ∷ [])
in_end [] p = inl refl
in_end (x ∷ before) p = inr (in_end before p)

pub in_more : (before : List ℕ) (p q : ℕ) → IsIn q before → IsIn q (before ++ p ∷ [])
in_more [] p q h = elim h [ ]
in_more (x ∷ before) p q (inl e) = inl e
in_more (x ∷ before) p q (inr h) = inr (in_more before p q h)

both_set : (a b : Bool) → a ≡ true → b ≡ true → (a && b) ≡ true
both_set a b e f = (λ j. e j && f j)

pub ended_parts : (a b : Bool) → (a && b) ≡ true → (a ≡ true) × (b ≡ true)
ended_parts true b h = (refl, h)
ended_parts false b h = cc h

-- it goes, and hasn't halted
pub known_less : (nodes : List Node) (flags : List Bool) (c c' : Places) (p : ℕ) → AreKnown nodes flags c → c'.all ≡ c.all → c.listed ≡ p ∷ c'.listed → has_ended nodes flags p ≡ false → AreKnown nodes flags c'
known_less nodes flags c c' p h all is still =
    record {
      len = h.len;
      known = λ q s d.
          ⊎_elim (λ a. inl (all ∙ a))
          (λ a. let listed : IsIn q (p ∷ c'.listed) = subst (IsIn q) is a in ⊎_elim (λ e. absurd (cc (sym still ∙ ap (has_ended nodes flags) (sym e) ∙ both_set (is_set flags q) (is_side_at nodes q) s d))) (λ b. inr b) listed)
          (h.known q s d);
    }

nothing_in : (p : ℕ) (xs : List ℕ) → slice_get xs 0 ≡ None → IsIn p xs → ⊥
nothing_in p [] none a = a
nothing_in p (x ∷ xs) none a = cc none

-- where no candidate is left no side has halted
pub none_left : (nodes : List Node) (flags : List Bool) (c : Places) → AreKnown nodes flags c → c.all ≡ false → slice_get c.listed 0 ≡ None → HasEnded nodes flags None
none_left nodes flags c h all none p = go (has_ended nodes flags p) refl
  where
    nowhere_in : IsIn p c.listed → ⊥
    nowhere_in a = nothing_in p c.listed none a

    go : (b : Bool) → has_ended nodes flags p ≡ b → has_ended nodes flags p ≡ false
    go false e = e
    go true e = let w = ended_parts (is_set flags p) (is_side_at nodes p) e in absurd (⊎_elim (λ a. absurd (cc (sym all ∙ a))) (λ a. nowhere_in a) (h.known p w.0 w.1))

pub beyond : (nodes : List Node) (flags : List Bool) (p : ℕ) → length flags ≤ p → has_ended nodes flags p ≡ false
beyond nodes flags p le = go (has_ended nodes flags p) refl
  where
    go : (b : Bool) → has_ended nodes flags p ≡ b → has_ended nodes flags p ≡ false
    go false e = e
    go true e = absurd (omega (arith, le, set_in flags p (ended_parts (is_set flags p) (is_side_at nodes p) e).0))
