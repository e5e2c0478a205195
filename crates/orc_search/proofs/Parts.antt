-- Parts of a term, and the early steps that it has by them.
use Rattle.std.proofs.Common.{◌≡◌, ◌<◌, ℕ, zero, suc, List, [], ◌∷◌, ◌++◌, length, Bool, true, false, Option, Some, None, ◌⊎◌, refl, sym, ap, ◌∙◌, subst, inl, inr, arith}
use Rattle.std.specs.Prelude.{slice_get}
use Rattle.std.specs.List.{AllZip}
use Rattle.orc_rules.specs.declared.value.Value.{Value}
use Rattle.orc_rules.specs.declared.value.Found.{Found}
use Rattle.orc_rules.specs.declared.value.Found.TheVariants.{After, Never}
use Rattle.orc_rules.specs.declared.param.Param.TheVariants.{Name, Is, Cell, Void}
use Rattle.orc_rules.specs.Idle.{has_void}
use Rattle.orc_rules.specs.Term.{values_of}
use Rattle.orc_rules.specs.Timed.{IsIn}
use Rattle.orc_search.specs.declared.early.Inside.{Inside}
use Rattle.orc_search.specs.declared.early.Part.{Part}
use Rattle.orc_search.specs.declared.node.Joint.{Joint}
use Rattle.orc_search.specs.declared.node.Joint.TheVariants as joint
use Rattle.orc_search.specs.declared.node.Node.{Node}
use Rattle.orc_search.specs.declared.node.Node.TheVariants.{Pair, Tip}
use Rattle.orc_search.specs.declared.successor.Frame.{Frame}
use Rattle.orc_search.specs.declared.successor.Frame.TheVariants.{Left, Right, Feeds, Main, Side, First}
use Rattle.orc_search.specs.declared.successor.Successor.{Successor as Numbered}
use Rattle.orc_search.specs.declared.walk.Spot.{Spot}
use Rattle.orc_search.specs.declared.walk.Task.{Task}
use Rattle.orc_search.specs.declared.walk.Task.TheVariants.{Enter, Leave}
use Rattle.orc_search.specs.Small.{Out, Small, nothing, gives, asks, enters, both, feeds, prunes, instead, awaits, needs, set, settle}
use Rattle.orc_search.specs.Moves.{Happening, called, answered, published, unseen, IsPassed, SmallDefinition}
use Rattle.orc_search.specs.Successors as list
use Rattle.orc_search.specs.Successors.{Successor, silently}
use Rattle.orc_search.specs.Moving.{happening_of, successor_of, IsSuccessor, in_frame, IsAround}
use Rattle.orc_search.specs.Nodes.{small_at, small_of_node, joined, HasParts, Extends}
use Rattle.orc_search.specs.Own.{own}
use Rattle.orc_search.specs.Ticks.{is_over}
use Rattle.orc_search.specs.Walks.{tasks_of}
use Rattle.orc_search.specs.Early.{void_value, asked, void_call, returned, entered, fed, opens, binds, loses, falls, on_left, on_right, feeding, on_main, on_side, first}
use Rattle.orc_search.specs.Parts.{parts_of, Fits, IsInside, IsPart, AreParts, EarlyBy, IsEarly, Lifts, is_passed, takes_values}
use Rattle.orc_search.proofs.Changes.{kept_at, kept_len}
use Rattle.orc_search.proofs.Listed.{split, true_over, true_void}
use Rattle.orc_search.proofs.Successors.{feeds_on, side_on, first_on}
use Rattle.orc_search.proofs.Walks.{frame_kept}

pub passes : (h : Happening) → is_passed h ≡ true → IsPassed h
passes (called m args) e = tt
passes (answered m args a) e = tt
passes (published v) e = cc e
passes unseen e = tt

pub get_at : (ts : List Small) (i : ℕ) (t : Small) → slice_get ts i ≡ Some t → small_at ts i ≡ t
get_at [] i t h = cc h
get_at (x ∷ xs) zero t h = cc h
get_at (x ∷ xs) (suc i) t h = get_at xs i t h

get_lt : {X : Type 0} (ts : List X) (i : ℕ) (t : X) → slice_get ts i ≡ Some t → i < length ts
get_lt [] i t h = cc h
get_lt (x ∷ xs) zero t h = omega arith
get_lt (x ∷ xs) (suc i) t h = let l = get_lt xs i t h in omega (arith, l)

-- ---- how a part stands in a node

by_task : (P : Frame → Spot → Type 0) (f g : Frame) (p q : Spot) → Enter f p ≡ Enter g q → P g q → P f p
by_task P f g p q e h =
    let a : f ≡ g = cc e in
    let b : p ≡ q = cc e in
    subst (λ (x : Frame). P x p) (sym a) (subst (λ (y : Spot). P g y) (sym b) h)

module _ (n : ℕ) (P : Node → Frame → Spot → Type 0)
    (left : (f g : ℕ) → P (Pair joint.Both f g) (Left g) (record { at = f; depth = n })) (right : (f g : ℕ) → P (Pair joint.Both f g) (Right f) (record { at = g; depth = n }))
    (feeder : (x f g : ℕ) → P (Pair (joint.Feeds x) f g) (Feeds x g) (record { at = f; depth = n })) (former : (f g : ℕ) → P (Pair joint.Instead f g) (First g) (record { at = f; depth = n }))
    (main : (f g : ℕ) → P (Pair joint.Needs f g) (Main g) (record { at = f; depth = suc n })) (side : (f g : ℕ) → P (Pair joint.Needs f g) (Side n f) (record { at = g; depth = n })) where
  on_tasks : (node : Node) (f : Frame) (p : Spot) → IsIn (Enter f p) (tasks_of n node) → P node f p
  on_tasks (Tip t) f p is = elim is [ ]
  on_tasks (Pair joint.Both a b) f p (inl e) = by_task (P (Pair joint.Both a b)) f _ p _ e (left a b)
  on_tasks (Pair joint.Both a b) f p (inr (inl e)) = by_task (P (Pair joint.Both a b)) f _ p _ e (right a b)
  on_tasks (Pair joint.Both a b) f p (inr (inr out)) = elim out [ ]
  on_tasks (Pair (joint.Feeds x) a b) f p (inl e) = by_task (P (Pair (joint.Feeds x) a b)) f _ p _ e (feeder x a b)
  on_tasks (Pair (joint.Feeds x) a b) f p (inr out) = elim out [ ]
  on_tasks (Pair (joint.Prunes x) a b) f p is = elim is [ ]
  on_tasks (Pair joint.Instead a b) f p (inl e) = by_task (P (Pair joint.Instead a b)) f _ p _ e (former a b)
  on_tasks (Pair joint.Instead a b) f p (inr out) = elim out [ ]
  on_tasks (Pair joint.Needs a b) f p (inl e) = by_task (P (Pair joint.Needs a b)) f _ p _ e (main a b)
  on_tasks (Pair joint.Needs a b) f p (inr (inl e)) = by_task (P (Pair joint.Needs a b)) f _ p _ e (side a b)
  on_tasks (Pair joint.Needs a b) f p (inr (inr out)) = elim out [ ]

record IsThere (n : ℕ) (f : Frame) (p : Spot) : Type 0 where
  around : IsAround n f
  there : p.at < n

below : (a k n : ℕ) → a < k → k < n → a < n
below a k n l m = omega (arith, l, m)

-- the other part is there, too
pub fits_there : (ts : List Small) (f : Frame) (s p : Spot) → Fits ts f s p → s.at < length ts → IsAround (length ts) f × (p.at < length ts)
fits_there ts f s p fits lt =
    let k : ℕ = s.at in
    let n : ℕ = length ts in
    let t : IsThere n f p = on_tasks s.depth (λ node g q. HasParts k node → IsThere n g q)
    (λ a b h. record { around = below b k n h.1 lt; there = below a k n h.0 lt })
    (λ a b h. record { around = below a k n h.0 lt; there = below b k n h.1 lt })
    (λ x a b h. record { around = below b k n h.1 lt; there = below a k n h.0 lt })
    (λ a b h. record { around = below b k n h.1 lt; there = below a k n h.0 lt })
    (λ a b h. record { around = below b k n h.1 lt; there = below a k n h.0 lt })
    (λ a b h. record { around = below a k n h.0 lt; there = below b k n h.1 lt })
    fits.node f p fits.is fits.parts in
    (t.around, t.there)

-- ---- what a part does by itself

module _ (defs : List SmallDefinition) (ask : ℕ → List Value → Out) (n : ℕ) where
  -- a publication of a value, or an early step with this happening
  pub data IsOwnStep (f : Small) (s : Successor) : Type 0 where
    gives_value : (v : Value) → f ≡ gives (Is v) → s ≡ (published v, nothing) → IsOwnStep f s
    early : is_passed s.0 ≡ true → EarlyBy defs ask n s.0 f s.1 → IsOwnStep f s

  is_early : (f : Small) (s : Successor) (h : Happening) (g : Small) → s ≡ (h, g) → is_passed h ≡ true → EarlyBy defs ask n h f g → IsOwnStep f s
  is_early f s h g e p by = early (ap (λ (t : Successor). is_passed t.0) e ∙ p) (subst (λ (t : Successor). EarlyBy defs ask n t.0 f t.1) (sym e) by)

  silent : (f g : Small) (b : Bool) (s : Successor) → (b ≡ true → EarlyBy defs ask n unseen f g) → IsIn s (silently b g) → IsOwnStep f s
  silent f g true s by (inl e) = is_early f s unseen g e refl (by refl)
  silent f g true s by (inr out) = elim out [ ]
  silent f g false s by is = elim is [ ]

  pub own_step : (f : Small) (s : Successor) → IsIn s (own defs ask n f) → IsOwnStep f s
  own_step nothing s is = elim is [ ]
  own_step (gives (Is v)) s (inl e) = gives_value v refl e
  own_step (gives (Is v)) s (inr out) = elim out [ ]
  own_step (gives Void) s (inl e) = is_early (gives Void) s unseen nothing e refl void_value
  own_step (gives Void) s (inr out) = elim out [ ]
  own_step (gives (Name y)) s is = elim is [ ]
  own_step (gives (Cell c)) s is = elim is [ ]
  own_step (asks m ps) s is = go (split s (list.asked ask m (values_of ps)) (silently (has_void ps) nothing) is) where
    call : (o : Option (List Value)) → values_of ps ≡ o → IsIn s (list.asked ask m o) → IsOwnStep (asks m ps) s
    call (Some args) e (inl same) = is_early (asks m ps) s (called m args) (awaits (ask m args)) same refl (asked e refl)
    call (Some args) e (inr out) = elim out [ ]
    call None e out = elim out [ ]

    go : IsIn s (list.asked ask m (values_of ps)) ⊎ IsIn s (silently (has_void ps) nothing) → IsOwnStep (asks m ps) s
    go (inl l) = call (values_of ps) refl l
    go (inr r) = silent (asks m ps) nothing (has_void ps) s (λ e. void_call (true_void ps e)) r
  own_step (enters e ps) s is = go (slice_get defs e) refl is where
    go : (o : Option SmallDefinition) → slice_get defs e ≡ o → IsIn s (list.entered o ps) → IsOwnStep (enters e ps) s
    go (Some d) there (inl same) = is_early (enters e ps) s unseen _ same refl (entered there)
    go (Some d) there (inr out) = elim out [ ]
    go None there out = elim out [ ]
  own_step (both f g) s is = elim is [ ]
  own_step (feeds f x g) s is = elim is [ ]
  own_step (prunes f x g) s (inl e) = is_early (prunes f x g) s unseen _ e refl opens
  own_step (prunes f x g) s (inr out) = elim out [ ]
  own_step (instead f g) s is = silent (instead f g) g (is_over f) s (λ e. falls (true_over f e)) is
  own_step (awaits o) s is = go o.rest refl is where
    go : (r : Found) → o.rest ≡ r → IsIn s (list.returned o r) → IsOwnStep (awaits o) s
    go (After a zero) e (inl same) = is_early (awaits o) s _ _ same refl (returned e refl)
    go (After a zero) e (inr out) = elim out [ ]
    go (After a (suc d)) e out = elim out [ ]
    go Never e out = elim out [ ]
  own_step (needs f g) s is = silent (needs f g) (settle Void n f) (is_over g) s (λ e. loses (true_over g e)) is

-- ---- what the whole does by it

module _ (ts : List Small) (defs : List SmallDefinition) (ask : ℕ → List Value → Out) where
  -- a step that is passed on
  record IsPassedOn (n : ℕ) (h : Happening) (whole : Small) (s : Successor) : Type 0 where
    shows : s.0 ≡ h
    early : EarlyBy defs ask n h whole s.1

  on : (n : ℕ) (h : Happening) (whole after : Small) (s : Successor) → s ≡ (h, after) → EarlyBy defs ask n h whole after → IsPassedOn n h whole s
  on n h whole after s e by = record { shows = ap (λ (t : Successor). t.0) e; early = subst (λ (t : Successor). EarlyBy defs ask n h whole t.1) (sym e) by }

  passed_on : (n : ℕ) (h : Happening) (to : Small) → IsPassed h → (node : Node) (f : Frame) (p : Spot) → IsIn (Enter f p) (tasks_of n node) → EarlyBy defs ask p.depth h (small_at ts p.at) to
      → IsPassedOn n h (small_of_node ts node) (in_frame ts f (h, to))
  passed_on n h to passed = on_tasks n (λ node f p. EarlyBy defs ask p.depth h (small_at ts p.at) to → IsPassedOn n h (small_of_node ts node) (in_frame ts f (h, to)))
      (λ a b by. on n h (both (small_at ts a) (small_at ts b)) (both to (small_at ts b)) _ refl (on_left by))
      (λ a b by. on n h (both (small_at ts a) (small_at ts b)) (both (small_at ts a) to) _ refl (on_right by))
      (λ x a b by. on n h (feeds (small_at ts a) x (small_at ts b)) (feeds to x (small_at ts b)) _ (feeds_on x (small_at ts b) to h passed) (feeding by))
      (λ a b by. on n h (instead (small_at ts a) (small_at ts b)) (instead to (small_at ts b)) _ (first_on (small_at ts b) to h passed) (first by))
      (λ a b by. on n h (needs (small_at ts a) (small_at ts b)) (needs to (small_at ts b)) _ refl (on_main by))
      (λ a b by. on n h (needs (small_at ts a) (small_at ts b)) (needs (small_at ts a) to) _ (side_on n (small_at ts a) to h passed) (on_side by))

  -- a value that is taken
  taken : (n : ℕ) (v : Value) (node : Node) (f : Frame) (p : Spot) → IsIn (Enter f p) (tasks_of n node) → takes_values f ≡ true → small_at ts p.at ≡ gives (Is v)
      → IsPassedOn n unseen (small_of_node ts node) (in_frame ts f (published v, nothing))
  taken n v = on_tasks n (λ node f p. takes_values f ≡ true → small_at ts p.at ≡ gives (Is v) → IsPassedOn n unseen (small_of_node ts node) (in_frame ts f (published v, nothing)))
      (λ a b t e. cc t)
      (λ a b t e. cc t)
      (λ x a b t e. record { shows = refl; early = subst (λ (k : Small). EarlyBy defs ask n unseen (feeds k x (small_at ts b)) (both (feeds nothing x (small_at ts b)) (set (Is v) x (small_at ts b)))) (sym e) fed })
      (λ a b t e. cc t)
      (λ a b t e. cc t)
      (λ a b t e. record { shows = refl; early = subst (λ (k : Small). EarlyBy defs ask n unseen (needs (small_at ts a) k) (settle (Is v) n (small_at ts a))) (sym e) binds })

-- ---- the list of parts

node_kept : (ts us : List Small) (k : ℕ) (node : Node) → Extends ts us → k < length ts → HasParts k node → small_of_node us node ≡ small_of_node ts node
node_kept ts us k (Tip t) e lt parts = refl
node_kept ts us k (Pair j f g) e lt parts =
    let left : small_at us f ≡ small_at ts f = kept_at ts us f e (below f k (length ts) parts.0 lt) in
    let right : small_at us g ≡ small_at ts g = kept_at ts us g e (below g k (length ts) parts.1 lt) in
    λ i. small_of_node_joined j left right i
  where
    small_of_node_joined : (j : Joint) {a b c d : Small} → a ≡ b → c ≡ d → joined j a c ≡ joined j b d
    small_of_node_joined j p q = λ i. joined j (p i) (q i)

fits_kept : (ts us : List Small) (f : Frame) (s p : Spot) → Extends ts us → s.at < length ts → Fits ts f s p → Fits us f s p
fits_kept ts us f s p e lt fits = record {
  node = fits.node;
  term = kept_at ts us s.at e lt ∙ fits.term ∙ sym (node_kept ts us s.at fits.node e lt fits.parts);
  parts = fits.parts;
  is = fits.is;
}

more_there : (ts us : List Small) (n : ℕ) → Extends ts us → n < length ts → n < length us
more_there ts us n e lt = let l = kept_len ts us e in omega (arith, l, lt)

module _ (ts us : List Small) (root : ℕ) (e : Extends ts us) where
  inside_kept : (list : List Part) → ((i : ℕ) (q : Part) → slice_get list i ≡ Some q → q.spot.at < length ts) → (s : Spot) (o : Option Inside) → IsInside ts root list s o → IsInside us root list s o
  inside_kept list there s None is = is
  inside_kept list there s (Some x) is = (is.0, is.1, fits_kept ts us x.frame is.0.spot s e (there x.outer is.0 is.1) is.2)

  pub parts_kept : (list : List Part) → AreParts ts root list → AreParts us root list
  parts_kept list are i p g = let is = are i p g in (more_there ts us p.spot.at e is.0, inside_kept list (λ j q h. (are j q h).0) p.spot p.inside is.1)

  pub part_kept : (list : List Part) → AreParts ts root list → (p : Part) → IsPart ts root list p → IsPart us root list p
  part_kept list are p is = (more_there ts us p.spot.at e is.0, inside_kept list (λ j q h. (are j q h).0) p.spot p.inside is.1)

get_front : {X : Type 0} (xs ys : List X) (i : ℕ) (x : X) → slice_get xs i ≡ Some x → slice_get (xs ++ ys) i ≡ Some x
get_front [] ys i x h = cc h
get_front (y ∷ xs) ys zero x h = h
get_front (y ∷ xs) ys (suc i) x h = get_front xs ys i x h

get_both : {X : Type 0} (xs ys : List X) (i : ℕ) (x : X) → slice_get (xs ++ ys) i ≡ Some x → (slice_get xs i ≡ Some x) ⊎ IsIn x ys
get_both [] ys i x h = inr (get_in ys i h) where
  get_in : (zs : List _) (j : ℕ) → slice_get zs j ≡ Some x → IsIn x zs
  get_in [] j h = cc h
  get_in (z ∷ zs) zero h = inl (let e : z ≡ x = cc h in sym e)
  get_in (z ∷ zs) (suc j) h = inr (get_in zs j h)
get_both (y ∷ xs) ys zero x h = inl h
get_both (y ∷ xs) ys (suc i) x h = get_both xs ys i x h

module _ (ts : List Small) (root : ℕ) (list more : List Part) where
  inside_more : (s : Spot) (o : Option Inside) → IsInside ts root list s o → IsInside ts root (list ++ more) s o
  inside_more s None is = is
  inside_more s (Some x) is = (is.0, get_front list more x.outer is.0 is.1, is.2)

  pub part_more : (p : Part) → IsPart ts root list p → IsPart ts root (list ++ more) p
  part_more p is = (is.0, inside_more p.spot p.inside is.1)

  parts_more : AreParts ts root list → ((p : Part) → IsIn p more → IsPart ts root (list ++ more) p) → AreParts ts root (list ++ more)
  parts_more are new i p h = go (get_both list more i p h) where
    go : (slice_get list i ≡ Some p) ⊎ IsIn p more → IsPart ts root (list ++ more) p
    go (inl g) = part_more p (are i p g)
    go (inr is) = new p is

-- those of a node's tasks
record IsOfTask (outer : ℕ) (tasks : List Task) (p : Part) : Type 0 where
  frame : Frame
  spot : Spot
  is : p ≡ record { spot = spot; inside = Some (record { frame = frame; outer = outer }) }
  task : IsIn (Enter frame spot) tasks

of_task : (outer : ℕ) (tasks : List Task) (p : Part) → IsIn p (parts_of outer tasks) → IsOfTask outer tasks p
of_task outer [] p is = elim is [ ]
of_task outer (Enter f s ∷ tasks) p (inl e) = record { frame = f; spot = s; is = e; task = inl refl }
of_task outer (Enter f s ∷ tasks) p (inr later) = let t = of_task outer tasks p later in record { frame = t.frame; spot = t.spot; is = t.is; task = inr t.task }
of_task outer (Leave ∷ tasks) p is = let t = of_task outer tasks p is in record { frame = t.frame; spot = t.spot; is = t.is; task = inr t.task }

-- the parts of a part are added
pub parts_added : (ts : List Small) (root outer : ℕ) (list list' : List Part) (q : Part) (node : Node) → AreParts ts root list → slice_get list outer ≡ Some q → small_at ts q.spot.at ≡ small_of_node ts node → HasParts q.spot.at node
    → list' ≡ list ++ parts_of outer (tasks_of q.spot.depth node) → AreParts ts root list'
parts_added ts root outer list list' q node are at term parts e =
    let more = parts_of outer (tasks_of q.spot.depth node) in
    subst (λ (ps : List Part). AreParts ts root ps) (sym e) (parts_more ts root list more are (λ p is. one p (of_task outer (tasks_of q.spot.depth node) p is)))
  where
    one : (p : Part) → IsOfTask outer (tasks_of q.spot.depth node) p → IsPart ts root (list ++ parts_of outer (tasks_of q.spot.depth node)) p
    one p t =
        let fits : Fits ts t.frame q.spot t.spot = record { node = node; term = term; parts = parts; is = t.task } in
        let there = fits_there ts t.frame q.spot t.spot fits (are outer q at).0 in
        subst (λ (r : Part). IsPart ts root (list ++ parts_of outer (tasks_of q.spot.depth node)) r) (sym t.is) (there.1, (q, get_front list (parts_of outer (tasks_of q.spot.depth node)) outer q at, fits))

-- the term itself is the first part
pub first_part : (ts : List Small) (root : ℕ) (list : List Part) → root < length ts → list ≡ record { spot = record { at = root; depth = 0 }; inside = None } ∷ [] → AreParts ts root list
first_part ts root list lt e = subst (λ (ps : List Part). AreParts ts root ps) (sym e) one where
  one : AreParts ts root (record { spot = record { at = root; depth = 0 }; inside = None } ∷ [])
  one zero p h = let is : record { spot = record { at = root; depth = 0 }; inside = None } ≡ p = cc h in subst (λ (r : Part). IsPart ts root (record { spot = record { at = root; depth = 0 }; inside = None } ∷ []) r) is (lt, refl)
  one (suc i) p h = cc h

-- ---- out through what stands around

-- one frame further out
pub lifts_on : (old now new : List Small) (p part around : Spot) (m step step' : Numbered) (f : Frame) → Extends old now → Fits old f around part → around.at < length old
    → is_passed (happening_of m.happening) ≡ true → Lifts old now p part m step → IsSuccessor new step' (in_frame now f (successor_of now step)) → Lifts old new p around m step'
lifts_on old now new p part around m step step' f e fits lt passed l is =
    let h : Happening = happening_of m.happening in
    let to : Small = small_at now step.to in
    let same : in_frame now f (successor_of now step) ≡ in_frame old f (h, to) = frame_kept old now e f (successor_of now step) (fits_there old f around part fits lt).0 ∙ ap (λ (k : Happening). in_frame old f (k, to)) l.shows in
    let shown : (defs : List SmallDefinition) (ask : ℕ → List Value → Out) → EarlyBy defs ask part.depth h (small_at old part.at) to → IsPassedOn old defs ask around.depth h (small_of_node old fits.node) (in_frame old f (h, to))
    = λ defs ask by. passed_on old defs ask around.depth h to (passes h passed) fits.node f part fits.is by in
    let after : small_at new step'.to ≡ (in_frame old f (h, to)).1 = get_at new step'.to _ is.1 ∙ ap (λ (s : Successor). s.1) same in
    record {
      there = get_lt new step'.to _ is.1;
      shows = is.0 ∙ ap (λ (s : Successor). s.0) same ∙ happens_same old f h to (passes h passed);
      early = λ defs ask by.
          let whole = shown defs ask (l.early defs ask by) in
          subst (λ (k : Small). EarlyBy defs ask around.depth h k (small_at new step'.to)) (sym fits.term)
          (subst (λ (k : Small). EarlyBy defs ask around.depth h (small_of_node old fits.node) k) (sym after) whole.early);
    }
  where
    happens_same : (ts : List Small) (f : Frame) (h : Happening) (g : Small) → IsPassed h → (in_frame ts f (h, g)).0 ≡ h
    happens_same ts (Left b) h g p = refl
    happens_same ts (Right a) h g p = refl
    happens_same ts (Feeds x b) h g p = ap (λ (s : Successor). s.0) (feeds_on x (small_at ts b) g h p)
    happens_same ts (Main b) h g p = refl
    happens_same ts (Side n a) h g p = ap (λ (s : Successor). s.0) (side_on n (small_at ts a) g h p)
    happens_same ts (First b) h g p = ap (λ (s : Successor). s.0) (first_on (small_at ts b) g h p)

-- ---- the early step that is found

step_is_own : (ts : List Small) (defs : List SmallDefinition) (ask : ℕ → List Value → Out) (p : Spot) (step : Numbered) → AllZip (IsSuccessor ts) (step ∷ []) (own defs ask p.depth (small_at ts p.at)) → IsOwnStep defs ask p.depth (small_at ts p.at) (successor_of ts step)
step_is_own ts defs ask p step zip = go (own defs ask p.depth (small_at ts p.at)) zip (λ s is. own_step defs ask p.depth (small_at ts p.at) s is) where
  go : (ms : List Successor) → AllZip (IsSuccessor ts) (step ∷ []) ms → ((s : Successor) → IsIn s ms → IsOwnStep defs ask p.depth (small_at ts p.at) s) → IsOwnStep defs ask p.depth (small_at ts p.at) (successor_of ts step)
  go [] z by = elim z [ ]
  go (m ∷ ms) z by = subst (λ (s : Successor). IsOwnStep defs ask p.depth (small_at ts p.at) s) (λ i. (sym z.0.0 i, sym (get_at ts step.to m.1 z.0.1) i)) (by m (inl refl))

pub early_found : (ts us : List Small) (root : ℕ) (p : Spot) (step s : Numbered) (defs : List SmallDefinition) (ask : ℕ → List Value → Out) → Extends ts us → root < length ts → is_passed (happening_of step.happening) ≡ true
    → Lifts ts us p (record { at = root; depth = 0 }) step s → AllZip (IsSuccessor ts) (step ∷ []) (own defs ask p.depth (small_at ts p.at)) → IsEarly defs ask us root s
early_found ts us root p step s defs ask e lt passed l zip = (l.there, whole (step_is_own ts defs ask p step zip)) where
  whole : IsOwnStep defs ask p.depth (small_at ts p.at) (successor_of ts step) → EarlyBy defs ask 0 (happening_of s.happening) (small_at us root) (small_at us s.to)
  whole (gives_value v f same) =
      let wrong : true ≡ false = sym passed ∙ ap (λ (t : Successor). is_passed t.0) same in
      cc wrong
  whole (early is by) =
      subst (λ (h : Happening). EarlyBy defs ask 0 h (small_at us root) (small_at us s.to)) (sym l.shows)
      (subst (λ (k : Small). EarlyBy defs ask 0 (happening_of step.happening) k (small_at us s.to)) (sym (kept_at ts us root e lt)) (l.early defs ask by))

-- a value is taken, and the step goes on from there
pub taken_found : (ts mid us : List Small) (root : ℕ) (p around : Spot) (f : Frame) (step taken_step s : Numbered) (defs : List SmallDefinition) (ask : ℕ → List Value → Out) → Extends ts mid → Extends mid us → root < length ts
    → takes_values f ≡ true → is_passed (happening_of step.happening) ≡ false → Fits ts f around p → around.at < length ts → IsSuccessor mid taken_step (in_frame ts f (successor_of ts step))
    → Lifts mid us around (record { at = root; depth = 0 }) taken_step s → AllZip (IsSuccessor ts) (step ∷ []) (own defs ask p.depth (small_at ts p.at)) → IsEarly defs ask us root s
taken_found ts mid us root p around f step taken_step s defs ask e e' lt takes not_passed fits there is l zip = (l.there, whole (step_is_own ts defs ask p step zip)) where
  all_kept : small_at us root ≡ small_at mid root
  all_kept = kept_at mid us root e' (more_there ts mid root e lt)

  whole : IsOwnStep defs ask p.depth (small_at ts p.at) (successor_of ts step) → EarlyBy defs ask 0 (happening_of s.happening) (small_at us root) (small_at us s.to)
  whole (early passed by) = let wrong : true ≡ false = sym passed ∙ not_passed in cc wrong
  whole (gives_value v f_is same) =
      let w = taken ts defs ask around.depth v fits.node f p fits.is takes f_is in
      let frame : in_frame ts f (successor_of ts step) ≡ in_frame ts f (published v, nothing) = ap (in_frame ts f) same in
      let shows : happening_of taken_step.happening ≡ unseen = is.0 ∙ ap (λ (t : Successor). t.0) frame ∙ w.shows in
      let after : small_at mid taken_step.to ≡ (in_frame ts f (published v, nothing)).1 = get_at mid taken_step.to _ is.1 ∙ ap (λ (t : Successor). t.1) frame in
      let from : small_at mid around.at ≡ small_of_node ts fits.node = kept_at ts mid around.at e there ∙ fits.term in
      let early_there : EarlyBy defs ask around.depth (happening_of taken_step.happening) (small_at mid around.at) (small_at mid taken_step.to)
      = subst (λ (h : Happening). EarlyBy defs ask around.depth h (small_at mid around.at) (small_at mid taken_step.to)) (sym shows)
      (subst (λ (k : Small). EarlyBy defs ask around.depth unseen k (small_at mid taken_step.to)) (sym from)
      (subst (λ (k : Small). EarlyBy defs ask around.depth unseen (small_of_node ts fits.node) k) (sym after) w.early)) in
      subst (λ (h : Happening). EarlyBy defs ask 0 h (small_at us root) (small_at us s.to)) (sym l.shows)
      (subst (λ (k : Small). EarlyBy defs ask 0 (happening_of taken_step.happening) k (small_at us s.to)) (sym all_kept) (l.early defs ask early_there))

pub same_part : (p q : Part) → Some p ≡ Some q → p ≡ q
same_part p q e = cc e
