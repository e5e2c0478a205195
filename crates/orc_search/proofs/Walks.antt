-- What a walk through a term finds is all that the term may do.
use Rattle.std.proofs.Common.{◌≡◌, ◌<◌, ◌≤◌, ℕ, suc, List, [], ◌∷◌, ◌++◌, length, map, reverse, take, drop, get_or, ◌-◌, ◌+◌, Option, Some, None, refl, sym, ap, subst, ◌∙◌, arith}
use Rattle.std.specs.Prelude.{IfSome}
use Rattle.std.specs.List.{AllZip}
use Rattle.std.specs.Option.{MatchOption, option_to_list}
use Rattle.std.proofs.lemmas.List.{append-nil, reverse-append, take_more, take-append-drop}
use Rattle.orc_rules.specs.declared.value.Value.{Value}
use Rattle.orc_search.specs.declared.node.Tip.TheVariants.{Nothing, Gives, Asks, Enters, Awaits}
use Rattle.orc_search.specs.declared.node.Joint.TheVariants as joint
use Rattle.orc_search.specs.declared.node.Node.{Node}
use Rattle.orc_search.specs.declared.node.Node.TheVariants.{Pair, Tip}
use Rattle.orc_search.specs.declared.successor.Successor.{Successor as Numbered}
use Rattle.orc_search.specs.declared.successor.Frame.{Frame}
use Rattle.orc_search.specs.declared.successor.Frame.TheVariants.{Left, Right, Feeds, Main, Side, First}
use Rattle.orc_search.specs.declared.walk.Spot.{Spot}
use Rattle.orc_search.specs.declared.walk.Task.{Task}
use Rattle.orc_search.specs.declared.walk.Task.TheVariants.{Enter, Leave}
use Rattle.orc_search.specs.declared.walk.Walk.{Walk}
use Rattle.orc_search.specs.Small.{Out, Small, nothing, gives, asks, enters, both, feeds, prunes, instead, awaits, needs}
use Rattle.orc_search.specs.Moves.{SmallDefinition}
use Rattle.orc_search.specs.Successors.{Successor, in_left, in_right, in_feeds, in_main, in_side, in_first, moves}
use Rattle.orc_search.specs.Nodes.{small_at, small_of_node, HasParts, Extends}
use Rattle.orc_search.specs.Moving.{successor_of, in_frame, IsAround, IsSuccessor}
use Rattle.orc_search.specs.Own.{own, list_of}
use Rattle.orc_search.specs.Walks.{by_parts, through, outer, of_spot, of_tasks, still, tasks_of, AreAround, AreThere, IsWithin, GoesOn, IsPlanned}
use Rattle.orc_search.proofs.Nodes.{term_at, within}
use Rattle.orc_search.proofs.Changes.{kept_at, kept_get, kept_len, extends_both}

-- ---- lists

assoc : {X : Type 0} (xs ys zs : List X) → (xs ++ ys) ++ zs ≡ xs ++ (ys ++ zs)
assoc [] ys zs = refl
assoc (x ∷ xs) ys zs = λ i. x ∷ assoc xs ys zs i

map_append : {X Y : Type 0} (f : X → Y) (xs ys : List X) → map f (xs ++ ys) ≡ map f xs ++ map f ys
map_append f [] ys = refl
map_append f (x ∷ xs) ys = λ i. f x ∷ map_append f xs ys i

map_self : {X : Type 0} (xs : List X) → xs ≡ map (λ x. x) xs
map_self [] = refl
map_self (x ∷ xs) = λ i. x ∷ map_self xs i

map_same : {X Y : Type 0} (f g : X → Y) → ((x : X) → f x ≡ g x) → (xs : List X) → map f xs ≡ map g xs
map_same f g same [] = refl
map_same f g same (x ∷ xs) = λ i. same x i ∷ map_same f g same xs i

pub reverse_last : {X : Type 0} (xs : List X) (x : X) → reverse (xs ++ x ∷ []) ≡ x ∷ reverse xs
reverse_last xs x = reverse-append xs (x ∷ [])

-- ---- at each place of two lists

pub zip_append : {X Y : Type 0} (R : X → Y → Type 0) (xs xs' : List X) (ys ys' : List Y) → AllZip R xs ys → AllZip R xs' ys' → AllZip R (xs ++ xs') (ys ++ ys')
zip_append R [] xs' [] ys' a b = b
zip_append R [] xs' (y ∷ ys) ys' a b = elim a [ ]
zip_append R (x ∷ xs) xs' [] ys' a b = elim a [ ]
zip_append R (x ∷ xs) xs' (y ∷ ys) ys' a b = (a.0, zip_append R xs xs' ys ys' a.1 b)

pub zip_kept : (ts us : List Small) (ss : List Numbered) (ms : List Successor) → Extends ts us → AllZip (IsSuccessor ts) ss ms → AllZip (IsSuccessor us) ss ms
zip_kept ts us [] [] e are = are
zip_kept ts us [] (m ∷ ms) e are = elim are [ ]
zip_kept ts us (s ∷ ss) [] e are = elim are [ ]
zip_kept ts us (s ∷ ss) (m ∷ ms) e are = ((are.0.0, kept_get ts us s.to m.1 e are.0.1), zip_kept ts us ss ms e are.1)

-- successors by their numbers are those that they stand for
pub zip_is : {Y : Type 0} (ts : List Small) (f : Successor → Y) (ss : List Numbered) (ms : List Successor) → AllZip (IsSuccessor ts) ss ms → map (λ s. f (successor_of ts s)) ss ≡ map f ms
zip_is ts f [] [] are = refl
zip_is ts f [] (m ∷ ms) are = elim are [ ]
zip_is ts f (s ∷ ss) [] are = elim are [ ]
zip_is ts f (s ∷ ss) (m ∷ ms) are = λ i. f (are.0.0 i, term_at ts s.to m.1 are.0.1 i) ∷ zip_is ts f ss ms are.1 i

-- ---- what a term does

pub moves_split : (defs : List SmallDefinition) (ask : ℕ → List Value → Out) (n : ℕ) (f : Small) → moves defs ask n f ≡ own defs ask n f ++ by_parts defs ask n f
moves_split defs ask n nothing = refl
moves_split defs ask n (gives p) = sym (append-nil (own defs ask n (gives p)))
moves_split defs ask n (asks m ps) = sym (append-nil (own defs ask n (asks m ps)))
moves_split defs ask n (enters e ps) = sym (append-nil (own defs ask n (enters e ps)))
moves_split defs ask n (both f g) = refl
moves_split defs ask n (feeds f x g) = refl
moves_split defs ask n (prunes f x g) = refl
moves_split defs ask n (instead f g) = refl
moves_split defs ask n (awaits o) = sym (append-nil (own defs ask n (awaits o)))
moves_split defs ask n (needs f g) = refl

-- ---- through what stands around

through_frame : (ts : List Small) (f : Frame) (path : List Frame) (ms : List Successor) → map (through ts (f ∷ path)) ms ≡ map (through ts path) (map (in_frame ts f) ms)
through_frame ts f path [] = refl
through_frame ts f path (m ∷ ms) = λ i. through ts path (in_frame ts f m) ∷ through_frame ts f path ms i

module _ (defs : List SmallDefinition) (ask : ℕ → List Value → Out) where
  one_part : (ts : List Small) (path : List Frame) (f : Frame) (s : Spot) (rest : List Successor)
      → of_spot defs ask ts (f ∷ path) s ++ rest ≡ map (through ts path) (map (in_frame ts f) (moves defs ask s.depth (small_at ts s.at))) ++ rest
  one_part ts path f s rest = λ i. through_frame ts f path (moves defs ask s.depth (small_at ts s.at)) i ++ rest

  two_parts : (ts : List Small) (path : List Frame) (f g : Frame) (s t : Spot) (rest : List Successor)
      → of_spot defs ask ts (f ∷ path) s ++ (of_spot defs ask ts (g ∷ path) t ++ rest)
      ≡ map (through ts path) (map (in_frame ts f) (moves defs ask s.depth (small_at ts s.at)) ++ map (in_frame ts g) (moves defs ask t.depth (small_at ts t.at))) ++ rest
  two_parts ts path f g s t rest =
      let A = map (in_frame ts f) (moves defs ask s.depth (small_at ts s.at)) in
      let B = map (in_frame ts g) (moves defs ask t.depth (small_at ts t.at)) in
      one_part ts path f s (of_spot defs ask ts (g ∷ path) t ++ rest)
      ∙ ap (λ (xs : List Successor). map (through ts path) A ++ xs) (one_part ts path g t rest)
      ∙ sym (assoc (map (through ts path) A) (map (through ts path) B) rest)
      ∙ ap (λ (xs : List Successor). xs ++ rest) (sym (map_append (through ts path) A B))

  -- the tasks of a node stand for what it does by its parts
  pub planned : (ts : List Small) (path : List Frame) (n : ℕ) (t : Node) (tasks : List Task)
      → of_tasks defs ask ts path (tasks_of n t ++ tasks) ≡ map (through ts path) (by_parts defs ask n (small_of_node ts t)) ++ of_tasks defs ask ts path tasks
  planned ts path n (Tip Nothing) tasks = refl
  planned ts path n (Tip (Gives p)) tasks = refl
  planned ts path n (Tip (Asks m ps)) tasks = refl
  planned ts path n (Tip (Enters e ps)) tasks = refl
  planned ts path n (Tip (Awaits w)) tasks = refl
  planned ts path n (Pair joint.Both f g) tasks = two_parts ts path (Left g) (Right f) (record { at = f; depth = n }) (record { at = g; depth = n }) (of_tasks defs ask ts path tasks)
  planned ts path n (Pair (joint.Feeds x) f g) tasks = one_part ts path (Feeds x g) (record { at = f; depth = n }) (of_tasks defs ask ts path tasks)
  planned ts path n (Pair (joint.Prunes x) f g) tasks = refl
  planned ts path n (Pair joint.Instead f g) tasks = one_part ts path (First g) (record { at = f; depth = n }) (of_tasks defs ask ts path tasks)
  planned ts path n (Pair joint.Needs f g) tasks = two_parts ts path (Main g) (Side n f) (record { at = f; depth = suc n }) (record { at = g; depth = n }) (of_tasks defs ask ts path tasks)

-- ---- terms that are there stay

outer_around : (n : ℕ) (path : List Frame) → AreAround n path → AreAround n (outer path)
outer_around n [] are = are
outer_around n (f ∷ path) are = are.1

module _ (ts us : List Small) (e : Extends ts us) where
  pub frame_kept : (f : Frame) (m : Successor) → IsAround (length ts) f → in_frame us f m ≡ in_frame ts f m
  frame_kept (Left g) m is = λ i. in_left (kept_at ts us g e is i) m
  frame_kept (Right f) m is = λ i. in_right (kept_at ts us f e is i) m
  frame_kept (Feeds x g) m is = λ i. in_feeds x (kept_at ts us g e is i) m
  frame_kept (Main g) m is = λ i. in_main (kept_at ts us g e is i) m
  frame_kept (Side n f) m is = λ i. in_side n (kept_at ts us f e is i) m
  frame_kept (First g) m is = λ i. in_first (kept_at ts us g e is i) m

  pub through_kept : (path : List Frame) (m : Successor) → AreAround (length ts) path → through us path m ≡ through ts path m
  through_kept [] m are = refl
  through_kept (f ∷ path) m are = through_kept path (in_frame us f m) are.1 ∙ ap (through ts path) (frame_kept f m are.0)

  module _ (defs : List SmallDefinition) (ask : ℕ → List Value → Out) where
    pub spot_kept : (path : List Frame) (s : Spot) → AreAround (length ts) path → s.at < length ts → of_spot defs ask us path s ≡ of_spot defs ask ts path s
    spot_kept path s are lt = ap (λ (f : Small). map (through us path) (moves defs ask s.depth f)) (kept_at ts us s.at e lt)
        ∙ map_same (through us path) (through ts path) (λ m. through_kept path m are) (moves defs ask s.depth (small_at ts s.at))

    pub tasks_kept : (path : List Frame) (tasks : List Task) → AreAround (length ts) path → AreThere (length ts) tasks → of_tasks defs ask us path tasks ≡ of_tasks defs ask ts path tasks
    tasks_kept path [] around are = refl
    tasks_kept path (Enter f s ∷ tasks) around are = λ i. spot_kept (f ∷ path) s (are.0, around) are.1 i ++ tasks_kept path tasks around are.2 i
    tasks_kept path (Leave ∷ tasks) around are = tasks_kept (outer path) tasks (outer_around (length ts) path around) are

-- ---- among more terms

frame_within : (n m : ℕ) (f : Frame) → n ≤ m → IsAround n f → IsAround m f
frame_within n m (Left g) le is = omega (arith, le, is)
frame_within n m (Right f) le is = omega (arith, le, is)
frame_within n m (Feeds x g) le is = omega (arith, le, is)
frame_within n m (Main g) le is = omega (arith, le, is)
frame_within n m (Side k f) le is = omega (arith, le, is)
frame_within n m (First g) le is = omega (arith, le, is)

pub around_within : (n m : ℕ) (path : List Frame) → n ≤ m → AreAround n path → AreAround m path
around_within n m [] le are = tt
around_within n m (f ∷ path) le are = (frame_within n m f le are.0, around_within n m path le are.1)

there_within : (n m : ℕ) (tasks : List Task) → n ≤ m → AreThere n tasks → AreThere m tasks
there_within n m [] le are = tt
there_within n m (Enter f s ∷ tasks) le are = (frame_within n m f le are.0, (let h = are.1 in omega (arith, le, h)), there_within n m tasks le are.2)
there_within n m (Leave ∷ tasks) le are = there_within n m tasks le are

pub within_more : (n m : ℕ) (w : Walk) → n ≤ m → IsWithin n w → IsWithin m w
within_more n m w le is = (around_within n m (reverse w.path.items) le is.0, there_within n m (reverse w.todo.items) le is.1)

-- the tasks of a node whose parts are there
tasks_there : (n k at : ℕ) (t : Node) (tasks : List Task) → HasParts at t → at < n → AreThere n tasks → AreThere n (tasks_of k t ++ tasks)
tasks_there n k at (Tip t) tasks parts lt are = are
tasks_there n k at (Pair joint.Both f g) tasks parts lt are = let p = parts.0 in let q = parts.1 in (omega (arith, lt, q), omega (arith, lt, p), (omega (arith, lt, p), omega (arith, lt, q), are))
tasks_there n k at (Pair (joint.Feeds x) f g) tasks parts lt are = let p = parts.0 in let q = parts.1 in (omega (arith, lt, q), omega (arith, lt, p), are)
tasks_there n k at (Pair (joint.Prunes x) f g) tasks parts lt are = are
tasks_there n k at (Pair joint.Instead f g) tasks parts lt are = let p = parts.0 in let q = parts.1 in (omega (arith, lt, q), omega (arith, lt, p), are)
tasks_there n k at (Pair joint.Needs f g) tasks parts lt are = let p = parts.0 in let q = parts.1 in (omega (arith, lt, q), omega (arith, lt, p), (omega (arith, lt, p), omega (arith, lt, q), are))

-- ---- one step of a walk

-- what has been found, and what is still to be found, are all moves of the whole
pub record HasRest (defs : List SmallDefinition) (ask : ℕ → List Value → Out) (all : List Successor) (terms : List Small) (w : Walk) (found : List Numbered) : Type 0 where
  pub done : List Successor
  pub are : AllZip (IsSuccessor terms) found done
  pub rest : all ≡ done ++ still defs ask terms w
  pub within : IsWithin (length terms) w

-- the same, where the walk is at a part
pub record IsAt (defs : List SmallDefinition) (ask : ℕ → List Value → Out) (all : List Successor) (terms : List Small) (w : Walk) (s : Spot) (found : List Numbered) : Type 0 where
  pub done : List Successor
  pub are : AllZip (IsSuccessor terms) found done
  pub rest : all ≡ done ++ (of_spot defs ask terms (reverse w.path.items) s ++ still defs ask terms w)
  pub within : IsWithin (length terms) w
  pub there : s.at < length terms

module _ (defs : List SmallDefinition) (ask : ℕ → List Value → Out) (all : List Successor) where
  pub begins : (ts : List Small) (w : Walk) (s : Spot) → all ≡ moves defs ask s.depth (small_at ts s.at) → w.path.items ≡ [] → w.todo.items ≡ [] → s.at < length ts → IsAt defs ask all ts w s []
  begins ts w s is path todo lt =
      let rest : all ≡ of_spot defs ask ts [] s ++ [] = is ∙ map_self (moves defs ask s.depth (small_at ts s.at)) ∙ sym (append-nil (of_spot defs ask ts [] s)) in
      record {
        done = [];
        are = tt;
        rest = rest ∙ (λ i. of_spot defs ask ts (reverse (sym path i)) s ++ of_tasks defs ask ts (reverse (sym path i)) (reverse (sym todo i)));
        within = (subst (λ (p : List Frame). AreAround (length ts) (reverse p)) (sym path) tt, subst (λ (p : List Task). AreThere (length ts) (reverse p)) (sym todo) tt);
        there = lt;
      }

  pub goes_on : (ts : List Small) (w w' : Walk) (s : Spot) (found : List Numbered) → HasRest defs ask all ts w found → GoesOn w (Some s) w' → IsAt defs ask all ts w' s found
  goes_on ts w w' s found has goes = record {
    done = has.done;
    are = has.are;
    rest = has.rest ∙ ap (λ (ms : List Successor). has.done ++ ms) (goes.0 defs ask ts);
    within = (goes.1 (length ts) has.within).0;
    there = (goes.1 (length ts) has.within).1;
  }

  pub has_all : (ts : List Small) (w w' : Walk) (found : List Numbered) → HasRest defs ask all ts w found → GoesOn w None w' → AllZip (IsSuccessor ts) found all
  has_all ts w w' found has goes = subst (λ (ms : List Successor). AllZip (IsSuccessor ts) found ms) (sym (has.rest ∙ ap (λ (ms : List Successor). has.done ++ ms) (goes defs ask ts) ∙ append-nil has.done)) has.are

  -- the walk was at a part: what that does by itself is found, and its parts are to be entered
  pub visited : (ts us vs : List Small) (w w' : Walk) (s : Spot) (found found' : List Numbered) (mine whole : List Numbered)
      → IsAt defs ask all ts w s found → IsPlanned ts s w w' → Extends ts us → Extends us vs
      → AllZip (IsSuccessor us) mine (own defs ask s.depth (small_at ts s.at))
      → AllZip (IsSuccessor vs) whole (map (λ m. through us (reverse w'.path.items) (successor_of us m)) mine)
      → found' ≡ found ++ whole → HasRest defs ask all vs w' found'
  visited ts us vs w w' s found found' mine whole is plan e e' owns wholes more =
      let path = reverse w.path.items in
      let n : ℕ = s.depth in
      let f : Small = small_at ts s.at in
      let both_kept : Extends ts vs = extends_both ts us vs e e' in
      let same_path : reverse w'.path.items ≡ path = ap (λ (p : List Frame). reverse p) plan.path in
      let mid : map (λ m. through us (reverse w'.path.items) (successor_of us m)) mine ≡ map (through ts path) (own defs ask n f)
      = ap (λ (p : List Frame). map (λ m. through us p (successor_of us m)) mine) same_path ∙ zip_is us (through us path) mine (own defs ask n f) owns
      ∙ map_same (through us path) (through ts path) (λ m. through_kept ts us e path m is.within.0) (own defs ask n f) in
      let parts : of_tasks defs ask ts path (reverse w'.todo.items) ≡ map (through ts path) (by_parts defs ask n f) ++ still defs ask ts w
      = ap (λ (p : List Task). of_tasks defs ask ts path p) plan.todo ∙ planned defs ask ts path n plan.node (reverse w.todo.items)
      ∙ ap (λ (g : Small). map (through ts path) (by_parts defs ask n g) ++ still defs ask ts w) (sym plan.term) in
      let there : AreThere (length ts) (reverse w'.todo.items)
      = subst (λ (p : List Task). AreThere (length ts) p) (sym plan.todo) (tasks_there (length ts) n s.at plan.node (reverse w.todo.items) plan.parts is.there is.within.1) in
      let within : IsWithin (length ts) w' = (subst (λ (p : List Frame). AreAround (length ts) p) (sym same_path) is.within.0, there) in
      let kept : still defs ask vs w' ≡ of_tasks defs ask ts path (reverse w'.todo.items)
      = tasks_kept ts vs both_kept defs ask (reverse w'.path.items) (reverse w'.todo.items) within.0 within.1 ∙ ap (λ (p : List Frame). of_tasks defs ask ts p (reverse w'.todo.items)) same_path in
      let mine_all = map (through ts path) (own defs ask n f) in
      let part_all = map (through ts path) (by_parts defs ask n f) in
      let split : of_spot defs ask ts path s ≡ mine_all ++ part_all
      = ap (map (through ts path)) (moves_split defs ask n f) ∙ map_append (through ts path) (own defs ask n f) (by_parts defs ask n f) in
      record {
        done = is.done ++ mine_all;
        are = subst (λ (ss : List Numbered). AllZip (IsSuccessor vs) ss (is.done ++ mine_all)) (sym more)
            (zip_append (IsSuccessor vs) found whole is.done mine_all (zip_kept ts vs found is.done both_kept is.are) (subst (λ (ms : List Successor). AllZip (IsSuccessor vs) whole ms) mid wholes));
        rest = is.rest
            ∙ ap (λ (ms : List Successor). is.done ++ (ms ++ still defs ask ts w)) split
            ∙ ap (λ (ms : List Successor). is.done ++ ms) (assoc mine_all part_all (still defs ask ts w) ∙ ap (λ (ms : List Successor). mine_all ++ ms) (sym (kept ∙ parts)))
            ∙ sym (assoc is.done mine_all (still defs ask vs w'));
        within = within_more (length ts) (length vs) w' (kept_len ts vs both_kept) within;
      }

-- ---- from task to task

module _ (defs : List SmallDefinition) (ask : ℕ → List Value → Out) (ts : List Small) where
  pub still_left : (w w' : Walk) → w.todo.items ≡ w'.todo.items ++ Leave ∷ [] → outer (reverse w.path.items) ≡ reverse w'.path.items → still defs ask ts w ≡ still defs ask ts w'
  still_left w w' todo path = ap (λ (p : List Task). of_tasks defs ask ts (reverse w.path.items) p) (ap (λ (p : List Task). reverse p) todo ∙ reverse_last w'.todo.items Leave)
      ∙ ap (λ (p : List Frame). of_tasks defs ask ts p (reverse w'.todo.items)) path

  pub still_entered : (w w' : Walk) (tasks : List Task) (f : Frame) (s : Spot) → w.todo.items ≡ tasks ++ Enter f s ∷ [] → w'.path.items ≡ w.path.items ++ f ∷ [] → w'.todo.items ≡ tasks ++ Leave ∷ []
      → still defs ask ts w ≡ of_spot defs ask ts (reverse w'.path.items) s ++ still defs ask ts w'
  still_entered w w' tasks f s from path todo =
      let p : reverse w'.path.items ≡ f ∷ reverse w.path.items = ap (λ (q : List Frame). reverse q) path ∙ reverse_last w.path.items f in
      let q : reverse w'.todo.items ≡ Leave ∷ reverse tasks = ap (λ (q : List Task). reverse q) todo ∙ reverse_last tasks Leave in
      ap (λ (q : List Task). of_tasks defs ask ts (reverse w.path.items) q) (ap (λ (q : List Task). reverse q) from ∙ reverse_last tasks (Enter f s))
      ∙ (λ i. of_spot defs ask ts (sym p i) s ++ of_tasks defs ask ts (outer (sym p i)) (reverse tasks))
      ∙ ap (λ (u : List Task). of_spot defs ask ts (reverse w'.path.items) s ++ of_tasks defs ask ts (reverse w'.path.items) u) (sym q)

pub outer_popped : (path path' : List Frame) (f : Frame) → path ≡ path' ++ f ∷ [] → outer (reverse path) ≡ reverse path'
outer_popped path path' f e = ap (λ (p : List Frame). outer (reverse p)) e ∙ ap outer (reverse_last path' f)

module _ (n : ℕ) where
  pub within_left : (w w' : Walk) → w.todo.items ≡ w'.todo.items ++ Leave ∷ [] → outer (reverse w.path.items) ≡ reverse w'.path.items → IsWithin n w → IsWithin n w'
  within_left w w' todo path is = (
    subst (λ (p : List Frame). AreAround n p) path (outer_around n (reverse w.path.items) is.0),
    subst (λ (p : List Task). AreThere n p) (ap (λ (q : List Task). reverse q) todo ∙ reverse_last w'.todo.items Leave) is.1,
  )

  pub within_entered : (w w' : Walk) (tasks : List Task) (f : Frame) (s : Spot) → w.todo.items ≡ tasks ++ Enter f s ∷ [] → w'.path.items ≡ w.path.items ++ f ∷ [] → w'.todo.items ≡ tasks ++ Leave ∷ []
      → IsWithin n w → IsWithin n w' × (s.at < n)
  within_entered w w' tasks f s from path todo is =
      let p : reverse w'.path.items ≡ f ∷ reverse w.path.items = ap (λ (q : List Frame). reverse q) path ∙ reverse_last w.path.items f in
      let q : reverse w'.todo.items ≡ Leave ∷ reverse tasks = ap (λ (q : List Task). reverse q) todo ∙ reverse_last tasks Leave in
      let t : AreThere n (Enter f s ∷ reverse tasks) = subst (λ (u : List Task). AreThere n u) (ap (λ (q : List Task). reverse q) from ∙ reverse_last tasks (Enter f s)) is.1 in
      ((subst (λ (u : List Frame). AreAround n u) (sym p) (t.0, is.0), subst (λ (u : List Task). AreThere n u) (sym q) t.2), t.1)

-- a frame is left, if there is one
pub outer_out : (path path' : List Frame) (o : Option Frame) (k k' : ℕ) (P : Frame → Type 0) → path ≡ path' ++ option_to_list o → k' ≡ length path' → MatchOption o ((k ≡ 0) × (k' ≡ 0)) P → outer (reverse path) ≡ reverse path'
outer_out path path' (Some f) k k' P e len cases = outer_popped path path' f e
outer_out path [] None k k' P e len cases = ap (λ (p : List Frame). outer (reverse p)) e
outer_out path (f ∷ path') None k k' P e len cases = absurd (omega (arith, cases.1, len))

-- ---- out through what stands around

last_frame : (path : List Frame) (i : ℕ) (d : Frame) → 0 < i → i ≤ length path → reverse (take i path) ≡ get_or path (i - 1) d ∷ reverse (take (i - 1) path)
last_frame path i d some le =
    let k : ℕ = i - 1 in
    let is : i ≡ k + 1 = omega arith in
    let lt : k < length path = omega arith in
    ap (λ (n : ℕ). reverse (take n path)) is ∙ ap (λ (p : List Frame). reverse p) (take_more path k d lt) ∙ reverse_last (take k path) (get_or path k d)

around_right : (n : ℕ) (xs ys : List Frame) → AreAround n (xs ++ ys) → AreAround n ys
around_right n [] ys are = are
around_right n (x ∷ xs) ys are = around_right n xs ys are.1

around_front : (n k : ℕ) (path : List Frame) → AreAround n (reverse path) → AreAround n (reverse (take k path))
around_front n k path are = around_right n (reverse (drop k path)) (reverse (take k path))
    (subst (λ (p : List Frame). AreAround n p) (ap (λ (p : List Frame). reverse p) (sym (take-append-drop k path)) ∙ reverse-append (take k path) (drop k path)) are)

pub frame_around : (n : ℕ) (path : List Frame) (i : ℕ) (d : Frame) → AreAround n (reverse path) → 0 < i → i ≤ length path → IsAround n (get_or path (i - 1) d)
frame_around n path i d are some le =
    let p : AreAround n (get_or path (i - 1) d ∷ reverse (take (i - 1) path)) = subst (λ (p : List Frame). AreAround n p) (last_frame path i d some le) (around_front n i path are) in p.0

pub frame_more : (n m : ℕ) (f : Frame) → n ≤ m → IsAround n f → IsAround m f
frame_more n m f le is = frame_within n m f le is

-- one frame further out
pub one_out : (first old new : List Small) (path : List Frame) (i : ℕ) (d : Frame) (s s' : Numbered) → AreAround (length first) (reverse path) → 0 < i → i ≤ length path → Extends first old
    → IsSuccessor new s' (in_frame old (get_or path (i - 1) d) (successor_of old s))
    → through first (reverse (take i path)) (successor_of old s) ≡ through first (reverse (take (i - 1) path)) (successor_of new s')
one_out first old new path i d s s' are some le e is =
    let f : Frame = get_or path (i - 1) d in
    let outer = reverse (take (i - 1) path) in
    let m : Successor = successor_of old s in
    let was : successor_of new s' ≡ in_frame old f m = λ j. (is.0 j, term_at new s'.to (in_frame old f m).1 is.1 j) in
    ap (λ (p : List Frame). through first p m) (last_frame path i d some le)
    ∙ ap (through first outer) (sym (frame_kept first old e f m (frame_around (length first) path i d are some le)) ∙ sym was)

-- what a part does by itself is there
pub mine_there : (ts : List Small) (o : Option Numbered) (ms : List Successor) → AllZip (IsSuccessor ts) (list_of o) ms → IfSome o (λ s. s.to < length ts)
mine_there ts None ms are = tt
mine_there ts (Some s) [] are = elim are [ ]
mine_there ts (Some s) (m ∷ ms) are = within ts s.to m.1 are.0.1
