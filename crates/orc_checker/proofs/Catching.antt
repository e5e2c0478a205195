-- A pruning takes what its right side publishes.
use Rattle.std.proofs.Common.{◌≡◌, ◌≤◌, ◌+◌, ℕ, List, [], ◌∷◌, length, get_or, Some, refl, sym, ap, ◌∙◌, subst, arith, inr, Bool, true, false, length-set}
use Rattle.std.specs.Prelude.{slice_get, slice_set, ◌&&◌}
use Rattle.orc_rules.specs.declared.value.Value.{Value}
use Rattle.orc_rules.specs.declared.entry.Entry.TheVariants as entry
use Rattle.orc_term.specs.declared.arena.Node.{Node}
use Rattle.orc_env.specs.declared.names.Bound.{Bound as Put}
use Rattle.orc_env.specs.declared.names.Bound.TheVariants.{Is, Cell}
use Rattle.orc_term.specs.declared.arena.Tip.{Tip}
use Rattle.orc_term.specs.declared.arena.Tip.TheVariants.{Ended}
use Rattle.orc_term.specs.declared.arena.Single.TheVariants.{Feeds, Entered, Passed}
use Rattle.orc_term.specs.declared.arena.Double.{Double}
use Rattle.orc_term.specs.declared.arena.Double.TheVariants.{Both, Side}
use Rattle.orc_term.specs.declared.arena.Kind.{Kind}
use Rattle.orc_term.specs.declared.arena.Kind.TheVariants.{Leaf, One, Two}
use Rattle.orc_term.specs.declared.walk.Taker.{Taker}
use Rattle.orc_term.specs.declared.walk.Taker.TheVariants.{Whole, Fed, Bound}
use Rattle.orc_rules.specs.Term.{pending_of, fill}
use Rattle.orc_rules.specs.Step.{publishes, binds}
use Rattle.orc_rules.specs.Marked.{ended, erase, Emits, emits, is_bound}
use Rattle.orc_rules.specs.Timed.{Context, AreDropped}
use Rattle.orc_rules.specs.Journal.{Place}
use Rattle.orc_rules.specs.Idle.{has_halted}
use Rattle.orc_rules.specs.Nodes.{Listing, code, definitions}
use Rattle.orc_rules.specs.Sites.{Table}
use Rattle.orc_rules.specs.Numbered.{IsNumbered, call, cell, times}
use Rattle.orc_rules.proofs.Sources.{emits_source}
use Rattle.orc_term.specs.Arena.{Tree, leaf, one, two, place, hits, count, at, Holds, living_kind, StandOnce, IsTopped, spelled, Frame, on_one, on_left, on_right, plug}
use Rattle.orc_env.specs.Scopes.{env_of, given}
use Rattle.orc_term.specs.Around.{above}
use Rattle.orc_term.specs.Rising.{takes, rest, under, nowhere, Stands, IsTaker}
use Rattle.orc_term.specs.Bearers.{BearsValue}
use Rattle.orc_env.specs.Names.{AreOrdered}
use Rattle.orc_term.specs.Settling.{flag, HasFlags, Settles}
use Rattle.orc_checker.specs.Calls.{Rest, Keeps}
use Rattle.orc_term.specs.Dropping.{calls_at, AreNodesOf, AreRising, IsDropped}
use Rattle.orc_checker.specs.Checker.{State, Applies, context}
use Rattle.orc_env.specs.Parameters.{AreOwn}
use Rattle.orc_term.proofs.Trees.{hit, count-plug, holds-out, living-most, place-plug, node}
use Rattle.orc_term.proofs.Rising.{itself, plug-under, get_or-some}
use Rattle.orc_checker.proofs.Change.{says_of}
use Rattle.orc_term.proofs.Settling.{flag_says, flagged_kept, flag-set_other}
use Rattle.orc_checker.proofs.Flagging.{reflag_settled, flag-set_at}
use Rattle.orc_checker.proofs.Publishing.{goes_up}
use Rattle.orc_env.proofs.Filling.{code-stays}
use Rattle.orc_checker.proofs.Binding.{binds_in}
use Rattle.orc_env.proofs.Inside.{Confined}
use Rattle.orc_term.proofs.Leaving.{Drops, drops, pruned_holds, pruned_once, calls_counted}
use Rattle.orc_checker.proofs.Ending.{Over, own_filled, left_filled, stays_so, ends_drawn, times_left, are_dropped, unhalted_under}
use Rattle.orc_env.proofs.Reached.{reached_numbered, reached_source, reached_confined}
use Rattle.orc_checker.proofs.Moves.{still_none}

-- the right side that takes it is the first one around
pub record IsCaught (k : List Frame) (c j : ℕ) : Type 0 where
  pub left : Tree
  pub around : List Frame
  pub is : rest k ≡ on_right j (Side c) left ∷ around

its_place : Taker → ℕ
its_place (Fed n) = n
its_place (Bound c n) = n
its_place Whole = 0

its_cell : Taker → ℕ
its_cell (Bound c n) = c
its_cell _ = 0

pub caught_there : (k : List Frame) (c j : ℕ) → Bound c j ≡ takes k → IsCaught k c j
unfolding its_place its_cell
caught_there [] c j h = absurd (cc h)
caught_there (on_one i (Feeds x g e) ∷ k) c j h = absurd (cc h)
caught_there (on_one i (Entered n g e) ∷ k) c j h = let f = caught_there k c j h in record { left = f.left; around = f.around; is = f.is }
caught_there (on_one i Passed ∷ k) c j h = let f = caught_there k c j h in record { left = f.left; around = f.around; is = f.is }
caught_there (on_left i d u ∷ k) c j h = let f = caught_there k c j h in record { left = f.left; around = f.around; is = f.is }
caught_there (on_right i Both u ∷ k) c j h = let f = caught_there k c j h in record { left = f.left; around = f.around; is = f.is }
caught_there (on_right i (Side d) u ∷ k) c j h = record { left = u; around = k; is = ap (λ z. on_right (its_place z) (Side (its_cell z)) u ∷ k) (sym h) }

left_of : Kind → ℕ
left_of (Two d i j) = i
left_of _ = 0

right_of : Kind → ℕ
right_of (Two d i j) = j
right_of _ = 0

-- the same node
pub record SameTwo (l r p l' r' p' : ℕ) : Type 0 where
  pub left : l ≡ l'
  pub right : r ≡ r'
  pub parent : p ≡ p'

pub same_two : (d d' : Double) (l r p l' r' p' : ℕ) → node (Two d l r) p ≡ node (Two d' l' r') p' → SameTwo l r p l' r' p'
unfolding left_of right_of
same_two d d' l r p l' r' p' h = record { left = ap (λ x. left_of (Node.kind x)) h; right = ap (λ x. right_of (Node.kind x)) h; parent = ap Node.parent h }

-- what the code has done
pub record Caught (s s' : State) (j c left right parent : ℕ) (side due : List ℕ) (between : List Node) : Type 0 where
  pub free : s.rest.to_cancel ≡ []
  pub unbound : slice_get s.cells c ≡ Some (Cell c)
  pub all : AreNodesOf s.nodes right side
  pub nodes : between ≡ slice_set s.nodes j (node (One Passed left) parent)
  pub dropped : IsDropped between side s'.nodes
  pub len : length s'.nodes ≡ length s.nodes
  pub scopes : s'.scopes ≡ s.scopes
  pub marks : length s'.marks ≡ length s.marks
  pub halts : s'.halts ≡ s.halts
  pub asked : s'.asked ≡ []
  pub rest : s'.rest ≡ record s.rest { to_cancel = due }

-- what is kept besides the term, with other cancels due
pub kept_due : (x : Context) (p : Place) (r r' : Rest) (due : List ℕ) → Keeps x p.now p.calls p.to_cancel r → r' ≡ record r { to_cancel = due } → Keeps x p.now p.calls due r'
kept_due x p r r' due k is =
    subst (Keeps x p.now p.calls due) (sym is) (record { time = k.time; calls_are = k.calls_are; counted = k.counted; numbered = k.numbered; due = refl; cancels_are = k.cancels_are })

and_false : (b : Bool) → (b && false) ≡ false
and_false true = refl
and_false false = refl

pub catch-applies : (l : Listing) (t : Table) (s s' : State) (i q m j c left right parent : ℕ) (d : Double) (tip : Tip) (v : Value) (side due : List ℕ) (between : List Node)
    → at s.nodes q i (Leaf tip) → living_kind (Leaf tip) ≡ 1 → BearsValue (code l) s.cells s.scopes m tip v → IsTaker s.nodes i (Bound c j) → get_or s.nodes j nowhere ≡ node (Two d left right) parent
    → Caught s s' j c left right parent side due between → s'.cells ≡ slice_set s.cells c (Is v)
    → length s'.flags ≡ length s.flags → Settles s'.nodes s.flags j (flag s.flags left) s'.flags
    → (s.rest.cancels ≡ true → AreRising (calls_at s.nodes side) due) → (s.rest.cancels ≡ false → due ≡ [])
    → Applies l t (entry.Bind m c v) s s'
catch-applies l t s s' i q m j c left right parent d tip v side due between is_at lives bears taker node_is st cells flags_len settles recorded not_recorded cancels p r sp =
    let terms = code l in
    let x = context l t cancels in
    let n = length s.scopes in
    let env = env_of s.cells s.scopes in
    let env' = env_of s'.cells s'.scopes in
    let f = says_of s.nodes n 0 i q tip sp.drawn.tree sp.drawn.holds sp.drawn.once is_at lives in
    let k = f.context in
    let before : Stands s.nodes n i k (leaf i tip) = record { holds = f.holds; once = f.once; there = refl; root = ap place f.is ∙ sp.drawn.root } in
    let by = taker n k (leaf i tip) before in
    let b = caught_there k c j by in
    let side_tree = under k (leaf i tip) in
    let old = plug b.around (two j (Side c) b.left side_tree) in
    let whole : plug k (leaf i tip) ≡ old = sym (plug-under k (leaf i tip)) ∙ ap (λ z. plug z side_tree) b.is in
    let is_tree : sp.drawn.tree ≡ old = sym f.is ∙ whole in
    let o : Over terms s p.marked j c =
    record {
      around = b.around;
      left = b.left;
      right = side_tree;
      was = sp.drawn.marked ∙ ap (spelled terms env) is_tree;
      holds = subst (λ z. Holds s.nodes n 0 z) is_tree sp.drawn.holds;
      once = subst (λ z. StandOnce s.nodes z) is_tree sp.drawn.once;
      root = sym (ap place is_tree) ∙ sp.drawn.root;
      top = subst IsTopped is_tree sp.drawn.top;
    } in
    let ho = (holds-out s.nodes n 0 b.around (two j (Side c) b.left side_tree) o.holds).1 in
    let same = same_two (Side c) d _ _ _ left right parent (sym (get_or-some s.nodes n s.nodes j nowhere _ ho.0) ∙ node_is) in
    let all : AreNodesOf s.nodes (place side_tree) side = subst (λ z. AreNodesOf s.nodes z side) (sym same.right) st.all in
    let most : (u : ℕ) → hits u j + (count u b.left + count u side_tree) ≤ 1 = λ u. omega (arith, o.once u, count-plug u b.around (two j (Side c) b.left side_tree), living-most (slice_get s.nodes u)) in
    let drop : Drops s.nodes s'.nodes j (node (One Passed (place b.left)) (above 0 b.around)) side_tree =
    drops s.nodes between s'.nodes n j j (node (Two (Side c) (place b.left) (place side_tree)) (above 0 b.around)) (node (One Passed (place b.left)) (above 0 b.around)) side_tree side ho.2 all ho.0 (omega (arith, most j, hit j))
    (st.nodes ∙ (λ z. slice_set s.nodes j (node (One Passed (sym same.left z)) (sym same.parent z)))) st.dropped in
    let stays : (w : Put) (e u : ℕ) → fill (given w) e (terms u) ≡ terms u = λ w e u. code-stays (given w) e l.lists l.nodes u in
    let own = sp.cells.3 in
    let numbered = reached_numbered l t.sites cancels r.0 p r.1 in
    let around = stays_so terms stays s s' p.marked j c (Is v) o own st.unbound cells st.scopes
    (subst (Confined c) o.was (reached_confined l t.sites cancels r.0 p r.1 c), omega (arith, IsNumbered.single numbered (cell c), ap (times (cell c)) o.was)) in
    let first : Emits m p.mark v (spelled terms env (leaf i tip)) (publishes v) (spelled terms env (leaf i Ended)) = subst (λ z. Emits m p.mark v z (publishes v) ended) (sym (bears sp.scopes)) emits in
    let up = goes_up terms env k (leaf i tip) (leaf i Ended) first in
    let after_tree = plug b.around (one j Passed b.left) in
    let after_marked = spelled terms env' after_tree in
    let filled = left_filled terms stays s s' p.marked j c (Is v) o own st.unbound cells st.scopes in
    let at_side : Emits m p.mark v (spelled terms env (two j (Side c) b.left side_tree)) (binds c v) (spelled terms env' (one j Passed b.left)) =
    subst (λ z. Emits m p.mark v (spelled terms env (two j (Side c) b.left side_tree)) (binds c v) z) (sym filled) (is_bound up) in
    let shown : Emits m p.mark v p.marked (binds c v) after_marked =
    subst (λ z. Emits m p.mark v z (binds c v) after_marked) (sym o.was) (binds_in terms env env' b.around (two j (Side c) b.left side_tree) (one j Passed b.left) around at_side) in
    let flags : HasFlags terms s.nodes s.halts s.flags old = subst (λ z. HasFlags terms s.nodes s.halts s.flags z) is_tree sp.drawn.flags in
    let fb = flag s.flags (place b.left) in
    let apart : (u : ℕ) → 1 ≤ count u b.left → u ≡ j → ⊥ = λ u a e. omega (arith, a, most u, hit j, ap (λ z. hits z j) e) in
    let reflags = reflag_settled terms s.nodes s'.nodes s.halts s.flags s'.flags j (two j (Side c) b.left side_tree) (one j Passed b.left) s.flags fb (λ u lt. refl) (λ e. flags_len ∙ e ∙ sym st.len)
    (λ lt h.
    let off : flag s.flags (place side_tree) ≡ false = flag_says terms env s.halts h.are_halts s.flags side_tree h.each.2 ∙ unhalted_under terms env k (leaf i tip) (ap (λ z. has_halted (erase z)) (bears sp.scopes)) in (
      h.each.0 ∙ ap (λ z. fb && z) off ∙ and_false fb,
      (
        flag-set_at s.flags j fb lt ∙ sym (flag-set_other s.flags j (place b.left) fb (apart (place b.left) (itself b.left))),
        flagged_kept s.halts s.flags (slice_set s.flags j fb) b.left (λ u a. flag-set_other s.flags j u fb (apart u a)) h.each.1,
      ),
    ))
    (subst (λ z. Settles s'.nodes s.flags j (flag s.flags z) s'.flags) (sym same.left) settles) in
    let before_side : Stands s.nodes n j b.around (two j (Side c) b.left side_tree) = record { holds = o.holds; once = o.once; there = refl; root = o.root } in
    let after_side : Stands s'.nodes n j b.around (one j Passed b.left) =
    record {
      holds = pruned_holds s.nodes s'.nodes n n 0 (omega arith) b.around j (Side c) b.left side_tree o.holds o.once drop;
      once = pruned_once s.nodes s'.nodes n n 0 (omega arith) b.around j (Side c) b.left side_tree o.holds o.once drop;
      there = refl;
      root = place-plug b.around (one j Passed b.left) (two j (Side c) b.left side_tree) refl ∙ o.root;
    } in
    let flags' : HasFlags terms s'.nodes s'.halts s'.flags after_tree = subst (λ z. HasFlags terms s'.nodes z s'.flags after_tree) (sym st.halts) (reflags n n b.around before_side after_side flags) in
    let drawn = ends_drawn terms stays s s' p.marked j c (Is v) o own st.unbound cells st.scopes drop flags' in
    let same_cancels : cancels ≡ s.rest.cancels = sp.rest.cancels_are in
    let dropped : s.rest.cancels ≡ true → AreDropped (pending_of (erase p.marked)) (pending_of (erase after_marked)) due =
    λ e. let rising = recorded e in
    are_dropped p.marked after_marked due (λ z. times (call z) (spelled terms env side_tree)) (reached_source l t.sites cancels r.0 p r.1) (emits_source shown (reached_source l t.sites cancels r.0 p r.1)) (λ z. IsNumbered.single numbered (call z))
    (λ z. omega (arith, times_left terms stays s s' p.marked j c (Is v) o own st.unbound cells st.scopes (call z) around))
    (λ z. rising.1 z ∙ calls_counted s.nodes n terms env z j side_tree side ho.2 all)
    rising.0 in
    let due_p : p.to_cancel ≡ [] = sp.rest.due ∙ st.free in (
      record { marked = after_marked; mark = p.mark; now = p.now; calls = p.calls; cells = p.cells; to_cancel = due },
      (inr due_p, (shown, record { to_cancel = (λ e. dropped (sym same_cancels ∙ e), λ e. not_recorded (sym same_cancels ∙ e)); same = refl })),
      record {
        drawn = drawn;
        mark = sp.mark ∙ sym st.marks;
        scopes = subst AreOrdered (sym st.scopes) sp.scopes;
        cells = (sp.cells.0, ap length cells ∙ length-set s.cells c (Is v) ∙ sp.cells.1, sp.cells.2, subst AreOwn (sym cells) (own_filled s.cells c (Is v) own st.unbound (λ z h. cc h)));
        rest = kept_due x p s.rest s'.rest due sp.rest st.rest;
        still = still_none (definitions l) terms s' st.asked;
      },
    )
