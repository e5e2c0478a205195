-- A pruning whose right side has halted ends without a value.
use Rattle.std.proofs.Common.{◌≡◌, ℕ, List, [], length, Some, refl, sym, ap, ◌∙◌, subst, arith, inr, Bool, true, false, length-set}
use Rattle.std.specs.Prelude.{slice_get, slice_set, ◌&&◌}
use Rattle.orc_rules.specs.declared.entry.Entry.TheVariants as entry
use Rattle.orc_rules.specs.declared.param.Param.TheVariants as is
use Rattle.orc_term.specs.declared.arena.Node.{Node}
use Rattle.orc_env.specs.declared.names.Bound.{Bound}
use Rattle.orc_env.specs.declared.names.Bound.TheVariants.{Cell, Void}
use Rattle.orc_term.specs.declared.arena.Single.TheVariants.{Passed}
use Rattle.orc_term.specs.declared.arena.Double.{Double}
use Rattle.orc_term.specs.declared.arena.Double.TheVariants.{Side}
use Rattle.orc_term.specs.declared.arena.Kind.{Kind}
use Rattle.orc_term.specs.declared.arena.Kind.TheVariants.{One, Two}
use Rattle.orc_rules.specs.Term.{fill}
use Rattle.orc_rules.specs.Marked.{in_opened, erase, fill_marked, Replaces, here}
use Rattle.orc_rules.specs.Idle.{has_halted}
use Rattle.orc_rules.specs.Nodes.{Listing, code, definitions}
use Rattle.orc_rules.specs.Sites.{Table}
use Rattle.orc_rules.specs.Numbered.{IsNumbered, cell, times}
use Rattle.orc_rules.proofs.Tests.{halted_by_test}
use Rattle.orc_term.specs.Arena.{Tree, leaf, one, two, place, count, at, Holds, StandOnce, IsTopped, spelled, plug}
use Rattle.orc_env.specs.Scopes.{env_of, given}
use Rattle.orc_term.specs.Around.{above}
use Rattle.orc_term.specs.Rising.{Stands}
use Rattle.orc_env.specs.Names.{AreOrdered}
use Rattle.orc_term.specs.Settling.{flag, HasFlags}
use Rattle.orc_term.specs.Dropping.{AreNodesOf, IsDropped}
use Rattle.orc_checker.specs.Checker.{State, Applies, context}
use Rattle.orc_env.specs.Parameters.{AreOwn}
use Rattle.orc_term.proofs.Trees.{hit, count-plug, holds-out, living-most, place-plug, node}
use Rattle.orc_term.proofs.Feeding.{own_kind}
use Rattle.orc_checker.proofs.Opening.{keeps_free}
use Rattle.orc_term.proofs.Settling.{flag_says, flagged-out}
use Rattle.orc_checker.proofs.Flagging.{reflag}
use Rattle.orc_env.proofs.Filling.{code-stays}
use Rattle.orc_checker.proofs.Binding.{replaces_in}
use Rattle.orc_env.proofs.Inside.{Confined}
use Rattle.orc_term.proofs.Leaving.{Drops, drops, pruned_holds, pruned_once}
use Rattle.orc_checker.proofs.Ending.{Over, own_filled, left_filled, stays_so, ends_drawn}
use Rattle.orc_checker.proofs.Resuming.{at_node}
use Rattle.orc_env.proofs.Reached.{reached_numbered, reached_confined}
use Rattle.orc_checker.proofs.Moves.{still_none}

double_or : Double → Kind → Double
double_or d (Two e i j) = e
double_or d _ = d

first_of : Kind → ℕ
first_of (Two d i j) = i
first_of _ = 0

second_of : Kind → ℕ
second_of (Two d i j) = j
second_of _ = 0

-- a part whose node has two parts
pub record IsTwo (u : Tree) (d : Double) (i j : ℕ) : Type 0 where
  pub left : Tree
  pub right : Tree
  pub is : u ≡ two (place u) d left right
  pub at_left : place left ≡ i
  pub at_right : place right ≡ j

pub as_two : (u : Tree) (d : Double) (i j : ℕ) → own_kind u ≡ Two d i j → IsTwo u d i j
unfolding double_or first_of second_of
as_two (leaf n k) d i j h = absurd (cc h)
as_two (one n s t) d i j h = absurd (cc h)
as_two (two n e t v) d i j h = record { left = t; right = v; is = ap (λ z. two n (double_or e z) t v) h; at_left = ap first_of h; at_right = ap second_of h }

and_true : (b : Bool) → (b && true) ≡ b
and_true true = refl
and_true false = refl

-- what the code has done
pub record Gone (s s' : State) (j q c left right : ℕ) (side : List ℕ) (between : List Node) : Type 0 where
  pub free : s.rest.to_cancel ≡ []
  pub unbound : slice_get s.cells c ≡ Some (Cell c)
  pub all : AreNodesOf s.nodes right side
  pub nodes : between ≡ slice_set s.nodes j (node (One Passed left) q)
  pub dropped : IsDropped between side s'.nodes
  pub len : length s'.nodes ≡ length s.nodes
  pub scopes : s'.scopes ≡ s.scopes
  pub cells : s'.cells ≡ slice_set s.cells c Void
  pub marks : length s'.marks ≡ length s.marks
  pub halts : s'.halts ≡ s.halts
  pub flags : s'.flags ≡ s.flags
  pub asked : s'.asked ≡ []
  pub rest : s'.rest ≡ s.rest

pub lose-applies : (l : Listing) (t : Table) (s s' : State) (j q c left right : ℕ) (side : List ℕ) (between : List Node) → at s.nodes q j (Two (Side c) left right) → flag s.flags right ≡ true → Gone s s' j q c left right side between → Applies l t (entry.Lost c) s s'
lose-applies l t s s' j q c left right side between is_at halted st cancels p r sp =
    let terms = code l in
    let n = length s.scopes in
    let env = env_of s.cells s.scopes in
    let env' = env_of s'.cells s'.scopes in
    let d = sp.drawn in
    let w = at_node s.nodes n d.tree q j (Two (Side c) left right) d.holds d.once is_at refl in
    let u = as_two w.part (Side c) left right w.kind in
    let k = w.context in
    let old = plug k (two j (Side c) u.left u.right) in
    let whole : d.tree ≡ old = sym w.is ∙ ap (plug k) (u.is ∙ ap (λ z. two z (Side c) u.left u.right) w.there) in
    let o : Over terms s p.marked j c =
    record {
      around = k;
      left = u.left;
      right = u.right;
      was = d.marked ∙ ap (spelled terms env) whole;
      holds = subst (λ z. Holds s.nodes n 0 z) whole d.holds;
      once = subst (λ z. StandOnce s.nodes z) whole d.once;
      root = sym (ap place whole) ∙ d.root;
      top = subst IsTopped whole d.top;
    } in
    let ho = (holds-out s.nodes n 0 k (two j (Side c) u.left u.right) o.holds).1 in
    let most : count j u.right ≡ 0 = omega (arith, hit j, o.once j, count-plug j k (two j (Side c) u.left u.right), living-most (slice_get s.nodes j)) in
    let drop : Drops s.nodes s'.nodes j (node (One Passed (place u.left)) (above 0 k)) u.right =
    drops s.nodes between s'.nodes n j j (node (Two (Side c) (place u.left) (place u.right)) (above 0 k)) (node (One Passed (place u.left)) (above 0 k)) u.right side ho.2 (subst (λ z. AreNodesOf s.nodes z side) (sym u.at_right) st.all) ho.0 most
    (st.nodes ∙ (λ z. slice_set s.nodes j (node (One Passed (sym u.at_left z)) (sym w.parent z)))) st.dropped in
    let stays : (b : Bound) (e v : ℕ) → fill (given b) e (terms v) ≡ terms v = λ b e v. code-stays (given b) e l.lists l.nodes v in
    let own = sp.cells.3 in
    let around = stays_so terms stays s s' p.marked j c Void o own st.unbound st.cells st.scopes
    (subst (Confined c) o.was (reached_confined l t.sites cancels r.0 p r.1 c), omega (arith, IsNumbered.single (reached_numbered l t.sites cancels r.0 p r.1) (cell c), ap (times (cell c)) o.was)) in
    let filled = left_filled terms stays s s' p.marked j c Void o own st.unbound st.cells st.scopes in
    let new = plug k (one j Passed u.left) in
    let x = in_opened (spelled terms env u.left) c (spelled terms env u.right) in
    let y = fill_marked is.Void c (spelled terms env u.left) in
    let part : Replaces x y (spelled terms env (two j (Side c) u.left u.right)) [] (spelled terms env' (one j Passed u.left)) = subst (λ z. Replaces x y x [] z) (sym filled) here in
    let whole_part = replaces_in terms env env' k (two j (Side c) u.left u.right) (one j Passed u.left) around part in
    let flags : HasFlags terms s.nodes s.halts s.flags old = subst (λ z. HasFlags terms s.nodes s.halts s.flags z) whole d.flags in
    let inner = (flagged-out s.halts s.flags k (two j (Side c) u.left u.right) flags.each).1 in
    let right_flag : flag s.flags (place u.right) ≡ true = ap (flag s.flags) u.at_right ∙ halted in
    let over : has_halted (erase (spelled terms env u.right)) ≡ true = sym (flag_says terms env s.halts flags.are_halts s.flags u.right inner.2) ∙ right_flag in
    let reflags = reflag terms s.nodes s'.nodes s.halts s.flags s.flags j (two j (Side c) u.left u.right) (one j Passed u.left) (λ v lt. refl) (λ h. h ∙ sym st.len)
    (λ lt h. (h.each.0 ∙ ap (λ z. flag s.flags (place u.left) && z) right_flag ∙ and_true (flag s.flags (place u.left)), h.each.1)) in
    let after_side : Stands s'.nodes n j k (one j Passed u.left) =
    record {
      holds = pruned_holds s.nodes s'.nodes n n 0 (omega arith) k j (Side c) u.left u.right o.holds o.once drop;
      once = pruned_once s.nodes s'.nodes n n 0 (omega arith) k j (Side c) u.left u.right o.holds o.once drop;
      there = refl;
      root = place-plug k (one j Passed u.left) (two j (Side c) u.left u.right) refl ∙ o.root;
    } in
    let flags' = reflags n n k (record { holds = o.holds; once = o.once; there = refl; root = o.root }) after_side flags in
    let drawn = ends_drawn terms stays s s' p.marked j c Void o own st.unbound st.cells st.scopes drop (subst (λ z. HasFlags terms s'.nodes z s'.flags new) (sym st.halts) (subst (λ z. HasFlags terms s'.nodes s.halts z new) (sym st.flags) flags')) in
    let marked = spelled terms env' new in (
      record { marked = marked; mark = p.mark; now = p.now; calls = p.calls; cells = p.cells; to_cancel = [] },
      (
        inr (sp.rest.due ∙ st.free),
        (
          spelled terms env u.left,
          spelled terms env u.right,
          whole_part.0,
          (halted_by_test (erase (spelled terms env u.right))).1 over,
          subst (λ z. Replaces x y z whole_part.0 marked) (sym o.was) whole_part.1,
          record { to_cancel = refl; same = refl },
        ),
      ),
      record {
        drawn = drawn;
        mark = sp.mark ∙ sym st.marks;
        scopes = subst AreOrdered (sym st.scopes) sp.scopes;
        cells = (sp.cells.0, ap length st.cells ∙ length-set s.cells c Void ∙ sp.cells.1, sp.cells.2, subst AreOwn (sym st.cells) (own_filled s.cells c Void own st.unbound (λ z h. cc h)));
        rest = keeps_free (context l t cancels) p s.rest s'.rest sp.rest st.free st.rest;
        still = still_none (definitions l) terms s' st.asked;
      },
    )
