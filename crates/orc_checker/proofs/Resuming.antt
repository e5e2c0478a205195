-- The right side of an otherwise starts in its place.
use Rattle.std.proofs.Common.{◌≡◌, ◌+◌, ℕ, suc, List, [], ◌∷◌, length, Option, Some, refl, sym, ap, ◌∙◌, subst, arith, inr, true}
use Rattle.std.specs.Prelude.{slice_get, slice_set}
use Rattle.orc_rules.specs.declared.entry.Entry.TheVariants as entry
use Rattle.orc_term.specs.declared.arena.Node.{Node}
use Rattle.orc_term.specs.declared.arena.Tip.{Tip}
use Rattle.orc_term.specs.declared.arena.Tip.TheVariants.{Token}
use Rattle.orc_term.specs.declared.arena.Single.{Single}
use Rattle.orc_term.specs.declared.arena.Single.TheVariants.{Entered}
use Rattle.orc_term.specs.declared.arena.Kind.{Kind}
use Rattle.orc_term.specs.declared.arena.Kind.TheVariants.{Leaf, One}
use Rattle.orc_rules.specs.Term.{Term}
use Rattle.orc_rules.specs.Marked.{token, in_other, erase, Replaces, here}
use Rattle.orc_rules.specs.Idle.{has_halted}
use Rattle.orc_rules.proofs.Tests.{halted_by_test}
use Rattle.orc_term.specs.Arena.{Tree, leaf, one, two, place, count, at, Holds, living, StandOnce, IsTopped, spelled, Frame, plug}
use Rattle.orc_env.specs.Scopes.{env_of, close}
use Rattle.orc_term.specs.Around.{above}
use Rattle.orc_term.specs.Halting.{halt_flag}
use Rattle.orc_term.specs.Settling.{flag, HasFlags, Settles}
use Rattle.orc_term.specs.Dropping.{AreNodesOf, IsDropped}
use Rattle.orc_env.specs.Names.{AreOrdered}
use Rattle.orc_checker.specs.Checker.{State, Enters, AreCells}
use Rattle.orc_term.proofs.Trees.{hit, count-plug, holds-out, living-most, spot, topped-plug, place-plug, node}
use Rattle.orc_term.proofs.Feeding.{own, own_kind}
use Rattle.orc_checker.proofs.Opening.{keeps_free}
use Rattle.orc_term.proofs.Settling.{flag_says, flagged-out}
use Rattle.orc_checker.proofs.Flagging.{reflag_settled, flag-set_at}
use Rattle.orc_checker.proofs.Spelling.{replaces}
use Rattle.orc_term.proofs.Leaving.{Drops, drops, resumed_holds, resumed_once}
use Rattle.orc_checker.proofs.Moves.{staying, still_on}

single_or : Single → Kind → Single
single_or d (One s i) = s
single_or d _ = d

part_of : Kind → ℕ
part_of (One s i) = i
part_of _ = 0

node_or : Node → Option Node → Node
node_or d (Some x) = x
node_or d _ = d

-- a part whose node has one part
pub record IsOne (u : Tree) (s : Single) (i : ℕ) : Type 0 where
  pub part : Tree
  pub is : u ≡ one (place u) s part
  pub there : place part ≡ i

pub as_one : (u : Tree) (s : Single) (i : ℕ) → own_kind u ≡ One s i → IsOne u s i
unfolding single_or part_of
as_one (leaf j k) s i h = absurd (cc h)
as_one (two j d t v) s i h = absurd (cc h)
as_one (one j r t) s i h = record { part = t; is = ap (λ z. one j (single_or r z) t) h; there = ap part_of h }

-- what stands at a node
pub record AtNode (nodes : List Node) (n : ℕ) (tree : Tree) (q j : ℕ) (k : Kind) : Type 0 where
  pub context : List Frame
  pub part : Tree
  pub is : plug context part ≡ tree
  pub there : place part ≡ j
  pub kind : own_kind part ≡ k
  pub parent : above 0 context ≡ q

pub at_node : (nodes : List Node) (n : ℕ) (tree : Tree) (q j : ℕ) (k : Kind) → Holds nodes n 0 tree → StandOnce nodes tree → at nodes q j k → living (Some (node k q)) ≡ 1 → AtNode nodes n tree q j k
unfolding node_or
at_node nodes n tree q j k h once a lives =
    let s = spot j tree [] (omega (arith, once j, lives, ap living a)) in
    let o = holds-out nodes n 0 s.context s.part (subst (Holds nodes n 0) (sym s.is) h) in
    let same : node (own_kind s.part) (above 0 s.context) ≡ node k q = ap (node_or (node k q)) (sym (own nodes n (above 0 s.context) s.part o.1) ∙ ap (slice_get nodes) s.there ∙ a) in
    record { context = s.context; part = s.part; is = s.is; there = s.there; kind = ap Node.kind same; parent = ap Node.parent same }

topped_leaf : (o : List Frame) (j m g e : ℕ) (t : Tree) (tip : Tip) → IsTopped (plug o (one j (Entered m g e) t)) → IsTopped (plug o (leaf j tip))
topped_leaf [] j m g e t tip h = absurd h
topped_leaf (f ∷ o) j m g e t tip h = topped-plug f o (one j (Entered m g e) t) (leaf j tip) h

-- what the code has done
pub record Resumed (s s' : State) (j q left a g e : ℕ) (side : List ℕ) (between : List Node) : Type 0 where
  pub free : s.rest.to_cancel ≡ []
  pub next : a ≡ length s.marks
  pub all : AreNodesOf s.nodes left side
  pub nodes : between ≡ slice_set s.nodes j (node (Leaf (Token a g e)) q)
  pub dropped : IsDropped between side s'.nodes
  pub len : length s'.nodes ≡ length s.nodes
  pub scopes : s'.scopes ≡ s.scopes
  pub cells : s'.cells ≡ s.cells
  pub marks : length s'.marks ≡ length s.marks + 1
  pub halts : s'.halts ≡ s.halts
  pub asked : s'.asked ≡ s.asked
  pub rest : s'.rest ≡ s.rest
  pub flags_len : length s'.flags ≡ length s.flags
  pub settles : Settles s'.nodes s.flags j (halt_flag s.halts g) s'.flags

pub resume-enters : (code : ℕ → Term) (s s' : State) (j q m left g e a : ℕ) (side : List ℕ) (between : List Node) → at s.nodes q j (One (Entered m g e) left) → flag s.flags left ≡ true → Resumed s s' j q left a g e side between → Enters code (entry.Right m a) s s'
resume-enters code s s' j q m left g e a side between is_at halted st x p sp =
    let n = length s.scopes in
    let env' = env_of s'.cells s'.scopes in
    let d = sp.drawn in
    let w = at_node s.nodes n d.tree q j (One (Entered m g e) left) d.holds d.once is_at refl in
    let u = as_one w.part (Entered m g e) left w.kind in
    let k = w.context in
    let t = u.part in
    let whole : d.tree ≡ plug k (one j (Entered m g e) t) = sym w.is ∙ ap (plug k) (u.is ∙ ap (λ z. one z (Entered m g e) t) w.there) in
    let holds = subst (Holds s.nodes n 0) whole d.holds in
    let once = subst (StandOnce s.nodes) whole d.once in
    let root : place (plug k (one j (Entered m g e) t)) ≡ 0 = sym (ap place whole) ∙ d.root in
    let flags = subst (λ z. HasFlags code s.nodes s.halts s.flags z) whole d.flags in
    let was : p.marked ≡ spelled code env' (plug k (one j (Entered m g e) t)) = d.marked ∙ (λ i. spelled code (env_of (sym st.cells i) (sym st.scopes i)) (whole i)) in
    let ho = (holds-out s.nodes n 0 k (one j (Entered m g e) t) holds).1 in
    let most : count j t ≡ 0 = omega (arith, hit j, once j, count-plug j k (one j (Entered m g e) t), living-most (slice_get s.nodes j)) in
    let drop : Drops s.nodes s'.nodes j (node (Leaf (Token a g e)) (above 0 k)) t =
    drops s.nodes between s'.nodes n j j (node (One (Entered m g e) (place t)) (above 0 k)) (node (Leaf (Token a g e)) (above 0 k)) t side ho.2 (subst (λ z. AreNodesOf s.nodes z side) (sym u.there) st.all) ho.0 most
    (st.nodes ∙ ap (λ z. slice_set s.nodes j (node (Leaf (Token a g e)) z)) (sym w.parent)) st.dropped in
    let new = plug k (leaf j (Token a g e)) in
    let holds' : Holds s'.nodes n 0 new = resumed_holds s.nodes s'.nodes n n 0 (omega arith) k j (Entered m g e) (Token a g e) t holds once refl ho.1 drop in
    let once' : StandOnce s'.nodes new = resumed_once s.nodes s'.nodes n n 0 (omega arith) k j (Entered m g e) (Token a g e) t holds once refl ho.1 drop in
    let root' : place new ≡ 0 = place-plug k (leaf j (Token a g e)) (one j (Entered m g e) t) refl ∙ root in
    let b = halt_flag s.halts g in
    let reflags = reflag_settled code s.nodes s'.nodes s.halts s.flags s'.flags j (one j (Entered m g e) t) (leaf j (Token a g e)) s.flags b (λ v lt. refl) (λ h. st.flags_len ∙ h ∙ sym st.len)
    (λ lt h. (h.each.0, flag-set_at s.flags j b lt)) st.settles in
    let flags' = reflags n n k (record { holds = holds; once = once; there = refl; root = root }) (record { holds = holds'; once = once'; there = refl; root = root' }) flags in
    let inner = (flagged-out s.halts s.flags k (one j (Entered m g e) t) flags.each).1.1 in
    let over : has_halted (erase (spelled code env' t)) ≡ true = sym (flag_says code env' s.halts flags.are_halts s.flags t inner) ∙ ap (flag s.flags) u.there ∙ halted in
    let part : Replaces (in_other m (spelled code env' t) (close (env' e) (code g))) (token a (close (env' e) (code g))) (spelled code env' (one j (Entered m g e) t)) [] (spelled code env' (leaf j (Token a g e))) = here in
    let r = replaces code env' k (one j (Entered m g e) t) (leaf j (Token a g e)) part in (
      record { marked = spelled code env' new; mark = suc a; now = p.now; calls = p.calls; cells = p.cells; to_cancel = [] },
      (
        inr (sp.rest.due ∙ st.free),
        (
          spelled code env' t,
          close (env' e) (code g),
          r.0,
          st.next ∙ sym sp.mark,
          (halted_by_test (erase (spelled code env' t))).1 over,
          subst (λ z. Replaces (in_other m (spelled code env' t) (close (env' e) (code g))) (token a (close (env' e) (code g))) z r.0 (spelled code env' new)) (sym was) r.1,
          record { to_cancel = refl; same = refl },
        ),
      ),
      record {
        drawn = record {
          tree = new;
          holds = subst (λ z. Holds s'.nodes (length z) 0 new) (sym st.scopes) holds';
          root = root';
          once = once';
          top = topped_leaf k j m g e t (Token a g e) (subst IsTopped whole d.top);
          marked = refl;
          flags = subst (λ z. HasFlags code s'.nodes z s'.flags new) (sym st.halts) flags';
        };
        mark = omega (arith, st.next, st.marks);
        scopes = subst AreOrdered (sym st.scopes) sp.scopes;
        cells = subst (AreCells p.cells) (sym st.cells) sp.cells;
        rest = keeps_free x p s.rest s'.rest sp.rest st.free st.rest;
        still = still_on x.definitions code s s' (staying s s' st.scopes st.cells) st.asked sp.still;
      },
    )
