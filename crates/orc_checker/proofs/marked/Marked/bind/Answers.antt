use Rattle.std.proofs.Common.{◌≡◌, ℕ, List, refl, ap, sym, subst, ◌∙◌, length, get_or, reverse, length-set}
use Rattle.std.specs.Prelude.{IfNone, slice_get, slice_set}
use Rattle.orc_term.specs.declared.arena.Node.{Node}
use Rattle.orc_env.specs.declared.names.Bound.TheVariants.{Is}
use Rattle.orc_term.specs.declared.walk.Taker.TheVariants.{Bound}
use Rattle.orc_term.specs.Settling.{flag, Settles}
use Rattle.orc_term.specs.Dropping.{IsDropped}
use Rattle.orc_term.specs.Sides.{AreKnown}
use Rattle.orc_checker.specs.NextDue.{AreNoted}
use Rattle.orc_term.specs.Rising.{nowhere, TakesThere, IsTaker, Stands}
use Rattle.orc_term.specs.declared.arena.Single.TheVariants.{Passed}
use Rattle.orc_term.specs.declared.arena.Kind.TheVariants.{One}
use Rattle.orc_checker.specs.Checker.{State}
use Rattle.orc_term.proofs.Trees.{node}
use Rattle.orc_checker.proofs.Catching.{catch-applies}
use Rattle.orc_term.proofs.Hints.{can_end}
use Rattle.orc_checker.specs.Calls.{Rest}
use Rattle.orc_checker.proofs.Noting.{still_noted, wait_on, wait_written, wait_dropped}
use Rattle.orc_term.proofs.KeptSides.{known_kept, sides_on, sides_written}
use Rattle.orc_checker.specs.Index.{name_of, AreIndexed}
use Rattle.orc_checker.proofs.Indexed.{indexed_bound, indexed_calls}
use Rattle.std.proofs.lemmas.Result.{err_from_is_err_and}
use Rattle.orc_rules.specs.Step.{binds}
use Rattle.orc_rules.specs.declared.entry.Entry.TheVariants as entry
use Rattle.orc_term.specs.Arena.{Frame, Tree}
use Rattle.orc_checker.proofs.Values.{asks_bind, bearer_refused, bound_takes, standing_refused, taker_refused}
use Rattle.orc_rules.specs.declared.entry.RuleFault.TheVariants as reason
use Rattle.orc_rules.specs.Nodes.{code}
use Rattle.orc_checker.specs.Refusing.{NoPruning}
use Rattle.orc_checker.proofs.Lookups.{pruning_put}
use Rattle.orc_checker.proofs.Parts.{no_pruning}
use Rattle.orc_checker.proofs.Refusing.{lacks_refused, refused_for}
use Rattle.orc_checker.proofs.marked.Marked.bind.Goals as goal

pub returns-clause-done : goal.returns-clause-done
returns-clause-done c t =
    let l = c.args.program.now in
    let s = c.args.self.now in
    let v = c.self.view_is in
    let w = c.in_ok-bearer in
    let b = w.bearer in
    let place = c.in-Bound.at in
    let pruning = c.node_at-pruning.result in
    let k = c.in-Two in
    let r = c.in_ok-side in
    catch-applies l t s _ b.at b.parent c.args.s place c.args.c k.left k.right pruning.parent k.field-0 b.tip c.args.v r.side.items (reverse r.calls.items) c.write_node.new.self.items
    w.ensures.there w.ensures.lives w.ensures.bears
    (subst (λ (z : State). IsTaker z.nodes b.at (Bound c.args.c place)) v (subst (IsTaker c.self.inside.nodes.items b.at) (c.in-Bound.is ∙ ap (λ z. Bound z place) c.if-cell-c.false) c.in-Some.ensures.taker))
    (sym (ap (λ (z : State). get_or z.nodes place nowhere) v) ∙ sym c.node_at-pruning.ensures ∙ ap (λ z. node z pruning.parent) k.is)
    (record {
      free = w.ensures.free;
      unbound = c.in_ok-unbound.ensures.open;
      all = r.ensures.nodes;
      nodes = c.write_node.ensures.items ∙ ap (λ (z : State). slice_set z.nodes place (node (One Passed k.left) pruning.parent)) v;
      dropped = subst (IsDropped c.write_node.new.self.items r.side.items) (sym c.forget_asked.ensures.items) c.drop_nodes.ensures.dropped;
      len = ap length c.forget_asked.ensures.items ∙ c.drop_nodes.ensures.len ∙ ap length c.write_node.ensures.items ∙ length-set c.self.inside.nodes.items place _ ∙ ap (λ (z : State). length z.nodes) v;
      scopes = ap State.scopes v;
      marks = ap (λ (z : State). length z.marks) v;
      asked = c.forget_asked.ensures.asked;
      halts = ap State.halts v;
      rest = c.set_cancels.ensures ∙ ap (λ (z : State). record z.rest { to_cancel = reverse r.calls.items }) v;
    })
    (c.bind_cell.ensures ∙ ap (λ (z : State). slice_set z.cells c.args.c (Is c.args.v)) v)
    (c.settle.ensures.len ∙ ap (λ (z : State). length z.flags) v)
    (subst (λ z. Settles z s.flags place (flag s.flags k.left) c.settle.new.flags.items) (sym c.forget_asked.ensures.items)
    (subst (λ (z : State). Settles c.drop_nodes.new.nodes.items z.flags place (flag z.flags k.left) c.settle.new.flags.items) v
    (subst (λ z. Settles c.drop_nodes.new.nodes.items c.self.inside.flags.items place z c.settle.new.flags.items) c.flag_at-halted.ensures c.settle.ensures.settles)))
    r.ensures.recorded
    (λ e. ap reverse (r.ensures.not_recorded e))

pub write_node-requires : goal.write_node-requires
write_node-requires c = can_end c.self.inside.nodes.items c.in-Bound.at c.in-Two.left _ (ap Node.parent c.node_at-pruning.ensures)

pub invariant_of-self : goal.invariant_of-self
invariant_of-self c =
    let nodes = sym c.forget_asked.ensures.items in (
      subst (λ z. AreNoted z (Rest.calls c.set_cancels.new.self) c.self.inside.due) nodes (still_noted _ _ _ _ _ (wait_on _ _ _ (wait_written _ _ _ _ c.write_node.ensures.items refl) (wait_dropped _ _ _ c.drop_nodes.ensures.dropped)) (ap Rest.calls c.set_cancels.ensures) c.self.invariant.0),
      subst (λ z. AreKnown z c.settle.new.flags.items c.settle.new.candidates) nodes (known_kept _ _ _ _ _ _ _ c.self.invariant.1 (sides_on (length c.self.inside.nodes.items) _ _ _ (sides_written (length c.self.inside.nodes.items) _ _ _ _ c.write_node.ensures.items (can_end c.self.inside.nodes.items c.in-Bound.at c.in-Two.left _ (ap Node.parent c.node_at-pruning.ensures)) (λ p lt. refl)) (c.drop_nodes.ensures.sides (length c.self.inside.nodes.items))) c.settle.ensures.known c.settle.ensures.kept refl c.settle.ensures.len (c.drop_nodes.ensures.len ∙ ap length c.write_node.ensures.items ∙ length-set c.self.inside.nodes.items _ _)),
      subst (λ z. AreIndexed z (record { marks = c.self.inside.marks.items; prunings = c.self.inside.prunings.items; calls = Rest.calls c.set_cancels.new.self; cells = c.bind_cell.new.cells.items })) nodes (indexed_calls _ _ _ _ _ _ (ap Rest.calls c.set_cancels.ensures) (indexed_bound _ _ _ _ _ _ _ _ _ _ _ _ _ c.self.invariant.2 (ap name_of (subst (TakesThere c.self.inside.nodes.items) (c.in-Bound.is ∙ ap (λ z. Bound z c.in-Bound.at) c.if-cell-c.false) c.in-Some.ensures.there).2) c.write_node.ensures.items refl c.drop_nodes.ensures.dropped c.bind_cell.ensures)),
      c.self.invariant.3 ∙ sym (ap length c.bind_cell.ensures ∙ length-set _ _ _),
    )

pub returns-in_err-bearer-clause-reason : goal.returns-in_err-bearer-clause-reason
returns-in_err-bearer-clause-reason c =
    let p = err_from_is_err_and c.from_residual.result c.from_residual.ensures.1 in
    let a = c.args in
    rw (p.1, p.2) (λ t. bearer_refused a.program.now t (entry.Bind a.s a.c a.v) a.self.now a.s a.v (binds a.c a.v) _ (asks_bind a.s a.c a.v) c.in_err-bearer.ensures.refused)

pub returns-in_default-clause-reason : goal.returns-in_default-clause-reason
returns-in_default-clause-reason c t =
    let a = c.args in
    let b = c.in_ok-bearer.bearer in
    standing_refused a.program.now t (entry.Bind a.s a.c a.v) a.self.now b.parent b.at b.tip _ c.in_ok-bearer.ensures.there c.in_ok-bearer.ensures.lives
    (subst (λ (z : State). (n : ℕ) (k : List Frame) (u : Tree) → Stands z.nodes n b.at k u → ⊥) c.self.view_is (subst (λ o. IfNone o ((n : ℕ) (k : List Frame) (u : Tree) → Stands c.self.inside.nodes.items n b.at k u → ⊥)) c.in_default.is c.way_up.ensures.none))

pub returns-in_default-taker : goal.returns-in_default-taker
returns-in_default-taker c =
    let a = c.args in
    let b = c.in_ok-bearer.bearer in
    record {
      done = tt;
      refused = refl;
      reason = λ t. taker_refused a.program.now t (entry.Bind a.s a.c a.v) a.self.now a.s a.v (binds a.c a.v) b.parent b.at b.tip c.in-Some.taker (asks_bind a.s a.c a.v) c.in_ok-bearer.ensures.there c.in_ok-bearer.ensures.lives c.in_ok-bearer.ensures.bears
          (subst (λ (z : State). IsTaker z.nodes b.at c.in-Some.taker) c.self.view_is c.in-Some.ensures.taker)
          (λ e. let w = bound_takes _ _ _ e in c.in_default-taker.not-Bound _ _ w.1);
    }

pub returns-in_err-unbound-clause-reason : goal.returns-in_err-unbound-clause-reason
returns-in_err-unbound-clause-reason c =
    let p = err_from_is_err_and c.from_residual-in_err-unbound.result c.from_residual-in_err-unbound.ensures.1 in
    let a = c.args in
    let w = c.in_err-unbound.ensures.refused in
    let none : NoPruning a.self.now.nodes a.c =
    λ q i left right there. w.1 (sym (ap (λ (z : State). slice_get z.cells a.c) c.self.view_is) ∙ (pruning_put c.self.inside.nodes.items _ c.self.invariant.2 a.c q i left right (ap (λ (z : State). slice_get z.nodes i) c.self.view_is ∙ there)).1) in
    rw (p.1, p.2) (λ t. refused_for a.program.now t (entry.Bind a.s a.c a.v) a.self.now _ _ w.0 (lacks_refused a.program.now t (entry.Bind a.s a.c a.v) a.self.now (NoPruning a.self.now.nodes a.c) reason.Mark none (λ x q h. h) (λ x q sp h none. no_pruning x (code a.program.now) a.self.now q sp a.c none h.1)))

pub returns-then-cell-c-clause-reason : goal.returns-then-cell-c-clause-reason
returns-then-cell-c-clause-reason c t =
    let a = c.args in
    let b = c.in_ok-bearer.bearer in
    taker_refused a.program.now t (entry.Bind a.s a.c a.v) a.self.now a.s a.v (binds a.c a.v) b.parent b.at b.tip c.in-Some.taker (asks_bind a.s a.c a.v) c.in_ok-bearer.ensures.there c.in_ok-bearer.ensures.lives c.in_ok-bearer.ensures.bears
    (subst (λ (z : State). IsTaker z.nodes b.at c.in-Some.taker) c.self.view_is c.in-Some.ensures.taker)
    (λ e. let w = bound_takes c.in-Some.taker a.v a.c e in let same : Bound c.in-Bound.cell c.in-Bound.at ≡ Bound a.c w.0 = sym c.in-Bound.is ∙ w.1 in c.if-cell-c.true (cc same))
