use Rattle.std.proofs.Common.{refl, ap, sym, subst, ◌∙◌, length, length-set}
use Rattle.std.specs.Prelude.{slice_get, slice_set}
use Rattle.orc_env.specs.declared.names.Bound.TheVariants.{Void}
use Rattle.orc_term.specs.declared.arena.Single.TheVariants.{Passed}
use Rattle.orc_term.specs.declared.arena.Double.TheVariants.{Side}
use Rattle.orc_term.specs.declared.arena.Kind.TheVariants.{One, Two}
use Rattle.orc_term.specs.Dropping.{IsDropped}
use Rattle.orc_term.specs.Sides.{AreKnown}
use Rattle.orc_checker.specs.NextDue.{AreNoted}
use Rattle.orc_checker.specs.Calls.{Rest}
use Rattle.orc_checker.specs.Checker.{State}
use Rattle.orc_term.proofs.Trees.{node}
use Rattle.orc_checker.proofs.Losing.{lose-applies}
use Rattle.orc_term.proofs.Hints.{can_end, parent_there}
use Rattle.orc_checker.proofs.Noting.{still_noted, wait_on, wait_written, wait_dropped}
use Rattle.orc_term.proofs.KeptSides.{known_kept, flags_same, sides_on, sides_written}
use Rattle.orc_checker.specs.Index.{name_of, AreIndexed}
use Rattle.orc_checker.proofs.Indexed.{indexed_bound, kind_there}
use Rattle.std.proofs.lemmas.Result.{err_from_is_err_and}
use Rattle.orc_rules.specs.declared.entry.Entry.TheVariants as entry
use Rattle.orc_rules.specs.Nodes.{code}
use Rattle.orc_checker.specs.Refusing.{NoPruning}
use Rattle.orc_checker.proofs.Lookups.{pruning_put}
use Rattle.orc_checker.proofs.Parts.{no_pruning}
use Rattle.orc_checker.proofs.Refusing.{lacks_refused, lost_refused}
use Rattle.orc_checker.proofs.marked.Marked.lost.Goals as goal

pub returns-clause-done : goal.returns-clause-done
returns-clause-done c t =
    let v = c.self.view_is in
    let w = c.in_ok-pruning in
    let o = w.pruning in
    let side = c.in_ok-side.side.items in
    lose-applies c.args.program.now t c.args.self.now _ o.at o.parent c.args.c o.left o.right side c.write_node.new.self.items w.ensures.there (sym c.part_has_halted.ensures ∙ c.if-not-part_has_halted.false)
    (record {
      free = w.ensures.free;
      unbound = c.in_ok-unbound.ensures.open;
      all = c.in_ok-side.ensures.nodes;
      nodes = c.write_node.ensures.items ∙ ap (λ (z : State). slice_set z.nodes o.at (node (One Passed o.left) o.parent)) v;
      dropped = subst (IsDropped c.write_node.new.self.items side) (sym c.forget_asked.ensures.items) c.drop_nodes.ensures.dropped;
      len = ap length c.forget_asked.ensures.items ∙ c.drop_nodes.ensures.len ∙ ap length c.write_node.ensures.items ∙ length-set c.self.inside.nodes.items o.at _ ∙ ap (λ (z : State). length z.nodes) v;
      scopes = ap State.scopes v;
      cells = c.bind_cell.ensures ∙ ap (λ (z : State). slice_set z.cells c.args.c Void) v;
      marks = ap (λ (z : State). length z.marks) v;
      halts = ap State.halts v;
      flags = ap State.flags v;
      asked = c.forget_asked.ensures.asked;
      rest = ap State.rest v;
    })

pub write_node-requires : goal.write_node-requires
write_node-requires c =
    let o = c.in_ok-pruning.pruning in
    can_end c.self.inside.nodes.items o.at o.left o.parent (parent_there c.args.self.now.nodes _ o.parent o.at _ (ap State.nodes c.self.view_is) c.in_ok-pruning.ensures.there)

pub invariant_of-self : goal.invariant_of-self
invariant_of-self c =
    let nodes = sym c.forget_asked.ensures.items in (
      subst (λ z. AreNoted z (Rest.calls c.self.inside.rest) c.self.inside.due) nodes (still_noted _ _ _ _ _ (wait_on _ _ _ (wait_written _ _ _ _ c.write_node.ensures.items refl) (wait_dropped _ _ _ c.drop_nodes.ensures.dropped)) refl c.self.invariant.0),
      subst (λ z. AreKnown z c.self.inside.flags.items c.self.inside.candidates) nodes (known_kept _ _ _ _ _ _ _ c.self.invariant.1 (sides_on (length c.self.inside.nodes.items) _ _ _ (sides_written (length c.self.inside.nodes.items) _ _ _ _ c.write_node.ensures.items (can_end c.self.inside.nodes.items c.in_ok-pruning.pruning.at c.in_ok-pruning.pruning.left c.in_ok-pruning.pruning.parent (parent_there c.args.self.now.nodes _ c.in_ok-pruning.pruning.parent c.in_ok-pruning.pruning.at _ (ap State.nodes c.self.view_is) c.in_ok-pruning.ensures.there)) (λ p lt. refl)) (c.drop_nodes.ensures.sides (length c.self.inside.nodes.items))) (flags_same _ _ _ _ refl) (λ p m. m) refl refl (c.drop_nodes.ensures.len ∙ ap length c.write_node.ensures.items ∙ length-set c.self.inside.nodes.items _ _)),
      subst (λ z. AreIndexed z (record { marks = c.self.inside.marks.items; prunings = c.self.inside.prunings.items; calls = Rest.calls c.self.inside.rest; cells = c.bind_cell.new.cells.items })) nodes (indexed_bound _ _ _ _ _ _ _ _ _ _ _ _ _ c.self.invariant.2 (ap name_of (kind_there c.self.inside.nodes.items c.in_ok-pruning.pruning.parent c.in_ok-pruning.pruning.at (Two (Side c.args.c) c.in_ok-pruning.pruning.left c.in_ok-pruning.pruning.right) (ap (λ (z : State). slice_get z.nodes c.in_ok-pruning.pruning.at) c.self.view_is ∙ c.in_ok-pruning.ensures.there))) c.write_node.ensures.items refl c.drop_nodes.ensures.dropped c.bind_cell.ensures),
      c.self.invariant.3 ∙ sym (ap length c.bind_cell.ensures ∙ length-set _ _ _),
    )

pub returns-in_err-pruning-clause-reason : goal.returns-in_err-pruning-clause-reason
returns-in_err-pruning-clause-reason c =
    let p = err_from_is_err_and c.from_residual.result c.from_residual.ensures.1 in
    let a = c.args in
    rw (p.1, p.2) (λ t. lacks_refused a.program.now t (entry.Lost a.c) a.self.now (NoPruning a.self.now.nodes a.c) _ c.in_err-pruning.ensures.refused (λ x q h. h) (λ x q sp h none. no_pruning x (code a.program.now) a.self.now q sp a.c none h))

pub returns-in_err-unbound-clause-reason : goal.returns-in_err-unbound-clause-reason
returns-in_err-unbound-clause-reason c =
    let p = err_from_is_err_and c.from_residual-in_err-unbound.result c.from_residual-in_err-unbound.ensures.1 in
    let a = c.args in
    rw (p.1, p.2) (λ t. absurd (c.in_err-unbound.ensures.refused.1 (sym (ap (λ (z : State). slice_get z.cells a.c) c.self.view_is) ∙ (pruning_put c.self.inside.nodes.items _ c.self.invariant.2 a.c c.in_ok-pruning.pruning.parent c.in_ok-pruning.pruning.at c.in_ok-pruning.pruning.left c.in_ok-pruning.pruning.right (ap (λ (z : State). slice_get z.nodes c.in_ok-pruning.pruning.at) c.self.view_is ∙ c.in_ok-pruning.ensures.there)).1)))

pub returns-then-not-part_has_halted-clause-reason : goal.returns-then-not-part_has_halted-clause-reason
returns-then-not-part_has_halted-clause-reason c t =
    let o = c.in_ok-pruning.pruning in
    lost_refused c.args.program.now t c.args.self.now c.args.c o.parent o.at o.left o.right c.in_ok-pruning.ensures.there (sym c.part_has_halted.ensures ∙ c.if-not-part_has_halted.true)
