use Rattle.std.proofs.Common.{refl, arith, ap, ◌∙◌, length, length-set}
use Rattle.std.specs.Prelude.{slice_set}
use Rattle.orc_rules.specs.Nodes.{code, unfold_node}
use Rattle.orc_term.specs.declared.arena.Kind.TheVariants.{Leaf}
use Rattle.orc_term.specs.declared.arena.Tip.TheVariants.{Ended}
use Rattle.orc_checker.specs.Checker.{State}
use Rattle.orc_term.proofs.Trees.{node}
use Rattle.orc_checker.proofs.Moves.{end-enters}
use Rattle.orc_term.proofs.Hints.{can_rest}
use Rattle.orc_checker.proofs.Noting.{still_noted, wait_written}
use Rattle.orc_term.proofs.KeptSides.{known_kept, flags_same, sides_written}
use Rattle.orc_checker.proofs.Indexed.{indexed_kept, names_written}
use Rattle.std.proofs.lemmas.Result.{err_from_is_err_and}
use Rattle.orc_rules.specs.declared.entry.Entry.TheVariants as entry
use Rattle.orc_checker.proofs.Refusing.{HasSort, asks_end, sort_refused, spot_refused, stop_node}
use Rattle.orc_checker.proofs.marked.Marked.end.Goals as goal

pub returns-clause-done : goal.returns-clause-done
returns-clause-done c =
    let terms = code c.args.program.now in
    let t = c.in_ok-spot.spot in
    let v = c.self.view_is in
    end-enters terms c.args.self.now _ t.at t.parent c.args.s t.node t.scope c.in_ok-spot.ensures.there
    (c.node.ensures.term ∙ ap (unfold_node terms c.args.program.now.lists) c.in-Stop.is)
    (c.write_node.ensures.items ∙ ap (λ (z : State). slice_set z.nodes t.at (node (Leaf Ended) t.parent)) v)
    (ap State.flags v)
    (record { free = c.in_ok-spot.ensures.free; scopes = ap State.scopes v; cells = ap State.cells v; marks = ap (λ (z : State). length z.marks) v; rest = ap State.rest v; halts = ap State.halts v; asked = c.write_node.ensures.asked ∙ ap State.asked v })

pub write_node-requires : goal.write_node-requires
write_node-requires c = can_rest c.args.self.now.nodes _ _ _ _ _ (ap State.nodes c.self.view_is) c.in_ok-spot.ensures.there (λ v. refl) refl

pub invariant_of-self : goal.invariant_of-self
invariant_of-self c = (
  still_noted _ _ _ _ _ (wait_written _ _ _ _ c.write_node.ensures.items refl) refl c.self.invariant.0,
  known_kept _ _ _ _ _ _ _ c.self.invariant.1 (sides_written (length c.self.inside.nodes.items) _ _ _ _ c.write_node.ensures.items (can_rest c.args.self.now.nodes _ _ _ _ _ (ap State.nodes c.self.view_is) c.in_ok-spot.ensures.there (λ v. refl) refl) (λ p lt. refl)) (flags_same _ _ _ _ refl) (λ p m. m) refl refl (ap length c.write_node.ensures.items ∙ length-set c.self.inside.nodes.items _ _),
  indexed_kept _ _ _ c.self.invariant.2 (names_written _ _ _ _ _ c.write_node.ensures.items refl),
  c.self.invariant.3,
)

pub returns-in_err-spot-clause-reason : goal.returns-in_err-spot-clause-reason
returns-in_err-spot-clause-reason c =
    let p = err_from_is_err_and c.from_residual.result c.from_residual.ensures.1 in
    let a = c.args in
    rw (p.1, p.2) (λ t. spot_refused a.program.now t (entry.End a.s) a.self.now a.s (HasSort 0) _ (asks_end a.s) (λ v e. absurd (omega (arith, e))) c.in_err-spot.ensures.refused)

pub returns-in_default : goal.returns-in_default
returns-in_default c =
    let a = c.args in
    let t = c.in_ok-spot.spot in
    record { done = tt; refused = refl; reason = λ sites. sort_refused a.program.now sites (entry.End a.s) a.self.now a.s t.at t.parent t.node t.scope 0 c.node.result (asks_end a.s) c.in_ok-spot.ensures.there c.node.ensures.term (λ e. c.in_default.not-Stop (stop_node _ e)) }
