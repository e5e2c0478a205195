use Rattle.std.proofs.Common.{refl, ap, ◌∙◌, length, subst, true, length-set}
use Rattle.std.specs.Prelude.{slice_set}
use Rattle.orc_rules.specs.Nodes.{code}
use Rattle.orc_term.specs.declared.arena.Kind.TheVariants.{Leaf}
use Rattle.orc_term.specs.declared.arena.Tip.TheVariants.{Ended}
use Rattle.orc_term.specs.Settling.{Settles}
use Rattle.orc_checker.specs.Checker.{State}
use Rattle.orc_term.proofs.Trees.{node}
use Rattle.orc_checker.proofs.Voiding.{void-enters}
use Rattle.orc_term.proofs.Hints.{can_rest}
use Rattle.orc_checker.proofs.Noting.{still_noted, wait_written}
use Rattle.orc_term.proofs.KeptSides.{known_kept, sides_written}
use Rattle.orc_checker.proofs.Indexed.{indexed_kept, names_written}
use Rattle.std.proofs.lemmas.Result.{err_from_is_err_and}
use Rattle.orc_rules.specs.Journal.{IsVoid}
use Rattle.orc_rules.specs.declared.entry.Entry.TheVariants as entry
use Rattle.orc_checker.proofs.Refusing.{asks_void, form_refused, spot_refused}
use Rattle.orc_checker.proofs.marked.Marked.void.Goals as goal

pub returns-clause-done : goal.returns-clause-done
returns-clause-done c =
    let terms = code c.args.program.now in
    let t = c.in_ok-spot.spot in
    let v = c.self.view_is in
    void-enters terms c.args.self.now _ t.at t.parent c.args.s t.node t.scope c.in_ok-spot.ensures.there
    (c.on_void.ensures.void c.if-not-on_void.false)
    (c.on_void.ensures.running c.if-not-on_void.false)
    (c.write_node.ensures.items ∙ ap (λ (z : State). slice_set z.nodes t.at (node (Leaf Ended) t.parent)) v)
    (c.settle.ensures.len ∙ ap (λ (z : State). length z.flags) v)
    (subst (λ (z : State). Settles c.write_node.new.self.items z.flags t.at true c.settle.new.flags.items) v c.settle.ensures.settles)
    (record { free = c.in_ok-spot.ensures.free; scopes = ap State.scopes v; cells = ap State.cells v; marks = ap (λ (z : State). length z.marks) v; rest = ap State.rest v; halts = ap State.halts v; asked = c.write_node.ensures.asked ∙ ap State.asked v })

pub write_node-requires : goal.write_node-requires
write_node-requires c = can_rest c.args.self.now.nodes _ _ _ _ _ (ap State.nodes c.self.view_is) c.in_ok-spot.ensures.there (λ v. refl) refl

pub invariant_of-self : goal.invariant_of-self
invariant_of-self c = (
  still_noted _ _ _ _ _ (wait_written _ _ _ _ c.write_node.ensures.items refl) refl c.self.invariant.0,
  known_kept _ _ _ _ _ _ _ c.self.invariant.1 (sides_written (length c.self.inside.nodes.items) _ _ _ _ c.write_node.ensures.items (can_rest c.args.self.now.nodes _ _ _ _ _ (ap State.nodes c.self.view_is) c.in_ok-spot.ensures.there (λ v. refl) refl) (λ p lt. refl)) c.settle.ensures.known c.settle.ensures.kept refl c.settle.ensures.len (ap length c.write_node.ensures.items ∙ length-set c.self.inside.nodes.items _ _),
  indexed_kept _ _ _ c.self.invariant.2 (names_written _ _ _ _ _ c.write_node.ensures.items refl),
  c.self.invariant.3,
)

pub returns-in_err-spot-clause-reason : goal.returns-in_err-spot-clause-reason
returns-in_err-spot-clause-reason c =
    let p = err_from_is_err_and c.from_residual.result c.from_residual.ensures.1 in
    let a = c.args in
    rw (p.1, p.2) (λ t. spot_refused a.program.now t (entry.Void a.s) a.self.now a.s IsVoid _ (asks_void a.s) (λ v e. cc e) c.in_err-spot.ensures.refused)

pub returns-then-not-on_void-clause-reason : goal.returns-then-not-on_void-clause-reason
returns-then-not-on_void-clause-reason c t =
    let a = c.args in
    let o = c.in_ok-spot.spot in
    form_refused a.program.now t (entry.Void a.s) a.self.now a.s o.at o.parent o.node o.scope IsVoid (asks_void a.s) c.in_ok-spot.ensures.there (c.on_void.ensures.other c.if-not-on_void.true)
