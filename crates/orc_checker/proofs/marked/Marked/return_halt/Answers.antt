use Rattle.orc_term.specs.Settling.{Settles}
use Rattle.std.proofs.Common.{refl, ◌∙◌, ap, length, subst, true, length-set}
use Rattle.std.specs.Prelude.{slice_set}
use Rattle.orc_term.specs.declared.arena.Kind.TheVariants.{Leaf}
use Rattle.orc_term.specs.declared.arena.Tip.TheVariants.{Ended}
use Rattle.orc_checker.specs.Checker.{State}
use Rattle.orc_checker.specs.Calls.{Rest}
use Rattle.orc_term.proofs.Trees.{node}
use Rattle.orc_checker.proofs.CallEntries.{halt-enters, due_at}
use Rattle.orc_term.proofs.Hints.{can_rest}
use Rattle.orc_checker.proofs.Noting.{still_noted, wait_written}
use Rattle.orc_term.proofs.KeptSides.{known_kept, sides_written}
use Rattle.orc_checker.proofs.Indexed.{indexed_kept, names_written}
use Rattle.std.proofs.lemmas.Result.{err_from_is_err_and}
use Rattle.orc_rules.specs.declared.entry.Entry.TheVariants as entry
use Rattle.orc_rules.specs.declared.value.Answer.TheVariants.{Halt}
use Rattle.orc_rules.specs.Nodes.{code}
use Rattle.orc_checker.specs.Refusing.{NoCall}
use Rattle.orc_checker.proofs.Parts.{no_call}
use Rattle.orc_checker.proofs.Refusing.{answer_refused, lacks_refused}
use Rattle.orc_checker.proofs.marked.Marked.return_halt.Goals as goal

pub returns-clause-done : goal.returns-clause-done
returns-clause-done c code =
    let t = c.in_ok-pending.pending in
    let v = c.self.view_is in
    let s = c.args.self.now in
    halt-enters code c.args.answers.now.sites s _ t.at t.parent c.args.k t.called c.in_ok-pending.ensures.there c.in_ok-pending.ensures.call
    (due_at t.called _ _ _ (c.time.ensures ∙ ap (λ (z : State). Rest.time z.rest) v) c.in_ok-is_due_now.ensures.due)
    (c.write_node.ensures.items ∙ ap (λ (z : State). slice_set z.nodes t.at (node (Leaf Ended) t.parent)) v)
    (c.settle.ensures.len ∙ ap (λ (z : State). length z.flags) v)
    (subst (λ z. Settles c.write_node.new.self.items z t.at true c.settle.new.flags.items) (ap State.flags v) c.settle.ensures.settles)
    (record { free = c.in_ok-pending.ensures.free; scopes = ap State.scopes v; cells = ap State.cells v; marks = ap (λ (z : State). length z.marks) v; rest = ap State.rest v; halts = ap State.halts v; asked = c.write_node.ensures.asked ∙ ap State.asked v })

pub write_node-requires : goal.write_node-requires
write_node-requires c = can_rest c.args.self.now.nodes _ _ _ _ _ (ap State.nodes c.self.view_is) c.in_ok-pending.ensures.there (λ v. refl) refl

pub next_due-due-requires : goal.next_due-due-requires
next_due-due-requires c = still_noted _ _ _ _ _ (wait_written _ _ _ _ c.write_node.ensures.items refl) refl c.self.invariant.0

pub invariant_of-self : goal.invariant_of-self
invariant_of-self c = (
  c.next_due-due.ensures.noted,
  known_kept _ _ _ _ _ _ _ c.self.invariant.1 (sides_written (length c.self.inside.nodes.items) _ _ _ _ c.write_node.ensures.items (can_rest c.args.self.now.nodes _ _ _ _ _ (ap State.nodes c.self.view_is) c.in_ok-pending.ensures.there (λ v. refl) refl) (λ p lt. refl)) c.settle.ensures.known c.settle.ensures.kept refl c.settle.ensures.len (ap length c.write_node.ensures.items ∙ length-set c.self.inside.nodes.items _ _),
  indexed_kept _ _ _ c.self.invariant.2 (names_written _ _ _ _ _ c.write_node.ensures.items refl),
  c.self.invariant.3,
)

pub returns-in_err-pending-clause-reason : goal.returns-in_err-pending-clause-reason
returns-in_err-pending-clause-reason c =
    let p = err_from_is_err_and c.from_residual.result c.from_residual.ensures.1 in
    let a = c.args in
    rw (p.1, p.2) (λ l. lacks_refused l a.answers.now (entry.ReturnHalt a.k) a.self.now (NoCall a.self.now.nodes a.k) _ c.in_err-pending.ensures.refused (λ x q h. h) (λ x q sp h none. no_call x (code l) a.self.now q sp a.k none h))

pub returns-in_err-is_due_now-clause-reason : goal.returns-in_err-is_due_now-clause-reason
returns-in_err-is_due_now-clause-reason c =
    let p = err_from_is_err_and c.from_residual-in_err-is_due_now.result c.from_residual-in_err-is_due_now.ensures.1 in
    let a = c.args in
    rw (p.1, p.2) (λ l. answer_refused l a.answers.now (entry.ReturnHalt a.k) a.self.now a.k c.in_ok-pending.pending.called Halt c.time.result _ c.in_ok-pending.ensures.call (c.time.ensures ∙ ap (λ (z : State). Rest.time z.rest) c.self.view_is) c.in_err-is_due_now.ensures.not_due (λ x q h. h) (λ x q h. h))
