use Rattle.std.proofs.Common.{refl, sym, ◌∙◌, ap, rules, length, length-set}
use Rattle.std.specs.Prelude.{slice_set}
use Rattle.orc_term.specs.declared.arena.Kind.TheVariants.{Leaf}
use Rattle.orc_term.specs.declared.arena.Tip.TheVariants.{Bears}
use Rattle.orc_checker.specs.Checker.{State}
use Rattle.orc_checker.specs.Calls.{Rest}
use Rattle.orc_term.proofs.Trees.{node}
use Rattle.orc_checker.proofs.Answering.{one_more}
use Rattle.orc_checker.proofs.CallEntries.{return-enters, due_at}
use Rattle.orc_term.proofs.Hints.{can_wake}
use Rattle.orc_checker.proofs.Noting.{still_noted, same_wait, wait_on, wait_written}
use Rattle.orc_term.proofs.KeptSides.{known_kept, flags_same, sides_same, sides_on, sides_woken}
use Rattle.orc_checker.proofs.Indexed.{indexed_token}
use Rattle.std.proofs.lemmas.Result.{err_from_is_err_and}
use Rattle.orc_rules.specs.declared.entry.Entry.TheVariants as entry
use Rattle.orc_rules.specs.declared.value.Answer.TheVariants.{Value as Gives}
use Rattle.orc_rules.specs.Nodes.{code}
use Rattle.orc_checker.specs.Refusing.{NoCall}
use Rattle.orc_checker.proofs.Parts.{no_call}
use Rattle.orc_checker.proofs.Refusing.{answer_refused, lacks_refused, mark_refused, refused_for}
use Rattle.orc_checker.proofs.marked.Marked.return_value.Goals as goal

pub returns-clause-done : goal.returns-clause-done
returns-clause-done c code =
    let t = c.in_ok-pending.pending in
    let v = c.self.view_is in
    let s = c.args.self.now in
    return-enters code c.args.answers.now.sites s _ t.at t.parent c.args.k c.args.a c.args.v t.called c.in_ok-pending.ensures.there c.in_ok-pending.ensures.call
    (due_at t.called _ _ _ (c.time.ensures ∙ ap (λ (z : State). Rest.time z.rest) v) c.in_ok-is_due_now.ensures.due)
    (c.wake.ensures.items ∙ ap (λ z. slice_set z t.at (node (Leaf (Bears c.args.a c.args.v)) t.parent)) (c.reserve_wake.ensures.nodes ∙ ap State.nodes v))
    (ap State.flags v)
    c.in_ok-expect_mark.ensures.next
    (record { free = c.in_ok-pending.ensures.free; scopes = ap State.scopes v; cells = ap State.cells v; marks = one_more s.marks _ _ _ c.args.a (c.reserve_wake.ensures.marks ∙ ap State.marks v) c.push_within.ensures.items c.in_ok-expect_mark.ensures.next; rest = ap State.rest v; halts = ap State.halts v; asked = c.wake.ensures.asked ∙ c.reserve_wake.ensures.asked ∙ ap State.asked v })

pub wake-requires : goal.wake-requires
wake-requires c = record { room = search rules; node = can_wake c.args.self.now.nodes _ _ _ _ _ (c.reserve_wake.ensures.nodes ∙ ap State.nodes c.self.view_is) c.in_ok-pending.ensures.there (λ v. refl) }

pub next_due-due-requires : goal.next_due-due-requires
next_due-due-requires c = still_noted _ _ _ _ _ (wait_on _ _ _ (same_wait _ _ c.reserve_wake.ensures.nodes) (wait_written _ _ _ _ c.wake.ensures.items refl)) refl c.self.invariant.0

pub invariant_of-self-2 : goal.invariant_of-self-2
invariant_of-self-2 c = (
  c.next_due-due.ensures.noted,
  known_kept _ _ _ _ _ _ _ c.self.invariant.1
      (sides_on (length c.self.inside.nodes.items) _ _ _ (sides_same (length c.self.inside.nodes.items) _ _ c.reserve_wake.ensures.nodes) (sides_woken (length c.self.inside.nodes.items) _ _ _ _ c.wake.ensures.items (can_wake c.args.self.now.nodes _ _ _ _ _ (c.reserve_wake.ensures.nodes ∙ ap State.nodes c.self.view_is) c.in_ok-pending.ensures.there (λ v. refl)) (λ p lt. refl)))
      (flags_same _ _ _ _ refl) (λ p m. m) refl refl
      (ap length c.wake.ensures.items ∙ length-set c.reserve_wake.new.nodes.items _ _ ∙ ap length c.reserve_wake.ensures.nodes),
  indexed_token _ _ _ _ _ _ _ _ _ _ _ _ c.self.invariant.2 c.reserve_wake.ensures.nodes c.wake.ensures.items refl (c.in_ok-expect_mark.ensures.next ∙ ap (λ (z : State). length z.marks) (sym c.self.view_is)) c.reserve_wake.ensures.marks c.push_within.ensures.items,
  c.self.invariant.3,
)

pub returns-in_err-pending-clause-reason : goal.returns-in_err-pending-clause-reason
returns-in_err-pending-clause-reason c =
    let p = err_from_is_err_and c.from_residual.result c.from_residual.ensures.1 in
    let a = c.args in
    rw (p.1, p.2) (λ l. lacks_refused l a.answers.now (entry.Return a.k a.a a.v) a.self.now (NoCall a.self.now.nodes a.k) _ c.in_err-pending.ensures.refused (λ x q h. h) (λ x q sp h none. no_call x (code l) a.self.now q sp a.k none h))

pub returns-in_err-expect_mark-clause-reason : goal.returns-in_err-expect_mark-clause-reason
returns-in_err-expect_mark-clause-reason c =
    let p = err_from_is_err_and c.from_residual-in_err-expect_mark.result c.from_residual-in_err-expect_mark.ensures.1 in
    let a = c.args in
    rw (p.1, p.2) (λ l. let w = c.in_err-expect_mark.ensures.refused in refused_for l a.answers.now (entry.Return a.k a.a a.v) a.self.now _ _ w.0 (mark_refused l a.answers.now (entry.Return a.k a.a a.v) a.self.now a.a (λ x q h. h) w.1))

pub returns-in_err-is_due_now-clause-reason : goal.returns-in_err-is_due_now-clause-reason
returns-in_err-is_due_now-clause-reason c =
    let p = err_from_is_err_and c.from_residual-in_err-is_due_now.result c.from_residual-in_err-is_due_now.ensures.1 in
    let a = c.args in
    rw (p.1, p.2) (λ l. answer_refused l a.answers.now (entry.Return a.k a.a a.v) a.self.now a.k c.in_ok-pending.pending.called (Gives a.v) c.time.result _ c.in_ok-pending.ensures.call (c.time.ensures ∙ ap (λ (z : State). Rest.time z.rest) c.self.view_is) c.in_err-is_due_now.ensures.not_due (λ x q h. h) (λ x q h. h))
