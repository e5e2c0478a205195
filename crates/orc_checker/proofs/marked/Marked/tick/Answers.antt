use Rattle.std.proofs.Common.{◌≡◌, ◌∙◌, ℕ, List, Some, [], ap, refl, sym, subst, arith}
use Rattle.orc_rules.specs.Nodes.{code}
use Rattle.orc_term.specs.Asking.{AreOfNodes}
use Rattle.orc_term.specs.declared.arena.Node.{Node}
use Rattle.orc_term.specs.declared.arena.Kind.{Kind}
use Rattle.orc_checker.specs.Calls.{Rest}
use Rattle.orc_checker.specs.Checker.{State, Spells, context}
use Rattle.orc_checker.specs.NextDue.{IsNext}
use Rattle.orc_checker.proofs.Ticking.{tick-follows}
use Rattle.orc_checker.proofs.Refusing.{some_is, tick_refused}
use Rattle.orc_checker.proofs.marked.Marked.tick.Goals.{then-due-t-via-then-due-t, then-due-t-via-else-due-t+then-due-time}
use Rattle.orc_checker.proofs.marked.Marked.tick.Goals as goal

abbrev timed : ℕ → Rest → Rest
timed t r = record { calls = r.calls; counts = r.counts; time = t; to_cancel = r.to_cancel; cancels = r.cancels }

abbrev with_rest : State → List Node → List Kind → Rest → State
with_rest s nodes asked r = record { nodes = nodes; scopes = s.scopes; cells = s.cells; marks = s.marks; halts = s.halts; flags = s.flags; asked = asked; rest = r }

pub returns-clause-done : goal.returns-clause-done
returns-clause-done c = λ sites cancels p reached.
    let l = c.args.program.now in
    let s = c.args.self.now in
    let v = c.self.view_is in
    let w = c.self-2.view_is ∙ c.can_move.ensures.same ∙ v in
    let x = context l sites cancels in
    let e : c.in-Some.due ≡ c.args.t = omega arith in
    let next : IsNext c.self.inside.nodes.items c.self.inside.rest.calls (Some c.in-Some.due) = subst (IsNext c.self.inside.nodes.items c.self.inside.rest.calls) c.in-Some.is c.next_due.ensures.next in
    tick-follows x (code l) s _ c.args.t c.note_asked.new.self.asked (c.program_is_source.ensures l).0 c.tests_are_right.ensures.tick
    (subst (λ (z : State). z.rest.to_cancel ≡ []) v (c.has_cancels.ensures.free c.if-has_cancels.false))
    (λ p sp. sym (c.can_move.ensures.moves x p refl (subst (λ z. Spells x (code l) z p) (sym v) sp)) ∙ c.if-can_move.false)
    (subst (λ (z : State). IsNext z.nodes z.rest.calls (Some c.args.t)) v (subst (λ z. IsNext c.self.inside.nodes.items c.self.inside.rest.calls (Some z)) e next))
    (omega (arith, c.if-due-time.false, c.time.ensures, e, ap (λ (z : State). z.rest.time) v))
    (subst (λ z. AreOfNodes z c.note_asked.new.self.asked) (c.note_asked.ensures.items ∙ ap State.nodes w) c.note_asked.ensures.asked)
    (λ j. with_rest (w j) ((c.note_asked.ensures.items ∙ ap State.nodes w) j) c.note_asked.new.self.asked ((c.set_time.ensures ∙ ap (λ (z : State). timed c.args.t z.rest) w) j))
    p

pub returns-in_default-clause-reason : goal.returns-in_default-clause-reason
returns-in_default-clause-reason c sites =
    tick_refused c.args.program.now sites c.args.self.now c.args.t c.next_due.result c.program_is_source.ensures c.tests_are_right.ensures.tick
    (subst (λ (z : State). IsNext z.nodes z.rest.calls c.next_due.result) c.self.view_is c.next_due.ensures.next)
    (λ x p own sp still is lt. c.in_default.not-Some _ is)

pub returns-then-due-t-clause-reason : goal.returns-then-due-t-clause-reason
returns-then-due-t-clause-reason c sites =
    tick_refused c.args.program.now sites c.args.self.now c.args.t c.next_due.result c.program_is_source.ensures c.tests_are_right.ensures.tick
    (subst (λ (z : State). IsNext z.nodes z.rest.calls c.next_due.result) c.self.view_is c.next_due.ensures.next)
    (λ x p own sp still is lt.
    let e : c.in-Some.due ≡ c.args.t = some_is _ _ (sym c.in-Some.is ∙ is) in
    let now = ap (λ (z : State). z.rest.time) c.self.view_is in
    elim c.then-due-t.branch [
      | then-due-t-via-then-due-t w ↦ absurd (omega (arith, w.if-due-t.true, e))
      | then-due-t-via-else-due-t+then-due-time w ↦ absurd (omega (arith, w.if-due-time.true, w.time.ensures, e, now, lt))
    ])

pub returns-then-can_move-clause-reason : goal.returns-then-can_move-clause-reason
returns-then-can_move-clause-reason c sites =
    let l = c.args.program.now in
    tick_refused l sites c.args.self.now c.args.t c.next_due.result c.program_is_source.ensures c.tests_are_right.ensures.tick
    (subst (λ (z : State). IsNext z.nodes z.rest.calls c.next_due.result) c.self.view_is c.next_due.ensures.next)
    (λ x p own sp still is lt. cc (sym c.if-can_move.true ∙ c.can_move.ensures.moves x p own (subst (λ z. Spells x (code l) z p) (sym c.self.view_is) sp) ∙ still))
