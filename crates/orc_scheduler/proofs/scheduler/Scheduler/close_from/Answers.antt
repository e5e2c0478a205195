use Rattle.std.proofs.Common.{sym, ap, subst, ◌∙◌, arith, inl, inr}
use Rattle.orc_rules.specs.Timed.{IsIn}
use Rattle.orc_rules.specs.Nodes.{code}
use Rattle.orc_ledger_spec.specs.Records.{Records}
use Rattle.orc_scheduler.specs.Stops.{Advances}
use Rattle.orc_scheduler.proofs.Further.{further-still}
use Rattle.orc_ledger_spec.specs.Halting.{IsHinderedAt}
use Rattle.orc_scheduler.proofs.Stopping.{halted-further, unhalted}
use Rattle.orc_scheduler.proofs.scheduler.Scheduler.close_from.Goals as goal
use Rattle.orc_scheduler.proofs.scheduler.Scheduler.close_from.Goals.{in-Lost+in_ok-wake-in-Lost, in-Closed}

pub returns-in-Err-Gone-clause-advances : goal.returns-in-Err-Gone-clause-advances
returns-in-Err-Gone-clause-advances g c h is empty =
    let why = rw c.in-Err-Gone.field-0-is at c.in-Err-Gone.ensures.why in
    elim c.loop-nested.invariant [
      | inl a ↦ subst (Advances c.args.self.now.ledger) (sym c.in-Err-Gone.ensures.refused) a
      | inr w ↦ absurd (why h (subst (λ (z : Records). IsIn h z.groups) (sym w.0) is.0) (is.1 ∙ sym w.1))
    ]

pub unreachable-requires : goal.unreachable-requires
unreachable-requires g c =
    let why = rw c.in-Err-Live.field-0-is at c.in-Err-Live.ensures.why in
    omega (arith, why.1, c.is_empty.ensures.0 c.if-not-is_empty.false)

pub loop-nested-preserved : goal.loop-nested-preserved
loop-nested-preserved g c =
    let b : Advances c.loop-nested.self.ledger c.halt.new.self = halted-further (code g.P.Run.listing) _ _ _ _ c.in-Ok.ensures.done in
    let a : Advances c.args.self.now.ledger c.halt.new.self = elim c.loop-nested.invariant [ inl x ↦ further-still _ _ _ x b | inr w ↦ subst (λ z. Advances z c.halt.new.self) w.0 b ] in
    elim c.match-halted.branch [
      | in-Lost+in_ok-wake-in-Lost w ↦ inl (subst (Advances c.args.self.now.ledger) (sym (ap (λ d. d.ledger) w.self-is ∙ w.wake.ensures.same)) a)
      | in-Closed w ↦ inl (subst (Advances c.args.self.now.ledger) (sym (ap (λ d. d.ledger) w.self-is)) a)
    ]

pub returns-in-Err-Refused-clause-stops : goal.returns-in-Err-Refused-clause-stops
returns-in-Err-Refused-clause-stops g c =
    let h = c.in-Err-Refused in
    let n = c.loop-nested.number in
    let s = c.loop-nested.self.ledger in
    unhalted g.P.Run.listing s c.halt.new.self n h.fault h.ensures.refused c.full_is_crowded.ensures (subst (λ f. IsHinderedAt s n f) h.field-0-is h.ensures.why)
