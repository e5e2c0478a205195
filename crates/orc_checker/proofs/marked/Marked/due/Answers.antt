use Rattle.std.proofs.Common.{sym, ◌∙◌}
use Rattle.orc_rules.specs.Nodes.{code}
use Rattle.orc_calls.proofs.Times.{due_is}
use Rattle.orc_checker.proofs.CallsMade.{due_at_time}
use Rattle.orc_checker.proofs.Offered.{due_with}
use Rattle.orc_checker.proofs.Ticking.{node_pends}
use Rattle.orc_checker.proofs.marked.Marked.due.Goals as goal

pub returns-in-Some : goal.returns-in-Some
returns-in-Some c x l p sp =
    let w = c.in_ok-pending.pending in
    let s = c.args.self.now in (
      node_pends x (code l) s p sp (c.program_is_source.ensures l).0 w.at w.parent c.args.call c.in_ok-pending.ensures.there,
      due_at_time x p.now p.calls p.to_cancel s.rest c.args.call w.called c.in-After.answer c.in-Some.time sp.rest c.in_ok-pending.ensures.call
          (due_with w.called.at w.called.found c.in-After.answer c.in-After.field-1 c.in-Some.time c.in-After.is (due_is w.called.at w.called.found c.in-Some.time (sym c.due_time.ensures ∙ c.in-Some.is))),
    )
