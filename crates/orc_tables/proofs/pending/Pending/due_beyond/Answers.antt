use Rattle.std.proofs.Common.{◌<◌, ◌-◌, ℕ, sym, subst, arith, length}
use Rattle.std.specs.Prelude.{MatchOption}
use Rattle.orc_rules.specs.Timed.{IsIn}
use Rattle.orc_tables.specs.PendingCalls.{Pendings, IsDueBeyond, IsLeastBeyond}
use Rattle.orc_tables.specs.declared.records.Call.{Call}
use Rattle.orc_tables.proofs.Placed.{in-got_at, got-within}
use Rattle.orc_tables.proofs.pending.Pending.due_beyond.Goals as goal

pub returns-then-beyond-len-clause-due : goal.returns-then-beyond-len-clause-due
returns-then-beyond-len-clause-due c = λ k e.
    let b = c.self.inside in
    let i = subst (λ (p : Pendings). IsIn e.0 p.items) (sym c.self.view_is) e.1 in
    let at = in-got_at b.items.items e.0 i in
    let w = c.self.invariant.0 at.0 e.0 at.1 in
    let within : Call.number e.0 - 1 < length b.places.items = got-within b.places.items (Call.number e.0 - 1) at.0 w.1 in
    absurd (omega (arith, within, c.if-beyond-len.true, c.len.ensures, b.places.ok.0, e.2, e.3))

pub returns-clause-due : goal.returns-clause-due
returns-clause-due c = subst (λ (p : Pendings). MatchOption c.due_beyond.result ((k : ℕ) → IsDueBeyond p.items c.args.beyond c.args.time k → ⊥) (IsLeastBeyond p.items c.args.beyond c.args.time)) c.self.view_is c.due_beyond.ensures.due
