use Rattle.orc_ledger_spec.proofs.Advancing.{free-name}
use Rattle.orc_ledger.proofs.ledger.Ledger.bound_of.Goals as goal

pub returns-clause-free : goal.returns-clause-free
returns-clause-free g c =
    let b = c.self.inside in
    let a = c.args in
    let free = rw (c.deref.ensures.value, c.deref-2.ensures.value) at c.meaning.ensures.free in
    rw (← c.self.view_is) (free-name b.cells.items b.scopes.items a.scope a.operand c.self.invariant.kept.lawful.sound.scopes c.meaning.result free)
