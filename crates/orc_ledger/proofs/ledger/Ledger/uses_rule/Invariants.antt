use Rattle.std.proofs.Common.{◌≡◌, true}
use Rattle.orc_rules.specs.Nodes.{code, definitions}
use Rattle.orc_rules.specs.Idle.{can_move}
use Rattle.orc_ledger_spec.specs.Doing.{term_of}
use Rattle.orc_ledger.proofs.ledger.Ledger.uses_rule.Given as goal

abbrev pub invariant-loop-inwards : goal.invariant-loop-inwards
invariant-loop-inwards g l = can_move (definitions g.P.Run.listing) (term_of (code g.P.Run.listing) l.self l.inner) ≡ true → can_move (definitions g.P.Run.listing) (term_of (code g.P.Run.listing) l.self l.token) ≡ true
