use Rattle.std.proofs.Common.{◌≡◌, take}
use Rattle.orc_rules.specs.Nodes.{code, definitions}
use Rattle.orc_indexes.specs.Same.{weight, only}
use Rattle.orc_tables.specs.Tokens.{is_live}
use Rattle.orc_ledger_spec.specs.Next.{ready_one}
use Rattle.orc_ledger.proofs.ledger.Ledger.movable.Given as goal

abbrev pub invariant-loop-slot : goal.invariant-loop-slot
invariant-loop-slot g l = weight (only is_live (ready_one (code g.P.Run.listing) (definitions g.P.Run.listing) l.self)) (take l.slot l.token-items) ≡ 0
