use Rattle.std.proofs.Common.{◌≡◌, take}
use Rattle.orc_indexes.specs.Same.{weight}
use Rattle.orc_ledger_spec.specs.Next.{numbers_of, members, is_empty}
use Rattle.orc_tables.specs.declared.records.Group.{Group}
use Rattle.orc_ledger.proofs.ledger.Ledger.empty_group.Given as goal

abbrev pub invariant-loop-group : goal.invariant-loop-group
invariant-loop-group g l = weight (λ (h : Group). is_empty (members (numbers_of l.self) l.self h.number)) (take l.group-index l.group-items) ≡ 0
