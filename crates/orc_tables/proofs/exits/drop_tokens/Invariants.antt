use Rattle.std.proofs.Common.{◌≡◌, ◌-◌}
use Rattle.orc_tables.specs.Tokens.{live, StayParked}
use Rattle.orc_tables.specs.OpenGroups.{HaveLeft, tokens_in}
use Rattle.orc_tables.proofs.Drained.{IsDrained}
use Rattle.orc_tables.proofs.exits.drop_tokens.Given as goal

abbrev pub invariant-loop-slot : goal.invariant-loop-slot
invariant-loop-slot l = record {
  drained : IsDrained l.cell l.steps.items l.initial.tokens.items l.tokens.items l.slot l.count;
  groups : l.groups.items ≡ l.initial.groups.items;
  sizes : HaveLeft l.initial.groups.sizes l.groups.sizes (tokens_in l.steps.items (live l.initial.tokens.items)) (tokens_in l.steps.items (live l.tokens.items));
  parked : StayParked l.initial.tokens l.tokens;
}

abbrev pub decreases-loop-slot : goal.decreases-loop-slot
decreases-loop-slot l = l.count - l.slot
