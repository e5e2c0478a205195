use Rattle.std.proofs.Common.{◌≡◌, ℕ, take}
use Rattle.orc_indexes.specs.Same.{weight, but}
use Rattle.orc_tables.specs.Crowd.{is_listed}
use Rattle.orc_tables.specs.OpenGroups.{HaveLeft, calls_in}
use Rattle.orc_tables.specs.declared.records.Call.{Call}
use Rattle.orc_tables.proofs.pending.Pending.drop_listed.Given as goal

abbrev pub invariant-loop-number : goal.invariant-loop-number
invariant-loop-number l = record {
  made : l.self.made ≡ l.initial.self.made;
  rest : (w : Call → ℕ) → weight w l.self.items ≡ weight (but (λ (k : Call). is_listed (take l.number-index l.numbers.items) k.number) w) l.initial.self.items;
  groups : l.groups.items ≡ l.initial.groups.items;
  sizes : HaveLeft l.initial.groups.sizes l.groups.sizes (calls_in l.steps.items l.initial.self.items) (calls_in l.steps.items l.self.items);
}
