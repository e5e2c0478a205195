use Rattle.std.proofs.Common.{◌≡◌, ℕ, take}
use Rattle.orc_indexes.specs.Same.{weight, but}
use Rattle.orc_tables.specs.Crowd.{is_listed}
use Rattle.orc_tables.specs.OpenGroups.{HaveLeft, groups_in}
use Rattle.orc_tables.specs.declared.records.Group.{Group}
use Rattle.orc_tables.proofs.exits.drop_numbered.Given as goal

abbrev pub invariant-loop-number : goal.invariant-loop-number
invariant-loop-number l = record {
  rest : (w : Group → ℕ) → weight w l.groups.items ≡ weight (but (λ (g : Group). is_listed (take l.number-index l.numbers.items) g.number) w) l.initial.groups.items;
  sizes : HaveLeft l.initial.groups.sizes l.groups.sizes (groups_in l.steps.items l.initial.groups.items) (groups_in l.steps.items l.groups.items);
}
