use Rattle.std.proofs.Common.{◌≡◌, ◌<◌, ◌-◌, ℕ, false, length, Some}
use Rattle.std.specs.Prelude.{slice_get}
use Rattle.orc_indexes.specs.Same.{weight, but}
use Rattle.orc_tables.specs.Inside.{side_inside}
use Rattle.orc_tables.specs.OpenGroups.{HaveLeft, groups_in}
use Rattle.orc_tables.specs.declared.records.Group.{Group}
use Rattle.orc_tables.proofs.exits.drop_groups.Given as goal

abbrev pub invariant-loop-place : goal.invariant-loop-place
invariant-loop-place l = record {
  before : (k : ℕ) (g : Group) → k < l.place → slice_get l.groups.items k ≡ Some g → side_inside l.cell l.steps.items g.outer g.side ≡ false;
  rest : (w : Group → ℕ) → weight (but (λ (g : Group). side_inside l.cell l.steps.items g.outer g.side) w) l.groups.items ≡ weight (but (λ (g : Group). side_inside l.cell l.steps.items g.outer g.side) w) l.initial.groups.items;
  sizes : HaveLeft l.initial.groups.sizes l.groups.sizes (groups_in l.steps.items l.initial.groups.items) (groups_in l.steps.items l.groups.items);
}

abbrev pub decreases-loop-place : goal.decreases-loop-place
decreases-loop-place l = length l.groups.items - l.place
