use Rattle.std.proofs.Common.{◌≡◌, ◌<◌, ◌-◌, ℕ, false, length, Some}
use Rattle.std.specs.Prelude.{slice_get}
use Rattle.orc_indexes.specs.Same.{weight, but}
use Rattle.orc_tables.specs.Inside.{stands_inside}
use Rattle.orc_tables.specs.OpenGroups.{HaveLeft, calls_in}
use Rattle.orc_tables.specs.PendingCalls.{ArePlaced, HaveNotes}
use Rattle.orc_tables.specs.declared.records.Call.{Call}
use Rattle.orc_tables.proofs.pending.drop_inside.Given as goal

abbrev pub invariant-loop-i : goal.invariant-loop-i
invariant-loop-i l = record {
  placed : ArePlaced l.items.items l.places.items;
  noted : HaveNotes l.dues l.items.items;
  made : length l.places.items ≡ length l.initial.places.items;
  before : (k : ℕ) (c : Call) → k < l.i → slice_get l.items.items k ≡ Some c → stands_inside l.cell l.steps.items c.step ≡ false;
  rest : (w : Call → ℕ) → weight (but (λ (c : Call). stands_inside l.cell l.steps.items c.step) w) l.items.items ≡ weight (but (λ (c : Call). stands_inside l.cell l.steps.items c.step) w) l.initial.items.items;
  groups : l.groups.items ≡ l.initial.groups.items;
  sizes : HaveLeft l.initial.groups.sizes l.groups.sizes (calls_in l.steps.items l.initial.items.items) (calls_in l.steps.items l.items.items);
}

abbrev pub decreases-loop-i : goal.decreases-loop-i
decreases-loop-i l = length l.items.items - l.i
