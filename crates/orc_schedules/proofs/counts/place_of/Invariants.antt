use Rattle.std.proofs.Common.{◌≡◌, ◌<◌, ℕ, false, Some}
use Rattle.std.specs.Prelude.{slice_get}
use Rattle.orc_search.specs.declared.made.Made.{Made}
use Rattle.orc_schedules.specs.Counts.{count_of, is_kind}
use Rattle.orc_schedules.proofs.counts.place_of.Given as goal

abbrev pub invariant-loop-at : goal.invariant-loop-at
invariant-loop-at l = (i : ℕ) (e : Made) → i < l.at → slice_get l.made i ≡ Some e → is_kind (count_of e) (count_of l.calls) ≡ false
