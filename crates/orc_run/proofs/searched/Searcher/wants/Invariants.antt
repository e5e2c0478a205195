-- None of those before is held there.
use Rattle.std.proofs.Common.{◌≡◌, ◌<◌, ℕ, Some, false}
use Rattle.std.specs.List.{slice_get}
use Rattle.orc_tally.specs.Table.{is_held, section_of}
use Rattle.orc_tally.specs.declared.table.Searched.TheVariants as searched
use Rattle.orc_run.proofs.searched.Searcher.wants.Given as goal

abbrev pub invariant-loop-claim : goal.invariant-loop-claim
invariant-loop-claim l = (k : ℕ) → k < l.claim → slice_get l.said k ≡ Some searched.Whole → is_held (section_of (slice_get l.fn.self.test.now.claim_lines.items k)) l.case ≡ false
