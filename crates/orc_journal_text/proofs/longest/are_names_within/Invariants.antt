use Rattle.std.proofs.Common.{◌<◌, ◌≤◌, ◌-◌, ℕ, [], length, slice_index_or}
use Rattle.orc_journal_text.proofs.longest.are_names_within.Given as goal

abbrev pub invariant-loop-name : goal.invariant-loop-name
invariant-loop-name l = record { within : l.site ≤ length l.answers.names; so_far : (m : ℕ) → m < l.site → length (slice_index_or l.answers.names m []) ≤ l.most }

abbrev pub decreases-loop-name : goal.decreases-loop-name
decreases-loop-name l = length l.answers.names - l.site
