use Rattle.std.proofs.Common.{◌≡◌, ◌≤◌, ◌+◌, length}
use Rattle.orc_rules.specs.declared.limits.TheConstants.{LONGEST_SOURCE}
use Rattle.orc_site.specs.Script.{lines}
use Rattle.orc_ways.specs.Drafts.{read_lines, read_text}
use Rattle.orc_ways.specs.Drafting.{draft_of}
use Rattle.orc_ways.proofs.reading.read_draft.Given as goal

abbrev pub invariant-loop-draft : goal.invariant-loop-draft
invariant-loop-draft l = record {
  from_one : 1 ≤ l.number;
  left : l.number + length l.rest ≤ LONGEST_SOURCE + 1;
  so_far : read_lines (draft_of l.draft) l.number (lines l.rest) ≡ read_text l.text;
}

abbrev pub decreases-loop-draft : goal.decreases-loop-draft
decreases-loop-draft l = length l.rest
