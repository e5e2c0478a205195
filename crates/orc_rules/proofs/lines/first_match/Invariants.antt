use Rattle.std.proofs.Common.{◌≡◌, ◌+◌, drop}
use Rattle.orc_rules.specs.Lines.{lines_of, match_place}
use Rattle.orc_rules.proofs.lines.first_match.Given as goal

-- the lines so far don't match
abbrev pub invariant-loop-place : goal.invariant-loop-place
invariant-loop-place l = l.place + match_place (lines_of (drop l.place l.lines)) l.args ≡ match_place (lines_of l.lines) l.args
