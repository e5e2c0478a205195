-- What is left tells the rest.
use Rattle.std.proofs.Common.{◌≡◌, drop, map}
use Rattle.orc_claims.specs.Happenings.{begin, told_all}
use Rattle.orc_tally.specs.Sight.{renumbered}
use Rattle.orc_tally.proofs.sight.happenings_of.Given as goal

abbrev pub invariant-loop-at : goal.invariant-loop-at
invariant-loop-at l = told_all l.happenings (map (renumbered l.sites) (drop l.at l.journal.entries)) ≡ told_all begin (map (renumbered l.sites) l.journal.entries)
