use Rattle.std.proofs.Common.{◌∙◌, ap}
use Rattle.orc_claims.specs.Happenings.{told}
use Rattle.orc_tally.proofs.Steps.{one_told}
use Rattle.orc_tally.proofs.sight.happenings_of.Goals as goal

pub loop-at-preserved : goal.loop-at-preserved
loop-at-preserved c =
    one_told c.args.sites.now c.args.journal.now.entries c.loop-at.at c.entry_at-entry.result c.loop-at.happenings c.read.new.self c.entry_at-entry.ensures (c.in_ok-read.ensures.told ∙ ap (told c.loop-at.happenings) c.renumbered.ensures) c.loop-at.invariant
