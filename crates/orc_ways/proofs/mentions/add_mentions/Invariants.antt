use Rattle.std.proofs.Common.{◌≡◌, length}
use Rattle.orc_ways.specs.Lines.{with_mentions}
use Rattle.orc_ways.specs.Values.{tokens_of, sites_of}
use Rattle.orc_ways.proofs.mentions.add_mentions.Given as goal

abbrev pub invariant-loop-rest : goal.invariant-loop-rest
invariant-loop-rest l = with_mentions (sites_of l.sites.items) l.line (tokens_of l.rest) ≡ with_mentions (sites_of l.initial.sites.items) l.line (tokens_of l.initial.rest)

abbrev pub decreases-loop-rest : goal.decreases-loop-rest
decreases-loop-rest l = length l.rest
