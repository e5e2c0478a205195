use Rattle.std.proofs.Common.{◌≡◌, drop}
use Rattle.orc_ways.specs.Finishing.{unknown_line}
use Rattle.orc_ways.specs.Drafting.{service_lines_of}
use Rattle.orc_ways.specs.Values.{sites_of}
use Rattle.orc_ways.proofs.reading.unknown.Given as goal

abbrev pub invariant-loop-site : goal.invariant-loop-site
invariant-loop-site l = unknown_line l.others (service_lines_of l.lines) (sites_of (drop l.site-index l.sites)) ≡ unknown_line l.others (service_lines_of l.lines) (sites_of l.sites)
