use Rattle.std.proofs.Common.{◌≡◌, drop}
use Rattle.std.specs.List.{list_any}
use Rattle.orc_ways.specs.Finishing.{serves_site}
use Rattle.orc_ways.specs.Drafting.{service_lines_of}
use Rattle.orc_ways.specs.Values.{site_of}
use Rattle.orc_ways.proofs.reading.is_served.Given as goal

abbrev pub invariant-loop-line : goal.invariant-loop-line
invariant-loop-line l = list_any (serves_site (site_of l.site)) (service_lines_of (drop l.line-index l.lines)) ≡ list_any (serves_site (site_of l.site)) (service_lines_of l.lines)
