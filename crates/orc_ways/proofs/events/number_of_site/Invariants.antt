use Rattle.std.proofs.Common.{◌≡◌, ◌+◌, drop}
use Rattle.orc_ways.specs.Claims.{site_number}
use Rattle.orc_ways.specs.Values.{sites_of}
use Rattle.orc_ways.proofs.events.number_of_site.Given as goal

abbrev pub invariant-loop-at : goal.invariant-loop-at
invariant-loop-at l = l.at + site_number (sites_of (drop l.at l.sites)) l.name l.arguments ≡ site_number (sites_of l.sites) l.name l.arguments
