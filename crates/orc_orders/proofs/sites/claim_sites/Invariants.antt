-- The sites so far.
use Rattle.std.proofs.Common.{◌≡◌, take}
use Rattle.orc_ways.specs.Values.{sites_of}
use Rattle.orc_orders.specs.Trials.{claim_sites}
use Rattle.orc_orders.proofs.sites.claim_sites.Given as goal

abbrev pub invariant-loop-site : goal.invariant-loop-site
invariant-loop-site l = l.numbered.items ≡ claim_sites l.answers (sites_of (take l.site-index l.sites))
