-- What a search sees of a run that breaks the claim.
use Rattle.orc_run.proofs.Detailing.{sighted}
use Rattle.orc_run.proofs.Testing.{stands_there}
use Rattle.orc_run.proofs.searched.Searcher.see.Goals as goal

pub returns-in-Fails : goal.returns-in-Fails
returns-in-Fails c =
    let there = stands_there _ _ _ c.in-Some.ensures.lookup.3.0 c.in-Some.ensures.lookup.1 in
    sighted c.args.self.now.trials.now c.args.script.now c.args.claim c.args.self.now.trials.now.limit c.in_ok-way.way c.in-Some.broken.now c.in_ok-known.known c.in-Some-known.watch c.in_ok-found.found _ c.in_ok-way.ensures.way c.in_ok-way.ensures.script there c.in_ok-known.ensures c.in-Some-known.is c.in_ok-found.ensures c.in-Fails.is c.latest.ensures
