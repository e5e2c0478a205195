-- What a search says of the claim.
use Rattle.std.proofs.Common.{◌∙◌, sym}
use Rattle.orc_run.proofs.Schedules.{word_of_search}
use Rattle.orc_run.proofs.Testing.{stands_there}
use Rattle.orc_run.proofs.searched.Searcher.say_again.Goals as goal

pub returns-in_ok-found-in-Some-clause-said : goal.returns-in_ok-found-in-Some-clause-said
returns-in_ok-found-in-Some-clause-said c = λ d here.
    let there = stands_there _ _ _ c.in-Some.ensures.lookup.3.0 c.in-Some.ensures.lookup.1 in
    word_of_search c.args.self.now.trials.now _ _ d c.in-Some.claim.now c.args.claim c.args.place c.args.way.now c.in_ok-found-in-Some.found c.said_of.result c.requires.way c.section-section.ensures (sym c.is_held.ensures ∙ c.if-not-is_held.false) there here c.in_ok-found-in-Some.ensures.searched c.said_of.ensures
