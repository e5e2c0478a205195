-- What is said after the way, is said of its script.
use Rattle.std.proofs.Common.{subst}
use Rattle.orc_run.specs.Whole.{AreAfter}
use Rattle.orc_run.proofs.searched.Searcher.say_of_way.Goals as goal

pub say_of_claims-requires-clause-ready : goal.say_of_claims-requires-clause-ready
say_of_claims-requires-clause-ready c = record { ready = c.in_ok-explorer.ensures.ready; program = c.in_ok-explorer.ensures.program; answers = c.in_ok-explorer.ensures.answers }

pub returns : goal.returns
returns c = subst (λ script. AreAfter c.args.self.now c.args.place script c.args.before.items c.in_ok-after.after.items) c.in_ok-way.ensures.script c.in_ok-after.ensures
