use Rattle.std.proofs.Common.{subst}
use Rattle.orc_calls.specs.Counting.{NextFound}
use Rattle.orc_checker.specs.Calls.{Rest}
use Rattle.orc_checker.proofs.rest.Rest.found.Goals as goal

pub returns : goal.returns
returns c = subst (λ (z : Rest). NextFound c.args.answers.now.sites z.counts c.args.site c.args.args.now c.next_call.result.found) c.self.view_is c.next_call.ensures.found
