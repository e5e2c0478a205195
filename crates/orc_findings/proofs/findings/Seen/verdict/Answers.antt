use Rattle.std.proofs.Common.{◌∙◌, ap}
use Rattle.orc_findings.specs.Findings.{first_verdict, sight_of}
use Rattle.orc_findings.proofs.Placed.{verdict_there}
use Rattle.orc_findings.proofs.findings.Seen.verdict.Goals as goal

-- it was judged alone
pub returns : goal.returns
returns c = c.first_verdict.ensures ∙ ap first_verdict (c.as_slice.ensures.value ∙ c.in_ok-judged.ensures.judged) ∙ verdict_there c.args.claims.now c.args.claim (sight_of c.args.self.now)
