use Rattle.std.proofs.Common.{rules, None}
use Rattle.orc_claims.specs.Claims.{any_meets}
use Rattle.orc_claims.proofs.Known.{prepared}
use Rattle.orc_claims.proofs.claim.Event.is_prepared.Goals as goal

pub returns-then-is_known-clause-good : goal.returns-then-is_known-clause-good
returns-then-is_known-clause-good c =
    let before = c.args.before.now in
    let f = c.args.other.now in
    let given = c.as_slice-2.result.now in
    prepared c.args.self.now f before c.args.happening.now given (search rules) (c.is_known.ensures (λ xs. any_meets f xs 0 None before) (search rules) (search rules))
