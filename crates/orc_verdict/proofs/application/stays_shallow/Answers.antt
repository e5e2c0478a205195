use Rattle.std.proofs.Common.{arith}
use Rattle.orc_verdict.proofs.application.stays_shallow.Goals as goal

pub returns-in-Some-allowed : goal.returns-in-Some-allowed
returns-in-Some-allowed c holds = (
  c.most-most.result,
  c.most-most.ensures,
  λ x l p are sp.
      let less = c.in-Some.ensures x l p c.args.heights.now are c.most-most.ensures sp in
      omega (arith, less, c.in-Some-allowed.ensures.0, c.in-Some-allowed.ensures.1, c.deepening.ensures),
)
