use Rattle.std.proofs.Common.{arith}
use Rattle.orc_book.proofs.Marks.{resized-marks}
use Rattle.orc_book.proofs.kept_tokens.Keeping.reach.Goals as goal

pub returns-clause-same : goal.returns-clause-same
returns-clause-same c = rw (← c.self.view_is) (λ i. resized-marks _ _ _ c.in-Some.len _ c.resize.ensures.items (omega (arith, c.if-len.false, c.len.ensures)) i)
