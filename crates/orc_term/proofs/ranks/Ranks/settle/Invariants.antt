use Rattle.orc_term.specs.Ranks.{AreRankedBut}
use Rattle.orc_term.proofs.ranks.Ranks.settle.Given as goal

abbrev pub invariant-loop-step : goal.invariant-loop-step
invariant-loop-step l = AreRankedBut l.items.items l.initial.self.numbers.items l.initial.self.most l.initial.late.items → AreRankedBut l.items.items l.self.numbers.items l.self.most l.late.items
