use Rattle.orc_cases.specs.Ways.{choices_of, combinations}
use Rattle.orc_cases.proofs.Once.{once}
use Rattle.orc_cases.proofs.laws.each_once.Goals as goal

pub returns : goal.returns
returns c = λ w. once (combinations (choices_of w.lines))
