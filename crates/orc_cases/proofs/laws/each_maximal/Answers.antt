use Rattle.orc_cases.proofs.Ascending.{intervals_of}
use Rattle.orc_cases.proofs.laws.each_maximal.Goals as goal

pub returns : goal.returns
returns c = intervals_of
