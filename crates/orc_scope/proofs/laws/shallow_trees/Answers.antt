use Rattle.orc_scope.proofs.Shallow.{shallow_trees}
use Rattle.orc_scope.proofs.laws.shallow_trees.Goals as goal

pub returns : goal.returns
returns c = shallow_trees
