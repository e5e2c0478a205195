use Rattle.orc_rules.proofs.Unfolding.{unfolds}
use Rattle.orc_rules.proofs.program.Program.are_unfolded.Goals as goal

pub returns : goal.returns
returns c = λ i. unfolds c.args.self.now.lists c.args.self.now.nodes i c.are_parts_first.ensures
