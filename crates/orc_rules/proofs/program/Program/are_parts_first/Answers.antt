use Rattle.orc_rules.proofs.program.Program.are_parts_first.Goals as goal

pub returns : goal.returns
returns c = rw (← c.self.view_is) c.self.invariant
