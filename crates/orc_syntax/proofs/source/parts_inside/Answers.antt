use Rattle.orc_syntax.proofs.Nested.{all_nested}
use Rattle.orc_syntax.proofs.source.parts_inside.Goals as goal

pub returns : goal.returns
returns c = all_nested
