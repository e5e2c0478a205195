use Rattle.orc_rules.proofs.Named.{calls_are_named}
use Rattle.orc_rules.proofs.laws.calls_are_named.Goals as goal

pub returns : goal.returns
returns c = calls_are_named
