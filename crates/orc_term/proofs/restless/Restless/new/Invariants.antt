use Rattle.std.proofs.Common.{[]}
use Rattle.orc_term.proofs.restless.Restless.new.Given as goal

abbrev pub ghost-pick_kinds : goal.ghost-pick_kinds
ghost-pick_kinds a = []
