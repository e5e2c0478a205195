use Rattle.std.proofs.Common.{map}
use Rattle.orc_term.specs.declared.arena.Node.{Node}
use Rattle.orc_term.proofs.restless.Restless.note_asked.Given as goal

abbrev pub ghost-kinds_of : goal.ghost-kinds_of
ghost-kinds_of a = map Node.kind a.items.now.items
