use Rattle.std.proofs.Common.{◌≡◌, map, take}
use Rattle.orc_syntax.specs.Ast.{text_of}
use Rattle.orc_scope.proofs.known.all_names.Given as goal

abbrev pub invariant-loop-text : goal.invariant-loop-text
invariant-loop-text l = l.names ≡ map text_of (take l.text-index (take l.count l.texts))
