use Rattle.std.proofs.Common.{◌≡◌, map, take}
use Rattle.orc_scope.specs.Looking.{name_text, arity}
use Rattle.orc_scope.proofs.known.Known.new.Given as goal

abbrev pub invariant-loop-definition : goal.invariant-loop-definition
invariant-loop-definition l = record {
  names : l.names ≡ map name_text (take l.definition-index l.definitions);
  arities : l.arities.items ≡ map arity (take l.definition-index l.definitions);
}
