use Rattle.std.proofs.Common.{◌≡◌, ◌≤◌, ◌+◌, ◌-◌, ◌++◌, [], List, length, map, take, drop}
use Rattle.orc_syntax.specs.Ast.{label}
use Rattle.orc_scope.specs.declared.fault.ScopeFault.{ScopeFault}
use Rattle.orc_scope.specs.Scope.{IsLeast}
use Rattle.orc_scope.specs.Program.{text, parameter_faults}
use Rattle.orc_scope.proofs.definitions.parameters_fault.Given as goal

abbrev pub invariant-loop-at : goal.invariant-loop-at
invariant-loop-at l = record {
  done : List ScopeFault;
  least : IsLeast l.least done;
  all : done ++ parameter_faults l.looking.scope (l.at + 1) (map label (drop l.at l.parameters)) ≡ parameter_faults [] 1 (map label l.parameters);
  scope : l.looking.scope ≡ map text (map label (take l.at l.parameters));
  room : l.looking.room ≡ l.fn.looking.room;
  high : l.at ≤ length l.parameters;
}

abbrev pub decreases-loop-at : goal.decreases-loop-at
decreases-loop-at l = length l.parameters - l.at
