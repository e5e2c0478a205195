use Rattle.std.proofs.Common.{◌≡◌, ◌≤◌, ◌-◌, ◌++◌, List, length, map, reverse, take}
use Rattle.orc_scope.specs.declared.fault.ScopeFault.{ScopeFault}
use Rattle.orc_scope.specs.Scope.{IsLeast}
use Rattle.orc_syntax.specs.Ast.{item}
use Rattle.orc_scope.specs.Looking.{looks, weighs, known_of, waiting, IsFit}
use Rattle.orc_scope.proofs.finder.Looking.find.Given as goal

abbrev pub invariant-loop-count : goal.invariant-loop-count
invariant-loop-count l = record {
  done : List ScopeFault;
  least : IsLeast l.least done;
  all : done ++ looks (known_of l.known) (waiting l.self) (reverse (map item (take l.count l.nodes))) ≡ looks (known_of l.known) (waiting l.fn.self) (reverse (map item l.nodes));
  room : l.self.room - weighs (waiting l.self) (reverse (map item (take l.count l.nodes))) ≡ l.fn.self.room - weighs (waiting l.fn.self) (reverse (map item l.nodes));
  fit : IsFit l.self;
  high : l.count ≤ length l.nodes;
}

abbrev pub decreases-loop-count : goal.decreases-loop-count
decreases-loop-count l = l.count
