use Rattle.std.proofs.Common.{◌≡◌, ◌-◌, ◌++◌, [], ℕ, List, length, map, take, drop}
use Rattle.orc_syntax.specs.Tree.{Define}
use Rattle.orc_syntax.specs.Ast.{AreDefinitions}
use Rattle.orc_scope.specs.declared.fault.ScopeFault.{ScopeFault}
use Rattle.orc_scope.specs.Scope.{Known, IsLeast}
use Rattle.orc_scope.specs.Looking.{known_of}
use Rattle.orc_scope.specs.Program.{name_of, definitions_faults, sizes_of}
use Rattle.orc_scope.proofs.definitions.definitions_fault.Given as goal

abbrev pub invariant-loop-number : goal.invariant-loop-number
invariant-loop-number l = record {
  least : (es : List Define) → AreDefinitions l.definitions es → l.known.definitions ≡ map name_of es →
      (done : List ScopeFault) × IsLeast l.least done × (done ++ definitions_faults (known_of l.known) (take l.number (map name_of es)) (drop l.number es) ≡ definitions_faults (known_of l.known) [] es);
  room : (es : List Define) (k : Known) (names : List (List ℕ)) → AreDefinitions l.definitions es → l.looking.room - sizes_of k names (drop l.number es) ≡ l.fn.looking.room - sizes_of k names es;
}

abbrev pub decreases-loop-number : goal.decreases-loop-number
decreases-loop-number l = length l.definitions - l.number
