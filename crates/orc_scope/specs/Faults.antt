-- The code and the place of each fault of a name, and its status.
use Rattle.std.specs.Prelude.{ℕ, List, codes}
use Rattle.orc_syntax.specs.Faults.{at_place}
use Rattle.orc_scope.specs.declared.fault.ScopeFault.{ScopeFault}
use Rattle.orc_scope.specs.declared.fault.FaultKind.{FaultKind}
use Rattle.orc_scope.specs.declared.fault.FaultKind.TheVariants as kind

abbrev pub kind_code : FaultKind → List ℕ
kind_code kind.Unbound = codes "C1"
kind_code kind.NotValue = codes "C2"
kind_code (kind.Arity want got) = codes "C3"
kind_code kind.DefinedTwice = codes "C4"
kind_code kind.ParameterTwice = codes "C5"
kind_code kind.CallOfVariable = codes "C6"
kind_code kind.NoSite = codes "C7"
kind_code kind.TooMany = codes "C8"
kind_code kind.Memory = codes "C9"

-- all but want of memory have a place
abbrev pub scope_text : FaultKind → ℕ → List ℕ
scope_text kind.Memory start = codes "C9"
scope_text k start = at_place (kind_code k) start

abbrev pub scope_line : ScopeFault → List ℕ
scope_line f = scope_text f.kind f.span.start

-- 5 where memory was refused, else 1
abbrev pub scope_status : FaultKind → ℕ
scope_status kind.Memory = 5
scope_status k = 1
