-- The code, the place and the reason of a refused entry.
use Rattle.std.specs.Prelude.{ℕ, List, ◌++◌, codes, decimal}
use Rattle.orc_rules.specs.Faults.{reason_word}
use Rattle.orc_verdict.specs.declared.verdict.CheckFault.{CheckFault}

abbrev pub check_line : CheckFault → List ℕ
check_line f = codes "K at entry " ++ (decimal f.at ++ (codes ": " ++ reason_word f.why))
