-- The code and the place of each fault of a test, and its status.
use Rattle.std.specs.Prelude.{ℕ, List, ◌++◌, codes, decimal}
use Rattle.orc_ways.specs.declared.fault.TestFault.{TestFault}
use Rattle.orc_ways.specs.declared.fault.TestFault.TheVariants.{Line, Memory, Long, Place, Unknown, Ways}

-- the text of a fault, as it stands behind `orc: `
abbrev pub test_line : TestFault → List ℕ
test_line (Line number) = codes "T1 at line " ++ decimal number
test_line Memory = codes "T2"
test_line Long = codes "T3"
test_line (Place number) = codes "T4 at line " ++ decimal number
test_line (Unknown number) = codes "T5 at line " ++ decimal number
test_line (Ways number) = codes "T6 at line " ++ decimal number

-- 5 where memory was refused, else 1
abbrev pub test_status : TestFault → ℕ
test_status Memory = 5
test_status f = 1
