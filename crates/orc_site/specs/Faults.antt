-- The code and the place of each fault of a script, and its status.
use Rattle.std.specs.Prelude.{ℕ, List, ◌++◌, codes, decimal}
use Rattle.orc_site.specs.declared.script.ScriptFault.{ScriptFault}
use Rattle.orc_site.specs.declared.script.ScriptFault.TheVariants as script

abbrev pub script_line : ScriptFault → List ℕ
script_line (script.Line number) = codes "L1 at line " ++ decimal number
script_line script.Memory = codes "L2"
script_line script.Long = codes "L3"

-- 5 where memory was refused, else 1
abbrev pub script_status : ScriptFault → ℕ
script_status script.Memory = 5
script_status f = 1
