-- The line and the status of each fault.
use Rattle.std.specs.Prelude.{ℕ, List, ◌++◌, codes}
use Rattle.orc_rules.specs.Faults.{reason_status}
use Rattle.orc_syntax.specs.Faults.{syntax_line, syntax_status}
use Rattle.orc_scope.specs.Faults.{scope_line, scope_status}
use Rattle.orc_site.specs.Faults.{script_line, script_status}
use Rattle.orc_journal_text.specs.Faults.{journal_line, journal_status}
use Rattle.orc_verdict.specs.Faults.{check_line}
use Rattle.orc_ways.specs.Faults.{test_line, test_status}
use Rattle.orc_scheduler.specs.Faults.{engine_line, engine_status}
use Rattle.orc_run.specs.declared.faults.RunFault.{RunFault}
use Rattle.orc_run.specs.declared.faults.RunFault.TheVariants as fault

-- what stands behind `orc: `
abbrev pub fault_text : RunFault → List ℕ
fault_text (fault.Syntax f) = syntax_line f
fault_text (fault.Scope f) = scope_line f
fault_text (fault.Script f) = script_line f
fault_text (fault.Test f) = test_line f
fault_text (fault.Journal f) = journal_line f
fault_text (fault.Check f) = check_line f
fault_text (fault.Engine f) = engine_line f
fault_text (fault.Write w) = codes "write"

-- the line on standard error, without its LF
abbrev pub line : RunFault → List ℕ
line f = codes "orc: " ++ fault_text f

-- 5 where memory was refused, else 1 for what is wrong with the program or the journal, 6 for the output, 7 for the engine
abbrev pub status : RunFault → ℕ
status (fault.Syntax f) = syntax_status f
status (fault.Scope f) = scope_status f.kind
status (fault.Script f) = script_status f
status (fault.Test f) = test_status f
status (fault.Journal f) = journal_status f
status (fault.Check f) = reason_status f.why
status (fault.Engine f) = engine_status f
status (fault.Write w) = 6
