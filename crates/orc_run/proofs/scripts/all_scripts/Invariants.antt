-- What is left tells the rest.
use Rattle.std.proofs.Common.{◌++◌, List, length}
use Rattle.std.specs.List.{AllZip}
use Rattle.orc_run.specs.Tested.{AreScripts}
use Rattle.orc_run.specs.declared.scripts.CaseScripts.{CaseScripts}
use Rattle.orc_run.proofs.scripts.all_scripts.Given as goal

abbrev pub decreases-loop-rest : goal.decreases-loop-rest
decreases-loop-rest l = length l.rest

abbrev pub invariant-loop-rest : goal.invariant-loop-rest
invariant-loop-rest l = (xs : List CaseScripts) → AllZip (AreScripts l.fn.most l.fn.behind) l.rest xs → AllZip (AreScripts l.fn.most l.fn.behind) l.fn.ways (l.all.items ++ xs)
