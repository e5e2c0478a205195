-- The script of a failure was written.
use Rattle.std.proofs.Common.{◌∙◌, sym}
use Rattle.orc_run.proofs.test_command.Tester.write_script.Goals as goal

pub returns-clause-ok : goal.returns-clause-ok
returns-clause-ok g c = (c.in-Some.found, c.in_ok-script.script.now, sym c.failure_at.ensures ∙ c.in-Some.is, c.in_ok-script.ensures.script, c.in_ok-write_whole.ensures.ok)
