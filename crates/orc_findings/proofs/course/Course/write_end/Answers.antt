use Rattle.std.proofs.Common.{codes, decimal, refl}
use Rattle.orc_findings.proofs.Appended.{all_appended}
use Rattle.orc_findings.proofs.course.Course.write_end.Goals as goal

-- how it stands, time and publications stand behind one another
pub returns : goal.returns
returns c = all_appended _ _ _ _ _ _ _ (codes " at time ") (decimal c.args.self.now.time) _ _ c.in_ok-write_standing.ensures
    refl c.in_ok-write_numbered.ensures c.in_ok-extend_from_slice.ensures.items c.in_ok-write_published.ensures
