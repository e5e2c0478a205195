use Rattle.orc_run.proofs.Showing.{read_is_in}
use Rattle.orc_run.proofs.shown.unseen_at.Goals as goal

pub returns-then-left-eq0-clause-found : goal.returns-then-left-eq0-clause-found
returns-then-left-eq0-clause-found c = read_is_in c.args.found.now c.loop-ended.ended-index c.ended-item.result c.loop-ended-test.true c.ended-item.is
