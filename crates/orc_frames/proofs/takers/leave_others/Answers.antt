use Rattle.std.proofs.Common.{List, sym, subst}
use Rattle.orc_tables.specs.declared.records.Step.{Step}
use Rattle.orc_frames.specs.Spelling.{seen}
use Rattle.orc_frames.specs.Paths.{path, has_published}
use Rattle.orc_frames.specs.Taking.{crossed, Publishes}
use Rattle.orc_frames.proofs.Marking.{publishes}
use Rattle.orc_frames.proofs.takers.leave_others.Goals as goal

pub returns : goal.returns
returns c code env =
    let ss : List Step = c.args.steps.now.items in
    subst (λ (ss' : List Step). Publishes (crossed (seen (has_published ss) (path code env ss c.args.from))) ss ss') (sym c.leave.ensures) (publishes ss c.args.from c.requires.outwards c.requires.within code env)
