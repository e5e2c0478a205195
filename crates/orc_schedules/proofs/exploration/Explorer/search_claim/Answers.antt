use Rattle.std.proofs.Common.{ap, subst}
use Rattle.orc_search.specs.declared.moves.Source.{Source}
use Rattle.orc_schedules.specs.Explored.{answers_of, program_of}
use Rattle.orc_schedules.specs.Watch.{IsWatchOf}
use Rattle.orc_schedules.proofs.Claims.{searched}
use Rattle.orc_schedules.proofs.exploration.Explorer.search_claim.Goals as goal

pub returns-clause-searched : goal.returns-clause-searched
returns-clause-searched c =
    let known = subst (IsWatchOf c.args.claim.now) c.in-Some.is c.in_ok-watched.ensures in
    searched (program_of c.args.self.now) (answers_of c.args.self.now) c.in-Some.watch.names c.args.sites.now c.in-Some.watch.latest c.args.claim.now c.args.limit known.1 known.2 known.0
    c.explore.new.self.tables c.in_ok-all.all c.in_ok-all.ensures.explored c.in_ok-searched.searched c.in_ok-searched.ensures.fails c.in_ok-searched.ensures.holds

pub returns-clause-program : goal.returns-clause-program
returns-clause-program c = ap (λ (s : Source). s.program.now) c.in_ok-all.ensures.source

pub returns-clause-answers : goal.returns-clause-answers
returns-clause-answers c = ap (λ (s : Source). s.answers.now) c.in_ok-all.ensures.source
