use Rattle.std.proofs.Common.{subst}
use Rattle.orc_rules.specs.Nodes.{Listing}
use Rattle.orc_rules.specs.Sites.{Table}
use Rattle.orc_schedules.specs.Claimed.{IsClaimSearched}
use Rattle.orc_schedules.specs.Explored.{answers_of}
use Rattle.orc_schedules.proofs.exploration.search_claim.Goals as goal

pub returns : goal.returns
returns c =
    let e = c.in_ok-explorer.explorer in
    subst (λ (a : Table). IsClaimSearched c.args.program.now a c.args.sites.now c.args.claim.now c.args.limit c.in_ok-searched.searched) c.in_ok-explorer.ensures.answers
    (subst (λ (l : Listing). IsClaimSearched l (answers_of e) c.args.sites.now c.args.claim.now c.args.limit c.in_ok-searched.searched) c.in_ok-explorer.ensures.program c.in_ok-searched.ensures.searched)
